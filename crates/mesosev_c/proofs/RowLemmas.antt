-- Lemmas about the caller's rows that describe events.
use Rattle.std.proofs.Common.{◌≡◌, ℕ, ◌+◌, ◌<◌, suc, List, [], ◌∷◌, ◌++◌, length, take, drop, map, get_or, refl, sym, ◌∙◌, ap, arith, append_assoc, append-nil, length-append, length-take-le, add-one}
use Rattle.std.specs.Prelude.{slice_index_or, slice_set}
use Rattle.std.proofs.Math.ListN.{set}
use Rattle.std.proofs.Math.Seq.{set-append_seam, get_or-append_seam, drop-cons}
use Rattle.std.proofs.lemmas.List.{length-map, map-append, take_more}
use Rattle.mesosev_c.specs.Rows.{Reporting, texts_of, rows_of, without_text}
use Rattle.mesosev_c.specs.declared.rows.Row.{Row}

-- ---- lists whose first n items are replaced: item n

seam : {A : Type 0} (front xs : List A) (n : ℕ) (d : A) → n < length xs → front ++ drop n xs ≡ front ++ get_or xs n d ∷ drop (suc n) xs
seam front xs n d inside = ap (λ ys. front ++ ys) (drop-cons xs n d inside)

pub set_seam : {A : Type 0} (front xs : List A) (n : ℕ) (x : A) → length front ≡ n → n < length xs → set (front ++ drop n xs) n x ≡ front ++ x ∷ drop (n + 1) xs
set_seam front xs n x is inside =
    ap (λ ys. set ys n x) (seam front xs n x inside) ∙ ap (λ k. set (front ++ get_or xs n x ∷ drop (suc n) xs) k x) (sym is)
    ∙ set-append_seam front (get_or xs n x) (drop (suc n) xs) x ∙ ap (λ k. front ++ x ∷ drop k xs) (sym (add-one n))

get_seam : {A : Type 0} (front xs : List A) (n : ℕ) (d : A) → length front ≡ n → n < length xs → get_or (front ++ drop n xs) n d ≡ get_or xs n d
get_seam front xs n d is inside =
    ap (λ ys. get_or ys n d) (seam front xs n d inside) ∙ ap (λ k. get_or (front ++ get_or xs n d ∷ drop (suc n) xs) k d) (sym is)
    ∙ get_or-append_seam front (get_or xs n d) (drop (suc n) xs) d

-- ---- one more row loses its text

module _ (rows : List Row) (n : ℕ) (d : Row) (inside : n < length rows) where
  front_is : length (map without_text (take n rows)) ≡ n
  front_is = length-map (take n rows) without_text ∙ length-take-le n rows (omega arith)

  pub forgets_more : (now : List Row) → now ≡ map without_text (take n rows) ++ drop n rows
      → slice_set now n (record { kind = (slice_index_or now n d).kind; start = 0; size = 0 }) ≡ map without_text (take (n + 1) rows) ++ drop (n + 1) rows
  forgets_more now is =
      let row : Row = get_or rows n d in
      let there : get_or now n d ≡ row = ap (λ rs. get_or rs n d) is ∙ get_seam (map without_text (take n rows)) rows n d front_is inside in
      let written : set now n (without_text (get_or now n d)) ≡ set (map without_text (take n rows) ++ drop n rows) n (without_text row) = rw (there, is) refl in
      let grown : map without_text (take n rows) ++ without_text row ∷ [] ≡ map without_text (take (n + 1) rows) = sym (ap (map without_text) (take_more rows n d inside) ∙ map-append without_text (take n rows) (row ∷ [])) in
      written ∙ set_seam (map without_text (take n rows)) rows n (without_text row) front_is inside
      ∙ sym (append_assoc (map without_text (take n rows)) (without_text row ∷ []) (drop (n + 1) rows)) ∙ ap (λ rs. rs ++ drop (n + 1) rows) grown

-- ---- the rows and texts of one more event

abbrev pub row_at : ℕ → Reporting → Row
row_at start one = record { kind = one.reported.kind; start = start; size = length one.text }

pub texts_more : (events : List Reporting) (one : Reporting) → texts_of (events ++ one ∷ []) ≡ texts_of events ++ one.text
texts_more [] one = append-nil one.text
texts_more (e ∷ es) one = ap (λ t. e.text ++ t) (texts_more es one) ∙ sym (append_assoc e.text (texts_of es) one.text)

pub rows_more : (start : ℕ) (events : List Reporting) (one : Reporting) → rows_of start (events ++ one ∷ []) ≡ rows_of start events ++ row_at (start + length (texts_of events)) one ∷ []
rows_more start [] one = let e : start + 0 ≡ start = omega arith in rw e refl
rows_more start (e ∷ es) one =
    let at : (start + length e.text) + length (texts_of es) ≡ start + length (e.text ++ texts_of es) = omega (arith, length-append e.text (texts_of es)) in
    let row : Row = row_at start e in
    ap (λ rs. row ∷ rs) (rows_more (start + length e.text) es one ∙ ap (λ n. rows_of (start + length e.text) es ++ row_at n one ∷ []) at)

pub length-rows : (start : ℕ) (events : List Reporting) → length (rows_of start events) ≡ length events
length-rows start [] = refl
length-rows start (e ∷ es) = ap suc (length-rows (start + length e.text) es)
