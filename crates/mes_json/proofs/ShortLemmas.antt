-- The reader's run over a short string, from the opening quotation mark to the byte after it.
use Rattle.std.proofs.Common.{◌≡◌, ℕ, ◌+◌, ◌-◌, ◌<◌, ◌≤◌, ◌⊎◌, inl, inr, List, [], length, take, drop, Some, get_or, refl, ap, sym, ◌∙◌, arith, append-nil}
use Rattle.mes_json.specs.Machine.{State, step}
use Rattle.mes_json.specs.Tape.{name_due}
use Rattle.mes_json.specs.Reader.{with_read, state_view, Fits, Reached, Begins, Puts, RunsTo, StandAlone, string_node, following_string, within_string}
use Rattle.mes_json.specs.declared.limits.TheConstants.{MAX_NESTING}
use Rattle.mes_json.specs.declared.reader_state.Purpose as purpose
use Rattle.mes_json.specs.declared.reader_state.ReaderState as at
use Rattle.mes_json.specs.declared.reader.Reader.{Reader}
use Rattle.mes_json.proofs.ReaderLemmas.{view_at, form_at, begun_view}
use Rattle.mes_json.proofs.TakenLemmas.{stays_taken}
use Rattle.mes_json.proofs.StringLemmas.{text_begins}
use Rattle.mes_json.proofs.MemberLemmas.{token_taken, any_name_begins}
use Rattle.mes_json.proofs.PlainLemmas.{inside, few_taken, string_taken, runs_further, colon_taken}

abbrev begun : purpose.Purpose → Reader → Reader
begun p r = record r { at = inside p; start = length r.text.items }

begins : (p : purpose.Purpose) (r : Reader) → Begins r [] (inside p) (begun p r)
begins p r = record { at = refl; text = sym (append-nil r.text.items); nodes = refl; nesting = refl; start = refl }

text_gives : (r : Reader) → Fits r → r.at ≡ at.TheVariants.Value → step MAX_NESTING (state_view r) 34 ≡ Some (state_view (begun purpose.TheVariants.Value r))
text_gives r fits is_at =
    let there = inside purpose.TheVariants.Value in
    let h = form_at r at.TheVariants.Value is_at fits in
    ap (λ (s : State). step MAX_NESTING s 34) (view_at r at.TheVariants.Value is_at ∙ h.is)
    ∙ ap (λ (s : State). Some (with_read there [] s)) (sym h.is)
    ∙ ap (λ (s : State). Some s) (sym (begun_view r (begun purpose.TheVariants.Value r) [] there fits (begins purpose.TheVariants.Value r)))

name_gives : (r : Reader) → Fits r → (r.at ≡ at.TheVariants.FirstName) ⊎ (r.at ≡ at.TheVariants.Name)
    → step MAX_NESTING (state_view r) 34 ≡ Some (state_view (begun purpose.TheVariants.Name r))
name_gives r fits (inl is_at) =
    let there = inside purpose.TheVariants.Name in
    let h = form_at r at.TheVariants.FirstName is_at fits in
    ap (λ (s : State). step MAX_NESTING s 34) (view_at r at.TheVariants.FirstName is_at ∙ h.is)
    ∙ ap (λ (s : State). Some (with_read there [] (name_due s))) (sym h.is)
    ∙ ap (λ (s : State). Some s) (sym (begun_view r (begun purpose.TheVariants.Name r) [] there fits (begins purpose.TheVariants.Name r)))
name_gives r fits (inr is_at) =
    let there = inside purpose.TheVariants.Name in
    let h = form_at r at.TheVariants.Name is_at fits in
    ap (λ (s : State). step MAX_NESTING s 34) (view_at r at.TheVariants.Name is_at ∙ h.is)
    ∙ ap (λ (s : State). Some (with_read there [] s)) (sym h.is)
    ∙ ap (λ (s : State). Some s) (sym (begun_view r (begun purpose.TheVariants.Name r) [] there fits (begins purpose.TheVariants.Name r)))

abbrev pub cut : List ℕ → ℕ → ℕ → List ℕ
cut b from n = take n (take (length b - (from + 1)) (drop (from + 1) b))

closed : (p : purpose.Purpose) (old new : Reader) (b : List ℕ) (from n : ℕ) → RunsTo old b from (from + 1) (begun p old) → Reached old
    → n < 16 → from + 1 + 16 ≤ length b → StandAlone (take n (drop (from + 1) b)) → get_or b (from + 1 + n) 0 ≡ 34
    → Puts (within_string p (cut b from n) old) old.nesting.items (string_node p (within_string p (cut b from n) old)) (following_string p) new
    → RunsTo old b from (from + 1 + n + 1) new
closed p old new b from n mark reached few block alone quote puts =
    let within = within_string p (cut b from n) old in
    let run = runs_further old (begun p old) within b from (from + 1) (from + 1 + n) mark
    (few_taken (begun p old) within p b (from + 1) n mark.fits refl few block alone (record { at = refl; text = refl; nodes = refl; nesting = refl; start = refl })) in
    runs_further old within new b from (from + 1 + n) (from + 1 + n + 1) run
    (string_taken within new p b (from + 1 + n) puts run.fits (run.reached reached) refl (omega (arith, few, block)) quote)

pub text_taken : (old new : Reader) (b : List ℕ) (from n : ℕ) → Fits old → Reached old → old.at ≡ at.TheVariants.Value → get_or b from 0 ≡ 34
    → n < 16 → from + 1 + 16 ≤ length b → StandAlone (take n (drop (from + 1) b)) → get_or b (from + 1 + n) 0 ≡ 34
    → Puts (within_string purpose.TheVariants.Value (cut b from n) old) old.nesting.items
    (string_node purpose.TheVariants.Value (within_string purpose.TheVariants.Value (cut b from n) old)) at.TheVariants.After new
    → RunsTo old b from (from + 1 + n + 1) new
text_taken old new b from n fits reached is_at first few block alone quote puts =
    let p = purpose.TheVariants.Value in
    closed p old new b from n
    (token_taken old (begun p old) b from 34 fits (omega (arith, block)) first (text_gives old fits is_at) (text_begins old (begun p old) fits is_at (begins p old)))
    reached few block alone quote puts

pub name_taken : (old new : Reader) (b : List ℕ) (from n : ℕ) → Fits old → Reached old → (old.at ≡ at.TheVariants.FirstName) ⊎ (old.at ≡ at.TheVariants.Name)
    → get_or b from 0 ≡ 34 → n < 16 → from + 1 + 16 ≤ length b → StandAlone (take n (drop (from + 1) b)) → get_or b (from + 1 + n) 0 ≡ 34
    → from + 1 + n + 1 < length b → get_or b (from + 1 + n + 1) 0 ≡ 58
    → Puts (within_string purpose.TheVariants.Name (cut b from n) old) old.nesting.items
    (string_node purpose.TheVariants.Name (within_string purpose.TheVariants.Name (cut b from n) old)) at.TheVariants.Value new
    → RunsTo old b from (from + 1 + n + 1 + 1) new
name_taken old new b from n fits reached is_at first few block alone quote more colon puts =
    let p = purpose.TheVariants.Name in
    let named : Reader = record new { at = at.TheVariants.Colon } in
    let valued : Reader = record new { at = at.TheVariants.Value } in
    let place = from + 1 + n + 1 in
    let run = closed p old named b from n
    (token_taken old (begun p old) b from 34 fits (omega (arith, block)) first (name_gives old fits is_at) (any_name_begins old (begun p old) fits is_at (begins p old)))
    reached few block alone quote
    (record { at = refl; nodes = puts.nodes; text = puts.text; nesting_is = puts.nesting_is; start = puts.start }) in
    let following = colon_taken named b place run.fits refl more colon in
    runs_further old named new b from place (place + 1) run
    (runs_further named valued new b place (place + 1) (place + 1) following
    (stays_taken valued new b (place + 1) following.fits (omega (arith, more)) (record { at = puts.at; text = refl; nodes = refl; nesting = refl; start = refl })))
