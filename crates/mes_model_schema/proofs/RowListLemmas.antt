-- Lemmas about the names of a table by index, and the members that were found under these names.
use Rattle.std.proofs.Common.{◌≡◌, ℕ, zero, suc, ◌+◌, ◌-◌, ◌<◌, ◌≤◌, Bool, true, false, List, [], ◌∷◌, length, take, drop, get_or, map, bytes_eq, refl, sym, ◌∙◌, ap, subst, arith, Bor}
use Rattle.std.specs.Prelude.{◌&&◌, leb}
use Rattle.std.proofs.lemmas.Bool.{leb-true}
use Rattle.std.proofs.lemmas.List.{get_or-map, get_or-drop, get_or_default, length-map, length-drop}
use Rattle.std.proofs.Math.Seq.{take-length}
use Rattle.mes_json.specs.Tree.{Members}
use Rattle.mes_model_schema.specs.Fields.{values_named}
use Rattle.mes_model_schema.specs.FoundRows.{IsFound, FindsEach, FindsAll}
use Rattle.mes_model_schema.specs.Paths.{IsPlace}
use Rattle.mes_model_schema.specs.Paths.Place.{name}
use Rattle.mes_model_schema.specs.RowNames.{are_short, are_names, name_at, stand_at}
use Rattle.mes_model_schema.specs.NameLaws.{distinct, names_equal}
use Rattle.mes_model_schema.specs.declared.found_rows.Found.{Found}
use Rattle.mes_model_schema.specs.declared.found_rows.Found.TheVariants.{Nothing}

both : (a b : Bool) → (a && b) ≡ true → (a ≡ true) × (b ≡ true)
both true b e = (refl, e)
both false b e = absurd (cc)

-- each name of the list is a valid step of a path
pub short_place : (ns : List (List ℕ)) (i : ℕ) → are_short ns ≡ true → i < length ns → IsPlace (name (name_at ns i))
short_place [] i short inside = absurd (omega (arith, inside))
short_place (n ∷ ns) zero short inside =
    let parts = both (leb 1 (length n) && leb (length n) 31) (are_short ns) short in
    let ends = both (leb 1 (length n)) (leb (length n) 31) parts.0 in
    (leb-true 1 (length n) ends.0, leb-true (length n) 31 ends.1)
short_place (n ∷ ns) (suc i) short inside =
    let parts = both (leb 1 (length n) && leb (length n) 31) (are_short ns) short in
    short_place ns i parts.1 (omega (arith, inside))

pub names_short : (ns : List (List ℕ)) → are_names ns ≡ true → are_short ns ≡ true
names_short ns names = (both (are_short ns) (distinct ns) names).0

pub names_distinct : (ns : List (List ℕ)) → are_names ns ≡ true → distinct ns ≡ true
names_distinct ns names = (both (are_short ns) (distinct ns) names).1

-- the texts of a list of borrowed names
abbrev pub texts_of : List (Bor (List ℕ)) → List (List ℕ)
texts_of names = map (λ n. n.now) names

-- the empty text, as the default when a list of names is indexed
abbrev pub no_text : Bor (List ℕ)
no_text = record { ref_ptr = (0, 0); now = [] }

pub named_at : (names : List (Bor (List ℕ))) (d : Bor (List ℕ)) (i : ℕ) → i < length names → name_at (texts_of names) i ≡ (get_or names i d).now
named_at names d i inside = get_or-map (λ (n : Bor (List ℕ)). n.now) names i d [] inside

pub short_name : (names : List (Bor (List ℕ))) (d : Bor (List ℕ)) (i : ℕ) → are_short (texts_of names) ≡ true → i < length names → IsPlace (name (get_or names i d).now)
short_name names d i short inside =
    subst (λ (n : List ℕ). IsPlace (name n)) (named_at names d i inside)
    (short_place (texts_of names) i short (omega (arith, inside, length-map names (λ (n : Bor (List ℕ)). n.now))))

pub found_at : (names : List (Bor (List ℕ))) (d : Bor (List ℕ)) (ms : Members) (fs : List Found) (f : Found) (i : ℕ)
    → f ≡ get_or fs i f → i < length names → length names ≤ length fs → FindsAll (texts_of names) ms fs → IsFound f (values_named (get_or names i d).now ms)
found_at names d ms fs f i is inside room finds =
    subst (λ (x : Found). IsFound x (values_named (get_or names i d).now ms)) (get_or_default fs i Nothing f (omega (arith, inside, room)) ∙ sym is)
    (subst (λ (n : List ℕ). IsFound (get_or fs i Nothing) (values_named n ms)) (named_at names d i inside)
    (finds i (omega (arith, inside, length-map names (λ (n : Bor (List ℕ)). n.now)))))

-- ---- the members found under the names of a typed value

pub finds_each : (i : ℕ) (fs : List Found) (names : List (List ℕ)) (ms : Members)
    → ((j : ℕ) → j < length names → IsFound (get_or fs (i + j) Nothing) (values_named (get_or names j []) ms)) → FindsEach i names ms fs
finds_each i fs [] ms each = tt
finds_each i fs (n ∷ ns) ms each = (
  subst (λ (k : ℕ). IsFound (get_or fs k Nothing) (values_named n ms)) (omega arith) (each 0 (omega arith)),
  finds_each (suc i) fs ns ms (λ j inside.
      subst (λ (k : ℕ). IsFound (get_or fs k Nothing) (values_named (get_or ns j []) ms)) (omega arith) (each (suc j) (omega (arith, inside)))),
)

pub each_found : (fs : List Found) (names : List (List ℕ)) (ms : Members) → FindsAll names ms fs → FindsEach 0 names ms fs
each_found fs names ms finds =
    finds_each 0 fs names ms (λ j inside. subst (λ (k : ℕ). IsFound (get_or fs k Nothing) (values_named (get_or names j []) ms)) (omega arith) (finds j inside))

represents : (i : ℕ) (own ns : List (List ℕ)) (j : ℕ) → stand_at i own ns ≡ true → j < length own → name_at own j ≡ name_at ns (i + j)
represents i [] ns j stand inside = absurd (omega (arith, inside))
represents i (m ∷ own) ns zero stand inside =
    let parts = both (bytes_eq m (name_at ns i)) (stand_at (i + 1) own ns) stand in
    names_equal m (name_at ns i) parts.0 ∙ ap (λ (k : ℕ). name_at ns k) (omega arith)
represents i (m ∷ own) ns (suc j) stand inside =
    let parts = both (bytes_eq m (name_at ns i)) (stand_at (i + 1) own ns) stand in
    represents (i + 1) own ns j parts.1 (omega (arith, inside)) ∙ ap (λ (k : ℕ). name_at ns k) (omega arith)

-- from index i on, the entries are those of the names of the typed value
pub each_behind : (i : ℕ) (own ns : List (List ℕ)) (fs : List Found) (ms : Members)
    → stand_at i own ns ≡ true → i + length own ≤ length ns → FindsAll ns ms fs → FindsEach 0 own ms (drop i fs)
each_behind i own ns fs ms stand room finds =
    each_found (drop i fs) own ms (λ j inside.
    subst (λ (f : Found). IsFound f (values_named (name_at own j) ms)) (sym (get_or-drop i fs j Nothing))
    (subst (λ (n : List ℕ). IsFound (get_or fs (i + j) Nothing) (values_named n ms)) (sym (represents i own ns j stand inside))
    (finds (i + j) (omega (arith, inside, room)))))

-- like `each_behind`, given that the list has the names where the rows expect them
pub choice_found : (first : ℕ) (own : List (List ℕ)) (names : List (Bor (List ℕ))) (fs : List Found) (ms : Members) (rest : Bool)
    → (stand_at first own (texts_of names) && rest) ≡ true → first + length own ≤ length names → FindsAll (texts_of names) ms fs
    → FindsEach 0 own ms (take (length fs - first) (drop first fs))
choice_found first own names fs ms rest fits room finds =
    subst (FindsEach 0 own ms) (sym (ap (λ (n : ℕ). take n (drop first fs)) (sym (length-drop first fs)) ∙ take-length (drop first fs)))
    (each_behind first own (texts_of names) fs ms (both (stand_at first own (texts_of names)) rest fits).0
    (omega (arith, room, length-map names (λ (n : Bor (List ℕ)). n.now))) finds)
