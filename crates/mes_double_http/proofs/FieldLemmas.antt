-- The search for a field of a head, field by field.
use Rattle.std.proofs.Common.{◌≡◌, ℕ, ◌+◌, ◌<◌, ◌≤◌, Bool, true, false, List, [], ◌∷◌, ◌++◌, length, drop, map, get_or, if◌then◌else◌, refl, subst, sym, Bor, ◌∙◌, ap, arith, append-nil, length-append}
use Rattle.std.proofs.lemmas.List.{drop_more, drop_all}
use Rattle.std.specs.Str.{str_eq_ignore_ascii_case}
use Rattle.httparse.specs.Spans.{header_bytes}
use Rattle.httparse.specs.declared.spans.HeaderSpan.{HeaderSpan}
use Rattle.mes_double_http.specs.Fields.{IsNamed, NameAndValue, values_named}
use Rattle.mes_double_http.specs.declared.fields.Named.{Named}
use Rattle.mes_double_http.specs.declared.fields.Named.TheVariants.{Nothing, One, More}

abbrev pub values_from : List ℕ → List ℕ → List HeaderSpan → ℕ → List (List ℕ)
values_from name bytes headers i = values_named name (map (header_bytes bytes) (drop i headers))

-- `found` is the result of the search in the fields before index i, and the fields from i on remain
pub record Follows (found : Named) (name bytes : List ℕ) (headers : List HeaderSpan) (i : ℕ) : Type 0 where
  pub before : List (List ℕ)
  pub is : IsNamed found before
  pub all : values_named name (map (header_bytes bytes) headers) ≡ before ++ values_from name bytes headers i

named-first : (name : List ℕ) (p : NameAndValue) (rest : List NameAndValue) (same : Bool) → str_eq_ignore_ascii_case p.0 name ≡ same
    → values_named name (p ∷ rest) ≡ (if same then p.1 ∷ values_named name rest else values_named name rest)
named-first name p rest true is = rw is refl
named-first name p rest false is = rw is refl

abbrev pub field_at : List ℕ → List HeaderSpan → ℕ → NameAndValue
field_at bytes headers i = header_bytes bytes (get_or headers i (record { name = record { start = 0; end = 0 }; value = record { start = 0; end = 0 } }))

pub same-is : (text part name : List ℕ) (test b : Bool) → test ≡ str_eq_ignore_ascii_case text name → text ≡ part → test ≡ b → str_eq_ignore_ascii_case part name ≡ b
same-is text part name test b reported is found = ap (λ t. str_eq_ignore_ascii_case t name) (sym is) ∙ sym reported ∙ found

values-more : (name bytes : List ℕ) (headers : List HeaderSpan) (i : ℕ) (same : Bool) → i < length headers
    → str_eq_ignore_ascii_case (field_at bytes headers i).0 name ≡ same
    → values_from name bytes headers i ≡ (if same then (field_at bytes headers i).1 ∷ values_from name bytes headers (i + 1) else values_from name bytes headers (i + 1))
values-more name bytes headers i same inside is =
    ap (λ hs. values_named name (map (header_bytes bytes) hs)) (drop_more headers i _ inside)
    ∙ named-first name (field_at bytes headers i) (map (header_bytes bytes) (drop (i + 1) headers)) same is

pub follows-start : (name bytes : List ℕ) (headers : List HeaderSpan) → Follows Nothing name bytes headers 0
follows-start name bytes headers = record { before = []; is = refl; all = refl }

pub follows-one : (name bytes : List ℕ) (headers : List HeaderSpan) (i : ℕ) (v : Bor (List ℕ)) → i < length headers
    → str_eq_ignore_ascii_case (field_at bytes headers i).0 name ≡ true → v.now ≡ (field_at bytes headers i).1
    → Follows Nothing name bytes headers i → Follows (One v) name bytes headers (i + 1)
follows-one name bytes headers i v inside same value f = record {
  before = v.now ∷ [];
  is = refl;
  all = rw (f.all, f.is, values-more name bytes headers i true inside same, value) refl;
}

pub follows-other : (found : Named) (name bytes : List ℕ) (headers : List HeaderSpan) (i : ℕ) → i < length headers
    → str_eq_ignore_ascii_case (field_at bytes headers i).0 name ≡ false
    → Follows found name bytes headers i → Follows found name bytes headers (i + 1)
follows-other found name bytes headers i inside same f = record {
  before = f.before;
  is = f.is;
  all = rw (f.all, values-more name bytes headers i false inside same) refl;
}

pub some-found : (n : Named) (vs : List (List ℕ)) → (n ≡ Nothing → ⊥) → IsNamed n vs → 1 ≤ length vs
some-found Nothing vs not is = absurd (not refl)
some-found (One v) vs not is = omega (arith, ap length is)
some-found More vs not is = omega (arith, is)

pub follows-again : (found : Named) (name bytes : List ℕ) (headers : List HeaderSpan) (i : ℕ) → i < length headers
    → str_eq_ignore_ascii_case (field_at bytes headers i).0 name ≡ true → (found ≡ Nothing → ⊥)
    → Follows found name bytes headers i → 2 ≤ length (values_named name (map (header_bytes bytes) headers))
follows-again found name bytes headers i inside same some f =
    let one = some-found found f.before some f.is in
    omega (arith, ap length f.all, length-append f.before (values_from name bytes headers i), ap length (values-more name bytes headers i true inside same), one)

pub follows-end : (found : Named) (name bytes : List ℕ) (headers : List HeaderSpan) (i : ℕ) → length headers ≤ i
    → Follows found name bytes headers i → IsNamed found (values_named name (map (header_bytes bytes) headers))
follows-end found name bytes headers i past f =
    let none : drop i headers ≡ [] = drop_all i headers past in
    subst (IsNamed found) (sym (f.all ∙ ap (λ hs. f.before ++ values_named name (map (header_bytes bytes) hs)) none ∙ append-nil f.before)) f.is
