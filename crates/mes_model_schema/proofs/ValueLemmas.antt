-- Lemmas: the only value of the members of one name, from the number of members found.
use Rattle.std.proofs.Common.{◌≡◌, ◌≤◌, true, false, List, [], ◌∷◌, length, Option, Some, None, refl, ap, arith}
use Rattle.std.specs.Prelude.{Ok}
use Rattle.mes_json.specs.Tree.{Tree}
use Rattle.mes_json.specs.Tree.Tree.{null, boolean, number, string, array, object}
use Rattle.mes_json.specs.Cursor.{is_null}
use Rattle.mes_model_schema.specs.Paths.{Place}
use Rattle.mes_model_schema.specs.Fields.{fault, unless_null, single}
use Rattle.mes_model_schema.specs.declared.field.FieldFaultKind.TheVariants.{Twice}

unless_null-null : (t : Tree) → true ≡ is_null t → unless_null t ≡ None
unless_null-null null is = refl
unless_null-null (boolean x) is = absurd (cc)
unless_null-null (number n) is = absurd (cc)
unless_null-null (string s) is = absurd (cc)
unless_null-null (array ts) is = absurd (cc)
unless_null-null (object ms) is = absurd (cc)

unless_null-other : (t : Tree) → false ≡ is_null t → unless_null t ≡ Some t
unless_null-other null is = absurd (cc)
unless_null-other (boolean x) is = refl
unless_null-other (number n) is = refl
unless_null-other (string s) is = refl
unless_null-other (array ts) is = refl
unless_null-other (object ms) is = refl

-- the result of `single` for no value, for null, for one other value, and for two or more values
pub single_none : (at : List Place) (ts : List Tree) → ts ≡ [] → single at ts ≡ Ok None
single_none at ts is = rw is refl

pub single_null : (at : List Place) (ts : List Tree) (t : Tree) → ts ≡ t ∷ [] → true ≡ is_null t → single at ts ≡ Ok None
single_null at ts t is null_is = rw is (ap (λ (o : Option Tree). Ok o) (unless_null-null t null_is))

pub single_one : (at : List Place) (ts : List Tree) (t : Tree) → ts ≡ t ∷ [] → false ≡ is_null t → single at ts ≡ Ok (Some t)
single_one at ts t is null_is = rw is (ap (λ (o : Option Tree). Ok o) (unless_null-other t null_is))

pub single_twice : (at : List Place) (ts : List Tree) → 2 ≤ length ts → single at ts ≡ fault at Twice
single_twice at [] more = absurd (omega arith)
single_twice at (t ∷ []) more = absurd (omega arith)
single_twice at (t ∷ u ∷ ts) more = refl
