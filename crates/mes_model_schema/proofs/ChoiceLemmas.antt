-- Lemmas about a typed value: the entries found from an index on, and an error that `?` returns.
use Rattle.std.proofs.Common.{◌≡◌, ℕ, ◌<◌, List, length, get_or, sym, ◌∙◌, subst}
use Rattle.std.proofs.lemmas.List.{get_or_default}
use Rattle.std.specs.Prelude.{Result, Ok, Err, IfErr}
use Rattle.std.specs.Result.{IsErrAnd}
use Rattle.mes_json.specs.Tree.{Tree}
use Rattle.mes_model_schema.specs.FoundRows.{IsFound}
use Rattle.mes_model_schema.specs.Kinds.{◌>>=◌}
use Rattle.mes_model_schema.specs.FieldLaws.{after}
use Rattle.mes_model_schema.specs.Parts.{Gives}
use Rattle.mes_model_schema.proofs.RowLemmas.{gives_bound}
use Rattle.mes_model_schema.specs.declared.field.FieldFault.{FieldFault}
use Rattle.mes_model_schema.specs.declared.found_rows.Found.{Found}
use Rattle.mes_model_schema.specs.declared.found_rows.Found.TheVariants.{Nothing}
use Rattle.mes_model_schema.specs.declared.part.PartFault.{PartFault}
use Rattle.mes_model_schema.specs.declared.part.PartFault.TheVariants.{Field, NoMemory}

pub found_in : (fs : List Found) (f : Found) (i : ℕ) (ts : List Tree) → f ≡ get_or fs i f → i < length fs → IsFound (get_or fs i Nothing) ts → IsFound f ts
found_in fs f i ts is inside found = subst (λ (x : Found). IsFound x ts) (get_or_default fs i Nothing f inside ∙ sym is) found

-- if each fault of a row is expected of the typed value, an error that `?` returns is allowed
pub gives_fault : {V W : Type 0} (expected : Result W FieldFault) (read : Result V FieldFault) (e : PartFault) (r : Result W PartFault)
    → IsErrAnd r (λ x. x ≡ e) → Gives {V = V} read (Err e) → ((f : FieldFault) → read ≡ Err f → expected ≡ Err f) → Gives expected r
gives_fault expected read e (Ok v) is fails same = absurd is
gives_fault {V} expected read e (Err x) is fails same = by_fault x (subst (λ (y : PartFault). Gives {V = V} read (Err y)) (sym is) fails) where
  by_fault : (x : PartFault) → Gives {V = V} read (Err x) → Gives expected (Err x)
  by_fault (Field f) fails = same f fails
  by_fault NoMemory fails = tt

-- an error that `?` returns as a result of another type is an allowed error
pub gives_told_on : {V W X : Type 0} (read : Result V FieldFault) (go : V → Result W FieldFault) (e : PartFault) (r : Result X PartFault)
    → IsErrAnd r (λ x. x ≡ e) → Gives {V = V} read (Err e) → IfErr r (λ x. Gives {V = W} (read >>= go) (Err x))
gives_told_on read go e (Ok v) is fails = absurd is
gives_told_on read go e (Err x) is fails = gives_bound read go e (Err x) is fails

-- like `gives_told_on`, after a row that has a value
pub told_behind : {U W X : Type 0} (first : Result U FieldFault) (rest : U → Result W FieldFault) (u : U) (r : Result X PartFault)
    → first ≡ Ok u → IfErr r (λ x. Gives {V = W} (rest u) (Err x)) → IfErr r (λ x. Gives {V = W} (first >>= rest) (Err x))
told_behind {W = W} first rest u r is reported =
    subst (λ (q : Result W FieldFault). IfErr r (λ x. Gives {V = W} q (Err x))) (sym (after first rest u is)) reported
