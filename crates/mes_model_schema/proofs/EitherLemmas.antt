-- Lemmas: a list in either form has the value or the fault of the array or the object found.
use Rattle.std.proofs.Common.{◌≡◌, ℕ, Bool, true, false, List, Option, Some, None, refl, sym, ◌∙◌, subst, cond}
use Rattle.std.specs.Option.{is_some}
use Rattle.std.specs.Prelude.{Result}
use Rattle.mes_json.specs.Tree.{Tree}
use Rattle.mes_json.specs.Tree.Tree.{null, boolean, number, string, array, object}
use Rattle.mes_json.specs.Tokens.{Token}
use Rattle.mes_json.specs.Cursor.{as_items, FindsItems}
use Rattle.mes_model_schema.specs.Paths.{Place}
use Rattle.mes_model_schema.specs.Kinds.{Kind}
use Rattle.mes_model_schema.specs.Lists.{list_of}
use Rattle.mes_model_schema.specs.Rows.{many, message}
use Rattle.mes_model_schema.specs.EitherLists.{is_array, either_list}
use Rattle.mes_model_schema.specs.Parts.{Gives}
use Rattle.mes_model_schema.specs.declared.part.PartFault.{PartFault}

array_found : (o : Option (List Token)) (t : Tree) → FindsItems o (as_items t) → is_array t ≡ is_some o
array_found None null h = refl
array_found None (boolean x) h = refl
array_found None (number n) h = refl
array_found None (string s) h = refl
array_found None (array ts) h = absurd h
array_found None (object ms) h = refl
array_found (Some xs) null h = absurd h
array_found (Some xs) (boolean x) h = absurd h
array_found (Some xs) (number n) h = absurd h
array_found (Some xs) (string s) h = absurd h
array_found (Some xs) (array ts) h = refl
array_found (Some xs) (object ms) h = absurd h

module _ {V : Type 0} (n : List ℕ) (k : Kind V) (at : List Place) (t : Tree) (o : Option (List Token)) (r : Result (List V) PartFault) where
  pub gives_array : FindsItems o (as_items t) → is_some o ≡ true → Gives ((list_of k).read at t) r → Gives ((either_list n k).read at t) r
  gives_array found is gives =
      subst (λ (b : Bool). Gives (cond b ((list_of k).read at t) ((message (many n k)).read at t)) r) (sym (array_found o t found ∙ is)) gives

  pub gives_object : FindsItems o (as_items t) → is_some o ≡ false → Gives ((message (many n k)).read at t) r → Gives ((either_list n k).read at t) r
  gives_object found is gives =
      subst (λ (b : Bool). Gives (cond b ((list_of k).read at t) ((message (many n k)).read at t)) r) (sym (array_found o t found ∙ is)) gives
