-- The laws of lists that are read as an array, or as an object with the array as a member.
use Rattle.std.proofs.Common.{◌≡◌, inl, inr, ℕ, ◌+◌, ◌≤◌, Bool, true, false, List, length, refl, ap, cond, arith}
use Rattle.std.specs.Prelude.{Ok, Err}
use Rattle.mes_json.specs.Tree.{Tree}
use Rattle.mes_json.specs.Tree.Tree.{object}
use Rattle.mes_json.specs.View.{members_of}
use Rattle.mes_model_schema.specs.Paths.{Place}
use Rattle.mes_model_schema.specs.Kinds.{Kind, Lawful, Returns}
use Rattle.mes_model_schema.specs.Lists.{list_of}
use Rattle.mes_model_schema.specs.Rows.{ReturnsEach, many, message}
use Rattle.mes_model_schema.specs.EitherLists.{is_array, either_list}
use Rattle.mes_model_schema.specs.StepLaws.{SomeDeep}
use Rattle.mes_model_schema.specs.KindLaws.{lawful_list}
use Rattle.mes_model_schema.specs.RowLaws.{LawfulTable, lawful_many}
use Rattle.mes_model_schema.specs.MessageLaws.{lawful_message, message_returns}
use Rattle.mes_model_schema.specs.declared.field.FieldFault.{FieldFault}

-- faults in the object form are one step deeper than in the array form
pub lawful_either_list : {A : Type 0} {n : List ℕ} {k : Kind A} {steps : ℕ} → Lawful k steps → Lawful (either_list n k) (2 + steps)
lawful_either_list {A = A} {n = n} {k = k} {steps = steps} lawful = record {
  sound = λ at t vs e. sound at t vs (is_array t) e;
  complete = complete;
  no_null = λ vs h. elim h [
    | inl reads ↦ as_object.no_null vs reads
    | inr reads ↦ as_array.no_null vs reads
  ];
  sample = (some.0, some.1, inr some.2);
  within = λ at t f e. within at t f (is_array t) e;
  reached = (object (members_of deep.0), (λ e. absurd (cc)), (λ at. deep.2 at (members_of deep.0) (λ m named. refl)));
} where
  row : LawfulTable (many n k) (2 + steps)
  row = lawful_many lawful

  as_object : Lawful (message (many n k)) (2 + steps)
  as_object = lawful_message row refl

  as_array : Lawful (list_of k) (1 + steps)
  as_array = lawful_list lawful

  some : (t : Tree) × (vs : List A) × (list_of k).Reads t vs
  some = as_array.sample

  deep : SomeDeep (many n k).names (many n k).read (2 + steps)
  deep = row.reached refl (omega arith)

  within : (at : List Place) (t : Tree) (f : FieldFault) (b : Bool)
      → cond b ((list_of k).read at t) ((message (many n k)).read at t) ≡ Err f → length f.path ≤ length at + (2 + steps)
  within at t f true e = omega (arith, as_array.within at t f e)
  within at t f false e = as_object.within at t f e

  sound : (at : List Place) (t : Tree) (vs : List A) (b : Bool)
      → cond b ((list_of k).read at t) ((message (many n k)).read at t) ≡ Ok vs → (either_list n k).Reads t vs
  sound at t vs true e = inr (as_array.sound at t vs e)
  sound at t vs false e = inl (as_object.sound at t vs e)

  complete : (at : List Place) (t : Tree) (vs : List A) → (either_list n k).Reads t vs → (either_list n k).read at t ≡ Ok vs
  complete at t vs (inl reads) = rw (ap is_array reads.1) (as_object.complete at t vs reads)
  complete at t vs (inr reads) = rw (ap is_array reads.1) (as_array.complete at t vs reads)

pub either_list_back : {A : Type 0} {n : List ℕ} {k : Kind A} {steps : ℕ} → Lawful k steps → (vs : List A) → ReturnsEach k vs → Returns (either_list n k) vs
either_list_back lawful vs returns = inl (message_returns (lawful_many lawful) refl vs returns)
