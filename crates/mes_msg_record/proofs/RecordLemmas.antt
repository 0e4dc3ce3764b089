-- Lemmas: the value or the fault of bytes, from the result of reading the tree of their JSON text.
use Rattle.std.proofs.Common.{◌≡◌, ℕ, List, [], refl, sym, ◌∙◌, append-nil, subst}
use Rattle.std.specs.Prelude.{Ok, Err}
use Rattle.mes_model_schema.specs.Tree.{Tree}
use Rattle.mes_model_schema.specs.Grammar.{IsText}
use Rattle.mes_model_schema.specs.Tokens.{Token, tokens, BeginsWith}
use Rattle.mes_model_schema.specs.JsonLimits.{MAX_NESTING}
use Rattle.mes_model_schema.specs.Kinds.{Kind, Lawful}
use Rattle.mes_model_schema.specs.Parts.{Gives}
use Rattle.mes_model_schema.specs.Paths.{Place}
use Rattle.mes_model_schema.specs.declared.part.PartFault.{PartFault}
use Rattle.mes_model_schema.specs.declared.part.PartFault.TheVariants as part
use Rattle.mes_msg_record.specs.RecordFaults.{of_part}
use Rattle.mes_msg_record.specs.Texts.{IsFaultOf}
use Rattle.mes_msg_record.specs.declared.record.RecordFault.TheVariants.{NoMemory}

pub begins : (xs : List Token) (t : Tree) → xs ≡ tokens t → BeginsWith xs t
begins xs t is = ([], is ∙ sym (append-nil (tokens t)))

-- reading a value's tree returns the value, or an allocation failed
pub read_only : {V : Type 0} {steps : ℕ} (k : Kind V) → Lawful k steps → (at : List Place) (t : Tree) (v : V) (fault : PartFault)
    → k.Reads t v → Gives {V = V} (k.read at t) (Err fault) → of_part fault ≡ NoMemory
read_only k lawful at t v (part.Field f) reads gives = let e = lawful.complete at t v reads in absurd (cc)
read_only k lawful at t v part.NoMemory reads gives = refl

pub read_same : {V : Type 0} {steps : ℕ} (k : Kind V) → Lawful k steps → (at : List Place) (t : Tree) (v got : V) → k.Reads t v → k.read at t ≡ Ok got → got ≡ v
read_same k lawful at t v got reads gives = let e = lawful.complete at t v reads in cc

pub refused_by : {V : Type 0} (k : Kind V) (b : List ℕ) (at : List Place) (t : Tree) (fault : PartFault)
    → at ≡ [] → IsText MAX_NESTING b t → Gives {V = V} (k.read at t) (Err fault) → IsFaultOf k b (of_part fault)
refused_by k b at t (part.Field f) root is gives = (t, is, subst (λ (p : List Place). k.read p t ≡ Err f) root gives)
refused_by k b at t part.NoMemory root is gives = tt
