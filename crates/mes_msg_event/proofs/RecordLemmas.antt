-- Lemmas: the fault of the bytes of a record.
use Rattle.std.proofs.Common.{◌≡◌, ℕ, List, []}
use Rattle.std.specs.Prelude.{Err}
use Rattle.mes_model_schema.specs.Tree.{Tree}
use Rattle.mes_model_schema.specs.Grammar.{IsText}
use Rattle.mes_model_schema.specs.JsonLimits.{MAX_NESTING}
use Rattle.mes_model_schema.specs.Parts.{Gives}
use Rattle.mes_model_schema.specs.Paths.{Place}
use Rattle.mes_model_schema.specs.declared.part.PartFault.{PartFault}
use Rattle.mes_msg_record.specs.RecordFaults.{of_part}
use Rattle.mes_msg_record.proofs.RecordLemmas.{refused_by}
use Rattle.mes_msg_event.specs.Events.{event, IsRecordFault}
use Rattle.mes_msg_event.specs.declared.event.Event.{Event}

pub refused : (b : List ℕ) (at : List Place) (t : Tree) (fault : PartFault) → at ≡ [] → IsText MAX_NESTING b t → Gives {V = Event} (event.read at t) (Err fault)
    → IsRecordFault b (of_part fault)
refused b at t fault root is gives = refused_by event b at t fault root is gives
