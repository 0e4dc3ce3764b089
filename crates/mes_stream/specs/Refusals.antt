-- The error of a record whose data have no value, and the resulting error of the stream.
use Rattle.std.specs.Prelude.{ℕ, List}
use Rattle.mes_json.specs.Tree.{Tree}
use Rattle.mes_json.specs.Grammar.{IsText}
use Rattle.mes_json.specs.Place.{Begins}
use Rattle.mes_json.specs.declared.limits.TheConstants.{MAX_NESTING}
use Rattle.mes_model_schema.specs.Kinds.{Kind}
use Rattle.mes_msg.specs.Events.{event}
use Rattle.mes_msg.specs.Texts.{IsFaultOf}
use Rattle.mes_msg.specs.RecordFault.{RecordFault}
use Rattle.mes_msg.specs.RecordFault.TheVariants as message
use Rattle.mes_stream.specs.declared.record_error.RecordError.{RecordError}
use Rattle.mes_stream.specs.declared.record_error.RecordError.TheVariants as refusal
use Rattle.mes_stream.specs.declared.fault.Fault.{Fault}
use Rattle.mes_stream.specs.declared.fault.Fault.TheVariants.{Text, Field, NoMemory, BadEntry}

-- the error of a message, as an error of a record
abbrev pub refusal_of : RecordFault → RecordError
refusal_of (message.Text f) = refusal.Text f
refusal_of (message.Field f) = refusal.Field f
refusal_of message.NoMemory = refusal.NoMemory

-- the data r are a JSON text
abbrev pub IsJson : List ℕ → Type 0
IsJson r = (t : Tree) × IsText MAX_NESTING r t

-- The data r are not a message of the kind, for the given reason. An allocation can fail only at a
-- byte with which some JSON text goes on.
abbrev pub IsMessageRefusal : {M : Type 0} → Kind M → List ℕ → RecordError → Type 0
IsMessageRefusal kind r (refusal.Text f) = IsFaultOf kind r (message.Text f)
IsMessageRefusal kind r (refusal.Field f) = IsFaultOf kind r (message.Field f)
IsMessageRefusal kind r refusal.BadEntry = ⊥
IsMessageRefusal kind r refusal.NoMemory = Begins MAX_NESTING r

-- the data r are not an event, for the given reason
abbrev pub IsEventRefusal : List ℕ → RecordError → Type 0
IsEventRefusal r why = IsMessageRefusal event r why

-- the error of a stream whose record number n has no value
abbrev pub fault_at_record : ℕ → RecordError → Fault
fault_at_record n (refusal.Text f) = Text n f.byte f.why
fault_at_record n (refusal.Field f) = Field n f.path f.why
fault_at_record n refusal.BadEntry = BadEntry n
fault_at_record n refusal.NoMemory = NoMemory
