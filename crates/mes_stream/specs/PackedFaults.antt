-- The error that a compact error represents.
use Rattle.mes_stream.specs.declared.fault.Fault.{Fault}
use Rattle.mes_stream.specs.declared.fault.Fault.TheVariants as fault
use Rattle.mes_stream.specs.declared.packed_fault.Kind.{Kind}
use Rattle.mes_stream.specs.declared.packed_fault.Kind.TheVariants.{Frame, EndsInsideRecord, Text, Field, BadEntry, NoMemory}

abbrev pub fault_in : Kind → Fault
fault_in (Frame f) = fault.Frame f
fault_in EndsInsideRecord = fault.EndsInsideRecord
fault_in (Text at_record byte why) = fault.Text at_record byte why
fault_in (Field at_record f) = fault.Field at_record f.path f.why
fault_in (BadEntry at_record) = fault.BadEntry at_record
fault_in NoMemory = fault.NoMemory
