-- The fault of the bytes of a record, from the fault of the JSON text or of the members.
use Rattle.mes_model_schema.specs.ReadFault.{ReadFault}
use Rattle.mes_model_schema.specs.ReadFault.TheVariants as read
use Rattle.mes_model_schema.specs.declared.part.PartFault.{PartFault}
use Rattle.mes_model_schema.specs.declared.part.PartFault.TheVariants as part
use Rattle.mes_msg_record.specs.declared.record.RecordFault.{RecordFault}
use Rattle.mes_msg_record.specs.declared.record.RecordFault.TheVariants.{Text, Field, NoMemory}

abbrev pub of_read : ReadFault → RecordFault
of_read (read.Text f) = Text f
of_read read.NoMemory = NoMemory

abbrev pub of_part : PartFault → RecordFault
of_part (part.Field f) = Field f
of_part part.NoMemory = NoMemory
