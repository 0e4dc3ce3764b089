-- The printed name of the reason for which an event or a call has no canonical text.
use Rattle.std.specs.Prelude.{ℕ, List, codes}
use Rattle.mes_msg.specs.declared.send_fault.EncodeFaultKind.{EncodeFaultKind}
use Rattle.mes_msg.specs.declared.send_fault.EncodeFaultKind.TheVariants.{TooDeep, TooLarge}

abbrev pub encode_fault_kind_name : EncodeFaultKind → List ℕ
encode_fault_kind_name TooDeep = codes "TooDeep"
encode_fault_kind_name TooLarge = codes "TooLarge"
