-- The texts that the errors are printed as.
use Rattle.std.specs.Prelude.{ℕ, List, codes}
use Rattle.mes_fixed.specs.declared.fault.NumFault.{NumFault}
use Rattle.mes_fixed.specs.declared.fault.NumFault.TheVariants.{TooLong, Shape, Range}

-- the text of an error of reading a number
abbrev pub message : NumFault → List ℕ
message TooLong = codes "the number's text is too long"
message Shape = codes "the text is no JSON number"
message Range = codes "the number is out of range"
