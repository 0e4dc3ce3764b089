use Rattle.std.proofs.Common.{take}
use Rattle.std.specs.List.{AllZip}
use Rattle.mesosev_args.specs.OptionValues.{NamesFault}
use Rattle.mesosev_args.proofs.FaultLemmas.{texts_of}
use Rattle.mesosev_args.proofs.faults.faults_of.Given as goal

abbrev pub invariant-loop-text : goal.invariant-loop-text
invariant-loop-text l = AllZip NamesFault (texts_of (take l.text-index l.texts)) l.faults.items
