-- The text is a number if and only if the automaton accepts the remaining bytes from `state`.
use Rattle.std.proofs.Common.{◌↔◌, drop}
use Rattle.mes_fixed.specs.declared.automaton.NumberState.TheVariants.{AtStart}
use Rattle.mes_fixed.specs.Automaton.{Ends}
use Rattle.mes_fixed.proofs.automaton.is_number.Given as goal

abbrev pub invariant-loop-byte : goal.invariant-loop-byte
invariant-loop-byte l = Ends AtStart l.text ↔ Ends l.state (drop l.byte-index l.text)
