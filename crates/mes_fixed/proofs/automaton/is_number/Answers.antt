use Rattle.std.proofs.Common.{arith, sym}
use Rattle.mes_fixed.proofs.Grammar.{no_number, end_number}
use Rattle.mes_fixed.proofs.automaton.is_number.Goals as goal

pub returns-in-None : goal.returns-in-None
returns-in-None c = no_number c.args.text.now c.loop-byte.byte-index c.loop-byte.state c.loop-byte.invariant (omega arith) (sym c.in-None.ensures.next)

pub returns : goal.returns
returns c = end_number c.args.text.now c.loop-byte.byte-index c.loop-byte.state c.may_end.result c.loop-byte.invariant (omega arith) c.may_end.ensures
