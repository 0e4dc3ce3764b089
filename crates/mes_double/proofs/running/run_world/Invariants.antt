use Rattle.std.proofs.Common.{take}
use Rattle.mes_double.proofs.RunningLemmas.{MovesSoFar}
use Rattle.mes_double.proofs.running.run_world.Given as goal

-- `world` is the world after the moves made so far (`MovesSoFar`)
abbrev pub invariant-loop-next : goal.invariant-loop-next
invariant-loop-next l = MovesSoFar l.fn.framework l.fn.ids.items (take l.next-index l.moves) l.next-index l.world
