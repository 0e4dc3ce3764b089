use Rattle.mes_double.proofs.PromiseLemmas.{so-far-kept}
use Rattle.mes_double.proofs.RunningLemmas.{so-far-begun, so-far-next}
use Rattle.mes_double.proofs.WantLemmas.{anyway, so-far-wants}
use Rattle.mes_double.proofs.running.run_world.Goals as goal

pub loop-next-init : goal.loop-next-init
loop-next-init c = so-far-begun c.args.framework c.args.ids.items c.new-world.result c.new-world.ensures

pub loop-next-preserved : goal.loop-next-preserved
loop-next-preserved c =
    so-far-next c.args.framework c.args.ids.items c.args.moves.now c.loop-next.next-index c.loop-next.world c.loop-next.invariant c.next-item.result c.make.new.self
    c.loop-next-test.true c.next-item.is c.in_ok-make.ensures.ok

pub returns-clause-ok : goal.returns-clause-ok
returns-clause-ok c = so-far-kept c.args.framework c.args.ids.items c.args.moves.now c.loop-next.next-index c.loop-next.world c.loop-next.invariant c.loop-next-test.false

pub returns-in_err-make-clause-memory : goal.returns-in_err-make-clause-memory
returns-in_err-make-clause-memory c =
    anyway c.from_residual.result
    (so-far-wants c.args.framework c.args.ids.items c.args.moves.now c.loop-next.next-index c.loop-next.world c.loop-next.invariant c.next-item.result
    c.loop-next-test.true c.next-item.is c.in_err-make.ensures.memory)
