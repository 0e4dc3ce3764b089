use Rattle.std.proofs.Common.{option_copied, refl}
use Rattle.mes_msg.specs.Call.TheVariants as of
use Rattle.mes_double_live.proofs.CallLemmas.{accept-follows, carried-alone, launching-of-call}
use Rattle.mes_double_live.proofs.StepLemmas.{same, steps-same, steps-wider}
use Rattle.mes_double_live.proofs.live.Live.accept.Goals as goal

pub returns-clause-steps : goal.returns-clause-steps
returns-clause-steps c =
    carried-alone (of.Accept c.args.framework.now c.args.body.now) (option_copied c.args.stream) c.args.self.now c.launch.new.self _ c.in_ok-status.ensures.handles c.launch.ensures.rest
    (accept-follows c.args.self.now c.args.framework.now c.args.body.now (option_copied c.args.stream))
    (steps-wider (launching-of-call c.args.framework.now c.args.body.now) _ _ c.in_ok-note_launch.ensures.steps)

pub returns-then-ne-clause-steps : goal.returns-then-ne-clause-steps
returns-then-ne-clause-steps c =
    carried-alone (of.Accept c.args.framework.now c.args.body.now) (option_copied c.args.stream) c.args.self.now c.launch.new.self _ c.in_ok-status.ensures.handles c.launch.ensures.rest
    (accept-follows c.args.self.now c.args.framework.now c.args.body.now (option_copied c.args.stream)) (steps-same _ _ (same _ _ refl))
