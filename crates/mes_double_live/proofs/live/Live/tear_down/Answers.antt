use Rattle.std.proofs.Common.{option_copied}
use Rattle.mes_double_live.proofs.CallLemmas.{removed-begins}
use Rattle.mes_double_live.proofs.live.Live.tear_down.Goals as goal

pub returns-clause-steps : goal.returns-clause-steps
returns-clause-steps c =
    removed-begins c.args.self.now c.args.call.now (option_copied c.args.stream) _ _ _ c.in-Some.ensures c.in_ok-framework_id.ensures c.in_ok-reply.ensures.steps
