use Rattle.std.proofs.Common.{Option, option_copied, subst}
use Rattle.mes_double_faults.specs.declared.fault.CallFault.{CallFault}
use Rattle.mes_double_live.specs.Calling.{responding}
use Rattle.mes_double_live.specs.Lives.{LiveState, call_counted}
use Rattle.mes_double_live.specs.Steps.{BeginsWith, IsOfCall}
use Rattle.mes_double_live.proofs.live.Live.call_with_fault.Goals as goal

pub returns-clause-steps : goal.returns-clause-steps
returns-clause-steps c =
    let given = option_copied c.args.stream in
    let all = subst (λ (live : LiveState). BeginsWith (IsOfCall c.args.call.now) (responding c.in_ok-fault.fault live c.args.call.now given) live c.respond_by.new.self)
    c.in_ok-fault.ensures.counted c.in_ok-reply.ensures.steps in
    subst
    (λ (fault : Option CallFault). BeginsWith (IsOfCall c.args.call.now) (responding fault (call_counted c.args.self.now) c.args.call.now given) (call_counted c.args.self.now) c.respond_by.new.self)
    c.in_ok-fault.ensures.fault all
