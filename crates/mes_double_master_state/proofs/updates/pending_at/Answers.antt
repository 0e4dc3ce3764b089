use Rattle.std.proofs.Common.{◌∙◌, sym}
use Rattle.mes_double_master_state.proofs.UpdateLemmas.{passes, reports, goes_on}
use Rattle.mes_double_master_state.proofs.updates.pending_at.Goals as goal

pub loop-at-preserved-then-contains : goal.loop-at-preserved-then-contains
loop-at-preserved-then-contains c =
    passes c.args.owing.now.entries c.args.acked.now c.loop-at.at (c.in-Some.key.now, c.in-Some.status.now) (sym c.in-Some.ensures.entry)
    c.loop-at.before c.args.index (sym c.contains.ensures ∙ c.if-contains.true) c.loop-at.invariant

pub returns-then-before-eq0 : goal.returns-then-before-eq0
returns-then-before-eq0 c =
    reports c.args.owing.now.entries c.args.acked.now c.loop-at.at (c.in-Some.key.now, c.in-Some.status.now) (sym c.in-Some.ensures.entry)
    c.loop-at.before c.args.index (sym c.contains.ensures ∙ c.if-contains.false) c.if-before-eq0.true c.loop-at.invariant

pub loop-at-preserved : goal.loop-at-preserved
loop-at-preserved c =
    goes_on c.args.owing.now.entries c.args.acked.now c.loop-at.at (c.in-Some.key.now, c.in-Some.status.now) (sym c.in-Some.ensures.entry)
    c.loop-at.before c.args.index (sym c.contains.ensures ∙ c.if-contains.false) c.if-before-eq0.false c.loop-at.invariant
