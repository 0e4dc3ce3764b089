use Rattle.std.proofs.Common.{◌∙◌, sym}
use Rattle.mes_session_state.proofs.DuplicateLemmas.{new-at, again-at}
use Rattle.mes_session_state.proofs.duplicates.is_duplicated.Goals as goal

pub returns-then-is_among : goal.returns-then-is_among
returns-then-is_among c = sym (again-at c.args.ids.now c.loop-index.index c.index-ids-index.result c.loop-index-test.true c.index-ids-index.is (sym c.is_among.ensures ∙ c.if-is_among.true))

pub loop-index-preserved : goal.loop-index-preserved
loop-index-preserved c = new-at c.args.ids.now c.loop-index.index c.index-ids-index.result c.loop-index-test.true c.index-ids-index.is c.loop-index.invariant (sym c.is_among.ensures ∙ c.if-is_among.false)
