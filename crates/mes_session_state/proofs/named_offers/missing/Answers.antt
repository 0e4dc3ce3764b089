use Rattle.std.proofs.Common.{◌∙◌, sym}
use Rattle.mes_session_state.specs.Looking.{is_missing}
use Rattle.mes_session_state.proofs.LookLemmas.{first-at}
use Rattle.mes_session_state.proofs.named_offers.missing.Goals as goal

pub returns-then-is_missing-clause-some : goal.returns-then-is_missing-clause-some
returns-then-is_missing-clause-some c =
    first-at (is_missing c.args.hand.now) c.args.ids.now c.loop-index.index c.index-ids-index.result c.loop-index-test.true c.index-ids-index.is (sym c.is_missing.ensures ∙ c.if-is_missing.true) c.loop-index.invariant
