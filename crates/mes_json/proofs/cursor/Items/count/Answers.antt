use Rattle.std.proofs.Common.{◌∙◌, arith}
use Rattle.mes_json.proofs.NextLemmas.{counts_first, counts_next, counts_all, counts_most}
use Rattle.mes_json.proofs.cursor.Items.count.Goals as goal

pub loop-count-init : goal.loop-count-init
loop-count-init c = counts_first c.args.self.now c.copy.result (c.copy.ensures ∙ c.self.view_is)

pub returns-in-None : goal.returns-in-None
returns-in-None c =
    counts_all c.args.self.now c.loop-count.rest c.next.new.self c.loop-count.count c.args.most c.loop-count.invariant c.in-None.ensures.item c.loop-count-test.true

pub loop-count-preserved : goal.loop-count-preserved
loop-count-preserved c =
    counts_next c.args.self.now c.loop-count.rest c.next.new.self c.in-Some.field-0 c.loop-count.count c.loop-count.invariant c.in-Some.ensures.item

pub returns : goal.returns
returns c =
    counts_most c.args.self.now c.loop-count.rest c.loop-count.count c.args.most c.loop-count.invariant (omega (arith, c.loop-count-test.false)) c.loop-count.auto.count-end
