use Rattle.std.proofs.Common.{[], get_or, ◌∙◌}
use Rattle.mes_json.specs.declared.tape.Node.TheVariants.{Null}
use Rattle.mes_json.proofs.PassingLemmas.{depth_within, over_last, over_one, over_none}
use Rattle.mes_json.proofs.skip.count_nodes.Goals as goal

pub returns-then-depth-eq0-clause-following : goal.returns-then-depth-eq0-clause-following
returns-then-depth-eq0-clause-following c texts =
    c.loop-i.invariant.same texts
    ∙ over_last texts c.args.nodes.now c.loop-i.i Null c.loop-i.depth c.depth_after-depth.result c.loop-i-test.true (c.depth_after-depth.ensures texts) c.if-depth-eq0.true

pub loop-i-preserved : goal.loop-i-preserved
loop-i-preserved c = record {
  below = depth_within (get_or c.args.nodes.now c.loop-i.i Null) c.loop-i.i c.loop-i.depth c.depth_after-depth.result c.loop-i.invariant.below (c.depth_after-depth.ensures []);
  same = λ texts. c.loop-i.invariant.same texts
      ∙ over_one texts c.args.nodes.now c.loop-i.i Null c.loop-i.depth c.depth_after-depth.result c.loop-i-test.true (c.depth_after-depth.ensures texts) c.if-depth-eq0.false;
}

pub returns-clause-following : goal.returns-clause-following
returns-clause-following c texts = c.loop-i.invariant.same texts ∙ over_none texts c.args.nodes.now c.loop-i.i c.loop-i.depth c.loop-i-test.false
