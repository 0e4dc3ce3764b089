use Rattle.std.proofs.Common.{ℕ, List, ap, arith}
use Rattle.mes_json.specs.Tree.{depth, depth_of_members}
use Rattle.mes_json.specs.View.{members_view}
use Rattle.mes_json.specs.declared.value.Json.{Json}
use Rattle.mes_json.proofs.ViewLemmas.{is_object}
use Rattle.mes_json.proofs.DepthLemmas.{depth_item, depth_member}
use Rattle.mes_json.proofs.+depth.Goals as goal
use Rattle.mes_json.proofs.+depth.Goals.{depth::depth_of_items-then-deepest-depth, depth::depth_of_items-else-deepest-depth}
use Rattle.mes_json.proofs.+depth.Goals.{depth::depth_of_members-then-deepest-depth, depth::depth_of_members-else-deepest-depth}

pub depth::depth_of_items-loop-item-preserved : goal.depth::depth_of_items-loop-item-preserved
depth::depth_of_items-loop-item-preserved t c =
    let grown = depth_item c.args.items.now c.item-item.result c.loop-item.item-index c.loop-item-test.true c.item-item.is in
    elim c.if-deepest-depth.branch [
      | depth::depth_of_items-then-deepest-depth w ↦ omega (arith, grown, w.deepest-is, w.if-deepest-depth.true, c.depth-depth.ensures, c.loop-item.invariant)
      | depth::depth_of_items-else-deepest-depth w ↦ omega (arith, grown, w.deepest-is, w.if-deepest-depth.false, c.depth-depth.ensures, c.loop-item.invariant)
    ]

pub depth::depth_of_members-loop-value-preserved : goal.depth::depth_of_members-loop-value-preserved
depth::depth_of_members-loop-value-preserved t c =
    let grown = depth_member c.args.members.now c.loop-value-item.result c.loop-value.value-index c.loop-value-test.true c.loop-value-item.is in
    elim c.if-deepest-depth.branch [
      | depth::depth_of_members-then-deepest-depth w ↦ omega (arith, grown, w.deepest-is, w.if-deepest-depth.true, c.depth-depth.ensures, c.loop-value.invariant)
      | depth::depth_of_members-else-deepest-depth w ↦ omega (arith, grown, w.deepest-is, w.if-deepest-depth.false, c.depth-depth.ensures, c.loop-value.invariant)
    ]

pub value::Json::depth-returns-in-Map : goal.value::Json::depth-returns-in-Map
value::Json::depth-returns-in-Map t c =
    let is = ap depth (is_object _ _ c.in-Map.is) in
    let inside = ap (λ (ms : List (List ℕ × Json)). depth_of_members (members_view ms)) c.deref-in-Map.ensures.value in
    omega (arith, is, inside, c.saturating_add-in-Map.ensures, c.depth_of_members.ensures)
