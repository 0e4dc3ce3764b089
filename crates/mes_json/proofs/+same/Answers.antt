use Rattle.std.proofs.Common.{ℕ, ◌<◌, length, List, ap, sym, ◌∙◌, arith}
use Rattle.mes_json.specs.Tree.Tree.{object}
use Rattle.mes_json.specs.View.{members_view}
use Rattle.mes_json.specs.declared.value.Json.{Json}
use Rattle.mes_json.proofs.ViewLemmas.{is_object}
use Rattle.mes_json.proofs.SameLemmas.{denied, holds, fails, as_many_items, same_item, one_more_item, as_many_members, same_name, same_value, one_more_member, same_object, names_differ, names_same}
use Rattle.mes_json.proofs.+same.Goals as goal
use Rattle.mes_json.proofs.+same.Goals.{equality::same_members-then-ne-via-then-ne, equality::same_members-then-ne-via-else-ne+then-not-same}

pub equality::same_items-returns-then-items-others : goal.equality::same_items-returns-then-items-others
equality::same_items-returns-then-items-others t c = denied (λ e. c.if-items-others.true (as_many_items _ _ e))

pub equality::same_items-returns-then-not-same : goal.equality::same_items-returns-then-not-same
equality::same_items-returns-then-not-same t c =
    let others : c.loop-at.at < length c.args.others.now = omega (arith, c.loop-at-test.true, c.if-items-others.false) in
    denied (λ e. fails c.same.result c.same.ensures c.if-not-same.true
    (same_item c.args.items.now c.args.others.now c.loop-at.at c.index-items-at.result c.index-others-at.result c.loop-at-test.true others c.index-items-at.is c.index-others-at.is e))

pub equality::same_items-loop-at-preserved : goal.equality::same_items-loop-at-preserved
equality::same_items-loop-at-preserved t c =
    one_more_item c.args.items.now c.args.others.now c.loop-at.at c.index-items-at.result c.index-others-at.result c.loop-at-test.true
    (omega (arith, c.loop-at-test.true, c.if-items-others.false)) c.index-items-at.is c.index-others-at.is c.loop-at.invariant (holds c.same.result c.same.ensures c.if-not-same.false)

pub equality::same_members-returns-then-members-others : goal.equality::same_members-returns-then-members-others
equality::same_members-returns-then-members-others t c = denied (λ e. c.if-members-others.true (as_many_members _ _ e))

pub equality::same_members-returns-then-ne : goal.equality::same_members-returns-then-ne
equality::same_members-returns-then-ne t c =
    let others : c.loop-at.at < length c.args.others.now = omega (arith, c.loop-at-test.true, c.if-members-others.false) in
    elim c.then-ne.branch [
      | equality::same_members-then-ne-via-then-ne w ↦ denied (λ e. names_differ c.ne.result _ _ c.ne.ensures w.if-ne.true
          (same_name c.args.members.now c.args.others.now c.loop-at.at c.index-members-at.result c.index-others-at.result c.loop-at-test.true others e))
      | equality::same_members-then-ne-via-else-ne+then-not-same w ↦ denied (λ e. fails w.same.result w.same.ensures w.if-not-same.true
          (same_value c.args.members.now c.args.others.now c.loop-at.at w.index-members-at-else-ne.result w.index-others-at-else-ne.result c.loop-at-test.true others e))
    ]

pub equality::same_members-loop-at-preserved : goal.equality::same_members-loop-at-preserved
equality::same_members-loop-at-preserved t c =
    one_more_member c.args.members.now c.args.others.now c.loop-at.at c.index-members-at.result c.index-others-at.result c.index-members-at-else-ne.result c.index-others-at-else-ne.result
    c.loop-at-test.true (omega (arith, c.loop-at-test.true, c.if-members-others.false)) c.loop-at.invariant
    (names_same c.ne.result _ _ c.ne.ensures c.if-ne.false) (holds c.same.result c.same.ensures c.if-not-same.false)

pub value::Json::same-returns-in-Map-other : goal.value::Json::same-returns-in-Map-other
value::Json::same-returns-in-Map-other t c =
    same_object c.same_members.result _ _ _ _
    (is_object _ _ c.in-Map.is ∙ ap (λ (ms : List (List ℕ × Json)). object (members_view ms)) (sym c.deref-in-Map-other.ensures.value))
    (is_object _ _ c.in-Map-other.is ∙ ap (λ (ms : List (List ℕ × Json)). object (members_view ms)) (sym c.deref-in-Map-other-2.ensures.value))
    c.same_members.ensures
