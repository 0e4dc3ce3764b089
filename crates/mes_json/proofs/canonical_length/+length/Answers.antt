use Rattle.std.proofs.Common.{◌+◌, ◌-◌, length, take, drop, arith}
use Rattle.mes_json.proofs.LengthLemmas.{items_grow, items_front, items_split, members_grow, members_front, members_split}
use Rattle.mes_json.proofs.canonical_length.+length.Goals as goal

pub capacity_after_items-returns-in_err-checked_sub-clause-none : goal.capacity_after_items-returns-in_err-checked_sub-clause-none
capacity_after_items-returns-in_err-checked_sub-clause-none t c =
    let rest = take (length c.args.items.now - 1) (drop 1 c.args.items.now) in
    let at = c.loop-item.item-index in
    rw c.from_residual-in_err-checked_sub.ensures (omega (
      arith,
      items_split c.args.items.now c.first-item.result c.in-len1-up.len_at_least c.first-item.is,
      items_grow rest c.item-item.result at c.loop-item-test.true c.item-item.is,
      items_front rest (at + 1),
      c.loop-item.invariant,
      c.in_ok-free.ensures.some,
      c.in_err-checked_sub.ensures,
    ))

pub capacity_after_items-returns-in_err-free-2-clause-none : goal.capacity_after_items-returns-in_err-free-2-clause-none
capacity_after_items-returns-in_err-free-2-clause-none t c =
    let rest = take (length c.args.items.now - 1) (drop 1 c.args.items.now) in
    let at = c.loop-item.item-index in
    rw c.from_residual-in_err-free-2.ensures (omega (
      arith,
      items_split c.args.items.now c.first-item.result c.in-len1-up.len_at_least c.first-item.is,
      items_grow rest c.item-item.result at c.loop-item-test.true c.item-item.is,
      items_front rest (at + 1),
      c.loop-item.invariant,
      c.in_ok-free.ensures.some,
      c.in_ok-checked_sub.ensures,
      c.in_err-free-2.ensures.none,
    ))

pub capacity_after_items-loop-item-preserved : goal.capacity_after_items-loop-item-preserved
capacity_after_items-loop-item-preserved t c =
    let rest = take (length c.args.items.now - 1) (drop 1 c.args.items.now) in
    omega (
      arith,
      items_grow rest c.item-item.result c.loop-item.item-index c.loop-item-test.true c.item-item.is,
      c.loop-item.invariant,
      c.in_ok-checked_sub.ensures,
      c.in_ok-free-2.ensures.some,
    )

pub capacity_after_members-returns-in_err-checked_sub-clause-none : goal.capacity_after_members-returns-in_err-checked_sub-clause-none
capacity_after_members-returns-in_err-checked_sub-clause-none t c =
    let rest = take (length c.args.members.now - 1) (drop 1 c.args.members.now) in
    let at = c.loop-name.name-index in
    rw c.from_residual-in_err-checked_sub.ensures (omega (
      arith,
      members_split c.args.members.now c.index-members-0.result c.index-members-0-2.result c.in-len1-up.len_at_least,
      members_grow rest c.loop-name-item.result at c.loop-name-test.true c.loop-name-item.is,
      members_front rest (at + 1),
      c.loop-name.invariant,
      c.in_ok-free.ensures.some,
      c.in_err-checked_sub.ensures,
    ))

pub capacity_after_members-returns-in_err-free-2-clause-none : goal.capacity_after_members-returns-in_err-free-2-clause-none
capacity_after_members-returns-in_err-free-2-clause-none t c =
    let rest = take (length c.args.members.now - 1) (drop 1 c.args.members.now) in
    let at = c.loop-name.name-index in
    rw c.from_residual-in_err-free-2.ensures (omega (
      arith,
      members_split c.args.members.now c.index-members-0.result c.index-members-0-2.result c.in-len1-up.len_at_least,
      members_grow rest c.loop-name-item.result at c.loop-name-test.true c.loop-name-item.is,
      members_front rest (at + 1),
      c.loop-name.invariant,
      c.in_ok-free.ensures.some,
      c.in_ok-checked_sub.ensures,
      c.in_err-free-2.ensures.none,
    ))

pub capacity_after_members-loop-name-preserved : goal.capacity_after_members-loop-name-preserved
capacity_after_members-loop-name-preserved t c =
    let rest = take (length c.args.members.now - 1) (drop 1 c.args.members.now) in
    omega (
      arith,
      members_grow rest c.loop-name-item.result c.loop-name.name-index c.loop-name-test.true c.loop-name-item.is,
      c.loop-name.invariant,
      c.in_ok-checked_sub.ensures,
      c.in_ok-free-2.ensures.some,
    )
