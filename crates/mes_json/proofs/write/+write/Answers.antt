use Rattle.std.proofs.Common.{◌≡◌, List, ℕ, true, false, ◌++◌, ap, sym, ◌∙◌, subst}
use Rattle.std.proofs.lemmas.Result.{IfOk-from_err}
use Rattle.mes_json.specs.Tree.Tree.{null, boolean, number, string}
use Rattle.mes_json.specs.Canonical.{quoted_text, canonical, canonical_items, canonical_members}
use Rattle.mes_json.specs.View.{view, items_view, members_view}
use Rattle.mes_json.specs.Writable.{AreWritable, AreWritableMembers}
use Rattle.mes_json.specs.declared.value.Json.{Json}
use Rattle.mes_json.proofs.ViewLemmas.{is_null, is_boolean, is_number, is_string, is_array, is_object}
use Rattle.mes_json.proofs.WriteLemmas.{extended, extends_then, ok_map, between, item_written, item_writable, member_written, member_writable, items_written, items_writable, members_written, members_writable, tree_written, tree_writable, always, after_colon, extends_itself, no_items_written, no_items_writable, no_members_written, no_members_writable}
use Rattle.mes_json.proofs.write.+write.Goals as goal

-- Every `ensures` has a proof here. `search` finds most of them, but is slow on these goals.

-- ---- the contract of `write_value`
pub write_value-returns-in-Null : goal.write_value-returns-in-Null
write_value-returns-in-Null t c = record {
  written = tree_written c.append.result _ null _ _ (is_null _ c.in-Null.is) c.append.ensures.written;
  writable = tree_writable c.append.result _ null (is_null _ c.in-Null.is) (always c.append.result tt);
  front = c.append.ensures.front;
}

pub write_value-returns-in-Bool-true : goal.write_value-returns-in-Bool-true
write_value-returns-in-Bool-true t c =
    let is : view c.args.json.now ≡ boolean true = is_boolean _ _ c.in-Bool-true.is ∙ ap boolean (sym c.in-Bool-true.field-0-is ∙ c.in-Bool-true.field-0-test) in
    record {
      written = tree_written c.append-in-Bool-true.result _ (boolean true) _ _ is c.append-in-Bool-true.ensures.written;
      writable = tree_writable c.append-in-Bool-true.result _ (boolean true) is (always c.append-in-Bool-true.result tt);
      front = c.append-in-Bool-true.ensures.front;
    }

pub write_value-returns-in-Bool-false : goal.write_value-returns-in-Bool-false
write_value-returns-in-Bool-false t c =
    let is : view c.args.json.now ≡ boolean false = is_boolean _ _ c.in-Bool-false.is ∙ ap boolean (sym c.in-Bool-false.field-0-is ∙ c.in-Bool-false.field-0-test) in
    record {
      written = tree_written c.append-in-Bool-false.result _ (boolean false) _ _ is c.append-in-Bool-false.ensures.written;
      writable = tree_writable c.append-in-Bool-false.result _ (boolean false) is (always c.append-in-Bool-false.result tt);
      front = c.append-in-Bool-false.ensures.front;
    }

pub write_value-returns-in-Num : goal.write_value-returns-in-Num
write_value-returns-in-Num t c = record {
  written = tree_written c.append-in-Num.result _ (number c.in-Num.number) _ _ (is_number _ _ c.in-Num.is)
      (ok_map c.append-in-Num.result (λ _ h. h ∙ ap (λ (x : List ℕ). c.args.out.now.items ++ x) (c.as_bytes.ensures.value ∙ c.as_str.ensures.text)) c.append-in-Num.ensures.written);
  writable = tree_writable c.append-in-Num.result _ (number c.in-Num.number) (is_number _ _ c.in-Num.is) (always c.append-in-Num.result c.as_str.ensures.number);
  front = c.append-in-Num.ensures.front;
}

pub write_value-returns-in-Text : goal.write_value-returns-in-Text
write_value-returns-in-Text t c = record {
  written = tree_written c.write_quoted.result _ (string c.in-Text.text) _ _ (is_string _ _ c.in-Text.is) c.write_quoted.ensures.written;
  writable = tree_writable c.write_quoted.result _ (string c.in-Text.text) (is_string _ _ c.in-Text.is) c.write_quoted.ensures.utf8;
  front = c.write_quoted.ensures.front;
}

pub write_value-returns-in_err-append-in-List : goal.write_value-returns-in_err-append-in-List
write_value-returns-in_err-append-in-List t c = record {
  written = IfOk-from_err c.from_residual.result _ c.from_residual.ensures.0;
  writable = IfOk-from_err c.from_residual.result _ c.from_residual.ensures.0;
  front = c.append-in-List.ensures.front;
}

pub write_value-returns-in_err-write_items-in-List : goal.write_value-returns-in_err-write_items-in-List
write_value-returns-in_err-write_items-in-List t c = record {
  written = IfOk-from_err c.from_residual-in_err-write_items-in-List.result _ c.from_residual-in_err-write_items-in-List.ensures.0;
  writable = IfOk-from_err c.from_residual-in_err-write_items-in-List.result _ c.from_residual-in_err-write_items-in-List.ensures.0;
  front = extends_then _ _ _ c.append-in-List.ensures.front c.write_items.ensures.front;
}

pub write_value-returns-in_ok-write_items-in-List-clause-written : goal.write_value-returns-in_ok-write_items-in-List-clause-written
write_value-returns-in_ok-write_items-in-List-clause-written t c =
    ok_map c.append-in-List-2.result (λ x h.
    between c.args.out.now.items (canonical_items (items_view c.in-List.items.items)) 91 93 _ _ _ c.in_ok-append-in-List.ensures.written
    (c.in_ok-write_items-in-List.ensures.written ∙ ap (λ (ts : List Json). c.append-in-List.new.out.items ++ canonical_items (items_view ts)) c.deref.ensures.value) h
    ∙ ap (λ t. c.args.out.now.items ++ canonical t) (sym (is_array _ _ c.in-List.is)))
    c.append-in-List-2.ensures.written

pub write_value-returns-in_ok-write_items-in-List-clause-writable : goal.write_value-returns-in_ok-write_items-in-List-clause-writable
write_value-returns-in_ok-write_items-in-List-clause-writable t c =
    tree_writable c.append-in-List-2.result _ _ (is_array _ _ c.in-List.is)
    (always c.append-in-List-2.result (subst (λ (ts : List Json). AreWritable (items_view ts)) c.deref.ensures.value c.in_ok-write_items-in-List.ensures.writable))

pub write_value-returns-in_ok-write_items-in-List-clause-front : goal.write_value-returns-in_ok-write_items-in-List-clause-front
write_value-returns-in_ok-write_items-in-List-clause-front t c = extends_then _ _ _ (extends_then _ _ _ c.append-in-List.ensures.front c.write_items.ensures.front) c.append-in-List-2.ensures.front

pub write_value-returns-in_err-append-in-Map : goal.write_value-returns-in_err-append-in-Map
write_value-returns-in_err-append-in-Map t c = record {
  written = IfOk-from_err c.from_residual-in_err-append-in-Map.result _ c.from_residual-in_err-append-in-Map.ensures.0;
  writable = IfOk-from_err c.from_residual-in_err-append-in-Map.result _ c.from_residual-in_err-append-in-Map.ensures.0;
  front = c.append-in-Map.ensures.front;
}

pub write_value-returns-in_err-write_members-in-Map : goal.write_value-returns-in_err-write_members-in-Map
write_value-returns-in_err-write_members-in-Map t c = record {
  written = IfOk-from_err c.from_residual-in_err-write_members-in-Map.result _ c.from_residual-in_err-write_members-in-Map.ensures.0;
  writable = IfOk-from_err c.from_residual-in_err-write_members-in-Map.result _ c.from_residual-in_err-write_members-in-Map.ensures.0;
  front = extends_then _ _ _ c.append-in-Map.ensures.front c.write_members.ensures.front;
}

pub write_value-returns-in_ok-write_members-in-Map-clause-written : goal.write_value-returns-in_ok-write_members-in-Map-clause-written
write_value-returns-in_ok-write_members-in-Map-clause-written t c =
    ok_map c.append-in-Map-2.result (λ x h.
    between c.args.out.now.items (canonical_members (members_view c.in-Map.members.items)) 123 125 _ _ _ c.in_ok-append-in-Map.ensures.written
    (c.in_ok-write_members-in-Map.ensures.written ∙ ap (λ (ts : List (List ℕ × Json)). c.append-in-Map.new.out.items ++ canonical_members (members_view ts)) c.deref-in-Map.ensures.value) h
    ∙ ap (λ t. c.args.out.now.items ++ canonical t) (sym (is_object _ _ c.in-Map.is)))
    c.append-in-Map-2.ensures.written

pub write_value-returns-in_ok-write_members-in-Map-clause-writable : goal.write_value-returns-in_ok-write_members-in-Map-clause-writable
write_value-returns-in_ok-write_members-in-Map-clause-writable t c =
    tree_writable c.append-in-Map-2.result _ _ (is_object _ _ c.in-Map.is)
    (always c.append-in-Map-2.result (subst (λ (ts : List (List ℕ × Json)). AreWritableMembers (members_view ts)) c.deref-in-Map.ensures.value c.in_ok-write_members-in-Map.ensures.writable))

pub write_value-returns-in_ok-write_members-in-Map-clause-front : goal.write_value-returns-in_ok-write_members-in-Map-clause-front
write_value-returns-in_ok-write_members-in-Map-clause-front t c = extends_then _ _ _ (extends_then _ _ _ c.append-in-Map.ensures.front c.write_members.ensures.front) c.append-in-Map-2.ensures.front

-- ---- the contract of `write_items`
pub write_items-returns-in_err-write_value : goal.write_items-returns-in_err-write_value
write_items-returns-in_err-write_value t c = record {
  written = IfOk-from_err c.from_residual.result _ c.from_residual.ensures.0;
  writable = IfOk-from_err c.from_residual.result _ c.from_residual.ensures.0;
  front = c.write_value.ensures.front;
}

pub write_items-loop-item-preserved : goal.write_items-loop-item-preserved
write_items-loop-item-preserved t c = (
  item_written _ c.item-item.result c.loop-item.item-index _ _ _ _ c.loop-item-test.true c.item-item.is c.loop-item.invariant.0 c.in_ok-append.ensures.written c.in_ok-write_value-2.ensures.written,
  item_writable _ c.item-item.result c.loop-item.item-index c.loop-item-test.true c.item-item.is c.loop-item.invariant.1 c.in_ok-write_value-2.ensures.writable,
)

pub write_items-returns-in_err-append : goal.write_items-returns-in_err-append
write_items-returns-in_err-append t c = record {
  written = IfOk-from_err c.from_residual-in_err-append.result _ c.from_residual-in_err-append.ensures.0;
  writable = IfOk-from_err c.from_residual-in_err-append.result _ c.from_residual-in_err-append.ensures.0;
  front = extends_then _ _ _ (extends_then _ _ _ c.write_value.ensures.front (extended _ _ _ c.loop-item.invariant.0)) c.append.ensures.front;
}

pub write_items-returns-in_err-write_value-2 : goal.write_items-returns-in_err-write_value-2
write_items-returns-in_err-write_value-2 t c = record {
  written = IfOk-from_err c.from_residual-in_err-write_value-2.result _ c.from_residual-in_err-write_value-2.ensures.0;
  writable = IfOk-from_err c.from_residual-in_err-write_value-2.result _ c.from_residual-in_err-write_value-2.ensures.0;
  front = extends_then _ _ _ (extends_then _ _ _ (extends_then _ _ _ c.write_value.ensures.front (extended _ _ _ c.loop-item.invariant.0)) c.append.ensures.front)
      c.write_value-in-loop-item.ensures.front;
}

pub write_items-returns-in_default : goal.write_items-returns-in_default
write_items-returns-in_default t c = record {
  written = no_items_written _ _ c.in_default.len_below;
  writable = no_items_writable _ c.in_default.len_below;
  front = extends_itself _;
}

pub write_items-returns-after-loop-item : goal.write_items-returns-after-loop-item
write_items-returns-after-loop-item t c = record {
  written = items_written c.args.items.now c.first-item.result c.loop-item.item-index _ _ _
      c.in-len1-up.len_at_least c.first-item.is c.loop-item-test.false c.in_ok-write_value.ensures.written c.loop-item.invariant.0;
  writable = items_writable c.args.items.now c.first-item.result c.loop-item.item-index c.first-item.is c.loop-item-test.false c.in_ok-write_value.ensures.writable c.loop-item.invariant.1;
  front = extends_then _ _ _ c.write_value.ensures.front (extended _ _ _ c.loop-item.invariant.0);
}

-- ---- the contract of `write_members`
pub write_members-returns-in_err-write_member : goal.write_members-returns-in_err-write_member
write_members-returns-in_err-write_member t c = record {
  written = IfOk-from_err c.from_residual.result _ c.from_residual.ensures.0;
  writable = IfOk-from_err c.from_residual.result _ c.from_residual.ensures.0;
  front = c.write_member.ensures.front;
}

pub write_members-loop-name-preserved : goal.write_members-loop-name-preserved
write_members-loop-name-preserved t c = (
  member_written _ c.loop-name-item.result c.loop-name.name-index _ _ _ _ c.loop-name-test.true c.loop-name-item.is c.loop-name.invariant.0 c.in_ok-append.ensures.written c.in_ok-write_member-2.ensures.written,
  member_writable _ c.loop-name-item.result c.loop-name.name-index c.loop-name-test.true c.loop-name-item.is c.loop-name.invariant.1 c.in_ok-write_member-2.ensures.writable,
)

pub write_members-returns-in_err-append : goal.write_members-returns-in_err-append
write_members-returns-in_err-append t c = record {
  written = IfOk-from_err c.from_residual-in_err-append.result _ c.from_residual-in_err-append.ensures.0;
  writable = IfOk-from_err c.from_residual-in_err-append.result _ c.from_residual-in_err-append.ensures.0;
  front = extends_then _ _ _ (extends_then _ _ _ c.write_member.ensures.front (extended _ _ _ c.loop-name.invariant.0)) c.append.ensures.front;
}

pub write_members-returns-in_err-write_member-2 : goal.write_members-returns-in_err-write_member-2
write_members-returns-in_err-write_member-2 t c = record {
  written = IfOk-from_err c.from_residual-in_err-write_member-2.result _ c.from_residual-in_err-write_member-2.ensures.0;
  writable = IfOk-from_err c.from_residual-in_err-write_member-2.result _ c.from_residual-in_err-write_member-2.ensures.0;
  front = extends_then _ _ _ (extends_then _ _ _ (extends_then _ _ _ c.write_member.ensures.front (extended _ _ _ c.loop-name.invariant.0)) c.append.ensures.front)
      c.write_member-in-loop-name.ensures.front;
}

pub write_members-returns-in_default : goal.write_members-returns-in_default
write_members-returns-in_default t c = record {
  written = no_members_written _ _ c.in_default.len_below;
  writable = no_members_writable _ c.in_default.len_below;
  front = extends_itself _;
}

pub write_members-returns-after-loop-name : goal.write_members-returns-after-loop-name
write_members-returns-after-loop-name t c = record {
  written = members_written c.args.members.now c.index-members-0.result c.index-members-0-2.result c.loop-name.name-index _ _ _
      c.in-len1-up.len_at_least c.loop-name-test.false c.in_ok-write_member.ensures.written c.loop-name.invariant.0;
  writable = members_writable c.args.members.now c.index-members-0.result c.index-members-0-2.result c.loop-name.name-index c.loop-name-test.false c.in_ok-write_member.ensures.writable c.loop-name.invariant.1;
  front = extends_then _ _ _ c.write_member.ensures.front (extended _ _ _ c.loop-name.invariant.0);
}

-- ---- the contract of `write_member`
pub write_member-returns-in_err-write_quoted : goal.write_member-returns-in_err-write_quoted
write_member-returns-in_err-write_quoted t c = record {
  written = IfOk-from_err c.from_residual.result _ c.from_residual.ensures.0;
  writable = IfOk-from_err c.from_residual.result _ c.from_residual.ensures.0;
  front = c.write_quoted.ensures.front;
}

pub write_member-returns-in_err-append : goal.write_member-returns-in_err-append
write_member-returns-in_err-append t c = record {
  written = IfOk-from_err c.from_residual-in_err-append.result _ c.from_residual-in_err-append.ensures.0;
  writable = IfOk-from_err c.from_residual-in_err-append.result _ c.from_residual-in_err-append.ensures.0;
  front = extends_then _ _ _ c.write_quoted.ensures.front c.append.ensures.front;
}

pub write_member-returns : goal.write_member-returns
write_member-returns t c = record {
  written =
      ok_map c.write_value.result (λ _ h. after_colon c.args.out.now.items (quoted_text c.args.name.now) _ _ _ _ c.in_ok-write_quoted.ensures.written c.in_ok-append.ensures.written h)
      c.write_value.ensures.written;
  writable = ok_map c.write_value.result (λ _ h. (c.in_ok-write_quoted.ensures.utf8, h)) c.write_value.ensures.writable;
  front = extends_then _ _ _ (extends_then _ _ _ c.write_quoted.ensures.front c.append.ensures.front) c.write_value.ensures.front;
}
