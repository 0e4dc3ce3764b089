use Rattle.std.proofs.Common.{rules}
use Rattle.mes_double_http.proofs.FieldLemmas.{same-is, follows-start, follows-one, follows-other, follows-again, follows-end}
use Rattle.mes_double_http.proofs.fields.find_field.Goals as goal
use Rattle.mes_double_http.proofs.fields.find_field.Goals.{then-same_text+in-Nothing, else-same_text}

pub loop-header-init : goal.loop-header-init
loop-header-init c = follows-start _ _ _

pub returns-in_default : goal.returns-in_default
returns-in_default c =
    follows-again c.loop-header.found c.args.name.now c.args.bytes.now c.args.headers.now c.loop-header.header-index c.loop-header-test.true
    (same-is c.of.result.now _ _ c.same_text.result _ c.same_text.ensures c.of.ensures c.if-same_text.true) c.in_default.not-Nothing c.loop-header.invariant

pub loop-header-preserved : goal.loop-header-preserved
loop-header-preserved c =
    elim c.if-same_text.branch [
      | then-same_text+in-Nothing w ↦
          rw w.found-is (follows-one c.args.name.now c.args.bytes.now c.args.headers.now c.loop-header.header-index w.of-in-Nothing.result c.loop-header-test.true
          (same-is c.of.result.now _ _ c.same_text.result _ c.same_text.ensures c.of.ensures w.if-same_text.true) w.of-in-Nothing.ensures
          (rw w.in-Nothing.is at c.loop-header.invariant))
      | else-same_text w ↦
          rw w.found-is (follows-other c.loop-header.found c.args.name.now c.args.bytes.now c.args.headers.now c.loop-header.header-index c.loop-header-test.true
          (same-is c.of.result.now _ _ c.same_text.result _ c.same_text.ensures c.of.ensures w.if-same_text.false) c.loop-header.invariant)
    ]

pub returns : goal.returns
returns c = follows-end _ _ _ _ c.loop-header.header-index (search rules) c.loop-header.invariant
