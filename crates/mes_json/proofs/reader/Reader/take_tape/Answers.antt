use Rattle.std.proofs.Common.{◌∙◌, ap}
use Rattle.mes_json.specs.Texts.{Texts}
use Rattle.mes_json.specs.Cursor.{tokens_held}
use Rattle.mes_json.proofs.WholeLemmas.{tape_found, tape_spans}
use Rattle.mes_json.proofs.reader.Reader.take_tape.Goals as goal

pub new-requires-then-branch-clause-spans : goal.new-requires-then-branch-clause-spans
new-requires-then-branch-clause-spans c =
    rw c.replace-text.ensures.value
    (c.take-nodes.ensures.spans c.ends.new.self.text.items (tape_spans c.ends.new.self c.in_ok-ends.field-0 _ c.if-branch.true c.in_ok-ends.ensures.ok))

pub returns-then-branch-clause-ok : goal.returns-then-branch-clause-ok
returns-then-branch-clause-ok c =
    tape_found c.ends.new.self c.in_ok-ends.field-0 _ c.new-then-branch.result c.if-branch.true c.in_ok-ends.ensures.ok
    (c.new-then-branch.ensures ∙ ap (λ (t : Texts). tokens_held t.items c.take-nodes.result.items) c.replace-text.ensures.value
    ∙ c.take-nodes.ensures.held c.ends.new.self.text.items)
