use Rattle.std.proofs.Common.{sym, ◌∙◌, ap, Some}
use Rattle.mes_json.specs.Reader.{kind_view}
use Rattle.mes_json.specs.declared.nesting.Open.{Open}
use Rattle.mes_json.proofs.AfterLemmas.{object_may_end, array_may_end}
use Rattle.mes_json.proofs.reader.Reader.may_follow.Goals as goal

pub returns-in-Some-Object-innermost : goal.returns-in-Some-Object-innermost
returns-in-Some-Object-innermost c = λ fs t are_open.
    object_may_end c.args.self.now.nesting.items fs t c.args.byte _ are_open
    (sym c.innermost-in-Closing.ensures ∙ c.in-Some-Object-innermost.is ∙ ap (λ (o : Open). Some o) c.in-Some-Object-innermost.field-0-is)
    (sym c.of.ensures ∙ ap (kind_view c.args.byte) c.in-Closing.is)

pub returns-in-Some-Array-innermost : goal.returns-in-Some-Array-innermost
returns-in-Some-Array-innermost c = λ fs t are_open.
    object_may_end c.args.self.now.nesting.items fs t c.args.byte _ are_open
    (sym c.innermost-in-Closing.ensures ∙ c.in-Some-Array-innermost.is ∙ ap (λ (o : Open). Some o) c.in-Some-Array-innermost.field-0-is)
    (sym c.of.ensures ∙ ap (kind_view c.args.byte) c.in-Closing.is)

pub returns-in-None-innermost : goal.returns-in-None-innermost
returns-in-None-innermost c = λ fs t are_open.
    object_may_end c.args.self.now.nesting.items fs t c.args.byte _ are_open
    (sym c.innermost-in-Closing.ensures ∙ c.in-None-innermost.is)
    (sym c.of.ensures ∙ ap (kind_view c.args.byte) c.in-Closing.is)

pub returns-in-Some-Array-innermost-2 : goal.returns-in-Some-Array-innermost-2
returns-in-Some-Array-innermost-2 c = λ fs t are_open.
    array_may_end c.args.self.now.nesting.items fs t c.args.byte _ are_open
    (sym c.innermost-in-ClosingArray.ensures ∙ c.in-Some-Array-innermost-2.is ∙ ap (λ (o : Open). Some o) c.in-Some-Array-innermost-2.field-0-is)
    (sym c.of.ensures ∙ ap (kind_view c.args.byte) c.in-ClosingArray.is)

pub returns-in-Some-Object-innermost-2 : goal.returns-in-Some-Object-innermost-2
returns-in-Some-Object-innermost-2 c = λ fs t are_open.
    array_may_end c.args.self.now.nesting.items fs t c.args.byte _ are_open
    (sym c.innermost-in-ClosingArray.ensures ∙ c.in-Some-Object-innermost-2.is ∙ ap (λ (o : Open). Some o) c.in-Some-Object-innermost-2.field-0-is)
    (sym c.of.ensures ∙ ap (kind_view c.args.byte) c.in-ClosingArray.is)

pub returns-in-None-innermost-2 : goal.returns-in-None-innermost-2
returns-in-None-innermost-2 c = λ fs t are_open.
    array_may_end c.args.self.now.nesting.items fs t c.args.byte _ are_open
    (sym c.innermost-in-ClosingArray.ensures ∙ c.in-None-innermost-2.is)
    (sym c.of.ensures ∙ ap (kind_view c.args.byte) c.in-ClosingArray.is)
