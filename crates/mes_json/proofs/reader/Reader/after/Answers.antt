use Rattle.std.proofs.Common.{sym, ◌∙◌, ap, Some}
use Rattle.mes_json.specs.Reader.{kind_view}
use Rattle.mes_json.specs.declared.nesting.Open.{Open}
use Rattle.mes_json.proofs.AfterLemmas.{object_ends, array_ends, name_follows, item_follows, nothing_follows, no_object, no_array}
use Rattle.mes_json.proofs.reader.Reader.after.Goals as goal

pub returns-in-Some-Object-clause-fits : goal.returns-in-Some-Object-clause-fits
returns-in-Some-Object-clause-fits c = name_follows c.args.self.now c.requires.fits c.requires.at (sym c.innermost.ensures ∙ c.in-Some-Object.is ∙ ap (λ (o : Open). Some o) c.in-Some-Object.field-0-is)

pub returns-in-Some-Array-clause-gives : goal.returns-in-Some-Array-clause-gives
returns-in-Some-Array-clause-gives c =
    (item_follows c.args.self.now c.args.byte c.requires.fits c.requires.at (sym c.innermost.ensures ∙ c.in-Some-Array.is ∙ ap (λ (o : Open). Some o) c.in-Some-Array.field-0-is)
    (sym c.of.ensures ∙ ap (kind_view c.args.byte) c.in-Comma.is)).0

pub returns-in-Some-Array-clause-fits : goal.returns-in-Some-Array-clause-fits
returns-in-Some-Array-clause-fits c =
    (item_follows c.args.self.now c.args.byte c.requires.fits c.requires.at (sym c.innermost.ensures ∙ c.in-Some-Array.is ∙ ap (λ (o : Open). Some o) c.in-Some-Array.field-0-is)
    (sym c.of.ensures ∙ ap (kind_view c.args.byte) c.in-Comma.is)).1

pub returns-in-None-clause-gives : goal.returns-in-None-clause-gives
returns-in-None-clause-gives c =
    nothing_follows c.args.self.now c.args.byte c.requires.fits c.requires.at (sym c.innermost.ensures ∙ c.in-None.is)
    (sym c.of.ensures ∙ ap (kind_view c.args.byte) c.in-Comma.is)

pub returns-in-Some-Object-innermost-clause-gives : goal.returns-in-Some-Object-innermost-clause-gives
returns-in-Some-Object-innermost-clause-gives c =
    (object_ends c.args.self.now c.leave.new.self c.leave.result c.args.byte c.requires.fits c.requires.at (sym c.innermost-in-Closing.ensures ∙ c.in-Some-Object-innermost.is ∙ ap (λ (o : Open). Some o) c.in-Some-Object-innermost.field-0-is)
    (sym c.of.ensures ∙ ap (kind_view c.args.byte) c.in-Closing.is) c.leave.ensures.ok c.leave.ensures.err).0

pub returns-in-Some-Object-innermost-clause-fits : goal.returns-in-Some-Object-innermost-clause-fits
returns-in-Some-Object-innermost-clause-fits c =
    (object_ends c.args.self.now c.leave.new.self c.leave.result c.args.byte c.requires.fits c.requires.at (sym c.innermost-in-Closing.ensures ∙ c.in-Some-Object-innermost.is ∙ ap (λ (o : Open). Some o) c.in-Some-Object-innermost.field-0-is)
    (sym c.of.ensures ∙ ap (kind_view c.args.byte) c.in-Closing.is) c.leave.ensures.ok c.leave.ensures.err).1

pub returns-in-Some-Array-innermost-clause-gives : goal.returns-in-Some-Array-innermost-clause-gives
returns-in-Some-Array-innermost-clause-gives c =
    no_object c.args.self.now c.args.byte _ c.requires.fits c.requires.at (sym c.innermost-in-Closing.ensures ∙ c.in-Some-Array-innermost.is ∙ ap (λ (o : Open). Some o) c.in-Some-Array-innermost.field-0-is) tt
    (sym c.of.ensures ∙ ap (kind_view c.args.byte) c.in-Closing.is)

pub returns-in-None-innermost-clause-gives : goal.returns-in-None-innermost-clause-gives
returns-in-None-innermost-clause-gives c =
    no_object c.args.self.now c.args.byte _ c.requires.fits c.requires.at (sym c.innermost-in-Closing.ensures ∙ c.in-None-innermost.is) tt
    (sym c.of.ensures ∙ ap (kind_view c.args.byte) c.in-Closing.is)

pub returns-in-Some-Array-innermost-2-clause-gives : goal.returns-in-Some-Array-innermost-2-clause-gives
returns-in-Some-Array-innermost-2-clause-gives c =
    (array_ends c.args.self.now c.leave-in-Some-Array-innermost-2.new.self c.leave-in-Some-Array-innermost-2.result c.args.byte c.requires.fits c.requires.at
    (sym c.innermost-in-ClosingArray.ensures ∙ c.in-Some-Array-innermost-2.is ∙ ap (λ (o : Open). Some o) c.in-Some-Array-innermost-2.field-0-is)
    (sym c.of.ensures ∙ ap (kind_view c.args.byte) c.in-ClosingArray.is) c.leave-in-Some-Array-innermost-2.ensures.ok c.leave-in-Some-Array-innermost-2.ensures.err).0

pub returns-in-Some-Array-innermost-2-clause-fits : goal.returns-in-Some-Array-innermost-2-clause-fits
returns-in-Some-Array-innermost-2-clause-fits c =
    (array_ends c.args.self.now c.leave-in-Some-Array-innermost-2.new.self c.leave-in-Some-Array-innermost-2.result c.args.byte c.requires.fits c.requires.at
    (sym c.innermost-in-ClosingArray.ensures ∙ c.in-Some-Array-innermost-2.is ∙ ap (λ (o : Open). Some o) c.in-Some-Array-innermost-2.field-0-is)
    (sym c.of.ensures ∙ ap (kind_view c.args.byte) c.in-ClosingArray.is) c.leave-in-Some-Array-innermost-2.ensures.ok c.leave-in-Some-Array-innermost-2.ensures.err).1

pub returns-in-Some-Object-innermost-2-clause-gives : goal.returns-in-Some-Object-innermost-2-clause-gives
returns-in-Some-Object-innermost-2-clause-gives c =
    no_array c.args.self.now c.args.byte _ c.requires.fits c.requires.at (sym c.innermost-in-ClosingArray.ensures ∙ c.in-Some-Object-innermost-2.is ∙ ap (λ (o : Open). Some o) c.in-Some-Object-innermost-2.field-0-is) tt
    (sym c.of.ensures ∙ ap (kind_view c.args.byte) c.in-ClosingArray.is)

pub returns-in-None-innermost-2-clause-gives : goal.returns-in-None-innermost-2-clause-gives
returns-in-None-innermost-2-clause-gives c =
    no_array c.args.self.now c.args.byte _ c.requires.fits c.requires.at (sym c.innermost-in-ClosingArray.ensures ∙ c.in-None-innermost-2.is) tt
    (sym c.of.ensures ∙ ap (kind_view c.args.byte) c.in-ClosingArray.is)
