use Rattle.std.proofs.Common.{sym, ◌∙◌, ap}
use Rattle.mes_json.specs.Reader.{kind_view}
use Rattle.mes_json.specs.declared.nesting.Open.TheVariants.{Object, Array}
use Rattle.mes_json.proofs.NestingLemmas.{entered}
use Rattle.mes_json.proofs.StringLemmas.{text_begins}
use Rattle.mes_json.proofs.TokenLemmas.{number_begins}
use Rattle.mes_json.proofs.reader.Reader.value.Goals as goal

pub returns-in-Quote-clause-fits : goal.returns-in-Quote-clause-fits
returns-in-Quote-clause-fits c = text_begins c.args.self.now c.begin.new.self c.requires.fits c.requires.at c.begin.ensures

pub returns-in-Opening-clause-gives : goal.returns-in-Opening-clause-gives
returns-in-Opening-clause-gives c =
    (entered Object c.args.self.now c.enter.new.self c.enter.result c.args.byte c.requires.fits c.requires.at
    (sym c.of.ensures ∙ ap (kind_view c.args.byte) c.in-Opening.is) c.enter.ensures).0

pub returns-in-Opening-clause-fits : goal.returns-in-Opening-clause-fits
returns-in-Opening-clause-fits c =
    (entered Object c.args.self.now c.enter.new.self c.enter.result c.args.byte c.requires.fits c.requires.at
    (sym c.of.ensures ∙ ap (kind_view c.args.byte) c.in-Opening.is) c.enter.ensures).1

pub returns-in-OpeningArray-clause-gives : goal.returns-in-OpeningArray-clause-gives
returns-in-OpeningArray-clause-gives c =
    (entered Array c.args.self.now c.enter-in-OpeningArray.new.self c.enter-in-OpeningArray.result c.args.byte c.requires.fits c.requires.at
    (sym c.of.ensures ∙ ap (kind_view c.args.byte) c.in-OpeningArray.is) c.enter-in-OpeningArray.ensures).0

pub returns-in-OpeningArray-clause-fits : goal.returns-in-OpeningArray-clause-fits
returns-in-OpeningArray-clause-fits c =
    (entered Array c.args.self.now c.enter-in-OpeningArray.new.self c.enter-in-OpeningArray.result c.args.byte c.requires.fits c.requires.at
    (sym c.of.ensures ∙ ap (kind_view c.args.byte) c.in-OpeningArray.is) c.enter-in-OpeningArray.ensures).1

pub returns-in-Digits-clause-gives : goal.returns-in-Digits-clause-gives
returns-in-Digits-clause-gives c =
    (number_begins c.args.self.now c.begin_number.new.self c.begin_number.result c.args.byte c.in-Digits.part c.requires.fits c.requires.at
    (sym c.of.ensures ∙ ap (kind_view c.args.byte) c.in-Digits.is) c.begin_number.ensures.ok c.begin_number.ensures.err).0

pub returns-in-Digits-clause-fits : goal.returns-in-Digits-clause-fits
returns-in-Digits-clause-fits c =
    (number_begins c.args.self.now c.begin_number.new.self c.begin_number.result c.args.byte c.in-Digits.part c.requires.fits c.requires.at
    (sym c.of.ensures ∙ ap (kind_view c.args.byte) c.in-Digits.is) c.begin_number.ensures.ok c.begin_number.ensures.err).1
