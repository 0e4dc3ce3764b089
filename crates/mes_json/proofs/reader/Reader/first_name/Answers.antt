use Rattle.std.proofs.Common.{sym, ◌∙◌, ap}
use Rattle.mes_json.specs.Reader.{kind_view}
use Rattle.mes_json.proofs.NestingLemmas.{first_name_ends}
use Rattle.mes_json.proofs.StringLemmas.{name_begins}
use Rattle.mes_json.proofs.reader.Reader.first_name.Goals as goal

pub returns-in-Quote-clause-fits : goal.returns-in-Quote-clause-fits
returns-in-Quote-clause-fits c = name_begins c.args.self.now c.begin.new.self c.requires.fits c.requires.at c.begin.ensures

pub returns-in-Closing-clause-gives : goal.returns-in-Closing-clause-gives
returns-in-Closing-clause-gives c =
    (first_name_ends c.args.self.now c.leave.new.self c.leave.result c.args.byte c.requires.fits c.requires.at
    (sym c.of.ensures ∙ ap (kind_view c.args.byte) c.in-Closing.is) c.leave.ensures.ok c.leave.ensures.err).0

pub returns-in-Closing-clause-fits : goal.returns-in-Closing-clause-fits
returns-in-Closing-clause-fits c =
    (first_name_ends c.args.self.now c.leave.new.self c.leave.result c.args.byte c.requires.fits c.requires.at
    (sym c.of.ensures ∙ ap (kind_view c.args.byte) c.in-Closing.is) c.leave.ensures.ok c.leave.ensures.err).1
