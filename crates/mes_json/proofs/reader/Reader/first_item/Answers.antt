use Rattle.std.proofs.Common.{sym, ◌∙◌, ap}
use Rattle.mes_json.specs.Reader.{kind_view}
use Rattle.mes_json.proofs.NestingLemmas.{first_item_ends}
use Rattle.mes_json.proofs.reader.Reader.first_item.Goals as goal

pub returns-in-ClosingArray-clause-gives : goal.returns-in-ClosingArray-clause-gives
returns-in-ClosingArray-clause-gives c =
    (first_item_ends c.args.self.now c.leave.new.self c.leave.result c.args.byte c.requires.fits c.requires.at
    (sym c.of.ensures ∙ ap (kind_view c.args.byte) c.in-ClosingArray.is) c.leave.ensures.ok c.leave.ensures.err).0

pub returns-in-ClosingArray-clause-fits : goal.returns-in-ClosingArray-clause-fits
returns-in-ClosingArray-clause-fits c =
    (first_item_ends c.args.self.now c.leave.new.self c.leave.result c.args.byte c.requires.fits c.requires.at
    (sym c.of.ensures ∙ ap (kind_view c.args.byte) c.in-ClosingArray.is) c.leave.ensures.ok c.leave.ensures.err).1
