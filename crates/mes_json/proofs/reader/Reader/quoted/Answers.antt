use Rattle.std.proofs.Common.{sym, ◌∙◌, ap, option_map, [], ◌∷◌, arith}
use Rattle.mes_json.specs.Reader.{mid_view}
use Rattle.mes_json.specs.declared.utf8.Utf8State.TheVariants.{Between, Within}
use Rattle.mes_json.specs.declared.reader_state.ReaderState.TheVariants.{Quoted}
use Rattle.mes_json.proofs.StringLemmas.{string_ends, string_grows, between_reads, within_reads}
use Rattle.mes_json.proofs.reader.Reader.quoted.Goals as goal

pub returns-in-34-clause-gives : goal.returns-in-34-clause-gives
returns-in-34-clause-gives c =
    (string_ends c.args.purpose c.args.self.now c.end_string.new.self c.end_string.result c.args.byte c.requires.fits c.requires.reached
    (c.requires.at ∙ ap (Quoted c.args.purpose) c.in-Between.is) c.in-34.is c.end_string.ensures.ok c.end_string.ensures.err).0

pub returns-in-34-clause-fits : goal.returns-in-34-clause-fits
returns-in-34-clause-fits c =
    (string_ends c.args.purpose c.args.self.now c.end_string.new.self c.end_string.result c.args.byte c.requires.fits c.requires.reached
    (c.requires.at ∙ ap (Quoted c.args.purpose) c.in-Between.is) c.in-34.is c.end_string.ensures.ok c.end_string.ensures.err).1

pub returns-in-Some-clause-gives : goal.returns-in-Some-clause-gives
returns-in-Some-clause-gives c =
    (string_grows c.args.purpose Between c.in-Some.next (c.args.byte ∷ []) c.args.self.now c.keep.new.self c.keep.result c.args.byte c.requires.fits
    (c.requires.at ∙ ap (Quoted c.args.purpose) c.in-Between.is)
    (between_reads c.args.byte c.in-Some.next (omega arith) (omega arith) (omega arith) (sym c.lead.ensures ∙ ap (option_map mid_view) c.in-Some.is))
    c.keep.ensures.ok c.keep.ensures.err).0

pub returns-in-Some-clause-fits : goal.returns-in-Some-clause-fits
returns-in-Some-clause-fits c =
    (string_grows c.args.purpose Between c.in-Some.next (c.args.byte ∷ []) c.args.self.now c.keep.new.self c.keep.result c.args.byte c.requires.fits
    (c.requires.at ∙ ap (Quoted c.args.purpose) c.in-Between.is)
    (between_reads c.args.byte c.in-Some.next (omega arith) (omega arith) (omega arith) (sym c.lead.ensures ∙ ap (option_map mid_view) c.in-Some.is))
    c.keep.ensures.ok c.keep.ensures.err).1

pub returns-else-byte-most-clause-gives : goal.returns-else-byte-most-clause-gives
returns-else-byte-most-clause-gives c =
    (string_grows c.args.purpose (Within c.in-Within.more c.in-Within.least c.in-Within.most) c.after.result (c.args.byte ∷ []) c.args.self.now c.keep-in-Within.new.self c.keep-in-Within.result c.args.byte c.requires.fits
    (c.requires.at ∙ ap (Quoted c.args.purpose) c.in-Within.is)
    (within_reads c.in-Within.more c.in-Within.least c.in-Within.most c.args.byte c.after.result c.if-byte-least.false c.if-byte-most.false c.after.ensures)
    c.keep-in-Within.ensures.ok c.keep-in-Within.ensures.err).0

pub returns-else-byte-most-clause-fits : goal.returns-else-byte-most-clause-fits
returns-else-byte-most-clause-fits c =
    (string_grows c.args.purpose (Within c.in-Within.more c.in-Within.least c.in-Within.most) c.after.result (c.args.byte ∷ []) c.args.self.now c.keep-in-Within.new.self c.keep-in-Within.result c.args.byte c.requires.fits
    (c.requires.at ∙ ap (Quoted c.args.purpose) c.in-Within.is)
    (within_reads c.in-Within.more c.in-Within.least c.in-Within.most c.args.byte c.after.result c.if-byte-least.false c.if-byte-most.false c.after.ensures)
    c.keep-in-Within.ensures.ok c.keep-in-Within.ensures.err).1
