use Rattle.std.proofs.Common.{sym, ◌∙◌, ap, encode_utf8}
use Rattle.mes_json.specs.EscapeView.{move_view}
use Rattle.mes_json.specs.declared.utf8.Utf8State.TheVariants.{Between, Escape as escape}
use Rattle.mes_json.proofs.StringLemmas.{string_grows, escape_reads, escape_known}
use Rattle.mes_json.proofs.reader.Reader.escaped.Goals as goal

pub step-requires : goal.step-requires
step-requires c = escape_known c.args.self.now c.args.purpose c.args.escape c.requires.fits c.requires.reached c.requires.at

pub returns-in-Makes-clause-gives : goal.returns-in-Makes-clause-gives
returns-in-Makes-clause-gives c =
    (string_grows c.args.purpose (escape c.args.escape) Between (encode_utf8 c.in-Makes.character) c.args.self.now c.keep_character.new.self c.keep_character.result c.args.byte
    c.requires.fits c.requires.at (escape_reads c.args.escape c.args.byte c.in-Makes.character (sym (ap move_view c.in-Makes.is) ∙ c.step.ensures))
    c.keep_character.ensures.ok c.keep_character.ensures.err).0

pub returns-in-Makes-clause-fits : goal.returns-in-Makes-clause-fits
returns-in-Makes-clause-fits c =
    (string_grows c.args.purpose (escape c.args.escape) Between (encode_utf8 c.in-Makes.character) c.args.self.now c.keep_character.new.self c.keep_character.result c.args.byte
    c.requires.fits c.requires.at (escape_reads c.args.escape c.args.byte c.in-Makes.character (sym (ap move_view c.in-Makes.is) ∙ c.step.ensures))
    c.keep_character.ensures.ok c.keep_character.ensures.err).1
