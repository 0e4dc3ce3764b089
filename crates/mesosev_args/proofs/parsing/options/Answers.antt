use Rattle.std.proofs.Common.{◌≡◌, ◌∙◌, List, Some, map, rules, sym, Err}
use Rattle.clap.specs.Words.{Row, Text, found_of, rows_of, subcommand_of}
use Rattle.mesosev_args.specs.CommandLine.{command_app}
use Rattle.mesosev_args.specs.declared.args.WordsFault.TheVariants.{BadValue}
use Rattle.mesosev_args.proofs.ReadLemmas.{read_named, read_refused, subcommand_read}
use Rattle.mesosev_args.proofs.SaidLemmas.{plain_answer}
use Rattle.mesosev_args.proofs.parsing.options.Goals as goal

pub returns-in_err-matches-clause-plain : goal.returns-in_err-matches-clause-plain
returns-in_err-matches-clause-plain g c =
    plain_answer (map g.S.AsStr.text c.args.words.now) c.from_residual.result (search rules) (search rules)

pub returns-in-Some-clause-plain : goal.returns-in-Some-clause-plain
returns-in-Some-clause-plain g c =
    let words : List Text = map g.S.AsStr.text c.args.words.now in
    let read : Text × List Row = (c.in-Some.name.now, rows_of (found_of c.in-Some.found.now)) in
    let is : subcommand_of command_app words ≡ Some read =
    sym c.in_ok-matches.ensures.named ∙ subcommand_read c.in_ok-matches.matches read.0 read.1 c.in-Some.ensures.name c.in-Some.ensures.rows in
    plain_answer words c.read.result (read_named words read is c.read.result c.read.ensures)
    (read_refused words read is c.read.result c.read.ensures c.in_ok-matches.ensures.ok)

pub returns-clause-plain : goal.returns-clause-plain
returns-clause-plain g c =
    plain_answer (map g.S.AsStr.text c.args.words.now) (Err (BadValue _)) (search rules) (search rules)
