use Rattle.std.proofs.Common.{rules}
use Rattle.clap.specs.Words.{App, new_app, with_rule}
use Rattle.mesosev_args.specs.CommandLine.{IsCommand, calls_rule, chunked_rule, limit_rule, lines_rule}
use Rattle.mesosev_args.proofs.MoreOptions.{last, next}
use Rattle.mesosev_args.proofs.command.reading_command.Goals as goal

pub returns : goal.returns
returns c =
    let bare : App = new_app c.args.name.now in
    let chunked : App = with_rule bare chunked_rule in
    let lines : App = with_rule chunked lines_rule in
    let calls : App = with_rule lines calls_rule in
    let is_bare : IsCommand bare c.after_help.result = search rules in
    let is_chunked = next bare chunked_rule _ _ _ is_bare c.chunked_option.ensures.rule c.chunked_option.ensures.local c.in_ok-arg.ensures in
    let is_lines = next chunked lines_rule _ _ _ is_chunked c.lines_option.ensures.rule c.lines_option.ensures.local c.in_ok-arg-2.ensures in
    let is_calls = next lines calls_rule _ _ _ is_lines c.calls_option.ensures.rule c.calls_option.ensures.local c.in_ok-arg-3.ensures in
    last calls limit_rule _ _ c.arg-4.result is_calls c.limit_option.ensures.rule c.limit_option.ensures.local c.arg-4.ensures
