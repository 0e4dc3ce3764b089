use Rattle.std.specs.Prelude.{codes}
use Rattle.clap.specs.Words.{App, new_app, with_rule}
use Rattle.mesosev_args.specs.CommandLine.{json_rule, name_rule, reads_rule, to_rule, user_rule}
use Rattle.mesosev_args.proofs.MoreOptions.{last, next}
use Rattle.mesosev_args.proofs.subscribe.command.Goals as goal

pub returns : goal.returns
returns c =
    let bare : App = new_app (codes "subscribe") in
    let to : App = with_rule bare to_rule in
    let user : App = with_rule to user_rule in
    let name : App = with_rule user name_rule in
    let reads : App = with_rule name reads_rule in
    let is_to = next bare to_rule _ _ _ c.bare_command.ensures c.to_option.ensures.rule c.to_option.ensures.local c.in_ok-arg.ensures in
    let is_user = next to user_rule _ _ _ is_to c.user_option.ensures.rule c.user_option.ensures.local c.in_ok-arg-2.ensures in
    let is_name = next user name_rule _ _ _ is_user c.name_option.ensures.rule c.name_option.ensures.local c.in_ok-arg-3.ensures in
    let is_reads = next name reads_rule _ _ _ is_name c.reads_option.ensures.rule c.reads_option.ensures.local c.in_ok-arg-4.ensures in
    last reads json_rule _ _ c.arg-5.result is_reads c.json_option.ensures.rule c.json_option.ensures.local c.arg-5.ensures
