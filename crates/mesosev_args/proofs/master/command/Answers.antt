use Rattle.std.specs.Prelude.{codes}
use Rattle.clap.specs.Words.{App, new_app, with_rule}
use Rattle.mesosev_args.specs.CommandLine.{chunk_rule, fault_rule, faults_rule, finish_after_rule, heartbeat_rule, master_port_rule, once_rule, resend_rule, seconds_rule, seed_rule}
use Rattle.mesosev_args.proofs.MoreOptions.{last, next}
use Rattle.mesosev_args.proofs.master.command.Goals as goal

pub returns : goal.returns
returns c =
    let bare : App = new_app (codes "master") in
    let port : App = with_rule bare master_port_rule in
    let heartbeat : App = with_rule port heartbeat_rule in
    let resend : App = with_rule heartbeat resend_rule in
    let finish_after : App = with_rule resend finish_after_rule in
    let seconds : App = with_rule finish_after seconds_rule in
    let chunk : App = with_rule seconds chunk_rule in
    let fault : App = with_rule chunk fault_rule in
    let faults : App = with_rule fault faults_rule in
    let seed : App = with_rule faults seed_rule in
    let is_port = next bare master_port_rule _ _ _ c.bare_command.ensures c.port_option.ensures.rule c.port_option.ensures.local c.in_ok-arg.ensures in
    let is_heartbeat = next port heartbeat_rule _ _ _ is_port c.heartbeat_option.ensures.rule c.heartbeat_option.ensures.local c.in_ok-arg-2.ensures in
    let is_resend = next heartbeat resend_rule _ _ _ is_heartbeat c.resend_option.ensures.rule c.resend_option.ensures.local c.in_ok-arg-3.ensures in
    let is_finish_after = next resend finish_after_rule _ _ _ is_resend c.finish_after_option.ensures.rule c.finish_after_option.ensures.local c.in_ok-arg-4.ensures in
    let is_seconds = next finish_after seconds_rule _ _ _ is_finish_after c.seconds_option.ensures.rule c.seconds_option.ensures.local c.in_ok-arg-5.ensures in
    let is_chunk = next seconds chunk_rule _ _ _ is_seconds c.chunk_option.ensures.rule c.chunk_option.ensures.local c.in_ok-arg-6.ensures in
    let is_fault = next chunk fault_rule _ _ _ is_chunk c.fault_option.ensures.rule c.fault_option.ensures.local c.in_ok-arg-7.ensures in
    let is_faults = next fault faults_rule _ _ _ is_fault c.faults_option.ensures.rule c.faults_option.ensures.local c.in_ok-arg-8.ensures in
    let is_seed = next faults seed_rule _ _ _ is_faults c.seed_option.ensures.rule c.seed_option.ensures.local c.in_ok-arg-9.ensures in
    last seed once_rule _ _ c.arg-10.result is_seed c.once_option.ensures.rule c.once_option.ensures.local c.arg-10.ensures
