use Rattle.std.proofs.Common.{◌≡◌, ◌∙◌, IfOk, Result, ap, subst}
use Rattle.std.specs.declared.alloc.AllocError.{AllocError}
use Rattle.clap.specs.Words.{App, Shape, app_of, with_subcommand}
use Rattle.clap.specs.declared.builder.command.Command.{Command}
use Rattle.mesosev_args.specs.CommandLine.{check_app, convert_app, loopback_app, master_app, relog_app, replay_app, serve_app, show_app, subscribe_app}
use Rattle.mesosev_args.proofs.command.command.Goals as goal

-- a command with one more subcommand
next : (a b c : App) (s : Shape) → a ≡ with_subcommand b s → b ≡ c → a ≡ with_subcommand c s
next a b c s is before = is ∙ ap (λ (x : App). with_subcommand x s) before

last : (r : Result Command AllocError) (b c : App) (s : Shape) → IfOk r (λ x. app_of x ≡ with_subcommand b s) → b ≡ c → IfOk r (λ x. app_of x ≡ with_subcommand c s)
last r b c s is before = subst (λ (a : App). IfOk r (λ x. app_of x ≡ with_subcommand a s)) before is

pub returns : goal.returns
returns c =
    let bare = c.bare_command-command.ensures in
    let check = next _ _ _ check_app.top (c.in_ok-command.ensures check_app c.command.ensures) bare in
    let show = next _ _ _ show_app.top (c.in_ok-command-2.ensures show_app c.command-2.ensures) check in
    let convert = next _ _ _ convert_app.top (c.in_ok-command-3.ensures convert_app c.command-3.ensures) show in
    let replay = next _ _ _ replay_app.top (c.in_ok-command-4.ensures replay_app c.command-4.ensures) convert in
    let relog = next _ _ _ relog_app.top (c.in_ok-command-5.ensures relog_app c.command-5.ensures) replay in
    let serve = next _ _ _ serve_app.top (c.in_ok-command-6.ensures serve_app c.command-6.ensures) relog in
    let master = next _ _ _ master_app.top (c.in_ok-command-7.ensures master_app c.command-7.ensures) serve in
    let subscribe = next _ _ _ subscribe_app.top (c.in_ok-command-8.ensures subscribe_app c.command-8.ensures) master in
    last _ _ _ loopback_app.top (c.with-9.ensures loopback_app c.command-9.ensures) subscribe
