-- A command of clap with one more option.
use Rattle.std.proofs.Common.{◌≡◌, ◌∙◌, IfOk, Result, Ok, Err, ap, false}
use Rattle.std.specs.Prelude.{◌||◌}
use Rattle.std.specs.declared.alloc.AllocError.{AllocError}
use Rattle.clap.specs.Built.{AddsArg}
use Rattle.clap.specs.Words.{App, Rule, rule_of, with_rule}
use Rattle.clap.specs.declared.builder.arg.Arg.{Arg}
use Rattle.clap.specs.declared.builder.command.Command.{Command}
use Rattle.mesosev_args.specs.CommandLine.{IsCommand}

-- a command with one more option
pub next : (app : App) (r : Rule) (old new : Command) (a : Arg) → IsCommand app old → rule_of a ≡ r → a.global ≡ false → AddsArg old a new → IsCommand (with_rule app r) new
next app r old new a is rule local adds = (
  adds.shape local ∙ ap (λ (x : App). with_rule x (rule_of a)) is.0 ∙ ap (λ (q : Rule). with_rule app q) rule,
  adds.globals ∙ ap (λ b. b || a.global) is.1 ∙ local,
)

-- the result of adding the last option
pub last : (app : App) (r : Rule) (old : Command) (a : Arg) (made : Result Command AllocError) → IsCommand app old → rule_of a ≡ r → a.global ≡ false
    → IfOk made (AddsArg old a) → IfOk made (IsCommand (with_rule app r))
last app r old a (Ok new) is rule local adds = next app r old new a is rule local adds
last app r old a (Err e) is rule local adds = tt
