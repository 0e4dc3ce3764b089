-- Arguments that the command accepts, with the matches of its subcommand.
use Rattle.std.proofs.Common.{◌≡◌, ◌∙◌, ap, List, [], ◌∷◌, Some, refl}
use Rattle.std.specs.Prelude.{fold}
use Rattle.clap.specs.Words.{Row, Text, fault_of, subcommand_of}
use Rattle.clap.specs.Simple.{Shape, built}
use Rattle.clap.specs.Walk.{with_default}
use Rattle.clap.proofs.OnLiterals.{clap_on_literals}
use Rattle.mesosev_args.specs.CommandLine.{command_app}
use Rattle.mesosev_args.proofs.Subcommands.{IsSubcommand, rows_behind, taken_behind}
use Rattle.mesosev_args.proofs.Walks.{Reaches, end_fault, reaches_good, reaches_rows}

-- clap accepts the arguments, which name this subcommand; its matches have these rows
pub record Takes (words : List Text) (name : Text) (rows : List Row) : Type 0 where
  pub named : subcommand_of command_app words ≡ Some (name, rows)
  pub taken : fault_of command_app words ≡ []

-- arguments that the subcommand accepts are accepted after the program's and subcommand's names
pub takes_words : (program name : Text) (s : Shape) → IsSubcommand (built command_app) name s → (words : List Text) (rows : List Row)
    → Reaches s words rows → end_fault s rows ≡ [] → Takes (program ∷ name ∷ words) s.name (fold with_default rows s.rules)
unfolding clap_on_literals
takes_words program name s is words rows r good = record {
  named = rows_behind (built command_app) name s is words ∙ ap (λ (q : List Row). Some (s.name, q)) (reaches_rows s words rows r);
  taken = taken_behind (built command_app) name s is words (reaches_good s words rows r good) refl;
}
