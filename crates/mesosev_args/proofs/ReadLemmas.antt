-- The options read from clap's matches of the arguments are those that the arguments name.
use Rattle.std.proofs.Common.{◌≡◌, ◌⊎◌, List, [], inl, Option, Some, None, Result, Ok, Err, sym, subst}
use Rattle.std.specs.Prelude.{Box, IfErr, IfOk, IsSomeAnd, option_map}
use Rattle.std.specs.Box.{box_value}
use Rattle.clap.specs.Words.{Row, Text, fault_of, subcommand_of, subcommand_rows_of}
use Rattle.clap.specs.Matches.{subcommand_name_of}
use Rattle.clap.specs.Simple.{subcommand_rows}
use Rattle.clap.specs.declared.parser.matches.ArgMatches.{ArgMatches}
use Rattle.clap.specs.declared.parser.matches.ArgMatches.TheViews.{out-ArgMatches, out-SubCommand}
use Rattle.clap.specs.declared.parser.matches.SubCommand.{SubCommand}
use Rattle.mesosev_args.specs.CommandLine.{command_app}
use Rattle.mesosev_args.specs.NamedOptions.{GivesBoth, IsReadAs, IsUnknown, LackValue, LacksValue, NameOptions, Reads, RefusesArgs}
use Rattle.mesosev_args.specs.declared.args.Options.{Options}
use Rattle.mesosev_args.specs.declared.args.WordsFault.{WordsFault}
use Rattle.mesosev_args.specs.declared.args.WordsFault.TheVariants.{Clap, BadValue, Conflict, NoMemory}

module _ {Z : Type 0} where
  both_of : (met : Option (Box SubCommand Z)) (name : Text) (rows : List Row) → Some name ≡ option_map (λ b. (out-SubCommand (box_value b)).name.now) met
      → Some rows ≡ option_map (λ p. p.1) (subcommand_rows met) → subcommand_rows met ≡ Some (name, rows)
  both_of None name rows is has = absurd (cc)
  both_of (Some b) name rows is has = cc

-- the matches have the subcommand's name and the rows of its own matches
pub subcommand_read : (m : ArgMatches) (name : Text) (rows : List Row) → Some name ≡ subcommand_name_of m
    → Some rows ≡ option_map (λ p. p.1) (subcommand_rows_of m) → subcommand_rows_of m ≡ Some (name, rows)
subcommand_read m name rows is has = both_of (out-ArgMatches m).subcommand name rows is has

-- for arguments that name this subcommand with these matches
module _ (words : List Text) (read : Text × List Row) (is : subcommand_of command_app words ≡ Some read) where
  pub read_named : (r : Result Options WordsFault) → Reads read r → IfOk r (NameOptions words)
  read_named (Ok o) reads = subst (λ met. IsSomeAnd met (λ m. IsReadAs m o)) (sym is) reads.0
  read_named (Err fault) reads = tt

  pub read_refused : (r : Result Options WordsFault) → Reads read r → fault_of command_app words ≡ [] → IfErr r (RefusesArgs words)
  read_refused (Ok o) reads taken = tt
  read_refused (Err (Clap error)) reads taken = absurd reads
  read_refused (Err (BadValue option)) reads taken =
      (taken, λ h. reads.1 (h.0, subst (λ met. IsSomeAnd met (λ m. IsReadAs m h.0)) is h.1, h.2), lacking (reads.0))
    where
      lacking : LacksValue read option.now ⊎ IsUnknown read.0 option.now → LackValue words option.now
      lacking lacks = inl (subst (λ met. IsSomeAnd met (λ m. LacksValue m option.now ⊎ IsUnknown m.0 option.now)) (sym is) lacks)
  read_refused (Err (Conflict option other)) reads taken = (
    taken,
    λ h. reads.1 (h.0, subst (λ met. IsSomeAnd met (λ m. IsReadAs m h.0)) is h.1, h.2),
    subst (λ met. IsSomeAnd met (λ m. GivesBoth m option.now other.now)) (sym is) reads.0,
  )
  read_refused (Err NoMemory) reads taken = tt
