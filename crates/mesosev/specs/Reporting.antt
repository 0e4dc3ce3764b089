-- The text printed for arguments with which no subcommand is performed.
use Rattle.std.specs.Prelude.{◌≡◌, ◌≢◌, ℕ, ◌⊎◌, List, [], ◌∷◌, ◌++◌, codes}
use Rattle.clap.specs.Words.{kind_of}
use Rattle.clap.specs.declared.error.Error.{Error}
use Rattle.clap.specs.declared.error.kind.ErrorKind.TheVariants.{DisplayHelp, DisplayVersion}
use Rattle.mes_frame.specs.Devices.{Device}
use Rattle.mesosev_stream.specs.Printing.{Prints, LacksMemory}
use Rattle.mesosev_stream.specs.declared.exit_status.ExitStatus.TheVariants as exit
use Rattle.mesosev_stream.specs.declared.outcome.RunOutcome.{RunOutcome}
use Rattle.mesosev_args.specs.declared.args.WordsFault.{WordsFault}
use Rattle.mesosev_args.specs.declared.args.WordsFault.TheVariants.{Clap, BadValue, Conflict, NoMemory}

-- the error is a usage error, not a request for help or the version
abbrev pub IsMistake : Error → Type 0
IsMistake error = (kind_of error ≢ DisplayHelp) × (kind_of error ≢ DisplayVersion)

-- a usage error was printed to standard error, or help or the version to standard output
abbrev pub ReportsError : Error → Device → Device → Device → Device → RunOutcome → Type 0
ReportsError error out printed err reported ended =
    (text : List ℕ) × ((IsMistake error × Prints err reported text exit.Usage ended × (printed ≡ out))
    ⊎ (¬ (IsMistake error) × Prints out printed text exit.Success ended × (reported ≡ err)))

-- the line for a command-line option whose value is out of range
abbrev pub bad_value_line : List ℕ → List ℕ
bad_value_line option = codes "bad value --" ++ (option ++ 10 ∷ [])

-- the line for two command-line options that exclude each other
abbrev pub conflict_line : List ℕ → List ℕ → List ℕ
conflict_line option other =
    codes "error: the argument '--" ++ (option ++ (codes "' cannot be used with '--" ++ (other ++ (codes "'" ++ 10 ∷ []))))

-- the reason for which the arguments have no options was printed
abbrev pub Reports : WordsFault → Device → Device → Device → Device → RunOutcome → Type 0
Reports (Clap error) out printed err reported ended =
    ReportsError error out printed err reported ended ⊎ (LacksMemory out printed ended × (reported ≡ err))
Reports (BadValue option) out printed err reported ended =
    (Prints err reported (bad_value_line option.now) exit.Usage ended × (printed ≡ out)) ⊎ (LacksMemory out printed ended × (reported ≡ err))
Reports (Conflict option other) out printed err reported ended =
    (Prints err reported (conflict_line option.now other.now) exit.Usage ended × (printed ≡ out)) ⊎ (LacksMemory out printed ended × (reported ≡ err))
Reports NoMemory out printed err reported ended = LacksMemory out printed ended × (reported ≡ err)

-- the line for an argument that is not UTF-8
abbrev pub not_text_line : List ℕ
not_text_line = codes "error: a word is not UTF-8" ++ 10 ∷ []
