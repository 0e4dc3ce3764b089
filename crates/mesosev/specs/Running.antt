-- The effect of the command: its arguments, its input and its outputs.
use Rattle.std.specs.Prelude.{◌≡◌, ◌⊎◌, ℕ, Bool, true, false, List, []}
use Rattle.clap.specs.Words.{Text, IsAmong, fault_of, kind_of}
use Rattle.clap.specs.declared.error.Error.{Error}
use Rattle.mesosev_stream.specs.Converting.{Converts}
use Rattle.mes_frame.specs.Devices.{Device}
use Rattle.mesosev_net.specs.Looped.{Loops}
use Rattle.mesosev_net.specs.ServedTurns.{Serves}
use Rattle.mesosev_net.specs.Subscribed.{Subscribes}
use Rattle.mesosev_live.specs.Stops.{EndsRun}
use Rattle.mesosev_net.specs.SubscribedJson.{SubscribesJson}
use Rattle.mesosev_log.specs.Relogging.{Relogs}
use Rattle.mesosev_log.specs.Replaying.{Replays, ReplaysJson}
use Rattle.mesosev_stream.specs.JsonLines.{Exports}
use Rattle.mesosev_stream.specs.Messages.{events, calls as the_calls}
use Rattle.mesosev_stream.specs.Printing.{Prints, Finishes, LacksMemory}
use Rattle.mesosev_stream.specs.Showing.{Follows}
use Rattle.mesosev_stream.specs.declared.conversion.OutputFormat.{OutputFormat}
use Rattle.mesosev_stream.specs.declared.follower.Detail.{Detail}
use Rattle.mesosev_stream.specs.declared.follower.Detail.TheVariants.{Counts, Lines}
use Rattle.mes_stream.specs.declared.stream_reader.Framing.{Framing}
use Rattle.mesosev_stream.specs.declared.exit_status.ExitStatus.{ExitStatus}
use Rattle.mesosev_stream.specs.declared.exit_status.ExitStatus.TheVariants as exit
use Rattle.mesosev_stream.specs.declared.outcome.RunOutcome.{RunOutcome}
use Rattle.mesosev_stream.specs.declared.outcome.RunOutcome.TheVariants.{Status}
use Rattle.mesosev_stream.specs.declared.limits.TheConstants.{MAX_READS}
use Rattle.mesosev_args.specs.CommandLine.{command_app}
use Rattle.mesosev_args.specs.NamedOptions.{GiveBoth, IsInRange, LackValue, NameOptions, NameNoOptions}
use Rattle.mesosev.specs.Reporting.{ReportsError, bad_value_line, conflict_line}
use Rattle.mesosev_args.specs.declared.args.Options.{Options}
use Rattle.mesosev_args.specs.declared.args.Options.TheVariants.{Check, Show, Convert, Replay, Relog, Serve, Master, Subscribe, Loopback}

-- the number of an exit status: 0 without an error, 1 for an error, 2 for a usage error
abbrev pub status_number : ExitStatus → ℕ
status_number exit.Success = 0
status_number exit.Fault = 1
status_number exit.Usage = 2

-- the records of the input were followed: events, or calls if the first argument is true
abbrev pub FollowsRecords : Bool → Detail → Framing → ℕ → Device → Device → Device → Device → RunOutcome → Type 0
FollowsRecords false detail framing limit input rest out printed ended = Follows events detail framing limit MAX_READS input rest out printed ended
FollowsRecords true detail framing limit input rest out printed ended = Follows the_calls detail framing limit MAX_READS input rest out printed ended

-- likewise exported as JSON Lines
abbrev pub ExportsRecords : Bool → Framing → ℕ → Device → Device → Device → Device → Device → Device → RunOutcome → Type 0
ExportsRecords false framing limit input rest out printed err reported ended = Exports events framing limit MAX_READS input rest out printed err reported ended
ExportsRecords true framing limit input rest out printed err reported ended = Exports the_calls framing limit MAX_READS input rest out printed err reported ended

-- likewise converted
abbrev pub ConvertsRecords : Bool → Framing → ℕ → OutputFormat → Device → Device → Device → Device → Device → Device → ExitStatus → Type 0
ConvertsRecords false framing limit format input rest out written err reported status = Converts events framing limit format input rest out written err reported status
ConvertsRecords true framing limit format input rest out written err reported status = Converts the_calls framing limit format input rest out written err reported status

-- The subcommand was performed with its options; only `convert`, `relog` and the forms with `--json`
-- write to standard error. What `master` reads and prints depends on its sockets: see `serve_desk`
-- and `connection_laws` of `mesosev_live`.
abbrev pub Performs : Options → Device → Device → Device → Device → Device → Device → RunOutcome → Type 0
Performs (Check framing limit calls) input rest out printed err reported ended =
    FollowsRecords calls Counts framing limit input rest out printed ended × (reported ≡ err)
Performs (Show framing limit false calls) input rest out printed err reported ended =
    FollowsRecords calls Lines framing limit input rest out printed ended × (reported ≡ err)
Performs (Show framing limit true calls) input rest out printed err reported ended = ExportsRecords calls framing limit input rest out printed err reported ended
Performs (Convert framing limit format calls) input rest out printed err reported ended =
    (status : ExitStatus) × ConvertsRecords calls framing limit format input rest out printed err reported status × (ended ≡ Status status)
Performs (Replay limit false) input rest out printed err reported ended = Replays limit input rest out printed ended × (reported ≡ err)
Performs (Replay limit true) input rest out printed err reported ended = ReplaysJson limit input rest out printed err reported ended
Performs (Relog limit) input rest out printed err reported ended =
    (status : ExitStatus) × Relogs limit input rest out printed err reported status × (ended ≡ Status status)
Performs (Serve port count stream) input rest out printed err reported ended = Serves stream count input rest out printed ended × (reported ≡ err)
Performs (Master port heartbeat resend finish_after seconds most once plan) input rest out printed err reported ended = EndsRun ended × (reported ≡ err)
Performs (Subscribe to user name reads false) input rest out printed err reported ended =
    Subscribes to user name reads out printed ended × (rest ≡ input) × (reported ≡ err)
Performs (Subscribe to user name reads true) input rest out printed err reported ended =
    SubscribesJson to user name reads out printed err reported ended × (rest ≡ input)
Performs (Loopback most) input rest out printed err reported ended = Loops most input rest out printed ended × (reported ≡ err)

-- the subcommand was performed with its options, or an allocation failed
abbrev pub PerformsSaid : Options → Device → Device → Device → Device → Device → Device → RunOutcome → Type 0
PerformsSaid options input rest out printed err reported ended =
    Performs options input rest out printed err reported ended ⊎ (LacksMemory out printed ended × (reported ≡ err))

-- The subcommand was performed with the options of the arguments; or clap's error was printed; or
-- the value of a command-line option is out of range, and this error was printed; or two options
-- that exclude each other are given, and this error was printed; or an allocation failed. Devices
-- that a case does not mention are unchanged.
abbrev pub Runs : List Text → Device → Device → Device → Device → Device → Device → RunOutcome → Type 0
Runs words input rest out printed err reported ended =
    ((options : Options) × (fault_of command_app words ≡ []) × NameOptions words options × IsInRange options
    × Performs options input rest out printed err reported ended)
    ⊎ ((error : Error) × IsAmong (kind_of error) (fault_of command_app words)
    × ReportsError error out printed err reported ended × (rest ≡ input))
    ⊎ ((option : Text) × (fault_of command_app words ≡ []) × NameNoOptions words × LackValue words option
    × Prints err reported (bad_value_line option) exit.Usage ended × (printed ≡ out) × (rest ≡ input))
    ⊎ ((option : Text) × (other : Text) × (fault_of command_app words ≡ []) × NameNoOptions words × GiveBoth words option other
    × Prints err reported (conflict_line option other) exit.Usage ended × (printed ≡ out) × (rest ≡ input))
    ⊎ (LacksMemory out printed ended × (reported ≡ err) × (rest ≡ input))

-- `Does` holds for the outcome, and standard error is unchanged
abbrev pub LeavesError : (RunOutcome → Type 0) → Device → Device → RunOutcome → Type 0
LeavesError Does err reported ended = Does ended × (reported ≡ err)

-- `Does` holds for some state of standard error, after which the line of a failed output, if any,
-- was printed to standard error
abbrev pub Ends : (Device → RunOutcome → Type 0) → Bool → Device → ExitStatus → Type 0
Ends Does closed last status = (reported : Device) × (ended : RunOutcome) × Does reported ended × Finishes closed reported last ended status
