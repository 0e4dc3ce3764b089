-- The command line of `mesosev` in clap's model.
use Rattle.std.specs.Prelude.{◌≡◌, ℕ, List, [], ◌∷◌, Some, pos, true, false, codes, fold}
use Rattle.clap.specs.Words.{App, Rule, Text, app_of, new_app, new_rule, with_rule, with_subcommand}
use Rattle.clap.specs.Simple.{on_top}
use Rattle.clap.specs.declared.builder.action.ArgAction.TheVariants.{Append, SetTrue}
use Rattle.clap.specs.declared.builder.command.Command.{Command}
use Rattle.clap.specs.declared.builder.command.Command.TheViews.{out-Command}
use Rattle.clap.specs.declared.builder.value_parser.ValueParser.TheVariants as vp
use Rattle.mesosev_args.specs.declared.args.TheConstants.{DEFAULT_LIMIT, DEFAULT_LOOPBACK_CHUNK, DEFAULT_SUBSCRIBE_READS, DEFAULT_STREAM}
use Rattle.mesosev_args.specs.declared.args.TheConstants.{MIN_CONNECTIONS, MAX_CONNECTIONS, MIN_PORT, MAX_PORT, MIN_SUBSCRIBE_READS, MAX_SUBSCRIBE_READS}
use Rattle.mesosev_args.specs.declared.args.TheConstants.{MIN_MASTER_PORT, MAX_SECONDS, MIN_HEARTBEAT, MIN_RESEND, MIN_FINISH_AFTER, MIN_SECONDS}
use Rattle.mesosev_args.specs.declared.args.TheConstants.{DEFAULT_HEARTBEAT, DEFAULT_MASTER_CHUNK, DEFAULT_RESEND, DEFAULT_SEED}
use Rattle.mesosev_args.specs.declared.args.TheConstants.{MIN_RATE, MAX_RATE, MIN_SEED, MAX_SEED}
use Rattle.mes_frame.specs.declared.limits.TheConstants.{MIN_CHUNK, MAX_CHUNK, MIN_RECORD_LIMIT, MAX_RECORD_LIMIT}

-- the Rust command `c` is `app` in clap's model, and shares no argument with its subcommands
abbrev pub IsCommand : App → Command → Type 0
IsCommand app c = (app_of c ≡ app) × ((out-Command c).has_globals ≡ false)

-- the flag `--chunked`
abbrev pub chunked_rule : Rule
chunked_rule = record (new_rule (codes "chunked")) { long = Some (codes "chunked"); action = Some SetTrue }

-- the flag `--lines`
abbrev pub lines_rule : Rule
lines_rule = record (new_rule (codes "lines")) { long = Some (codes "lines"); action = Some SetTrue }

-- the flag `--calls`
abbrev pub calls_rule : Rule
calls_rule = record (new_rule (codes "calls")) { long = Some (codes "calls"); action = Some SetTrue }

-- the flag `--json`
abbrev pub json_rule : Rule
json_rule = record (new_rule (codes "json")) { long = Some (codes "json"); action = Some SetTrue }

-- the flag `--once`
abbrev pub once_rule : Rule
once_rule = record (new_rule (codes "once")) { long = Some (codes "once"); action = Some SetTrue }

-- the option `--NAME N`, for a number from `least` to `greatest`
abbrev pub number_rule : Text → ℕ → ℕ → Rule
number_rule name least most = record (new_rule name) {
  long = Some name;
  value_names = 1;
  parser = Some (vp.Signed (pos least) (pos most));
}

-- the option `--NAME TEXT`
abbrev pub text_rule : Text → Rule
text_rule name = record (new_rule name) { long = Some name; value_names = 1 }

-- `rule` as a required option of the command line
abbrev pub wanted : Rule → Rule
wanted rule = record rule { required = true }

-- `rule` as an option of the command line with a default value
abbrev pub usually : Text → Rule → Rule
usually text rule = record rule { defaults = text ∷ [] }

-- `--limit N`: a number in its range, with a default
abbrev pub limit_rule : Rule
limit_rule = usually DEFAULT_LIMIT.now (number_rule (codes "limit") MIN_RECORD_LIMIT MAX_RECORD_LIMIT)

-- `--most M`: a number in its range
abbrev pub most_rule : Rule
most_rule = number_rule (codes "most") MIN_CHUNK MAX_CHUNK

-- `--port P`, `--count C`: numbers in their ranges
abbrev pub port_rule : Rule
port_rule = wanted (number_rule (codes "port") MIN_PORT MAX_PORT)

abbrev pub count_rule : Rule
count_rule = wanted (number_rule (codes "count") MIN_CONNECTIONS MAX_CONNECTIONS)

-- `--stream UUID`
abbrev pub stream_rule : Rule
stream_rule = usually DEFAULT_STREAM.now (text_rule (codes "stream"))

-- `--port P` of `master`: a number in its range, which begins at 0
abbrev pub master_port_rule : Rule
master_port_rule = wanted (number_rule (codes "port") MIN_MASTER_PORT MAX_PORT)

-- `--heartbeat S`, `--resend S`: numbers in their ranges, with defaults
abbrev pub heartbeat_rule : Rule
heartbeat_rule = usually DEFAULT_HEARTBEAT.now (number_rule (codes "heartbeat") MIN_HEARTBEAT MAX_SECONDS)

abbrev pub resend_rule : Rule
resend_rule = usually DEFAULT_RESEND.now (number_rule (codes "resend") MIN_RESEND MAX_SECONDS)

-- `--finish-after S`, `--seconds S`: numbers in their ranges
abbrev pub finish_after_rule : Rule
finish_after_rule = number_rule (codes "finish-after") MIN_FINISH_AFTER MAX_SECONDS

abbrev pub seconds_rule : Rule
seconds_rule = number_rule (codes "seconds") MIN_SECONDS MAX_SECONDS

-- `--most M` of `master`, with a default chunk size
abbrev pub chunk_rule : Rule
chunk_rule = usually DEFAULT_MASTER_CHUNK.now most_rule

-- `--fault F`, any number of times
abbrev pub fault_rule : Rule
fault_rule = record (text_rule (codes "fault")) { action = Some Append }

-- `--faults R`, `--seed N`: numbers in their ranges, the second with a default
abbrev pub faults_rule : Rule
faults_rule = number_rule (codes "faults") MIN_RATE MAX_RATE

abbrev pub seed_rule : Rule
seed_rule = usually DEFAULT_SEED.now (number_rule (codes "seed") MIN_SEED MAX_SEED)

-- `--to ADDR`, `--user U`, `--name N`
abbrev pub to_rule : Rule
to_rule = wanted (text_rule (codes "to"))

abbrev pub user_rule : Rule
user_rule = wanted (text_rule (codes "user"))

abbrev pub name_rule : Rule
name_rule = wanted (text_rule (codes "name"))

-- `--reads R`: a number in its range
abbrev pub reads_rule : Rule
reads_rule = usually DEFAULT_SUBSCRIBE_READS.now (number_rule (codes "reads") MIN_SUBSCRIBE_READS MAX_SUBSCRIBE_READS)

-- `NAME [--chunked] [--lines] [--calls] [--limit N]`: a subcommand that reads a stream
abbrev pub reading_app : Text → App
reading_app name = with_rule (with_rule (with_rule (with_rule (new_app name) chunked_rule) lines_rule) calls_rule) limit_rule

-- `check [--chunked] [--lines] [--calls] [--limit N]`
abbrev pub check_app : App
check_app = reading_app (codes "check")

-- `show [--chunked] [--lines] [--calls] [--limit N] [--json]`
abbrev pub show_app : App
show_app = with_rule (reading_app (codes "show")) json_rule

-- `convert [--chunked] [--lines] [--calls] [--limit N] [--most M] [--json]`
abbrev pub convert_app : App
convert_app = with_rule (with_rule (reading_app (codes "convert")) most_rule) json_rule

-- `replay [--limit N] [--json]`
abbrev pub replay_app : App
replay_app = with_rule (with_rule (new_app (codes "replay")) limit_rule) json_rule

-- `relog [--limit N]`
abbrev pub relog_app : App
relog_app = with_rule (new_app (codes "relog")) limit_rule

-- `serve --port P --count C [--stream UUID]`
abbrev pub serve_app : App
serve_app = with_rule (with_rule (with_rule (new_app (codes "serve")) port_rule) count_rule) stream_rule

-- `master --port P [--heartbeat S] [--resend S] [--finish-after S] [--seconds S] [--most M]
-- [--fault F].. [--faults R] [--seed N] [--once]`
abbrev pub master_app : App
master_app = fold with_rule (new_app (codes "master"))
    (master_port_rule ∷ heartbeat_rule ∷ resend_rule ∷ finish_after_rule ∷ seconds_rule ∷ chunk_rule
    ∷ fault_rule ∷ faults_rule ∷ seed_rule ∷ once_rule ∷ [])

-- `subscribe --to ADDR --user U --name N [--reads R] [--json]`
abbrev pub subscribe_app : App
subscribe_app = with_rule (with_rule (with_rule (with_rule (with_rule (new_app (codes "subscribe")) to_rule) user_rule) name_rule) reads_rule) json_rule

-- `loopback [--most M]`, with a default chunk size
abbrev pub loopback_app : App
loopback_app = with_rule (new_app (codes "loopback")) (usually DEFAULT_LOOPBACK_CHUNK.now most_rule)

-- `mesosev` without its subcommands; one is required, and `--version` is passed on to each
abbrev pub bare_app : App
bare_app = on_top (λ s. record s { subcommand_required = true; has_version = true; propagate_version = true }) (new_app (codes "mesosev"))

-- the subcommands, in the order of the help text
abbrev pub subcommands : List App
subcommands = check_app ∷ show_app ∷ convert_app ∷ replay_app ∷ relog_app ∷ serve_app ∷ master_app ∷ subscribe_app ∷ loopback_app ∷ []

-- `mesosev SUBCOMMAND`
abbrev pub command_app : App
command_app = fold (λ command app. with_subcommand command app.top) bare_app subcommands
