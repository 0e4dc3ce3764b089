-- The options that the arguments name, and when arguments are rejected.
use Rattle.std.specs.Prelude.{◌≡◌, ◌≢◌, ◌≤◌, ◌==◌, ◌⊎◌, ◌++◌, ℕ, Bool, true, false, List, [], ◌∷◌, Option, Some, None, Result, Ok, Err, IsSomeAnd, codes}
use Rattle.std.specs.Str.{bytes_eq}
use Rattle.std.specs.List.{list_any}
use Rattle.clap.specs.Words.{Text, Row, IsAmong, fault_of, first_of, kind_of, one_of, subcommand_of}
use Rattle.uuid.specs.Text.{parsed}
use Rattle.mes_double_http.specs.Hosts.{IsHost}
use Rattle.clap.specs.declared.error.Error.{Error}
use Rattle.clap.specs.declared.error.kind.ErrorKind.TheVariants.{OutOfMemory}
use Rattle.mesosev_args.specs.CommandLine.{command_app}
use Rattle.mesosev_args.specs.OptionValues.{HasFaults, HasFlag, HasFraming, HasLimit, HasMost, HasNumber, HasOptional, HasRandom, HasStream, HasText, Writes}
use Rattle.mesosev_args.specs.OptionValues.{IsCount, IsFinishAfter, IsHeartbeat, IsLimit, IsMasterPort, IsMost, IsPlan, IsPort, IsRate, IsReads}
use Rattle.mesosev_args.specs.OptionValues.{IsResend, IsSeconds, IsSeed, IsWithin}
use Rattle.mes_double_faults.specs.Plans.{Plan}
use Rattle.mes_double_faults.specs.declared.fault.Fault.{Fault}
use Rattle.mes_stream.specs.declared.stream_reader.Framing.{Framing}
use Rattle.mes_stream.specs.declared.stream_reader.Framing.TheVariants.{Plain, Chunked, Lines}
use Rattle.mesosev_args.specs.declared.args.Options.{Options}
use Rattle.mesosev_args.specs.declared.args.Options.TheVariants.{Check, Show, Convert, Replay, Relog, Serve, Master, Subscribe, Loopback}
use Rattle.mesosev_args.specs.declared.args.WordsFault.{WordsFault}
use Rattle.mesosev_args.specs.declared.args.WordsFault.TheVariants.{Clap, BadValue, Conflict, NoMemory}
use Rattle.mesosev_args.specs.declared.args.TheConstants.{DEFAULT_LIMIT, DEFAULT_LOOPBACK_CHUNK, DEFAULT_SUBSCRIBE_READS, DEFAULT_STREAM}
use Rattle.mesosev_args.specs.declared.args.TheConstants.{DEFAULT_HEARTBEAT, DEFAULT_MASTER_CHUNK, DEFAULT_RESEND}
use Rattle.mesosev_stream.specs.declared.conversion.OutputFormat.{OutputFormat}
use Rattle.mesosev_stream.specs.declared.conversion.OutputFormat.TheVariants as form

-- the values of `--most` and `--json` for a format
abbrev pub most_in : OutputFormat → Option ℕ
most_in form.Plain = None
most_in (form.Chunked most) = Some most
most_in form.JsonLines = None

abbrev pub json_in : OutputFormat → Bool
json_in form.Plain = false
json_in (form.Chunked most) = false
json_in form.JsonLines = true

-- `--most` and `--json` are both given, and the error names `--json`, then `--most`
abbrev pub ExcludeEach : Option ℕ → Bool → WordsFault → Type 0
ExcludeEach most json (Clap error) = ⊥
ExcludeEach most json (BadValue option) = ⊥
ExcludeEach most json (Conflict option other) = (option.now ≡ codes "json") × (other.now ≡ codes "most") × (json ≡ true) × (most ≢ None)
ExcludeEach most json NoMemory = ⊥

-- the subcommand's name and its matches are those of these options
abbrev pub IsReadAs : Text × List Row → Options → Type 0
IsReadAs read (Check framing limit calls) =
    (read.0 ≡ codes "check") × HasFraming read.1 framing × HasLimit read.1 limit × HasFlag (codes "calls") read.1 calls
IsReadAs read (Show framing limit json calls) =
    (read.0 ≡ codes "show") × HasFraming read.1 framing × HasLimit read.1 limit × HasFlag (codes "json") read.1 json
    × HasFlag (codes "calls") read.1 calls
IsReadAs read (Convert framing limit format calls) =
    (read.0 ≡ codes "convert") × HasFraming read.1 framing × HasLimit read.1 limit × HasMost read.1 (most_in format)
    × HasFlag (codes "json") read.1 (json_in format) × HasFlag (codes "calls") read.1 calls
IsReadAs read (Replay limit json) = (read.0 ≡ codes "replay") × HasLimit read.1 limit × HasFlag (codes "json") read.1 json
IsReadAs read (Relog limit) = (read.0 ≡ codes "relog") × HasLimit read.1 limit
IsReadAs read (Serve port count stream) =
    (read.0 ≡ codes "serve") × HasNumber (codes "port") read.1 port × HasNumber (codes "count") read.1 count × HasStream read.1 stream
IsReadAs read (Master port heartbeat resend finish_after seconds most once plan) =
    (read.0 ≡ codes "master") × HasNumber (codes "port") read.1 port × HasNumber (codes "heartbeat") read.1 heartbeat
    × HasNumber (codes "resend") read.1 resend × HasOptional (codes "finish-after") read.1 finish_after
    × HasOptional (codes "seconds") read.1 seconds × HasNumber (codes "most") read.1 most × HasFlag (codes "once") read.1 once
    × HasFaults read.1 plan.faults × HasRandom read.1 plan.random
IsReadAs read (Subscribe to user name reads json) =
    (read.0 ≡ codes "subscribe") × HasText (codes "to") read.1 to × HasText (codes "user") read.1 user × HasText (codes "name") read.1 name
    × HasNumber (codes "reads") read.1 reads × HasFlag (codes "json") read.1 json
IsReadAs read (Loopback most) = (read.0 ≡ codes "loopback") × HasNumber (codes "most") read.1 most

-- the arguments name the subcommand and the values of these options
abbrev pub NameOptions : List Text → Options → Type 0
NameOptions words o = IsSomeAnd (subcommand_of command_app words) (λ read. IsReadAs read o)

-- each value of the options is in its range
abbrev pub IsInRange : Options → Type 0
IsInRange (Check framing limit calls) = IsLimit limit
IsInRange (Show framing limit json calls) = IsLimit limit
IsInRange (Convert framing limit format calls) = IsLimit limit × IsMost (most_in format)
IsInRange (Replay limit json) = IsLimit limit
IsInRange (Relog limit) = IsLimit limit
IsInRange (Serve port count stream) = IsPort port × IsCount count
IsInRange (Master port heartbeat resend finish_after seconds most once plan) =
    IsMasterPort port × IsHeartbeat heartbeat × IsResend resend × IsFinishAfter finish_after × IsSeconds seconds × IsMost (Some most) × IsPlan plan
IsInRange (Subscribe to user name reads json) = IsHost to × IsReads reads
IsInRange (Loopback most) = IsMost (Some most)

-- the arguments name no options whose values are all in range
abbrev pub NameNoOptions : List Text → Type 0
NameNoOptions words = ¬ ((o : Options) × NameOptions words o × IsInRange o)

-- the settings: what each option of the command line sets
pub data Setting : Type 0 where
  the_limit : Setting
  the_most : Setting
  the_port : Setting
  the_count : Setting
  the_stream : Setting
  the_to : Setting
  the_user : Setting
  the_name : Setting
  the_reads : Setting
  the_size : Setting
  the_master_port : Setting
  the_heartbeat : Setting
  the_resend : Setting
  the_finish_after : Setting
  the_seconds : Setting
  the_fault : Setting
  the_rate : Setting
  the_seed : Setting

-- the name of the option that sets it
abbrev pub option_of : Setting → Text
option_of the_limit = codes "limit"
option_of the_most = codes "most"
option_of the_port = codes "port"
option_of the_count = codes "count"
option_of the_stream = codes "stream"
option_of the_to = codes "to"
option_of the_user = codes "user"
option_of the_name = codes "name"
option_of the_reads = codes "reads"
option_of the_size = codes "most"
option_of the_master_port = codes "port"
option_of the_heartbeat = codes "heartbeat"
option_of the_resend = codes "resend"
option_of the_finish_after = codes "finish-after"
option_of the_seconds = codes "seconds"
option_of the_fault = codes "fault"
option_of the_rate = codes "faults"
option_of the_seed = codes "seed"

-- the subcommands that have the option for this setting
abbrev pub subcommands_with : Setting → List Text
subcommands_with the_limit = codes "check" ∷ codes "show" ∷ codes "convert" ∷ codes "replay" ∷ codes "relog" ∷ []
subcommands_with the_most = codes "convert" ∷ []
subcommands_with the_size = codes "loopback" ∷ codes "master" ∷ []
subcommands_with the_port = codes "serve" ∷ []
subcommands_with the_count = codes "serve" ∷ []
subcommands_with the_stream = codes "serve" ∷ []
subcommands_with the_master_port = codes "master" ∷ []
subcommands_with the_heartbeat = codes "master" ∷ []
subcommands_with the_resend = codes "master" ∷ []
subcommands_with the_finish_after = codes "master" ∷ []
subcommands_with the_seconds = codes "master" ∷ []
subcommands_with the_fault = codes "master" ∷ []
subcommands_with the_rate = codes "master" ∷ []
subcommands_with the_seed = codes "master" ∷ []
subcommands_with _ = codes "subscribe" ∷ []

-- The option for this setting has a value in its range in a subcommand's matches. `--seed` needs
-- one only if `--faults` is given.
abbrev pub IsGood : Setting → List Row → Type 0
IsGood the_limit rows = (limit : ℕ) × HasLimit rows limit × IsLimit limit
IsGood the_most rows = (most : Option ℕ) × HasMost rows most × IsMost most
IsGood the_port rows = (port : ℕ) × HasNumber (codes "port") rows port × IsPort port
IsGood the_count rows = (count : ℕ) × HasNumber (codes "count") rows count × IsCount count
IsGood the_stream rows = (stream : List ℕ) × HasStream rows stream
IsGood the_to rows = (to : Text) × HasText (codes "to") rows to × IsHost to
IsGood the_user rows = (user : Text) × HasText (codes "user") rows user
IsGood the_name rows = (name : Text) × HasText (codes "name") rows name
IsGood the_reads rows = (reads : ℕ) × HasNumber (codes "reads") rows reads × IsReads reads
IsGood the_size rows = (most : ℕ) × HasNumber (codes "most") rows most × IsMost (Some most)
IsGood the_master_port rows = (port : ℕ) × HasNumber (codes "port") rows port × IsMasterPort port
IsGood the_heartbeat rows = (heartbeat : ℕ) × HasNumber (codes "heartbeat") rows heartbeat × IsHeartbeat heartbeat
IsGood the_resend rows = (resend : ℕ) × HasNumber (codes "resend") rows resend × IsResend resend
IsGood the_finish_after rows = (finish_after : Option ℕ) × HasOptional (codes "finish-after") rows finish_after × IsFinishAfter finish_after
IsGood the_seconds rows = (seconds : Option ℕ) × HasOptional (codes "seconds") rows seconds × IsSeconds seconds
IsGood the_fault rows = (faults : List Fault) × HasFaults rows faults
IsGood the_rate rows = (rate : Option ℕ) × HasOptional (codes "faults") rows rate × IsRate rate
IsGood the_seed rows = (one_of (codes "faults") rows ≡ None) ⊎ ((seed : ℕ) × HasNumber (codes "seed") rows seed × IsSeed seed)

-- this subcommand has an option of this name, which has no value in its range in the matches
pub record LacksValue (read : Text × List Row) (option : Text) : Type 0 where
  pub setting : Setting
  pub has : list_any (bytes_eq read.0) (subcommands_with setting) ≡ true
  pub is : option ≡ option_of setting
  pub lacks : ¬ (IsGood setting read.1)

-- the pairs of options that exclude each other
pub data Exclusion : Type 0 where
  lines_or_chunked : Exclusion
  json_or_most : Exclusion

-- the option of the pair that the error names first
abbrev pub option_in : Exclusion → Text
option_in lines_or_chunked = codes "lines"
option_in json_or_most = codes "json"

-- the option that it names second
abbrev pub other_in : Exclusion → Text
other_in lines_or_chunked = codes "chunked"
other_in json_or_most = codes "most"

-- the subcommands that have both options
abbrev pub subcommands_excluding : Exclusion → List Text
subcommands_excluding lines_or_chunked = codes "check" ∷ codes "show" ∷ codes "convert" ∷ []
subcommands_excluding json_or_most = codes "convert" ∷ []

-- both options are given in a subcommand's matches
abbrev pub AreBoth : Exclusion → List Row → Type 0
AreBoth lines_or_chunked rows = HasFlag (codes "lines") rows true × HasFlag (codes "chunked") rows true
AreBoth json_or_most rows = HasFlag (codes "json") rows true × (one_of (codes "most") rows ≢ None)

-- this subcommand has two options of these names, which exclude each other, and both are given in
-- the matches
pub record GivesBoth (read : Text × List Row) (option : Text) (other : Text) : Type 0 where
  pub exclusion : Exclusion
  pub has : list_any (bytes_eq read.0) (subcommands_excluding exclusion) ≡ true
  pub is : option ≡ option_in exclusion
  pub is_other : other ≡ other_in exclusion
  pub both : AreBoth exclusion read.1

-- the names of the subcommands
abbrev pub subcommand_names : List Text
subcommand_names = codes "check" ∷ codes "show" ∷ codes "convert" ∷ codes "replay" ∷ codes "relog" ∷ codes "serve" ∷ codes "master" ∷ codes "subscribe" ∷ codes "loopback" ∷ []

-- no subcommand has this name, which is reported as `COMMAND`
abbrev pub IsUnknown : Text → Text → Type 0
IsUnknown name option = (list_any (bytes_eq name) subcommand_names ≡ false) × (option ≡ codes "COMMAND")

-- the arguments give the option of this name no value in its range, or name no known subcommand
abbrev pub LackValue : List Text → Text → Type 0
LackValue words option =
    IsSomeAnd (subcommand_of command_app words) (λ read. LacksValue read option ⊎ IsUnknown read.0 option)
    ⊎ ((subcommand_of command_app words ≡ None) × (option ≡ codes "COMMAND"))

-- the arguments give both options of these names, which exclude each other
abbrev pub GiveBoth : List Text → Text → Text → Type 0
GiveBoth words option other = IsSomeAnd (subcommand_of command_app words) (λ read. GivesBoth read option other)

-- the fault is clap's kind of error for the arguments, a bad value in them, two options in them
-- that exclude each other, or out of memory
abbrev pub RefusesArgs : List Text → WordsFault → Type 0
RefusesArgs words (Clap error) = IsAmong (kind_of error) (fault_of command_app words)
RefusesArgs words (BadValue option) = (fault_of command_app words ≡ []) × NameNoOptions words × LackValue words option.now
RefusesArgs words (Conflict option other) = (fault_of command_app words ≡ []) × NameNoOptions words × GiveBoth words option.now other.now
RefusesArgs words NoMemory = Unit {0}

-- the error names the option of this setting, which has no value in its range
abbrev pub IsBad : Setting → List Row → WordsFault → Type 0
IsBad setting rows (Clap error) = ⊥
IsBad setting rows (BadValue option) = (option.now ≡ option_of setting) × ¬ (IsGood setting rows)
IsBad setting rows (Conflict option other) = ⊥
IsBad setting rows NoMemory = ⊥

-- the error names the options of this pair in order, and both are given
abbrev pub IsConflict : Exclusion → List Row → WordsFault → Type 0
IsConflict exclusion rows (Clap error) = ⊥
IsConflict exclusion rows (BadValue option) = ⊥
IsConflict exclusion rows (Conflict option other) =
    (option.now ≡ option_in exclusion) × (other.now ≡ other_in exclusion) × AreBoth exclusion rows
IsConflict exclusion rows NoMemory = ⊥

-- like `IsBad`, or the option's value could not be allocated
abbrev pub IsBadOrLacks : Setting → List Row → WordsFault → Type 0
IsBadOrLacks setting rows fault = IsBad setting rows fault ⊎ (fault ≡ NoMemory)

-- the error names this option, which has no number from `least` to `greatest`
abbrev pub LacksNumber : Text → ℕ → ℕ → List Row → WordsFault → Type 0
LacksNumber name least greatest rows (Clap error) = ⊥
LacksNumber name least greatest rows (BadValue option) = (option.now ≡ name) × ¬ ((n : ℕ) × HasNumber name rows n × (least ≤ n) × (n ≤ greatest))
LacksNumber name least greatest rows (Conflict option other) = ⊥
LacksNumber name least greatest rows NoMemory = ⊥

-- the error names this option, which is given and has no number from `least` to `greatest`
abbrev pub LacksOptional : Text → ℕ → ℕ → List Row → WordsFault → Type 0
LacksOptional name least greatest rows (Clap error) = ⊥
LacksOptional name least greatest rows (BadValue option) = (option.now ≡ name) × ¬ ((n : Option ℕ) × HasOptional name rows n × IsWithin least greatest n)
LacksOptional name least greatest rows (Conflict option other) = ⊥
LacksOptional name least greatest rows NoMemory = ⊥

-- the error names this option, which has no text
abbrev pub LacksText : Text → List Row → WordsFault → Type 0
LacksText name rows (Clap error) = ⊥
LacksText name rows (BadValue option) = (option.now ≡ name) × (first_of name rows ≡ None)
LacksText name rows (Conflict option other) = ⊥
LacksText name rows NoMemory = ⊥

-- the result is the options of the matches, in range; or an error: no such options, two options
-- that exclude each other, or no memory
abbrev pub Reads : Text × List Row → Result Options WordsFault → Type 0
Reads read (Ok o) = IsReadAs read o × IsInRange o
Reads read (Err (Clap error)) = ⊥
Reads read (Err (BadValue option)) = (LacksValue read option.now ⊎ IsUnknown read.0 option.now) × ¬ ((o : Options) × IsReadAs read o × IsInRange o)
Reads read (Err (Conflict option other)) = GivesBoth read option.now other.now × ¬ ((o : Options) × IsReadAs read o × IsInRange o)
Reads read (Err NoMemory) = (read.0 ≡ codes "subscribe") ⊎ (read.0 ≡ codes "master")

-- the fault for an error of clap: `Clap` with this error, or `NoMemory` if memory ran out
abbrev pub IsFaultOf : Error → WordsFault → Type 0
IsFaultOf error (Clap same) = (same ≡ error) × (kind_of error ≢ OutOfMemory)
IsFaultOf error (BadValue option) = ⊥
IsFaultOf error (Conflict option other) = ⊥
IsFaultOf error NoMemory = kind_of error ≡ OutOfMemory

-- the arguments that give a framing: `--chunked`, `--lines`, or no argument for plain RecordIO
abbrev pub SayFraming : List Text → Framing → Type 0
SayFraming words Plain = words ≡ []
SayFraming words Chunked = words ≡ codes "--chunked" ∷ []
SayFraming words Lines = words ≡ codes "--lines" ∷ []

-- the arguments that set a flag: the flag, or no argument
abbrev pub SayFlag : Text → List Text → Bool → Type 0
SayFlag flag words false = words ≡ []
SayFlag flag words true = words ≡ flag ∷ []

-- the arguments that describe the input: those that give the framing, then `--calls` if the
-- records are calls
abbrev pub SayInput : List Text → Framing → Bool → Type 0
SayInput words framing calls =
    (flags : List Text) × (kinds : List Text) × SayFraming flags framing × SayFlag (codes "--calls") kinds calls × (words ≡ flags ++ kinds)

-- the arguments that give an option this number: `--option N` or `--option=N`
abbrev pub SayNumber : Text → List Text → ℕ → Type 0
SayNumber option words n =
    (text : Text) × Writes text n × ((words ≡ option ∷ text ∷ []) ⊎ (words ≡ (option ++ 61 ∷ text) ∷ []))

-- like `SayNumber`, or no argument for the default
abbrev pub SayUsually : Text → Text → List Text → ℕ → Type 0
SayUsually usual option words n = ((words ≡ []) × Writes usual n) ⊎ SayNumber option words n

-- like `SayNumber`, or no argument for no number
abbrev pub SayOptional : Text → List Text → Option ℕ → Type 0
SayOptional option words None = words ≡ []
SayOptional option words (Some n) = SayNumber option words n

-- the text has a first character, which is not a hyphen
abbrev pub BeginsPlainly : Text → Type 0
BeginsPlainly [] = ⊥
BeginsPlainly (x ∷ xs) = (x == 45) ≡ false

-- the arguments that give an option this text: `--option TEXT` or `--option=TEXT`
abbrev pub SayText : Text → List Text → Text → Type 0
SayText option words text = BeginsPlainly text × ((words ≡ option ∷ text ∷ []) ⊎ (words ≡ (option ++ 61 ∷ text) ∷ []))

-- the arguments that give `--stream` this id, or no argument for the default
abbrev pub SayStream : List Text → List ℕ → Type 0
SayStream words stream =
    ((words ≡ []) × (parsed DEFAULT_STREAM.now ≡ Some stream)) ⊎ ((text : Text) × SayText (codes "--stream") words text × (parsed text ≡ Some stream))

-- the arguments that give `--limit` this number, or no argument for the default
abbrev pub SayLimit : List Text → ℕ → Type 0
SayLimit words limit = SayUsually DEFAULT_LIMIT.now (codes "--limit") words limit

-- the arguments that give `--most` this chunk size, or no argument for no chunks
abbrev pub SayMost : List Text → Option ℕ → Type 0
SayMost words None = words ≡ []
SayMost words (Some most) = SayNumber (codes "--most") words most

-- the program's name, this subcommand, `--chunked` or `--lines`, `--calls`, `--limit`, in this
-- order, each at most once
abbrev pub SayReading : Text → List Text → Framing → ℕ → Bool → Type 0
SayReading name words framing limit calls =
    (program : Text) × (flags : List Text) × (limits : List Text) × SayInput flags framing calls × SayLimit limits limit
    × (words ≡ program ∷ name ∷ (flags ++ limits))

-- like `SayReading`, but for `show`, with `--json` last
abbrev pub SayShow : List Text → Framing → ℕ → Bool → Bool → Type 0
SayShow words framing limit json calls =
    (program : Text) × (flags : List Text) × (limits : List Text) × (lines : List Text) × SayInput flags framing calls
    × SayLimit limits limit × SayFlag (codes "--json") lines json × (words ≡ program ∷ codes "show" ∷ (flags ++ (limits ++ lines)))

-- like `SayReading`, but for `convert`, with `--most` or `--json` last
abbrev pub SayConvert : List Text → Framing → ℕ → OutputFormat → Bool → Type 0
SayConvert words framing limit format calls =
    (program : Text) × (flags : List Text) × (limits : List Text) × (sizes : List Text) × (lines : List Text) × SayInput flags framing calls
    × SayLimit limits limit × SayMost sizes (most_in format) × SayFlag (codes "--json") lines (json_in format)
    × (words ≡ program ∷ codes "convert" ∷ (flags ++ (limits ++ (sizes ++ lines))))

-- like `SayReading`, but for `replay`, with `--limit`, `--json`
abbrev pub SayReplay : List Text → ℕ → Bool → Type 0
SayReplay words limit json =
    (program : Text) × (limits : List Text) × (lines : List Text) × SayLimit limits limit × SayFlag (codes "--json") lines json
    × (words ≡ program ∷ codes "replay" ∷ (limits ++ lines))

-- like `SayReading`, but for `relog`, which has `--limit` only
abbrev pub SayLog : Text → List Text → ℕ → Type 0
SayLog name words limit = (program : Text) × (limits : List Text) × SayLimit limits limit × (words ≡ program ∷ name ∷ limits)

-- like `SayReading`, but for `serve`, with `--port`, `--count`, `--stream`
abbrev pub SayServe : List Text → ℕ → ℕ → List ℕ → Type 0
SayServe words port count stream =
    (program : Text) × (ports : List Text) × (counts : List Text) × (streams : List Text) × SayNumber (codes "--port") ports port
    × SayNumber (codes "--count") counts count × SayStream streams stream × (words ≡ program ∷ codes "serve" ∷ (ports ++ (counts ++ streams)))

-- like `SayReading`, but for `master`, with `--port`, `--heartbeat`, `--resend`, `--finish-after`,
-- `--seconds`, `--most`, `--once`, and without `--fault`, `--faults`, `--seed`
abbrev pub SayMaster : List Text → ℕ → ℕ → ℕ → Option ℕ → Option ℕ → ℕ → Bool → Type 0
SayMaster words port heartbeat resend finish_after seconds most once =
    (program : Text) × (ports : List Text) × (heartbeats : List Text) × (resends : List Text) × (finishes : List Text) × (times : List Text)
    × (sizes : List Text) × (flags : List Text) × SayNumber (codes "--port") ports port
    × SayUsually DEFAULT_HEARTBEAT.now (codes "--heartbeat") heartbeats heartbeat × SayUsually DEFAULT_RESEND.now (codes "--resend") resends resend
    × SayOptional (codes "--finish-after") finishes finish_after × SayOptional (codes "--seconds") times seconds
    × SayUsually DEFAULT_MASTER_CHUNK.now (codes "--most") sizes most × SayFlag (codes "--once") flags once
    × (words ≡ program ∷ codes "master" ∷ (ports ++ (heartbeats ++ (resends ++ (finishes ++ (times ++ (sizes ++ flags)))))))

-- like `SayReading`, but for `subscribe`, with `--to`, `--user`, `--name`, `--reads`, `--json`
abbrev pub SaySubscribe : List Text → Text → Text → Text → ℕ → Bool → Type 0
SaySubscribe words to user name reads json =
    (program : Text) × (tos : List Text) × (users : List Text) × (names : List Text) × (numbers : List Text) × (lines : List Text)
    × SayText (codes "--to") tos to × SayText (codes "--user") users user × SayText (codes "--name") names name
    × SayUsually DEFAULT_SUBSCRIBE_READS.now (codes "--reads") numbers reads × SayFlag (codes "--json") lines json
    × (words ≡ program ∷ codes "subscribe" ∷ (tos ++ (users ++ (names ++ (numbers ++ lines)))))

-- like `SayReading`, but for `loopback`, with `--most`
abbrev pub SayLoopback : List Text → ℕ → Type 0
SayLoopback words most =
    (program : Text) × (sizes : List Text) × SayUsually DEFAULT_LOOPBACK_CHUNK.now (codes "--most") sizes most × (words ≡ program ∷ codes "loopback" ∷ sizes)

-- a plan without faults
abbrev pub no_faults : Plan
no_faults = record { faults = []; random = None }

-- The arguments are the program's name, a subcommand and its options in order, each at most once.
-- `--fault`, `--faults` and `--seed` of `master` are not among them: what they mean is in
-- `NameOptions`, for all arguments.
abbrev pub SayPlainly : List Text → Options → Type 0
SayPlainly words (Check framing limit calls) = SayReading (codes "check") words framing limit calls
SayPlainly words (Show framing limit json calls) = SayShow words framing limit json calls
SayPlainly words (Convert framing limit format calls) = SayConvert words framing limit format calls
SayPlainly words (Replay limit json) = SayReplay words limit json
SayPlainly words (Relog limit) = SayLog (codes "relog") words limit
SayPlainly words (Serve port count stream) = SayServe words port count stream
SayPlainly words (Master port heartbeat resend finish_after seconds most once plan) =
    SayMaster words port heartbeat resend finish_after seconds most once × (plan ≡ no_faults)
SayPlainly words (Subscribe to user name reads json) = SaySubscribe words to user name reads json
SayPlainly words (Loopback most) = SayLoopback words most
