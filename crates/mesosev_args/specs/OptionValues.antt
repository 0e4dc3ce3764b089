-- The values that the options have in clap's matches of a subcommand, and their ranges.
use Rattle.std.specs.Prelude.{◌≡◌, ◌≢◌, ◌≤◌, ℕ, Bool, true, false, List, [], Option, Some, None, IsSomeAnd, codes, unwrap_or}
use Rattle.std.specs.List.{All, AllZip}
use Rattle.std.specs.Str.Parse.{IsNumeral, digits_value, without_leading_plus}
use Rattle.clap.specs.Words.{Text, Row, all_of, first_of, one_of}
use Rattle.uuid.specs.Text.{parsed}
use Rattle.mes_stream.specs.declared.stream_reader.Framing.{Framing}
use Rattle.mes_stream.specs.declared.stream_reader.Framing.TheVariants.{Plain, Chunked, Lines}
use Rattle.mes_double_faults.specs.Plans.{Plan}
use Rattle.mes_double_faults.specs.Texts.{IsText, IsInRange as IsFaultInRange}
use Rattle.mes_double_faults.specs.declared.fault.Fault.{Fault}
use Rattle.mes_double_faults.specs.declared.random.RandomFaults.{RandomFaults}
use Rattle.mesosev_args.specs.declared.args.TheConstants.{MIN_CONNECTIONS, MAX_CONNECTIONS, MIN_PORT, MAX_PORT, MIN_SUBSCRIBE_READS, MAX_SUBSCRIBE_READS}
use Rattle.mesosev_args.specs.declared.args.TheConstants.{MIN_MASTER_PORT, MAX_SECONDS, MIN_HEARTBEAT, MIN_RESEND, MIN_FINISH_AFTER, MIN_SECONDS}
use Rattle.mesosev_args.specs.declared.args.TheConstants.{MIN_RATE, MAX_RATE, MIN_SEED, MAX_SEED}
use Rattle.mes_frame.specs.declared.limits.TheConstants.{MIN_CHUNK, MAX_CHUNK, MIN_RECORD_LIMIT, MAX_RECORD_LIMIT}

-- the text is the number in decimal digits, with or without a leading `+`
abbrev pub Writes : Text → ℕ → Type 0
Writes text n = IsNumeral 10 (without_leading_plus text)
    × (digits_value 10 (without_leading_plus text) ≡ n)

-- the flag of this name is set in a subcommand's matches exactly if this is true
abbrev pub HasFlag : Text → List Row → Bool → Type 0
HasFlag flag rows false = one_of flag rows ≢ Some (codes "true")
HasFlag flag rows true = one_of flag rows ≡ Some (codes "true")

-- the flags `--chunked` and `--lines` are set in a subcommand's matches exactly as for this framing
abbrev pub HasFraming : List Row → Framing → Type 0
HasFraming rows Plain = HasFlag (codes "chunked") rows false × HasFlag (codes "lines") rows false
HasFraming rows Chunked = HasFlag (codes "chunked") rows true × HasFlag (codes "lines") rows false
HasFraming rows Lines = HasFlag (codes "chunked") rows false × HasFlag (codes "lines") rows true

-- the option of this name has this number in a subcommand's matches, given or by default
abbrev pub HasNumber : Text → List Row → ℕ → Type 0
HasNumber option rows n = IsSomeAnd (one_of option rows) (λ text. Writes text n)

-- the option of this name has this number in a subcommand's matches, or is not given
abbrev pub HasOptional : Text → List Row → Option ℕ → Type 0
HasOptional option rows None = one_of option rows ≡ None
HasOptional option rows (Some n) = HasNumber option rows n

-- the option of this name has this text in a subcommand's matches
abbrev pub HasText : Text → List Row → Text → Type 0
HasText option rows text = first_of option rows ≡ Some text

-- `--limit` has this value in a subcommand's matches, given or by default
abbrev pub HasLimit : List Row → ℕ → Type 0
HasLimit rows limit = HasNumber (codes "limit") rows limit

-- `--most` has this value in a subcommand's matches, or is not given
abbrev pub HasMost : List Row → Option ℕ → Type 0
HasMost rows None = one_of (codes "most") rows ≡ None
HasMost rows (Some most) = HasNumber (codes "most") rows most

-- `--stream` has this UUID in a subcommand's matches, in any text form of a UUID
abbrev pub HasStream : List Row → List ℕ → Type 0
HasStream rows stream = IsSomeAnd (first_of (codes "stream") rows) (λ text. parsed text ≡ Some stream)

-- the text is that of the fault, whose numbers are in their ranges
abbrev pub NamesFault : Text → Fault → Type 0
NamesFault text fault = IsText text fault × IsFaultInRange fault

-- the texts of `--fault` in a subcommand's matches, in order; none if the option is not given
abbrev pub fault_texts : List Row → List Text
fault_texts rows = unwrap_or (all_of (codes "fault") rows) []

-- the texts of `--fault` in a subcommand's matches are in order those of these faults
abbrev pub HasFaults : List Row → List Fault → Type 0
HasFaults rows faults = AllZip NamesFault (fault_texts rows) faults

-- `--faults` and `--seed` have this rate and this seed in a subcommand's matches, or `--faults` is
-- not given
abbrev pub HasRandom : List Row → Option RandomFaults → Type 0
HasRandom rows None = one_of (codes "faults") rows ≡ None
HasRandom rows (Some random) = HasNumber (codes "faults") rows random.rate × HasNumber (codes "seed") rows random.seed

-- the limit is in its range
abbrev pub IsLimit : ℕ → Type 0
IsLimit limit = (MIN_RECORD_LIMIT ≤ limit) × (limit ≤ MAX_RECORD_LIMIT)

-- the chunk size, if given, is in its range
abbrev pub IsMost : Option ℕ → Type 0
IsMost None = Unit {0}
IsMost (Some most) = (MIN_CHUNK ≤ most) × (most ≤ MAX_CHUNK)

-- the number, if given, is from `least` to `greatest`
abbrev pub IsWithin : ℕ → ℕ → Option ℕ → Type 0
IsWithin least greatest None = Unit {0}
IsWithin least greatest (Some n) = (least ≤ n) × (n ≤ greatest)

-- the values of `--port`, `--count` and `--reads` are in their ranges
abbrev pub IsPort : ℕ → Type 0
IsPort port = (MIN_PORT ≤ port) × (port ≤ MAX_PORT)

abbrev pub IsCount : ℕ → Type 0
IsCount count = (MIN_CONNECTIONS ≤ count) × (count ≤ MAX_CONNECTIONS)

abbrev pub IsReads : ℕ → Type 0
IsReads reads = (MIN_SUBSCRIBE_READS ≤ reads) × (reads ≤ MAX_SUBSCRIBE_READS)

-- the values of the options of `master` are in their ranges
abbrev pub IsMasterPort : ℕ → Type 0
IsMasterPort port = (MIN_MASTER_PORT ≤ port) × (port ≤ MAX_PORT)

abbrev pub IsHeartbeat : ℕ → Type 0
IsHeartbeat heartbeat = (MIN_HEARTBEAT ≤ heartbeat) × (heartbeat ≤ MAX_SECONDS)

abbrev pub IsResend : ℕ → Type 0
IsResend resend = (MIN_RESEND ≤ resend) × (resend ≤ MAX_SECONDS)

abbrev pub IsFinishAfter : Option ℕ → Type 0
IsFinishAfter finish_after = IsWithin MIN_FINISH_AFTER MAX_SECONDS finish_after

abbrev pub IsSeconds : Option ℕ → Type 0
IsSeconds seconds = IsWithin MIN_SECONDS MAX_SECONDS seconds

abbrev pub IsRate : Option ℕ → Type 0
IsRate rate = IsWithin MIN_RATE MAX_RATE rate

abbrev pub IsSeed : ℕ → Type 0
IsSeed seed = (MIN_SEED ≤ seed) × (seed ≤ MAX_SEED)

-- the rate and the seed of the faults at random, if there are any, are in their ranges
abbrev pub IsRandom : Option RandomFaults → Type 0
IsRandom None = Unit {0}
IsRandom (Some random) = IsRate (Some random.rate) × IsSeed random.seed

-- the numbers of each fault, and those of the faults at random, are in their ranges
abbrev pub IsPlan : Plan → Type 0
IsPlan plan = All IsFaultInRange plan.faults × IsRandom plan.random
