-- The record limit and the framing that a caller gives by number.
use Rattle.std.specs.Prelude.{◌≡◌, ℕ, ◌<◌, ◌≤◌, Result, Ok, Err}
use Rattle.mes_frame.specs.declared.limits.TheConstants.{MIN_RECORD_LIMIT, MAX_RECORD_LIMIT}
use Rattle.mes_stream.specs.declared.stream_reader.Framing.{Framing}
use Rattle.mes_stream.specs.declared.stream_reader.Framing.TheVariants.{Plain, Chunked, Lines}
use Rattle.mesosev_c.specs.declared.option_numbers.DecoderOptions.{DecoderOptions}
use Rattle.mesosev_c.specs.declared.option_numbers.BadOption.{BadOption}
use Rattle.mesosev_c.specs.declared.option_numbers.BadOption.TheVariants as refused
use Rattle.mesosev_c.specs.Numbers.{BAD_LIMIT, BAD_FRAMING}

-- the number, in bytes, is a valid record limit
abbrev pub IsLimit : ℕ → Type 0
IsLimit bytes = (MIN_RECORD_LIMIT ≤ bytes) × (bytes ≤ MAX_RECORD_LIMIT)

-- the number that represents a framing in C
abbrev pub number_of_framing : Framing → ℕ
number_of_framing Plain = 0
number_of_framing Chunked = 1
number_of_framing Lines = 2

-- the options that the two numbers represent, or the invalid one; the limit is checked first
abbrev pub IsAsked : ℕ → ℕ → Result DecoderOptions BadOption → Type 0
IsAsked limit framing (Ok asked) = IsLimit limit × (asked.limit ≡ limit) × (framing ≡ number_of_framing asked.framing)
IsAsked limit framing (Err refused.Limit) = IsLimit limit → ⊥
IsAsked limit framing (Err refused.Framing) = IsLimit limit × (1 < framing)

-- the status that reports an invalid number
abbrev pub refused_status : BadOption → ℕ
refused_status refused.Limit = BAD_LIMIT
refused_status refused.Framing = BAD_FRAMING
