-- The writer of an output, and the condition for a closed output.
use Rattle.std.specs.Prelude.{ℕ, Bool, true, false, ◌||◌, Result, Ok, Err}
use Rattle.std.specs.IoError.{error_kind}
use Rattle.std.specs.declared.io.Error.{Error}
use Rattle.std.specs.declared.io.ErrorKind.{ErrorKind}
use Rattle.std.specs.declared.io.ErrorKind.TheVariants.{BrokenPipe}
use Rattle.mes_frame.specs.Devices.{Device}
use Rattle.mesosev_stream.specs.declared.output.Output.{Output}

-- the device of the writer `inner` of an output
abbrev pub output_of : {W : Type 0} → (W → Device) → Output W → Device
output_of device o = device o.inner

-- true if an error of the given kind means that a pipe has no reader
abbrev pub is_closed : ErrorKind → Bool
is_closed BrokenPipe = true
is_closed _ = false

-- true if an output is closed after a call with the given result; a closed output stays closed
abbrev pub closed_by : Bool → Result ℕ Error → Bool
closed_by closed (Ok taken) = closed
closed_by closed (Err error) = closed || is_closed (error_kind error)
