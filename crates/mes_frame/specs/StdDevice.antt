-- The readers and writers of std as devices.
use Rattle.std.specs.Prelude.{ℕ, List, Option}
use Rattle.mes_frame.specs.Devices.{Device}
use Rattle.mes_frame.specs.declared.std_device.FromStd.{FromStd}

-- the reader or writer of std that a device wraps
abbrev pub inner_of : {T : Type 0} → FromStd T → T
inner_of s = s.inner

-- the observable state of a device that wraps a reader or writer of std with the given bytes
abbrev pub device_of : {T : Type 0} → (T → Option (List ℕ)) → FromStd T → Device
device_of bytes s = record { bytes = bytes (inner_of s); counts = s.counts }
