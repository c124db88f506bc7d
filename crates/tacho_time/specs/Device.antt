-- Trusted: What contracts see of a device: its reader or writer, and whether a call has failed.
use Rattle.std.specs.Prelude.{Bool}
use Rattle.tacho_time.specs.declared.device.Device.{Device}

-- the reader or writer of the device
abbrev pub device_inner : {T : Type 0} → Device T → T
device_inner device = device.inner

-- true if a call of the device has failed
abbrev pub device_failed : {T : Type 0} → Device T → Bool
device_failed device = device.has_failed
