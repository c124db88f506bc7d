-- Trusted: The program's status after a fault.
use Rattle.std.specs.Prelude.{ℕ}
use Rattle.tacho_state.specs.declared.fault.StoreFault.TheVariants as store
use Rattle.tacho_sheet.specs.declared.fault.Fault.{Fault}
use Rattle.tacho_sheet.specs.declared.fault.Fault.TheVariants as fault

-- 3 if memory ran out, the store failed, or a device failed; 1 after a refusal
abbrev pub exit_status : Fault → ℕ
exit_status fault.Memory = 3
exit_status fault.Device = 3
exit_status (fault.Store store.Store) = 3
exit_status f = 1
