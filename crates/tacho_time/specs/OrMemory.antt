-- Trusted: Out of memory, which a function may return in place of any other result.
use Rattle.std.specs.Prelude.{◌≡◌, ◌⊎◌}

-- the fault is out of memory, or the given statement holds
abbrev pub OrMemory : {F : Type 0} → F → F → Type 0 → Type 0
OrMemory memory fault Wanted = (fault ≡ memory) ⊎ Wanted
