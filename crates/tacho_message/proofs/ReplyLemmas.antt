-- What two writes in sequence append.
use Rattle.std.proofs.Common.{◌≤◌, ◌+◌, ◌++◌, ℕ, List, Option, length, take, sym, subst, arith, length-append}
use Rattle.std.proofs.Math.Seq.{take-append-add}
use Rattle.std.proofs.KnownBytes.{Appends-trans}
use Rattle.std.specs.Io.KnownBytes.{Appends}

-- if a beginning of the body is appended after the head, a beginning of the whole is appended
pub begun_after : (old mid new : Option (List ℕ)) (head body : List ℕ) → Appends old mid head
    → (n : ℕ) × (n ≤ length body) × Appends mid new (take n body)
    → (n : ℕ) × (n ≤ length (head ++ body)) × Appends old new (take n (head ++ body))
begun_after old mid new head body before (n, within, now) = (
  length head + n,
  rw length-append (omega (arith, within)),
  subst (Appends old new) (sym (take-append-add head body n)) (Appends-trans old mid new head (take n body) before now),
)
