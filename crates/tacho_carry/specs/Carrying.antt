-- Trusted in part: What it means that an archive's drivers were carried into a new archive.
use Rattle.std.specs.Prelude.{◌≡◌, ◌⊎◌, ◌++◌, ◌∷◌, [], ℕ, IsPermutation, IsSorted, List, length}
use Rattle.std.specs.List.{AllByRecursion}
use Rattle.std.specs.Ordering.{nat_cmp}
use Rattle.tacho_state.specs.Content.{AreRead}
use Rattle.tacho_state.specs.Distinct.{AreDistinct}
use Rattle.tacho_state.specs.Registration.{Registration}
use Rattle.tacho_state.specs.State.{Download, Driver, Entry, State, with_batch}
use Rattle.tacho_state.specs.declared.fault.StoreFault.{StoreFault}
use Rattle.tacho_state.specs.declared.fault.StoreFault.TheVariants.{Memory, Store}
use Rattle.tacho_carry.specs.Carried.{carried, carried_entries, carried_files}
use Rattle.tacho_carry.specs.declared.archive.Carried.{Carried}

-- memory ran out, or the store failed
abbrev pub HasGivenUp : StoreFault → Type 0
HasGivenUp fault = (fault ≡ Memory) ⊎ (fault ≡ Store)

-- no two drivers are alike, and each card file gives its download's spans: this holds of each state that tables represent
pub record IsRead (s : State) : Type 0 where
  pub distinct : AreDistinct s
  pub files : AllByRecursion (λ (d : Driver). AreRead d.downloads) s

-- the archive has this state, and a crash leaves no other
abbrev pub IsAt : (State → Type 0) → (List State → Type 0) → State → Type 0
IsAt stands leaves s = stands s × leaves (s ∷ [])

-- the drivers of a state were carried from a day on into an archive of which `stands` and `leaves` say which state it has and which a
-- crash leaves: there they stand ordered by number
pub record AreCarried (day : ℕ) (s : State) (stands : State → Type 0) (leaves : List State → Type 0) (done : Carried) : Type 0 where
  pub drivers : State
  pub all : IsPermutation s drivers
  pub sorted : IsSorted (λ (x y : Driver). nat_cmp x.number y.number) drivers
  pub at : IsAt stands leaves (carried day drivers)
  pub count : done.carried ≡ length (carried day drivers)
  pub total : done.all ≡ length drivers

-- ---- a driver who is being carried

-- as they are registered
abbrev pub registered : Registration → Driver
registered r =
    record { number = r.number; holder = r.holder; key = r.key; base = r.base; name = r.name; downloads = []; entries = [] }

-- with the card files that are carried, after those that they have
abbrev pub with_files : ℕ → List Download → Driver → Driver
with_files start ds d = record d { downloads = d.downloads ++ carried_files start ds }

-- with the entries that are carried, after those that they have
abbrev pub with_entries : ℕ → List Entry → Driver → Driver
with_entries start es d = with_batch (carried_entries start es) d
