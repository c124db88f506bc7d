-- Private to tacho_check: Rows that readings show, as typed rows.
use Rattle.std.specs.Prelude.{◌≡◌, ◌≢◌, ◌⊎◌, ℕ, ◌+◌, ◌≤◌, ℤ, pos, List, [], ◌∷◌, map, length, Option, None, Some, Vec, IsPermutation}
use Rattle.std.specs.declared.alloc.Global.{Global}
use Rattle.sqlite.specs.declared.types.Value.{Value}
use Rattle.sqlite.specs.declared.types.Value.TheVariants.{Int, Blob}
use Rattle.sqlite.specs.Order.{Row}
use Rattle.sqlite_rules.specs.Lists.{Has}
use Rattle.tacho_time.specs.Limits.{greatest_minute}

-- ---- columns

-- the number that isn't negative, or none
abbrev pub IsNatural : ℤ → Option ℕ → Type 0
IsNatural n None = (k : ℕ) → n ≢ pos k
IsNatural n (Some k) = n ≡ pos k

-- the number of a value that isn't negative, or none
abbrev pub IsNumberOf : Value → Option ℕ → Type 0
IsNumberOf v None = (k : ℕ) → v ≢ Int (pos k)
IsNumberOf v (Some k) = v ≡ Int (pos k)

-- the minute of a value, or none
abbrev pub IsMinuteOf : Value → Option ℕ → Type 0
IsMinuteOf v None = (k : ℕ) → k ≤ greatest_minute → v ≢ Int (pos k)
IsMinuteOf v (Some k) = (v ≡ Int (pos k)) × (k ≤ greatest_minute)

-- the fifteen bytes of a value, or none
abbrev pub IsHolderOf : Value → Option (List ℕ) → Type 0
IsHolderOf v None = (b : List ℕ) → length b ≡ 15 → v ≢ Blob b
IsHolderOf v (Some b) = (v ≡ Blob b) × (length b ≡ 15)

-- ---- rows

-- what a row is parsed to: something that stands for a typed row that it shows, or nothing, where it shows none
module _ {X Y : Type 0} (Shows : Row → X → Type 0) (StandsFor : Y → X → Type 0) where
  abbrev pub IsParsed : Row → Option Y → Type 0
  IsParsed row None = (x : X) → ¬ (Shows row x)
  IsParsed row (Some y) = (x : X) × Shows row x × StandsFor y x

-- the lists are as long, and each two elements at one place are so
abbrev pub Pairs : {X Y : Type 0} → (X → Y → Type 0) → List X → List Y → Type 0
Pairs R [] [] = Unit {0}
Pairs R [] (y ∷ ys) = ⊥
Pairs R (x ∷ xs) [] = ⊥
Pairs R (x ∷ xs) (y ∷ ys) = R x y × Pairs R xs ys

-- each number is at least the one before it, and the first at least i
abbrev pub NeverFall : ℕ → List ℕ → Type 0
NeverFall i [] = Unit {0}
NeverFall i (k ∷ ks) = (i ≤ k) × NeverFall k ks

-- the numbers go on from i on, one by one
abbrev pub GoOn : ℕ → List ℕ → Type 0
GoOn i [] = Unit {0}
GoOn i (k ∷ ks) = (k ≡ i) × GoOn (i + 1) ks

-- the numbers from 1 to this count
abbrev pub IsCounted : ℕ → List ℕ → Type 0
IsCounted count ks = (length ks ≡ count) × GoOn 1 ks

module _ {Y : Type 0} (is_of : Row → Option Y → Type 0) where
  -- one of the rows shows no typed row
  abbrev pub HasUnread : List Row → Type 0
  HasUnread rows = (bad : Row) × Has rows bad × is_of bad None

  -- what rows are parsed to, in their order
  abbrev pub AreRead : List Row → List Y → Type 0
  AreRead rows ys = Pairs (λ row y. is_of row (Some y)) rows ys

  abbrev pub AreParsed : List Row → Option (Vec Y Global) → Type 0
  AreParsed rows None = HasUnread rows
  AreParsed rows (Some ys) = AreRead rows ys.items

  module _ (number_of : Y → ℕ) where
    -- what rows are parsed to, in the order of its numbers
    pub record AreInOrder (rows : List Row) (ys : List Y) : Type 0 where
      pub moved : List Row
      pub same : IsPermutation rows moved
      pub each : AreRead moved ys
      pub never_fall : NeverFall 0 (map number_of ys)

    -- likewise, if the numbers are those from 1 to the count
    abbrev pub AreNumbered : ℕ → List Row → Option (Vec Y Global) → Type 0
    AreNumbered count rows None =
        HasUnread rows ⊎ ((ys : List Y) × AreInOrder rows ys × (¬ (IsCounted count (map number_of ys))))
    AreNumbered count rows (Some ys) = AreInOrder rows ys.items × IsCounted count (map number_of ys.items)
