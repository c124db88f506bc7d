-- Trusted in part: The order of the breaches in a report. No Article prescribes this.
use Rattle.std.specs.Prelude.{◌≡◌, ℕ, ◌<◌, ◌⊎◌, List, AllPairs}
use Rattle.tacho_law.specs.declared.breach.Breach.{Breach}
use Rattle.tacho_law.specs.declared.breach.Kind.{Kind}
use Rattle.tacho_law.specs.declared.breach.Kind.TheVariants.{B1, B2, B3, B4, B5, B6, B7, B8, B9, B10}
use Rattle.tacho_law.specs.Exactly.{AreExactly}

-- the place of a kind in the order of kinds
abbrev pub place_of_kind : Kind → ℕ
place_of_kind B1 = 1
place_of_kind B2 = 2
place_of_kind B3 = 3
place_of_kind B4 = 4
place_of_kind B5 = 5
place_of_kind B6 = 6
place_of_kind B7 = 7
place_of_kind B8 = 8
place_of_kind B9 = 9
place_of_kind B10 = 10

-- by moment, then kind, then since
abbrev pub Earlier : Breach → Breach → Type 0
Earlier a b = (a.moment < b.moment)
    ⊎ ((a.moment ≡ b.moment) × ((place_of_kind a.kind < place_of_kind b.kind)
    ⊎ ((place_of_kind a.kind ≡ place_of_kind b.kind) × (a.since < b.since))))

-- two breaches have the same place in the order
pub record Agree (a b : Breach) : Type 0 where
  pub moment : a.moment ≡ b.moment
  pub kind : a.kind ≡ b.kind
  pub since : a.since ≡ b.since

-- two breaches don't have the same place
abbrev pub Apart : Breach → Breach → Type 0
Apart a b = ¬ (Agree a b)

-- no two breaches of the list have the same place
abbrev pub HaveOwnPlaces : List Breach → Type 0
HaveOwnPlaces found = AllPairs Apart found

-- exactly these breaches, each once, in order
abbrev pub AreBreaches : (Breach → Type 0) → List Breach → Type 0
AreBreaches P found = AreExactly P Earlier found
