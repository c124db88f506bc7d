-- A driver without a row in `drivers`, or with a row that no state has.
use Rattle.std.proofs.Common.{◌≡◌, ◌≢◌, ◌∙◌, ℤ, ◌<◌, ◌≤◌, inl, inr, List, [], ◌∷◌, None, Some, sym, arith}
use Rattle.sqlite.specs.Order.{Row}
use Rattle.tacho_tables.specs.Rows.{DriverRow, driver_row}
use Rattle.tacho_tables.specs.declared.table.TableName.{TableName}
use Rattle.tacho_tables.specs.declared.table.TableName.TheVariants.{Drivers, Downloads, CardSpans, EntryRows, Held}
use Rattle.tacho_reading.specs.Standing.{driver_columns}
use Rattle.tacho_check.specs.Check.{place}
use Rattle.tacho_check.specs.Member.{HasMember, HasNoRows, IsOwnSound}
use Rattle.tacho_check.specs.Registered.{HasOwnColumns}
use Rattle.tacho_check.specs.Judged.{IsJudged}
use Rattle.tacho_check.proofs.SpreadLemmas.{single}

-- what is known of each table up to one
pub up_to : (k : TableName) (P : TableName → Type 0) → P Drivers → (1 ≤ place k → P Downloads) → (2 ≤ place k → P CardSpans)
    → (3 ≤ place k → P EntryRows) → (4 ≤ place k → P Held) → (j : TableName) → place j ≤ place k → P j
up_to k P first a b c d Drivers before = first
up_to k P first a b c d Downloads before = a before
up_to k P first a b c d CardSpans before = b before
up_to k P first a b c d EntryRows before = c before
up_to k P first a b c d Held before = d before

-- each table is `held` or before it
pub before_last : (k : TableName) → place k ≤ place Held
before_last k =
    up_to k (λ j. place j ≤ place Held) (omega arith) (λ _. omega arith) (λ _. omega arith) (λ _. omega arith) (λ _. omega arith)
    k (omega arith)

module _ (rows : TableName → List Row) (n : ℤ) (absent : rows Drivers ≡ []) where
  -- a member has a row in `drivers`
  no_member : (k : TableName) → HasMember rows n k → ⊥
  no_member k it =
      let one = single (driver_row (driver_columns it.member.driver)) (rows Drivers) (it.same Drivers (omega arith)) in
      let e = sym absent ∙ one in cc

  no_rows : (k : TableName) → IsOwnSound rows n k → HasNoRows rows k
  no_rows k (inl none) = none
  no_rows k (inr it) = absurd (no_member k it)

  -- a table with rows, after tables without, is the first that isn't sound
  pub first_judged : (k : TableName) → rows k ≢ [] → (1 < place k → rows Downloads ≡ []) → (2 < place k → rows CardSpans ≡ [])
      → (3 < place k → rows EntryRows ≡ []) → IsJudged rows n (Some k)
  first_judged k some a b c = (
    (λ sound. some (no_rows k sound k (omega arith))),
    (λ j before. inl (λ i first. up_to k (λ i. place i < place k → rows i ≡ []) (λ _. absent) (λ _. a) (λ _. b) (λ _. c)
        (λ _ less. let last = before_last k in absurd (omega (arith, last, less)))
        i (omega (arith, first, before)) (omega (arith, first, before)))),
  )

  -- where no table has rows, all are sound
  pub none_judged : rows Downloads ≡ [] → rows CardSpans ≡ [] → rows EntryRows ≡ [] → rows Held ≡ [] → IsJudged rows n None
  none_judged a b c d = inl (up_to Held (λ j. rows j ≡ []) absent (λ _. a) (λ _. b) (λ _. c) (λ _. d))

-- rows in `drivers` that aren't those of a driver within their limits aren't sound
pub unfit_judged : (rows : TableName → List Row) (n : ℤ) → rows Drivers ≢ []
    → ((r : DriverRow) → HasOwnColumns r → rows Drivers ≢ driver_row r ∷ []) → IsJudged rows n (Some Drivers)
unfit_judged rows n some unfit = (never, λ j before. absurd (omega (arith, before))) where
  never : IsOwnSound rows n Drivers → ⊥
  never (inl none) = some (none Drivers (omega arith))
  never (inr it) = unfit (driver_columns it.member.driver) it.within.columns
      (single (driver_row (driver_columns it.member.driver)) (rows Drivers) (it.same Drivers (omega arith)))
