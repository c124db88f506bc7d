-- Private to tacho_reading: What a scan takes of a driver's rows that come one at a time: their spans, cut at a base, up to the horizon.
use Rattle.std.specs.Prelude.{◌≡◌, ℕ, ◌<◌, ◌≤◌, ◌⊎◌, nat_lt, nat_le, false, true, All, List, [], ◌∷◌, ◌++◌, map}
use Rattle.std.specs.Prelude.{if◌then◌else◌, Result, IfOk, IfErr, OnOk, IsTrue}
use Rattle.std.specs.Borrow.{MutBor}
use Rattle.sqlite.specs.Held.{Held, state}
use Rattle.sqlite.specs.Given.{HasGiven}
use Rattle.sqlite.specs.Order.{Row}
use Rattle.sqlite.specs.State.{Shown, HasCleanDisk, Survives}
use Rattle.sqlite.specs.Store.{Ghosts}
use Rattle.tacho_time.specs.declared.span.Span.{Span}
use Rattle.tacho_time.specs.Spans.{Covers}
use Rattle.tacho_line.specs.declared.horizon.Cause.{Cause}
use Rattle.tacho_line.specs.declared.horizon.Cause.TheVariants.{Unknown, Crew}
use Rattle.tacho_line.specs.declared.horizon.Horizon.{Horizon}
use Rattle.tacho_law.specs.Line.{Joined}
use Rattle.tacho_law.specs.Limits.{latest}
use Rattle.tacho_pass.specs.declared.found.Found.{Found}
use Rattle.tacho_pass.specs.Found.{Appends}
use Rattle.tacho_pass.specs.Kinds.{is_any}
use Rattle.tacho_rules.specs.declared.scan.Scan.{Scan}
use Rattle.tacho_rules.specs.Scan.{IsAt, HasFailed, IsScanOf}
use Rattle.tacho_state.specs.declared.fault.StoreFault.{StoreFault}
use Rattle.tacho_state.specs.declared.fault.StoreFault.TheVariants.{Memory, Store}
use Rattle.tacho_tables.specs.declared.rows.StoredSpan.{StoredSpan}
use Rattle.tacho_tables.specs.Next.{Tells, AreOnward, IsKept}
use Rattle.tacho_tables.specs.Rows.{SpanRow}
use Rattle.tacho_reading.specs.Kept.{IsSame}
use Rattle.tacho_reading.specs.Standing.{row_span, stored_span, IsFit}
use Rattle.tacho_reading.specs.declared.feeding.Step.{Step}
use Rattle.tacho_reading.specs.declared.feeding.Step.TheVariants.{On, Stop}

-- ---- spans from a base on

-- a span without its minutes before the base
abbrev pub cut : ℕ → Span → Span
cut base s = record { start = (if nat_lt s.start base then base else s.start); past = s.past; mark = s.mark }

-- spans without their minutes before the base; a span that ends by the base is dropped
abbrev pub cuts : ℕ → List Span → List Span
cuts base [] = []
cuts base (s ∷ spans) = if nat_le s.past base then cuts base spans else cut base s ∷ cuts base spans

-- cut at the base, the spans go from one minute to another without a gap, and none is crew
pub record AreWhole (base from past : ℕ) (spans : List Span) : Type 0 where
  pub joined : Joined (cuts base spans) from past
  pub single : All (λ s. s.mark.crew ≡ false) (cuts base spans)
  pub within : past ≤ latest

-- a scan was fed these cut spans: its new findings are added after the earlier ones
pub record HasTaken (base from past : ℕ) (spans : List Span) (old : Scan) (was : Found) (new : Scan)
    (found : Found) : Type 0 where
  pub whole : AreWhole base from past spans
  pub at : IsAt new past
  pub grown : Appends is_any true was found
  pub fed : (before : List Span) → IsScanOf old was base before → IsScanOf new found base (before ++ cuts base spans)

-- ---- where a scan stops

-- a span after a gap, or a span that is crew: `minute` is the horizon, and this is the cause
abbrev pub IsHorizonCause : ℕ → Cause → Span → Type 0
IsHorizonCause minute Unknown s = minute < s.start
IsHorizonCause minute Crew s = Covers s minute × (s.mark.crew ≡ true)

-- what one row does to a scan that is at `minute`: the scan takes it up to another minute, or the row stops the scan
abbrev pub IsStepOf : ℕ → ℕ → StoredSpan → Scan → Found → Scan → Found → Step → Type 0
IsStepOf base minute row old was new found (On past) =
    HasTaken base minute past (stored_span row ∷ []) old was new found
IsStepOf base minute row old was new found (Stop cause) =
    IsHorizonCause minute cause (stored_span row) × (new ≡ old) × (found ≡ was)

-- a row that an archive can have written: it isn't empty, ends by the end of 2099, and, cut at the base, begins at `minute` or later
pub record CanFollow (base minute : ℕ) (row : StoredSpan) : Type 0 where
  pub fit : IsFit row
  pub some : row.start < row.past
  pub within : row.past ≤ latest
  pub from : minute ≤ (cut base (stored_span row)).start

-- what a refused row leaves. If memory ran out, the scan has failed, and the earlier findings are still there. If the row can't follow,
-- nothing has changed.
abbrev pub IsRefusalOf : ℕ → ℕ → StoredSpan → Scan → Found → Scan → Found → StoreFault → Type 0
IsRefusalOf base minute row old was new found Memory = HasFailed new × Appends is_any true was found
IsRefusalOf base minute row old was new found Store = (¬ CanFollow base minute row) × (new ≡ old) × (found ≡ was)
IsRefusalOf base minute row old was new found fault = ⊥

-- ---- the rows of a query

-- each row shows the span in its place
abbrev pub AreTold : List Row → List StoredSpan → Type 0
AreTold [] [] = Unit {0}
AreTold [] (s ∷ spans) = ⊥
AreTold (r ∷ rows) [] = ⊥
AreTold (r ∷ rows) (s ∷ spans) = Tells r s × AreTold rows spans

-- the rows so far are all rows of the query; or it has given one more, which stops a scan at the horizon
abbrev pub HasStopped : {S : Type 0} → Ghosts S → List ℕ → Row → Held S → Held S → List Row → Horizon → Type 0
HasStopped {S = S} g sql params old new rows h =
    ((h.cause ≡ Unknown) × (last : Held S) × ((state g last).now ≡ (state g old).now)
    × Shown sql params (state g last) (state g new) rows)
    ⊎ ((row : Row) × (next : StoredSpan) × Tells row next × IsHorizonCause h.minute h.cause (stored_span next)
    × HasGiven g sql params new (rows ++ row ∷ []))

-- a scan took the spans of the next rows, from the base to the horizon, and stopped there
pub record HasFed {S : Type 0} (g : Ghosts S) (old new : Held S) (base : ℕ) (scan : Scan) (was : Found) (fed : Scan)
    (found : Found) (h : Horizon) : Type 0 where
  pub spans : List StoredSpan
  pub taken : HasTaken base base h.minute (map stored_span spans) scan was fed found
  pub stopped : (sql : List ℕ) (params : Row) (given : List Row) → HasGiven g sql params old given
      → (rows : List Row) × AreTold rows spans × HasStopped g sql params old new (given ++ rows) h

-- ---- a driver's rows

-- nothing comes after the horizon, or the first span after it stops a scan there
abbrev pub StopsBefore : Horizon → List Span → Type 0
StopsBefore h [] = h.cause ≡ Unknown
StopsBefore h (s ∷ spans) = IsHorizonCause h.minute h.cause s

-- of the driver's rows that begin at `start` or later, in order, a scan took those from the base up to the horizon
pub record AreFed (driver start base : ℕ) (rows : List SpanRow) (scan : Scan) (was : Found) (fed : Scan) (found : Found)
    (h : Horizon) : Type 0 where
  pub taken : List SpanRow
  pub others : List SpanRow
  pub onward : AreOnward driver start rows (taken ++ others)
  pub took : HasTaken base base h.minute (map row_span taken) scan was fed found
  pub stops : StopsBefore h (map row_span others)

-- ---- after any result of a reading

-- a scan has taken some spans from the base on
abbrev pub HasTakenSome : ℕ → Scan → Found → Scan → Found → Type 0
HasTakenSome base old was new found =
    (past : ℕ) × (spans : List Span) × HasTaken base base past spans old was new found

-- What a fault leaves of a scan. If the store failed, the scan has taken some spans and can continue. If memory ran out, this holds too, or
-- the scan has failed and its new findings are added after the earlier ones.
abbrev pub IsLeftAt : ℕ → Scan → Found → Scan → Found → StoreFault → Type 0
IsLeftAt base old was new found Memory =
    (HasFailed new × Appends is_any true was found) ⊎ HasTakenSome base old was new found
IsLeftAt base old was new found Store = HasTakenSome base old was new found
IsLeftAt base old was new found fault = ⊥

-- a scan that succeeded is at the horizon; a fault leaves what the scan took before
pub record EndsAt (base : ℕ) (old : Scan) (was : Found) (new : Scan) (found : Found)
    (result : Result Horizon StoreFault) : Type 0 where
  pub at : IfOk result (λ horizon. IsAt new horizon.minute)
  pub left : IfErr result (IsLeftAt base old was new found)

module _ {S A : Type 0} (g : Ghosts S) (result : Result A StoreFault) where
  -- A call on the rows of a query. It is the same connection. If it is open now, it was open before and sees the same data. A crash may
  -- leave only states that it could leave before.
  pub record ReadsRows (old new : MutBor (Held S)) : Type 0 where
    pub same_reference : new.ghost_name ≡ old.ghost_name
    pub live : HasCleanDisk (state g new.now) → OnOk result (IsTrue (state g new.now).is_open)
    pub kept : HasCleanDisk (state g new.now) → IsKept (state g old.now) (state g new.now)
    pub mode : old.now.in_transaction ≡ false → new.now.in_transaction ≡ false
    pub survives : Survives (state g old.now) (state g new.now) (λ _. ⊥)

  -- A call on a connection outside a transaction, which stays outside. If it is open now, it was open before and sees the same data. A disk
  -- that is clean now was clean before. A crash may leave only states that it could leave before.
  pub record ReadsSettled (old new : Held S) : Type 0 where
    pub autocommit : new.in_transaction ≡ false
    pub live : HasCleanDisk (state g new) → OnOk result (IsTrue (state g new).is_open)
    pub clean : HasCleanDisk (state g new) → HasCleanDisk (state g old)
    pub was_open : HasCleanDisk (state g new) → IsTrue (state g new).is_open → IsTrue (state g old).is_open
    pub same : HasCleanDisk (state g new) → IsSame (state g old) (state g new)
    pub survives : Survives (state g old) (state g new) (λ _. ⊥)
