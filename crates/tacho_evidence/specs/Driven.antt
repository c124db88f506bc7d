-- Trusted: Driving spans, and what their running totals say of too much driving (Regulation (EC) No 561/2006, Articles 4(j), 6 and 7).
use Rattle.std.specs.Prelude.{◌≡◌, ◌≢◌, ◌⊎◌, ℕ, ◌+◌, ◌<◌, ◌≤◌, List, [], ◌∷◌, ◌++◌}
use Rattle.tacho_time.specs.declared.span.Activity.TheVariants.{Drive}
use Rattle.tacho_law.specs.declared.run.Run.{Run}
use Rattle.tacho_law.specs.Exactly.{AreExactly}
use Rattle.tacho_law.specs.Line.{Line}
use Rattle.tacho_law.specs.Runs.{Before, minutes_of}
use Rattle.tacho_evidence.specs.declared.driven.DrivenSpan.{DrivenSpan}

-- a driving span of a range: a maximal run of minutes at drive within it
pub record IsDrivingSpan (line : Line) (from to : ℕ) (run : Run) : Type 0 where
  pub some : run.start < run.past
  pub above : from ≤ run.start
  pub below : run.past ≤ to
  pub drives : (m : ℕ) → run.start ≤ m → m < run.past → line m ≡ Drive
  pub first : (run.start ≡ from) ⊎ ((m : ℕ) → m + 1 ≡ run.start → line m ≢ Drive)
  pub last : (run.past ≡ to) ⊎ (line run.past ≢ Drive)

-- the driving spans of a range, in order of time; there is one such list
abbrev pub AreDrivingSpans : Line → ℕ → ℕ → List Run → Type 0
AreDrivingSpans line from to runs = AreExactly (IsDrivingSpan line from to) Before runs

-- runs with a running total: the minutes of the runs up to each, and of `done` before the first
abbrev pub with_totals : ℕ → List Run → List DrivenSpan
with_totals done [] = []
with_totals done (run ∷ runs) = record { run = run; total = done + minutes_of run } ∷ with_totals (done + minutes_of run) runs

-- the driving spans of a range with their running total
pub record AreDriven (line : Line) (from to : ℕ) (spans : List DrivenSpan) : Type 0 where
  pub runs : List Run
  pub are : AreDrivingSpans line from to runs
  pub totals : spans ≡ with_totals 0 runs

-- the last total, or `done` if there is no span
abbrev pub total_of : ℕ → List DrivenSpan → ℕ
total_of done [] = done
total_of done (span ∷ spans) = total_of span.total spans

-- By the totals, `moment` is the first minute above the limit, and `amount` minutes are above it: the total reaches the limit before
-- `moment` in the span that has it, and the last total is `amount` above the limit.
pub record IsAboveByTotals (limit : ℕ) (spans : List DrivenSpan) (moment amount : ℕ) : Type 0 where
  pub before : List DrivenSpan
  pub span : DrivenSpan
  pub after : List DrivenSpan
  pub parts : spans ≡ before ++ (span ∷ after)
  pub reached : total_of 0 before ≤ limit
  pub exceeded : limit < span.total
  pub moment_is : moment + total_of 0 before ≡ span.run.start + limit
  pub amount_is : amount + limit ≡ total_of 0 spans
