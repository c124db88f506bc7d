-- Trusted: The report of what is held, from a base on: the breaches and debts by Articles 6, 7 and 8 of Regulation (EC) No 561/2006, and
-- where the examination ends.
use Rattle.std.specs.Prelude.{ℕ, ◌&&◌, nat_le, nat_lt, if◌then◌else◌, List}
use Rattle.std.specs.Option.{option_map_or}
use Rattle.tacho_time.specs.declared.span.Activity.TheVariants.{Rest}
use Rattle.tacho_time.specs.declared.span.Span.{Span}
use Rattle.tacho_line.specs.declared.horizon.Horizon.{Horizon}
use Rattle.tacho_line.specs.Line.{mark_at, IsHorizon}
use Rattle.tacho_law.specs.declared.run.Run.{Run}
use Rattle.tacho_law.specs.declared.breach.Breach.{Breach}
use Rattle.tacho_law.specs.declared.debt.Debt.{Debt}
use Rattle.tacho_law.specs.Runs.{AreRestRuns}
use Rattle.tacho_law.specs.Breaks.{AreCompleteBreaks}
use Rattle.tacho_law.specs.Line.{Line}
use Rattle.tacho_law.specs.Debts.{AreDebts}
use Rattle.tacho_law.specs.Breaches.{IsBreach}
use Rattle.tacho_law.specs.Order.{AreBreaches}

-- the examined line: what is held from the base to before the horizon, and rest in every other minute
abbrev pub examined_line : List Span → ℕ → ℕ → Line
examined_line held base horizon m =
    if nat_le base m && nat_lt m horizon then option_map_or (λ mark. mark.activity) (mark_at held m) Rest else Rest

-- a report has the horizon, every breach once and in order, and the debts; there is exactly one
pub record IsReport (held : List Span) (base : ℕ) (horizon : Horizon)
    (found : List Breach) (debts : List Debt) : Type 0 where
  pub is_horizon : IsHorizon held base horizon
  pub runs : List Run
  pub breaks : List Run
  pub are_runs : AreRestRuns (examined_line held base horizon.minute) runs
  pub are_breaks : AreCompleteBreaks runs breaks
  pub are_debts : AreDebts (examined_line held base horizon.minute) horizon.minute debts
  pub exactly : AreBreaches
      (λ breach. IsBreach (examined_line held base horizon.minute) base horizon.minute breaks debts breach.kind breach) found
