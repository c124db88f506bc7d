use Rattle.std.proofs.Common.{◌≡◌, ◌≤◌, ◌<◌, ℕ, false}
use Rattle.tacho_law.specs.declared.run.Run.{Run}
use Rattle.tacho_law.specs.Runs.{IsRestOf}
use Rattle.tacho_law.specs.Line.{Line}
use Rattle.tacho_choice.specs.Weeks.{IsInWeeks}
use Rattle.tacho_pass.specs.Found.{Appends, own_of}
use Rattle.tacho_pass.specs.Kinds.{is_b9}
use Rattle.tacho_rests.specs.Choices.{AreChoices}
use Rattle.tacho_rests.proofs.missing_rest.Choices.close_by.Given as goal

abbrev pub invariant-loop-week : goal.invariant-loop-week
invariant-loop-week l = record {
  week : l.self.week ≡ l._week;
  kept : (line : Line) (horizon first start : ℕ) → IsInWeeks line → l.fn.by ≤ horizon
      → ((x : Run) → IsRestOf line 1440 x → x.start < l.fn.by → x.start < start)
      → AreChoices line horizon first start l.fn.self.week l.fn.self.current l.fn.self.last l.fn.self.rested
      l.fn.self.outcomes (own_of is_b9 l.fn.found.breaches.items)
      → AreChoices line horizon first start l.self.week l.self.current l.self.last l.self.rested l.self.outcomes
      (own_of is_b9 l.found.breaches.items);
  appends : Appends is_b9 false l.fn.found l.found;
}
