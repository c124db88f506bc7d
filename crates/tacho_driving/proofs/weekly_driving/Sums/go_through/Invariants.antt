use Rattle.std.proofs.Common.{◌≡◌, ◌≤◌, ◌+◌, ◌-◌, ◌++◌, IsTrue, false}
use Rattle.tacho_law.specs.Weeks.{week_start}
use Rattle.tacho_pass.specs.Found.{Appends}
use Rattle.tacho_pass.specs.Kinds.{is_b6_or_b7}
use Rattle.tacho_driving.specs.Sums.{sums_in_range, through, through_found}
use Rattle.tacho_driving.proofs.weekly_driving.Sums.go_through.Given as goal

abbrev pub invariant-loop : goal.invariant-loop
invariant-loop l = record {
  place : l.place ≤ l.to;
  before : l.place ≤ week_start (l.self.week + 2);
  week : l.self.week ≡ l.fn.self.week + l.counter;
  few : IsTrue (sums_in_range l.self l.place);
  sums : through (l.ends - l.counter) l.drives l.place l.to l.self ≡ through l.ends l.drives l.from l.to l.fn.self;
  breaches : l.found.breaches.items ++ through_found (l.ends - l.counter) l.drives l.place l.self
      ≡ l.fn.found.breaches.items ++ through_found l.ends l.drives l.from l.fn.self;
  appends : Appends is_b6_or_b7 false l.fn.found l.found;
}
