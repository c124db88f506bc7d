use Rattle.std.proofs.Common.{rules, ◌≡◌, ℕ, ◌+◌, ◌*◌, ◌-◌, ◌<◌, ◌≤◌, ◌∙◌, List, length, get_or, vec_len, refl, ap, subst, arith}
use Rattle.tacho_time.specs.declared.span.Span.{Span}
use Rattle.tacho_law.specs.declared.days.DutyDay.{DutyDay}
use Rattle.tacho_law.specs.Days.{EarlierDay}
use Rattle.tacho_law.specs.Exactly.{HasCount}
use Rattle.tacho_law.specs.Line.{line_of}
use Rattle.tacho_law.specs.Runs.{AreRestRuns}
use Rattle.tacho_law.proofs.RunsLemmas.{rest_runs_are}
use Rattle.tacho_periods.proofs.DaysLemmas.{no_day}
use Rattle.tacho_ahead.specs.Used.{IsReducedLately, IsExtendedBefore}
use Rattle.tacho_ahead.proofs.TodayLemmas.{Found, found, last_taken, drive_pushed, start_from, first_weekly, days_in_time, extended_today}
use Rattle.tacho_ahead.proofs.used.used_of.Goals as goal

pub week_of-week-requires : goal.week_of-week-requires
week_of-week-requires c =
    let from : 15780960 ≤ c.args.start = start_from c.args.spans.items c.args.monday c.args.start c.requires.examined in
    omega arith

pub overflow_sub-number : goal.overflow_sub-number
overflow_sub-number c =
    let from : 15780960 ≤ c.args.start = start_from c.args.spans.items c.args.monday c.args.start c.requires.examined in
    let value : c.number.result ≡ c.week_of-week.result = c.number.ensures.value in
    let before : c.args.start < 5760 + 10080 * (c.week_of-week.result + 1) = c.week_of-week.ensures.before in
    omega arith

pub rest_runs-requires : goal.rest_runs-requires
rest_runs-requires c =
    (drive_pushed c.args.spans.items c.args.monday c.args.start c.requires.examined c.requires.within _ _ _ _
    c.deref-3.ensures.value c.in_ok-push.ensures.items c.new-past.ensures c.number-2.ensures.value).0.examined

pub duty_days-requires : goal.duty_days-requires
duty_days-requires c =
    rw c.deref-4.ensures.value (rest_runs_are (line_of c.deref-3.result.now) c.in_ok-runs.runs.items c.in_ok-runs.ensures)

pub overflow_sub-len : goal.overflow_sub-len
overflow_sub-len c =
    let f : Found c.args.spans.items c.args.monday c.args.start c.deref-3.result.now c.new-past.result c.in_ok-days.days.items =
    found _ _ _ c.requires.examined c.requires.within _ _ _ _ c.deref-3.ensures.value c.in_ok-push.ensures.items
    c.new-past.ensures c.number-2.ensures.value _ _ c.in_ok-runs.ensures c.deref-4.ensures.value _ c.in_ok-days.ensures in
    let some : 0 < length c.in_ok-days.days.items = f.some in
    let many : vec_len c.in_ok-days.days ≡ length c.in_ok-days.days.items = search rules in
    let len : c.len.result ≡ vec_len c.in_ok-days.days = c.len.ensures in
    omega arith

pub index-requires : goal.index-requires
index-requires c =
    let f : Found c.args.spans.items c.args.monday c.args.start c.deref-3.result.now c.new-past.result c.in_ok-days.days.items =
    found _ _ _ c.requires.examined c.requires.within _ _ _ _ c.deref-3.ensures.value c.in_ok-push.ensures.items
    c.new-past.ensures c.number-2.ensures.value _ _ c.in_ok-runs.ensures c.deref-4.ensures.value _ c.in_ok-days.ensures in
    let some : 0 < length c.in_ok-days.days.items = f.some in
    let many : vec_len c.in_ok-days.days ≡ length c.in_ok-days.days.items = search rules in
    let len : c.len.result ≡ vec_len c.in_ok-days.days = c.len.ensures in
    omega arith

pub new-today-requires : goal.new-today-requires
new-today-requires c =
    let f : Found c.args.spans.items c.args.monday c.args.start c.deref-3.result.now c.new-past.result c.in_ok-days.days.items =
    found _ _ _ c.requires.examined c.requires.within _ _ _ _ c.deref-3.ensures.value c.in_ok-push.ensures.items
    c.new-past.ensures c.number-2.ensures.value _ _ c.in_ok-runs.ensures c.deref-4.ensures.value _ c.in_ok-days.ensures in
    let many : vec_len c.in_ok-days.days ≡ length c.in_ok-days.days.items = search rules in
    let len : c.len.result ≡ vec_len c.in_ok-days.days = c.len.ensures in
    let same : c.index.result.now ≡ get_or c.in_ok-days.days.items (length c.in_ok-days.days.items - 1) no_day =
    last_taken c.in_ok-days.days.items c.len.result _ c.index.result.now (len ∙ many) f.some refl c.index.ensures in
    let by : (get_or c.in_ok-days.days.items (length c.in_ok-days.days.items - 1) no_day).start ≤ 68374080 = f.by in
    rw same (omega arith)

pub reduced_lately-requires-clause-line : goal.reduced_lately-requires-clause-line
reduced_lately-requires-clause-line c =
    let runs : AreRestRuns (line_of c.deref-3.result.now) c.in_ok-runs.runs.items = c.in_ok-runs.ensures in
    (line_of c.deref-3.result.now, rw c.deref-5.ensures.value runs)

pub reduced_lately-requires-clause-days : goal.reduced_lately-requires-clause-days
reduced_lately-requires-clause-days c =
    let f : Found c.args.spans.items c.args.monday c.args.start c.deref-3.result.now c.new-past.result c.in_ok-days.days.items =
    found _ _ _ c.requires.examined c.requires.within _ _ _ _ c.deref-3.ensures.value c.in_ok-push.ensures.items
    c.new-past.ensures c.number-2.ensures.value _ _ c.in_ok-runs.ensures c.deref-4.ensures.value _ c.in_ok-days.ensures in
    rw c.deref-6.ensures.value (days_in_time _ _ _ f.driven.examined c.in_ok-days.days.items f.are)

pub reduced_lately-requires-clause-some : goal.reduced_lately-requires-clause-some
reduced_lately-requires-clause-some c =
    let f : Found c.args.spans.items c.args.monday c.args.start c.deref-3.result.now c.new-past.result c.in_ok-days.days.items =
    found _ _ _ c.requires.examined c.requires.within _ _ _ _ c.deref-3.ensures.value c.in_ok-push.ensures.items
    c.new-past.ensures c.number-2.ensures.value _ _ c.in_ok-runs.ensures c.deref-4.ensures.value _ c.in_ok-days.ensures in
    rw (c.deref-5.ensures.value, c.number-3.ensures.value)
    (first_weekly _ _ _ _ f.driven c.in_ok-runs.runs.items c.in_ok-runs.ensures)

pub extended_before-requires-clause-examined : goal.extended_before-requires-clause-examined
extended_before-requires-clause-examined c =
    let f : Found c.args.spans.items c.args.monday c.args.start c.deref-3.result.now c.new-past.result c.in_ok-days.days.items =
    found _ _ _ c.requires.examined c.requires.within _ _ _ _ c.deref-3.ensures.value c.in_ok-push.ensures.items
    c.new-past.ensures c.number-2.ensures.value _ _ c.in_ok-runs.ensures c.deref-4.ensures.value _ c.in_ok-days.ensures in
    f.driven.examined

pub extended_before-requires-clause-days : goal.extended_before-requires-clause-days
extended_before-requires-clause-days c =
    let f : Found c.args.spans.items c.args.monday c.args.start c.deref-3.result.now c.new-past.result c.in_ok-days.days.items =
    found _ _ _ c.requires.examined c.requires.within _ _ _ _ c.deref-3.ensures.value c.in_ok-push.ensures.items
    c.new-past.ensures c.number-2.ensures.value _ _ c.in_ok-runs.ensures c.deref-4.ensures.value _ c.in_ok-days.ensures in
    rw c.deref-7.ensures.value f.are

pub extended_before-requires-clause-from : goal.extended_before-requires-clause-from
extended_before-requires-clause-from c =
    let f : Found c.args.spans.items c.args.monday c.args.start c.deref-3.result.now c.new-past.result c.in_ok-days.days.items =
    found _ _ _ c.requires.examined c.requires.within _ _ _ _ c.deref-3.ensures.value c.in_ok-push.ensures.items
    c.new-past.ensures c.number-2.ensures.value _ _ c.in_ok-runs.ensures c.deref-4.ensures.value _ c.in_ok-days.ensures in
    let many : vec_len c.in_ok-days.days ≡ length c.in_ok-days.days.items = search rules in
    let len : c.len.result ≡ vec_len c.in_ok-days.days = c.len.ensures in
    let same : c.index.result.now ≡ get_or c.in_ok-days.days.items (length c.in_ok-days.days.items - 1) no_day =
    last_taken c.in_ok-days.days.items c.len.result _ c.index.result.now (len ∙ many) f.some refl c.index.ensures in
    let from : 15780960 ≤ (get_or c.in_ok-days.days.items (length c.in_ok-days.days.items - 1) no_day).start = f.from in
    let start : c.new-today.result ≡ (get_or c.in_ok-days.days.items (length c.in_ok-days.days.items - 1) no_day).start = c.new-today.ensures ∙ ap (λ (day : DutyDay). day.start) same in
    omega arith

pub returns : goal.returns
returns c =
    let start : ℕ = c.args.start in
    let seen : List Span = c.deref-3.result.now in
    let f : Found c.args.spans.items c.args.monday c.args.start c.deref-3.result.now c.new-past.result c.in_ok-days.days.items =
    found _ _ _ c.requires.examined c.requires.within _ _ _ _ c.deref-3.ensures.value c.in_ok-push.ensures.items
    c.new-past.ensures c.number-2.ensures.value _ _ c.in_ok-runs.ensures c.deref-4.ensures.value _ c.in_ok-days.ensures in
    let runs : AreRestRuns (line_of seen) c.in_ok-runs.runs.items = c.in_ok-runs.ensures in
    let today : DutyDay = get_or c.in_ok-days.days.items (length c.in_ok-days.days.items - 1) no_day in
    let many : vec_len c.in_ok-days.days ≡ length c.in_ok-days.days.items = search rules in
    let len : c.len.result ≡ vec_len c.in_ok-days.days = c.len.ensures in
    let same : c.index.result.now ≡ get_or c.in_ok-days.days.items (length c.in_ok-days.days.items - 1) no_day =
    last_taken c.in_ok-days.days.items c.len.result _ c.index.result.now (len ∙ many) f.some refl c.index.ensures in
    let since : c.new-today.result ≡ today.start = c.new-today.ensures ∙ ap (λ (day : DutyDay). day.start) same in
    let reduced : HasCount (IsReducedLately (line_of seen) start) EarlierDay c.in_ok-reduced.reduced =
    subst (λ (m : ℕ). HasCount (IsReducedLately (line_of seen) m) EarlierDay c.in_ok-reduced.reduced) c.number-3.ensures.value
    (c.in_ok-reduced.ensures (line_of seen) (rw c.deref-5.ensures.value runs) (rw c.deref-6.ensures.value f.are)) in
    let (week, here, extended) = c.extended_before.ensures in
    let extended' : HasCount (IsExtendedBefore (line_of seen) today) EarlierDay c.extended_before.result =
    extended_today (line_of seen) today week c.extended_before.result (rw since at here) (rw since at extended) in
    let before : ℕ = c.new.result in
    let is_before : before ≡ c.number.result - 1 = c.new.ensures in
    let number : c.number.result ≡ c.week_of-week.result = c.number.ensures.value in
    let from : 5760 + 10080 * c.week_of-week.result ≤ start = c.week_of-week.ensures.from in
    let to : start < 5760 + 10080 * (c.week_of-week.result + 1) = c.week_of-week.ensures.before in
    let late : 15780960 ≤ start = start_from c.args.spans.items c.args.monday start c.requires.examined in
    let next : c.week_of-week.result ≡ before + 1 = omega arith in
    let more : before + 1 + 1 ≡ before + 2 = omega arith in
    record {
      rest =
          rw c.deref.ensures.value
          at (c.rest_since-rest_since.ensures c.args.monday start (rw c.deref.ensures.value c.requires.examined.joined));
      today = today;
      duty = rw f.seen_is at f.today;
      last = f.ends;
      since = since;
      reduced = rw f.seen_is at reduced;
      extended = rw f.seen_is at extended';
      week = before;
      here = (omega arith, omega arith);
      driven_before = rw c.deref-2.ensures.value at c.driven_in-driven_before.ensures;
      driven_in_week = rw (c.deref-2.ensures.value, next, more) at c.driven_in-driven_in_week.ensures;
    }
