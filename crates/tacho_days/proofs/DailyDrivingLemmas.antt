-- Driving in duty days and the extended days of a week, span by span (specs/DailyDriving).
use Rattle.std.proofs.Common.{◌≡◌, ◌≢◌, ℕ, ◌-◌, ◌<◌, ◌≤◌, ◌↔◌, inl, inr, Bool, true, false, Option, None, Some}
use Rattle.std.proofs.Common.{List, [], ◌∷◌, ◌++◌, refl, sym, ap, subst, ◌∙◌, arith, nat_le, nat_lt, if◌then◌else◌}
use Rattle.std.specs.Prelude.{IsTrue}
use Rattle.std.specs.List.{All, Contains}
use Rattle.std.proofs.lemmas.Bool.Decides.{nat_tests}
use Rattle.std.proofs.lemmas.List.{append-nil}
use Rattle.std.proofs.lemmas.List.Elements.{Contains-push, All-nil, All-append, All-contains}
use Rattle.tacho_time.specs.declared.span.Activity.TheVariants.{Rest}
use Rattle.tacho_time.specs.declared.span.Span.{Span}
use Rattle.tacho_law.specs.declared.run.Run.{Run}
use Rattle.tacho_law.specs.declared.run.TheConstants.{FAR}
use Rattle.tacho_law.specs.declared.days.DutyDay.{DutyDay}
use Rattle.tacho_law.specs.declared.breach.Breach.{Breach}
use Rattle.tacho_law.specs.declared.debt.Debt.{Debt}
use Rattle.tacho_law.specs.declared.breach.Kind.TheVariants.{B4, B5}
use Rattle.tacho_law.specs.Runs.{minutes_of, IsRestRun, AreRestRuns}
use Rattle.tacho_law.specs.SoFar.{Reached, AreCollected}
use Rattle.tacho_law.specs.Days.{IsDuty}
use Rattle.tacho_law.specs.Line.{Line, line_of, IsExamined}
use Rattle.tacho_law.specs.Driving.{driving, is_drive}
use Rattle.tacho_law.specs.Order.{Apart}
use Rattle.tacho_law.specs.Breaches.{IsExtended}
use Rattle.tacho_law.proofs.ExactlyLemmas.{exactly_none, exactly_as}
use Rattle.tacho_law.proofs.DrivingLemmas.{driving_le, driving_before}
use Rattle.tacho_law.proofs.RunsLemmas.{run_of, reached_none, reached_rest, reached_busy, reached_gap, reached_end}
use Rattle.tacho_pass.specs.declared.count.Count.{Count}
use Rattle.tacho_pass.specs.Counts.{count_none, over_of, IsCounted, AllDrive}
use Rattle.tacho_pass.specs.Heard.{is_rest, start_after, run_before, Continues}
use Rattle.tacho_pass.specs.Found.{as_list}
use Rattle.tacho_pass.specs.Kinds.{is_b4_or_b5}
use Rattle.tacho_pass.proofs.HearingLemmas.{line_append, line_at_end, joined_append, line_after, rests_yes, rests_no}
use Rattle.tacho_pass.proofs.CountLemmas.{counted_start, counted_with, over_kinds}
use Rattle.tacho_days.specs.declared.daily_driving.DutyDriving.{DutyDriving}
use Rattle.tacho_days.specs.DutyDays.{day_to, IsLastOf}
use Rattle.tacho_days.specs.DailyDriving.{week_at, duty_none, duty_with, ordinal_of, often_of, found_of, next_day}
use Rattle.tacho_days.specs.DailyDriving.{duty_after, duty_found, duty_any, duty_found_at_optional_run, IsTally}
use Rattle.tacho_days.specs.DailyDriving.{IsDrivingSeen, IsDriven, DailyDrivingStands, IsDailyDriving, DailyDrivingDefined}
use Rattle.tacho_days.proofs.DutyDaysLemmas.{last_next, last_keep, duty_new, duty_only, none_short, none_first}
use Rattle.tacho_days.proofs.DutyDaysLemmas.{first_on, first_long}
use Rattle.tacho_days.proofs.DailyDrivingWeekLemmas.{week_in, tally_none, tally_keep, tally_next, so_many_upto}
use Rattle.tacho_days.proofs.DailyDrivingFoundLemmas.{none_seen, seen_keep, day_collected}

-- a breach that is put has the kind B4 or B5
often_kinds : (b : Bool) (d : DutyDriving)
    → All (λ (y : Breach). IsTrue (is_b4_or_b5 y.kind)) (if b then as_list (over_of B5 540 d.from d.nine) else [])
often_kinds true d = over_kinds is_b4_or_b5 B5 540 d.from d.nine refl
often_kinds false d = All-nil (λ (y : Breach). IsTrue (is_b4_or_b5 y.kind))

pub kinds_of : (d : DutyDriving) → All (λ (y : Breach). IsTrue (is_b4_or_b5 y.kind)) (found_of d)
kinds_of d =
    All-append (λ (y : Breach). IsTrue (is_b4_or_b5 y.kind)) (as_list (over_of B4 600 d.from d.ten)) (often_of d)
    (over_kinds is_b4_or_b5 B4 600 d.from d.ten refl) (often_kinds (nat_lt 2 (ordinal_of d)) d)

kinds_if : (b : Bool) (d : DutyDriving)
    → All (λ (y : Breach). IsTrue (is_b4_or_b5 y.kind)) (if b then found_of d else [])
kinds_if true d = kinds_of d
kinds_if false d = All-nil (λ (y : Breach). IsTrue (is_b4_or_b5 y.kind))

pub duty_kinds : (run : Run) (d : DutyDriving) → All (λ (y : Breach). IsTrue (is_b4_or_b5 y.kind)) (duty_found run d)
duty_kinds run d = kinds_if (nat_le 540 (minutes_of run)) d

pub any_kinds : (run : Option Run) (d : DutyDriving)
    → All (λ (y : Breach). IsTrue (is_b4_or_b5 y.kind)) (duty_found_at_optional_run run d)
any_kinds None d = All-nil (λ (y : Breach). IsTrue (is_b4_or_b5 y.kind))
any_kinds (Some run) d = duty_kinds run d

-- a count without driving gives no breach
over_none : (g : Bool) (limit : ℕ) (c : Count) (b : Breach) → nat_lt limit c.minutes ≡ g → c.minutes ≡ 0
    → as_list (if g then Some b else None) ≡ []
over_none true limit c b e none = absurd (let f : limit < c.minutes = grind (arith, nat_tests) in omega arith)
over_none false limit c b e none = refl

often_none : (g : Bool) (xs : List Breach) → xs ≡ [] → (if g then xs else []) ≡ []
often_none true xs e = e
often_none false xs e = refl

none_found : (d : DutyDriving) → d.nine.minutes ≡ 0 → d.ten.minutes ≡ 0 → found_of d ≡ []
none_found d nine ten =
    let four : Breach =
    record { kind = B4; moment = d.ten.moment; since = d.from; amount = d.ten.minutes - 600 } in
    let five : Breach =
    record { kind = B5; moment = d.nine.moment; since = d.from; amount = d.nine.minutes - 540 } in
    let e : as_list (over_of B4 600 d.from d.ten) ≡ [] = over_none (nat_lt 600 d.ten.minutes) 600 d.ten four refl ten in
    let f : as_list (over_of B5 540 d.from d.nine) ≡ [] =
    over_none (nat_lt 540 d.nine.minutes) 540 d.nine five refl nine in
    rw (e, often_none (nat_lt 2 (ordinal_of d)) (as_list (over_of B5 540 d.from d.nine)) f) refl

-- a rest run that starts where the runs that have ended stop
module _ (line : Line) (start place : ℕ) (d : DutyDriving) (own : List Breach) (h : IsDriven line start place d own)
    (r : Run) (is : IsRestRun line r) (at : r.start ≡ start) where
  -- a run that isn't a day's rest
  module _ (none : (day : DutyDay) → IsDuty line day → r ≡ day.rest → ⊥) where
    found_kept : AreCollected (λ b. IsDrivingSeen line (h.runs ++ r ∷ []) b) own
    found_kept =
        exactly_as (λ b. IsDrivingSeen line h.runs b) (λ b. IsDrivingSeen line (h.runs ++ r ∷ []) b) Apart own
        (seen_keep line h.runs r none) h.found

    tally_kept : IsTally line (h.runs ++ r ∷ []) d.week d.extended
    tally_kept = tally_keep line h.runs r (λ w day x same. none day x.duty same) d.week d.extended h.tally

  -- a long rest
  module _ (enough : 540 ≤ minutes_of r) (late : 5760 ≤ d.from)
      (all : (run : Run) → IsRestRun line run → run.start ≤ r.start → Contains (h.runs ++ r ∷ []) run) where
    -- after another long rest
    module _ (l : IsLastOf 540 h.runs d.from) where
      nine_here : IsCounted line 540 d.from r.start d.nine
      nine_here = subst (λ (n : ℕ). IsCounted line 540 d.from n d.nine) (sym at) h.nine

      ten_here : IsCounted line 600 d.from r.start d.ten
      ten_here = subst (λ (n : ℕ). IsCounted line 600 d.from n d.ten) (sym at) h.ten

      is_extended : 540 < driving line d.from r.start
          → IsExtended line (week_at d.from) (day_to d.from r)
      is_extended more = record {
        duty = duty_new line h.runs start place h.reached r is at enough d.from l;
        week = week_in d.from late;
        over = more;
      }

      tally_more : 540 < driving line d.from r.start
          → IsTally line (h.runs ++ r ∷ []) (week_at d.from) (ordinal_of d)
      tally_more more =
          tally_next line h.runs start place h.reached r is at enough d.from l (week_at d.from) (is_extended more)
          d.week d.extended h.tally

      found_long : AreCollected (λ b. IsDrivingSeen line (h.runs ++ r ∷ []) b) (own ++ found_of d)
      found_long =
          day_collected line h.runs start place h.reached r is at enough d.from l (week_at d.from) (ordinal_of d)
          (week_in d.from late)
          (λ more. so_many_upto line h.runs start place h.reached r is at enough d.from l (week_at d.from)
          (is_extended more) all (ordinal_of d) (tally_more more))
          d.nine d.ten own nine_here ten_here h.found

      tally_if : (g : Bool) → nat_lt 540 d.nine.minutes ≡ g
          → IsTally line (h.runs ++ r ∷ []) (if g then week_at d.from else d.week)
          (if g then ordinal_of d else d.extended)
      tally_if true e =
          let e' : d.nine.minutes ≡ driving line d.from r.start = nine_here.minutes in
          let more : 540 < d.nine.minutes = grind (arith, nat_tests) in
          tally_more (omega (arith, e', more))
      tally_if false e =
          let e' : d.nine.minutes ≡ driving line d.from r.start = nine_here.minutes in
          let few : d.nine.minutes ≤ 540 = grind (arith, nat_tests) in
          tally_keep line h.runs r (λ w day x same.
          (let only = duty_only line h.runs start place h.reached r is at enough d.from l day x.duty same in
          let over : 540 < driving line day.start day.past = x.over in
          let f : driving line day.start day.past ≡ driving line d.from r.start =
          ap (λ (m : ℕ). driving line m day.past) only.0 ∙ ap (λ (m : ℕ). driving line d.from m) only.1 in
          omega (arith, e', f, over, few)))
          d.week d.extended h.tally

    -- the first long rest
    module _ (none : h.runs ≡ []) (zero' : start ≡ 0) where
      nothing : (limit : ℕ) (c : Count) → IsCounted line limit d.from start c → c.minutes ≡ 0
      nothing limit c n =
          let e : c.minutes ≡ driving line d.from start = n.minutes in
          let f : driving line d.from start ≤ start = driving_le line d.from start in
          omega (arith, e, f)

      found_first : AreCollected (λ b. IsDrivingSeen line (h.runs ++ r ∷ []) b) (own ++ found_of d)
      found_first =
          subst (λ (xs : List Breach). AreCollected (λ b. IsDrivingSeen line (h.runs ++ r ∷ []) b) (own ++ xs))
          (sym (none_found d (nothing 540 d.nine h.nine) (nothing 600 d.ten h.ten)))
          (subst (λ (xs : List Breach). AreCollected (λ b. IsDrivingSeen line (h.runs ++ r ∷ []) b) xs)
          (sym (append-nil own)) (found_kept (none_first line h.runs start place h.reached r is at none)))

      first_if : (g : Bool) → nat_lt 540 d.nine.minutes ≡ g
          → IsTally line (h.runs ++ r ∷ []) (if g then week_at d.from else d.week)
          (if g then ordinal_of d else d.extended)
      first_if true e =
          absurd (let z : d.nine.minutes ≡ 0 = nothing 540 d.nine h.nine in
          let more : 540 < d.nine.minutes = grind (arith, nat_tests) in
          omega arith)
      first_if false e = tally_kept (none_first line h.runs start place h.reached r is at none)

    -- a long rest ends a day, and the day's breaches are found
    pub found_next : AreCollected (λ b. IsDrivingSeen line (h.runs ++ r ∷ []) b) (own ++ found_of d)
    found_next = elim h.last [ inl first ↦ found_first first.none first.first | inr l ↦ found_long l ]

    tally_here : (g : Bool) → nat_lt 540 d.nine.minutes ≡ g
        → IsTally line (h.runs ++ r ∷ []) (if g then week_at d.from else d.week)
        (if g then ordinal_of d else d.extended)
    tally_here g e = elim h.last [ inl first ↦ first_if first.none first.first g e | inr l ↦ tally_if l g e ]

    pub tally_after : (from : ℕ)
        → IsTally line (h.runs ++ r ∷ []) (next_day from d).week (next_day from d).extended
    tally_after from = tally_here (nat_lt 540 d.nine.minutes) refl

-- the steps over a span from `place` to q
module _ (line : Line) (start place q : ℕ) (d : DutyDriving) (own : List Breach)
    (h : IsDriven line start place d own) (more : place < q) where
  pub rest_step : ((m : ℕ) → place ≤ m → m < q → line m ≡ Rest) → IsDriven line start q d own
  rest_step at = record {
    runs = h.runs;
    reached = reached_rest line h.runs start place q h.reached more at;
    last = elim h.last [
      | inl first ↦ inl (first_on 540 h.runs start place q more first)
      | inr l ↦ inr l
    ];
    nine = h.nine;
    ten = h.ten;
    tally = h.tally;
    found = h.found;
  }

  -- the open day starts at or before the end of the runs
  from_by : IsLastOf 540 h.runs d.from → d.from ≤ start
  from_by l =
      let e : l.run.past < start = All-contains (λ (y : Run). y.past < start) h.runs l.run h.reached.ended l.among in
      let f : l.run.past ≡ d.from = l.ends in
      omega arith

  module _ (drives : Bool) (does : AllDrive line drives place q)
      (busy : (m : ℕ) → place ≤ m → m < q → line m ≢ Rest) where
    -- no rest run ends at the span
    pub busy_step : place ≤ start → IsDriven line q q (duty_with drives place q d) own
    busy_step none =
        let below : start ≤ place = h.reached.below in
        let same : start ≡ place = omega arith in
        elim h.last [
          | inl first ↦ absurd (first_long 540 h.runs start place (omega arith) first)
          | inr l ↦
              let within : d.from ≤ start = from_by l in
              record {
                runs = h.runs;
                reached = reached_busy line h.runs start place q h.reached same more busy;
                last = inr l;
                nine = counted_with line 540 d.from place q d.nine (omega arith) (omega arith)
                    (subst (λ (n : ℕ). IsCounted line 540 d.from n d.nine) same h.nine) drives does;
                ten = counted_with line 600 d.from place q d.ten (omega arith) (omega arith)
                    (subst (λ (n : ℕ). IsCounted line 600 d.from n d.ten) same h.ten) drives does;
                tally = h.tally;
                found = h.found;
              }
        ]

    -- a rest run ends at the span
    module _ (gap : start < place) (far : place < FAR) (late : 5760 ≤ d.from) where
      reached_on : Reached line (h.runs ++ run_of start place ∷ []) q q
      reached_on = reached_gap line h.runs start place q h.reached gap more far busy

      resting : AllDrive line false start place
      resting m above below = ap is_drive (h.reached.resting m above below)

      run_is : IsRestRun line (run_of start place)
      run_is = record {
        some = gap;
        rest = h.reached.resting;
        from = h.reached.from;
        until = inr (busy place (omega arith) more);
      }

      all : (run : Run) → IsRestRun line run → run.start ≤ start → Contains (h.runs ++ run_of start place ∷ []) run
      all run is by = reached_on.all run is (omega arith)

      long_gap : 540 ≤ place - start → IsDriven line q q (duty_with drives place q (next_day place d))
          (own ++ found_of d)
      long_gap long = record {
        runs = h.runs ++ run_of start place ∷ [];
        reached = reached_on;
        last = inr (last_next line h.runs start place h.reached (run_of start place) run_is refl 540 long);
        nine =
            counted_with line 540 place place q count_none (omega arith) (omega arith)
            (counted_start line 540 place) drives does;
        ten =
            counted_with line 600 place place q count_none (omega arith) (omega arith)
            (counted_start line 600 place) drives does;
        tally = tally_after line start place d own h (run_of start place) run_is refl long late all place;
        found = found_next line start place d own h (run_of start place) run_is refl long late all;
      }

      short_gap : place - start < 540 → IsDriven line q q (duty_with drives place q d) (own ++ [])
      short_gap short = elim h.last [
        | inl first ↦ absurd (first_long 540 h.runs start place short first)
        | inr l ↦
            let within : d.from ≤ start = from_by l in
            let none : (day : DutyDay) → IsDuty line day → run_of start place ≡ day.rest → ⊥ =
            none_short line (run_of start place) short in
            record {
              runs = h.runs ++ run_of start place ∷ [];
              reached = reached_on;
              last =
                  inr (last_keep line h.runs start place h.reached (run_of start place) run_is refl 540 d.from short l);
              nine =
                  counted_with line 540 d.from place q d.nine (omega arith) (omega arith)
                  (counted_with line 540 d.from start place d.nine within (omega arith) h.nine false resting)
                  drives does;
              ten =
                  counted_with line 600 d.from place q d.ten (omega arith) (omega arith)
                  (counted_with line 600 d.from start place d.ten within (omega arith) h.ten false resting)
                  drives does;
              tally = tally_kept line start place d own h (run_of start place) run_is refl none;
              found =
                  subst (λ (xs : List Breach).
                  AreCollected (λ b. IsDrivingSeen line (h.runs ++ run_of start place ∷ []) b) xs)
                  (sym (append-nil own)) (found_kept line start place d own h (run_of start place) run_is refl none);
            }
      ]

      gap_if : (b : Bool) → nat_le 540 (place - start) ≡ b
          → IsDriven line q q (duty_with drives place q (if b then next_day place d else d))
          (own ++ (if b then found_of d else []))
      gap_if true e = long_gap (grind (arith, nat_tests))
      gap_if false e = short_gap (grind (arith, nat_tests))

      pub gap_step : IsDriven line q q (duty_with drives place q (duty_after (run_of start place) d))
          (own ++ duty_found (run_of start place) d)
      gap_step = gap_if (nat_le 540 (place - start)) refl

-- one more span
module _ (spans : List Span) (s : Span) (base start : ℕ) (d : DutyDriving) (own : List Breach) (owed : List Debt)
    (r : DailyDrivingStands start s.start d own owed base spans)
    (some : s.start < s.past) (far : s.past < FAR) (late : 5760 ≤ d.from) where
  module _ (line : Line) (c : Continues line (spans ++ s ∷ []) s.past) where
    at : (m : ℕ) → s.start ≤ m → m < s.past → line m ≡ s.mark.activity
    at m above below = c m below ∙ line_at_end spans s base m r.joined above below

    before : IsDriven line start s.start d own
    before = r.kept line (λ m below. c m (omega arith) ∙ line_append spans s m below)

    does : AllDrive line (is_drive s.mark.activity) s.start s.past
    does m above below = ap is_drive (at m above below)

    busy : is_rest s.mark.activity ≡ false → (m : ℕ) → s.start ≤ m → m < s.past → line m ≢ Rest
    busy e m above below f = rests_no s.mark.activity e (sym (at m above below) ∙ f)

    quiet : s.mark.activity ≡ Rest
        → IsDriven line start s.past (duty_with (is_drive s.mark.activity) s.start s.past d) (own ++ [])
    quiet e =
        let rest : IsDriven line start s.past d own =
        rest_step line start s.start s.past d own before some (λ m above below. at m above below ∙ e) in
        rw (ap is_drive e, append-nil own) rest

  by : (b g : Bool) → is_rest s.mark.activity ≡ b → nat_lt start s.start ≡ g
      → DailyDrivingStands (if b then start else s.past) s.past
      (duty_with (is_drive s.mark.activity) s.start s.past
      (duty_any (if b then None else (if g then Some (run_of start s.start) else None)) d))
      (own ++ duty_found_at_optional_run (if b then None else (if g then Some (run_of start s.start) else None)) d) owed base
      (spans ++ s ∷ [])
  by true g e f = record {
    none = r.none;
    joined = joined_append spans s base r.joined some;
    kept = λ line c. quiet line c (rests_yes s.mark.activity e);
  }
  by false true e f = record {
    none = r.none;
    joined = joined_append spans s base r.joined some;
    kept = λ line c.
        gap_step line start s.start s.past d own (before line c) some (is_drive s.mark.activity) (does line c)
        (busy line c e) (let k : start < s.start = grind (arith, nat_tests) in k) (omega arith) late;
  }
  by false false e f = record {
    none = r.none;
    joined = joined_append spans s base r.joined some;
    kept = λ line c.
        subst (λ (xs : List Breach).
        IsDriven line s.past s.past (duty_with (is_drive s.mark.activity) s.start s.past d) xs)
        (sym (append-nil own))
        (busy_step line start s.start s.past d own (before line c) some (is_drive s.mark.activity) (does line c)
        (busy line c e) (let k : s.start ≤ start = grind (arith, nat_tests) in k));
  }

  pub driven_fed : DailyDrivingStands (start_after start s) s.past
      (duty_with (is_drive s.mark.activity) s.start s.past (duty_any (run_before start s) d))
      (own ++ duty_found_at_optional_run (run_before start s) d) owed base (spans ++ s ∷ [])
  driven_fed = by (is_rest s.mark.activity) (nat_lt start s.start) refl refl

-- before the first minute, nothing is counted
counted_none : (line : Line) (limit from : ℕ) → IsCounted line limit from 0 count_none
counted_none line limit from = record {
  minutes = sym (driving_before line from 0 (omega arith));
  moment = λ h. absurd (omega arith);
}

-- before the first span
pub driven_none : (base : ℕ) → 540 ≤ base → DailyDrivingStands 0 base (duty_none base) [] [] base []
driven_none base late = record {
  none = refl;
  joined = refl;
  kept = λ line c. record {
    runs = [];
    reached = reached_none line base (λ m below. c m below);
    last = inl (record { none = refl; first = refl; long = late });
    nine = counted_none line 540 base;
    ten = counted_none line 600 base;
    tally = tally_none line;
    found = exactly_none (λ b. IsDrivingSeen line [] b) Apart (λ b h. none_seen line b h);
  };
}

-- with all runs of the line, these are all breaches
all_driving : (line : Line) (runs : List Run) → AreRestRuns line runs → (b : Breach)
    → IsDrivingSeen line runs b ↔ IsDailyDriving line b
all_driving line runs all b = (
  λ h. elim h [ inl four ↦ inl (four.kind, four.is) | inr five ↦ inr (five.kind, five.is) ],
  λ h. elim h [
    | inl four ↦ inl (record {
      kind = four.0;
      is = four.1;
      seen = (all.each four.1.day.rest).1 four.1.duty.neighbours.second.rests;
    })
    | inr five ↦ inr (record {
      kind = five.0;
      is = five.1;
      seen = (all.each five.1.day.rest).1 five.1.extended.duty.neighbours.second.rests;
    })
  ],
)

-- the end of the line
pub driven_end : (spans : List Span) (base past start : ℕ) (d : DutyDriving) (own : List Breach) (owed : List Debt)
    → DailyDrivingStands start past d own owed base spans → IsExamined spans base past → 5760 ≤ d.from
    → DailyDrivingDefined (own ++ duty_found (run_of start FAR) d) owed base past spans
driven_end spans base past start d own owed r x late =
    let line : Line = line_of spans in
    let h : IsDriven line start past d own = r.kept line (λ m below. refl) in
    let below : start ≤ past = h.reached.below in
    let early : past ≤ 68374080 = x.within in
    let long : 540 ≤ FAR - start = omega arith in
    let all : AreRestRuns line (h.runs ++ run_of start FAR ∷ []) =
    reached_end line h.runs start past h.reached (omega arith)
    (λ m above. line_after spans base past m r.joined above) in
    let is : IsRestRun line (run_of start FAR) =
    (all.each (run_of start FAR)).0 (Contains-push h.runs (run_of start FAR)) in
    let yes' : nat_le 540 (FAR - start) ≡ true = grind (arith, nat_tests) in
    let found : AreCollected (λ b. IsDrivingSeen line (h.runs ++ run_of start FAR ∷ []) b) (own ++ found_of d) =
    found_next line start past d own h (run_of start FAR) is refl long late (λ run is' by. (all.each run).1 is') in
    record {
      none = r.none;
      breaches =
          rw yes' (exactly_as (λ b. IsDrivingSeen line (h.runs ++ run_of start FAR ∷ []) b)
          (λ b. IsDailyDriving line b) Apart (own ++ found_of d)
          (all_driving line (h.runs ++ run_of start FAR ∷ []) all) found);
    }
