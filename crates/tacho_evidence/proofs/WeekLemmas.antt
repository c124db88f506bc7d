-- Too much driving in weeks: from the totals of one date, which go on from an earlier minute, to the driving since that minute.
use Rattle.std.proofs.Common.{◌≡◌, ◌≢◌, ℕ, zero, suc, ◌+◌, ◌-◌, ◌<◌, ◌≤◌, ◌⊎◌, inl, inr, List, [], ◌∷◌, ◌++◌, map, refl, sym, ap, ap₂, subst, ◌∙◌, arith, add-zero}
use Rattle.tacho_time.specs.declared.span.Activity.{Activity}
use Rattle.tacho_time.specs.declared.span.Activity.TheVariants.{Rest, Available, Work, Drive}
use Rattle.tacho_law.specs.declared.run.Run.{Run}
use Rattle.tacho_law.specs.declared.breach.Breach.{Breach}
use Rattle.tacho_law.specs.Line.{Line}
use Rattle.tacho_law.specs.Driving.{driving, IsDrivingMinute, IsDrivingAbove}
use Rattle.tacho_law.specs.Limits.{minutes_of_day}
use Rattle.tacho_law.specs.Runs.{Before, minutes_of}
use Rattle.tacho_law.specs.Weeks.{week_start}
use Rattle.tacho_law.proofs.ExactlyLemmas.{one_exactly}
use Rattle.tacho_law.proofs.DrivingLemmas.{driving_before, driving_idle, driving_next, driving_reaches}
use Rattle.tacho_evidence.specs.declared.driven.DrivenSpan.{DrivenSpan}
use Rattle.tacho_evidence.specs.Driven.{IsDrivingSpan, AreDrivingSpans, with_totals, AreDriven, total_of, IsAboveByTotals}
use Rattle.tacho_evidence.specs.Evidence.{date_of, AreDrivenOn, IsReachedOn, IsWeeklyExcess}
use Rattle.tacho_evidence.proofs.TotalsLemmas.{above_by_totals, span_of}

-- ---- driving before and after a minute

-- whether an activity is driving
drives_or : (a : Activity) → (a ≡ Drive) ⊎ (a ≢ Drive)
drives_or Drive = inl refl
drives_or Rest = inr (λ e. cc)
drives_or Available = inr (λ e. cc)
drives_or Work = inr (λ e. cc)

-- the driving from one minute on is that up to a later minute, and that from there on
driving_split : (line : Line) (a b n : ℕ) → a ≤ b → driving line a (b + n) ≡ driving line a b + driving line b (b + n)
driving_split line a b zero le =
    let e : driving line b b ≡ 0 = driving_before line b b (omega arith) in
    rw add-zero (omega arith)
driving_split line a b (suc n) le =
    let i : driving line a (b + n) ≡ driving line a b + driving line b (b + n) = driving_split line a b n le in
    let g : (b + n) + 1 ≡ b + suc n = omega arith in
    elim (drives_or (line (b + n))) [
      | inl d ↦
          let x : driving line a ((b + n) + 1) ≡ driving line a (b + n) + 1 = driving_next line a (b + n) (omega arith) d in
          let y : driving line b ((b + n) + 1) ≡ driving line b (b + n) + 1 = driving_next line b (b + n) (omega arith) d in
          let x' = rw g at x in
          let y' = rw g at y in
          omega arith
      | inr idle ↦
          let x : driving line a ((b + n) + 1) ≡ driving line a (b + n) = driving_idle line a (b + n) idle in
          let y : driving line b ((b + n) + 1) ≡ driving line b (b + n) = driving_idle line b (b + n) idle in
          let x' = rw g at x in
          let y' = rw g at y in
          omega arith
    ]

-- likewise, for any later end
pub split_at : (line : Line) (a b m : ℕ) → a ≤ b → b ≤ m → driving line a m ≡ driving line a b + driving line b m
split_at line a b m le below =
    let e : b + (m - b) ≡ m = omega arith in
    subst (λ (x : ℕ). driving line a x ≡ driving line a b + driving line b x) e (driving_split line a b (m - b) le)

-- ---- totals that begin at another number

-- a span whose total is k more
abbrev shift : ℕ → DrivenSpan → DrivenSpan
shift k span = record { run = span.run; total = k + span.total }

-- totals that begin at k more are k more
totals_shift : (k d : ℕ) (runs : List Run) → with_totals (k + d) runs ≡ map (shift k) (with_totals d runs)
totals_shift k d [] = refl
totals_shift k d (run ∷ runs) =
    let e : (k + d) + minutes_of run ≡ k + (d + minutes_of run) = omega arith in
    ap₂ (λ (span : DrivenSpan) (spans : List DrivenSpan). span ∷ spans) (ap (span_of run) e)
    (ap (λ (n : ℕ). with_totals n runs) e ∙ totals_shift k (d + minutes_of run) runs)

-- likewise from 0
pub totals_from : (k : ℕ) (runs : List Run) → with_totals k runs ≡ map (shift k) (with_totals 0 runs)
totals_from k runs =
    let e : k ≡ k + 0 = omega arith in
    ap (λ (n : ℕ). with_totals n runs) e ∙ totals_shift k 0 runs

-- so is the last total
last_shift : (k d : ℕ) (spans : List DrivenSpan) → total_of (k + d) (map (shift k) spans) ≡ k + total_of d spans
last_shift k d [] = refl
last_shift k d (span ∷ spans) = last_shift k span.total spans

last_from : (k : ℕ) (spans : List DrivenSpan) → total_of k (map (shift k) spans) ≡ k + total_of 0 spans
last_from k spans =
    let e : k ≡ k + 0 = omega arith in
    ap (λ (n : ℕ). total_of n (map (shift k) spans)) e ∙ last_shift k 0 spans

-- a list that was shifted, in three parts
record Parts (k : ℕ) (spans before : List DrivenSpan) (span : DrivenSpan) : Type 0 where
  pub front : List DrivenSpan
  pub middle : DrivenSpan
  pub back : List DrivenSpan
  pub whole : spans ≡ front ++ (middle ∷ back)
  pub front_is : before ≡ map (shift k) front
  pub middle_is : span ≡ shift k middle

parts_of : (k : ℕ) (spans before : List DrivenSpan) (span : DrivenSpan) (after : List DrivenSpan)
    → map (shift k) spans ≡ before ++ (span ∷ after) → Parts k spans before span
parts_of k [] [] span after e = absurd (let f = e in cc)
parts_of k [] (b ∷ before) span after e = absurd (let f = e in cc)
parts_of k (x ∷ spans) [] span after e = record {
  front = [];
  middle = x;
  back = spans;
  whole = refl;
  front_is = refl;
  middle_is = let f = e in cc;
}
parts_of k (x ∷ spans) (b ∷ before) span after e =
    let tail : map (shift k) spans ≡ before ++ (span ∷ after) = let f = e in cc in
    let head : shift k x ≡ b = let f = e in cc in
    let p = parts_of k spans before span after tail in record {
      front = x ∷ p.front;
      middle = p.middle;
      back = p.back;
      whole = ap (λ (xs : List DrivenSpan). x ∷ xs) p.whole;
      front_is = ap₂ (λ (y : DrivenSpan) (ys : List DrivenSpan). y ∷ ys) (sym head) p.front_is;
      middle_is = p.middle_is;
    }

-- three parts, shifted
shift_parts : (k : ℕ) (before : List DrivenSpan) (span : DrivenSpan) (after : List DrivenSpan)
    → map (shift k) (before ++ (span ∷ after)) ≡ map (shift k) before ++ (shift k span ∷ map (shift k) after)
shift_parts k [] span after = refl
shift_parts k (b ∷ before) span after = ap (λ (xs : List DrivenSpan). shift k b ∷ xs) (shift_parts k before span after)

-- a total doesn't fall
pub totals_rise : (d : ℕ) (runs : List Run) → d ≤ total_of d (with_totals d runs)
totals_rise d [] = omega arith
totals_rise d (run ∷ runs) =
    let i : d + minutes_of run ≤ total_of (d + minutes_of run) (with_totals (d + minutes_of run) runs) = totals_rise (d + minutes_of run) runs in
    omega arith

-- what follows a span of a list with totals is a list with totals from the span's on
rest_of : (d : ℕ) (runs : List Run) (before : List DrivenSpan) (span : DrivenSpan) (after : List DrivenSpan)
    → with_totals d runs ≡ before ++ (span ∷ after) → (rest : List Run) × (after ≡ with_totals span.total rest)
rest_of d [] [] span after e = absurd (let f = e in cc)
rest_of d [] (b ∷ before) span after e = absurd (let f = e in cc)
rest_of d (run ∷ runs) [] span after e =
    let head : span_of run (d + minutes_of run) ≡ span = let f = e in cc in
    let tail : with_totals (d + minutes_of run) runs ≡ after = let f = e in cc in
    (runs, sym tail ∙ ap (λ (s : DrivenSpan). with_totals s.total runs) head)
rest_of d (run ∷ runs) (b ∷ before) span after e =
    rest_of (d + minutes_of run) runs before span after (let f = e in cc)

-- the last total of a list in parts
last_of_parts : (d : ℕ) (before : List DrivenSpan) (span : DrivenSpan) (after : List DrivenSpan)
    → total_of d (before ++ (span ∷ after)) ≡ total_of span.total after
last_of_parts d [] span after = refl
last_of_parts d (b ∷ before) span after = last_of_parts b.total before span after

-- a span's total is at most the last total
total_within : (runs : List Run) (before : List DrivenSpan) (span : DrivenSpan) (after : List DrivenSpan)
    → with_totals 0 runs ≡ before ++ (span ∷ after) → span.total ≤ total_of 0 (with_totals 0 runs)
total_within runs before span after e =
    let r = rest_of 0 runs before span after e in
    let last : total_of 0 (with_totals 0 runs) ≡ total_of span.total after =
    ap (total_of 0) e ∙ last_of_parts 0 before span after in
    let same : total_of span.total after ≡ total_of span.total (with_totals span.total r.0) = ap (total_of span.total) r.1 in
    let rise : span.total ≤ total_of span.total (with_totals span.total r.0) = totals_rise span.total r.0 in
    omega arith

-- ---- the minute at which a limit is passed

-- by a date's totals, which begin at `done`, the minute is the first above the limit: of the date it is the one above what is left
reached_minute : (line : Line) (origin date limit moment : ℕ) (spans : List DrivenSpan) → AreDrivenOn line origin date spans
    → IsReachedOn (driving line origin date) limit spans moment
    → (driving line origin date ≤ limit) × IsDrivingMinute line date (date + minutes_of_day) ((limit - driving line origin date) + 1) moment
reached_minute line origin date limit moment spans on r =
    let done = driving line origin date in
    let free = with_totals 0 on.runs in
    let driven : AreDriven line date (date + minutes_of_day) free = record { runs = on.runs; are = on.are; totals = refl } in
    let p = parts_of done free r.before r.span r.after (sym (totals_from done on.runs) ∙ (sym on.totals ∙ r.parts)) in
    let before : total_of done r.before ≡ done + total_of 0 p.front = ap (total_of done) p.front_is ∙ last_from done p.front in
    let total : r.span.total ≡ done + p.middle.total = ap (λ (s : DrivenSpan). s.total) p.middle_is in
    let start : r.span.run.start ≡ p.middle.run.start = ap (λ (s : DrivenSpan). s.run.start) p.middle_is in
    let reached : total_of done r.before ≤ limit = r.reached in
    let exceeded : limit < r.span.total = r.exceeded in
    let moment_is : moment + total_of done r.before ≡ r.span.run.start + limit = r.moment_is in
    let within : p.middle.total ≤ total_of 0 free = total_within on.runs p.front p.middle p.back p.whole in
    let above : IsAboveByTotals (limit - done) free moment (total_of 0 free - (limit - done)) = record {
      before = p.front;
      span = p.middle;
      after = p.back;
      parts = p.whole;
      reached = omega arith;
      exceeded = omega arith;
      moment_is = omega arith;
      amount_is = omega arith;
    } in
    (omega arith, ((above_by_totals line (limit - done) date (date + minutes_of_day) moment _ free driven).0 above).moment)

-- the other way round
minute_reached : (line : Line) (origin date limit moment : ℕ) (runs : List Run) → AreDrivingSpans line date (date + minutes_of_day) runs
    → driving line origin date ≤ limit
    → IsDrivingMinute line date (date + minutes_of_day) ((limit - driving line origin date) + 1) moment
    → IsReachedOn (driving line origin date) limit (with_totals (driving line origin date) runs) moment
minute_reached line origin date limit moment runs are le is =
    let done = driving line origin date in
    let free = with_totals 0 runs in
    let driven : AreDriven line date (date + minutes_of_day) free = record { runs = runs; are = are; totals = refl } in
    let enough : (limit - done) + 1 ≤ driving line date (date + minutes_of_day) =
    driving_reaches line date (date + minutes_of_day) ((limit - done) + 1) moment is in
    let over : IsDrivingAbove line (limit - done) date (date + minutes_of_day) moment
    (driving line date (date + minutes_of_day) - (limit - done)) = record { moment = is; amount = omega arith } in
    let a = (above_by_totals line (limit - done) date (date + minutes_of_day) moment _ free driven).1 over in
    let before : total_of done (map (shift done) a.before) ≡ done + total_of 0 a.before = last_from done a.before in
    let reached : total_of 0 a.before ≤ limit - done = a.reached in
    let exceeded : limit - done < a.span.total = a.exceeded in
    let moment_is : moment + total_of 0 a.before ≡ a.span.run.start + (limit - done) = a.moment_is in record {
      before = map (shift done) a.before;
      span = shift done a.span;
      after = map (shift done) a.after;
      parts = totals_from done runs ∙ (ap (map (shift done)) a.parts ∙ shift_parts done a.before a.span a.after);
      reached = omega arith;
      exceeded = omega arith;
      moment_is = omega arith;
    }

-- ---- the excess of weeks

-- the minute is one of its date
pub date_bounds : (m : ℕ) → (date_of m ≤ m) × (m < date_of m + minutes_of_day)
date_bounds m = (omega arith, omega arith)

-- a minute's date begins in the week of the minute, or later
pub from_date : (w m : ℕ) → week_start w ≤ m → week_start w ≤ date_of m
from_date w m le = omega arith

-- the excess follows from its evidence
pub excess_follows : (line : Line) (limit origin end : ℕ) (breach : Breach) (spans : List DrivenSpan) → IsWeeklyExcess line limit origin end breach spans
    → IsDrivingAbove line limit origin end breach.moment breach.amount
excess_follows line limit origin end breach spans x =
    let date = date_of breach.moment in
    let r = reached_minute line origin date limit breach.moment spans x.driven x.reached in
    let le : driving line origin date ≤ limit = r.0 in
    let is = r.1 in
    let above : date ≤ breach.moment = is.above in
    let from : origin ≤ date = x.from in
    let split : driving line origin breach.moment ≡ driving line origin date + driving line date breach.moment =
    split_at line origin date breach.moment from above in
    let earlier : driving line date breach.moment + 1 ≡ (limit - driving line origin date) + 1 = is.earlier in record {
      moment = record { above = omega arith; below = x.until; drives = is.drives; earlier = omega arith };
      amount = x.amount;
    }

-- each excess has evidence, if its date begins at the origin or later, and the date has a list of driving spans
pub excess_has_evidence : (line : Line) (limit origin end : ℕ) (breach : Breach) (driven : List DrivenSpan) → origin ≤ date_of breach.moment
    → AreDriven line (date_of breach.moment) (date_of breach.moment + minutes_of_day) driven
    → IsDrivingAbove line limit origin end breach.moment breach.amount → breach.since ≡ origin
    → (spans : List DrivenSpan) × IsWeeklyExcess line limit origin end breach spans
excess_has_evidence line limit origin end breach driven from a over since =
    let date = date_of breach.moment in
    let bounds = date_bounds breach.moment in
    let low : date ≤ breach.moment = bounds.0 in
    let split : driving line origin breach.moment ≡ driving line origin date + driving line date breach.moment =
    split_at line origin date breach.moment from low in
    let earlier : driving line origin breach.moment + 1 ≡ limit + 1 = over.moment.earlier in
    let is : IsDrivingMinute line date (date + minutes_of_day) ((limit - driving line origin date) + 1) breach.moment =
    record { above = low; below = bounds.1; drives = over.moment.drives; earlier = omega arith } in (
      with_totals (driving line origin date) a.runs,
      record {
        from = from;
        until = over.moment.below;
        driven = record { runs = a.runs; are = a.are; totals = refl };
        reached = minute_reached line origin date limit breach.moment a.runs a.are (omega arith) is;
        amount = over.amount;
        since = since;
      },
    )

-- a date has one list of driving spans whose totals go on from a minute
pub one_list_on : (line : Line) (origin date : ℕ) (spans others : List DrivenSpan) → AreDrivenOn line origin date spans
    → AreDrivenOn line origin date others → spans ≡ others
one_list_on line origin date spans others a b =
    let e : a.runs ≡ b.runs =
    one_exactly (IsDrivingSpan line date (date + minutes_of_day)) Before
    (λ x y p q before after.
    let some : x.start < x.past = p.some in let some' : y.start < y.past = q.some in omega arith)
    a.runs b.runs a.are b.are in
    a.totals ∙ ap (with_totals (driving line origin date)) e ∙ sym b.totals
