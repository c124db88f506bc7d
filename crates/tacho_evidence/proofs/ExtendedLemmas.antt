-- The evidence for an extended day too many: what it says, and that there is one (`laws::extended_evidence`).
use Rattle.std.proofs.Common.{◌≡◌, ℕ, ◌<◌, ◌≤◌, ◌↔◌, List, ◌∷◌, ◌++◌, length, refl, sym, ap, subst, ◌∙◌, arith}
use Rattle.std.specs.Prelude.{map}
use Rattle.tacho_law.specs.declared.run.Run.{Run}
use Rattle.tacho_law.specs.declared.breach.Breach.{Breach}
use Rattle.tacho_law.specs.declared.days.DutyDay.{DutyDay}
use Rattle.tacho_law.specs.Breaches.{IsB5, IsExtended}
use Rattle.tacho_law.specs.Days.{EarlierDay}
use Rattle.tacho_law.specs.Exactly.{AreExactly}
use Rattle.tacho_law.specs.Line.{Line}
use Rattle.tacho_law.specs.Runs.{AreRestRuns}
use Rattle.tacho_law.specs.Weeks.{week_start, IsInWeek}
use Rattle.tacho_law.proofs.ExactlyLemmas.{one_exactly, exactly_as}
use Rattle.tacho_law.proofs.MainRestLemmas.{one_week}
use Rattle.tacho_evidence.specs.declared.driven.DrivenSpan.{DrivenSpan}
use Rattle.tacho_evidence.specs.declared.line.EvidenceLine.{EvidenceLine}
use Rattle.tacho_evidence.specs.declared.line.EvidenceLine.TheVariants.{Week, Drive}
use Rattle.tacho_evidence.specs.Driven.{AreDriven}
use Rattle.tacho_evidence.specs.Evidence.{IsExtendedUpTo, IsExtendedEvidence, extended_lines}
use Rattle.tacho_evidence.proofs.RestsLemmas.{one_duty, never_both_days}
use Rattle.tacho_evidence.proofs.TotalsLemmas.{above_by_totals, one_driven}

-- the lines for the extended days of a week, and the driving spans of the last one
abbrev pub week_and_spans : Line → ℕ → List DutyDay → List DrivenSpan → List EvidenceLine
week_and_spans line week days spans = Week (week_start week) ∷ (extended_lines line 1 days ++ map Drive spans)

-- the days that a breach counts, up to its own
abbrev UpToDay : Line → ℕ → DutyDay → DutyDay → Type 0
UpToDay line week day other = IsExtended line week other × (other.start ≤ day.start)

-- they are those that the evidence lists
same_days : (line : Line) (week since : ℕ) (day other : DutyDay) → since ≡ day.start
    → IsExtendedUpTo line week since other ↔ UpToDay line week day other
same_days line week since day other e = (
  λ h. (h.extended, let l : other.start ≤ since = h.before in omega arith),
  λ h. record { extended = h.0; before = let l : other.start ≤ day.start = h.1 in omega arith },
)

-- there is one list of them
pub one_days : (line : Line) (week since : ℕ) (days others : List DutyDay)
    → AreExactly (IsExtendedUpTo line week since) EarlierDay days
    → AreExactly (IsExtendedUpTo line week since) EarlierDay others → days ≡ others
one_days line week since = one_exactly (IsExtendedUpTo line week since) EarlierDay
    (λ x y p q. never_both_days line x y p.extended.duty q.extended.duty)

-- what has evidence is such a day
pub extended_sound : (line : Line) (breach : Breach) (lines : List EvidenceLine)
    → IsExtendedEvidence line breach lines → IsB5 line breach
extended_sound line breach lines h =
    let is : IsExtendedUpTo line h.week breach.since h.day = (h.extended.each h.day).0 h.this in
    record {
      day = h.day;
      week = h.week;
      ordinal = length h.days;
      extended = is.extended;
      how_many = record {
        all = h.days;
        exactly =
            exactly_as (IsExtendedUpTo line h.week breach.since) (UpToDay line h.week h.day) EarlierDay h.days
            (λ other. same_days line h.week breach.since h.day other h.since) h.extended;
        count = refl;
      };
      many = h.many;
      over = (above_by_totals line 540 h.day.start h.day.past breach.moment breach.amount h.spans h.driven).0 h.above;
      since = h.since;
    }

-- such a day has evidence, with this list of its driving spans
with_spans : (line : Line) (breach : Breach) (h : IsB5 line breach) (spans : List DrivenSpan)
    → AreDriven line h.day.start h.day.past spans → (lines : List EvidenceLine) × IsExtendedEvidence line breach lines
with_spans line breach h spans driven =
    let days : List DutyDay = h.how_many.all in
    let count : length days ≡ h.ordinal = h.how_many.count in (
      week_and_spans line h.week days spans,
      record {
        week = h.week;
        days = days;
        extended =
            exactly_as (UpToDay line h.week h.day) (IsExtendedUpTo line h.week breach.since) EarlierDay days
            (λ other. let s : IsExtendedUpTo line h.week breach.since other ↔ UpToDay line h.week h.day other =
            same_days line h.week breach.since h.day other h.since in (s.1, s.0))
            h.how_many.exactly;
        many = let m : 2 < h.ordinal = h.many in omega arith;
        day = h.day;
        this = (h.how_many.exactly.each h.day).1 (h.extended, omega arith);
        since = h.since;
        spans = spans;
        driven = driven;
        above = (above_by_totals line 540 h.day.start h.day.past breach.moment breach.amount spans driven).1 h.over;
        lines_are = refl;
      },
    )

-- such a day has evidence, since each range has a list of driving spans
pub extended_whole : ((line : Line) (from to : ℕ) → (spans : List DrivenSpan) × AreDriven line from to spans)
    → (line : Line) (breach : Breach) → IsB5 line breach → (lines : List EvidenceLine) × IsExtendedEvidence line breach lines
extended_whole exist line breach h =
    let (spans, driven) = exist line h.day.start h.day.past in with_spans line breach h spans driven

-- and only one
pub extended_one : (line : Line) (runs : List Run) (breach : Breach) (lines others : List EvidenceLine)
    → AreRestRuns line runs
    → IsExtendedEvidence line breach lines → IsExtendedEvidence line breach others → lines ≡ others
extended_one line runs breach lines others are p q =
    let mine : IsExtendedUpTo line p.week breach.since p.day = (p.extended.each p.day).0 p.this in
    let theirs : IsExtendedUpTo line q.week breach.since q.day = (q.extended.each q.day).0 q.this in
    let e : p.day ≡ q.day =
    one_duty line runs are p.day q.day mine.extended.duty theirs.extended.duty (sym p.since ∙ q.since) in
    let in' : IsInWeek p.week q.day.start =
    subst (λ (day : DutyDay). IsInWeek p.week day.start) e mine.extended.week in
    let f : p.week ≡ q.week = one_week p.week q.week q.day.start in' theirs.extended.week in
    let extended : AreExactly (IsExtendedUpTo line q.week breach.since) EarlierDay p.days =
    subst (λ (week : ℕ). AreExactly (IsExtendedUpTo line week breach.since) EarlierDay p.days) f p.extended in
    let g : p.days ≡ q.days = one_days line q.week breach.since p.days q.days extended q.extended in
    let driven : AreDriven line q.day.start q.day.past p.spans =
    subst (λ (day : DutyDay). AreDriven line day.start day.past p.spans) e p.driven in
    let k : p.spans ≡ q.spans = one_driven line q.day.start q.day.past p.spans q.spans driven q.driven in
    p.lines_are
    ∙ (ap (λ (week : ℕ). week_and_spans line week p.days p.spans) f
    ∙ (ap (λ (days : List DutyDay). week_and_spans line q.week days p.spans) g
    ∙ (ap (λ (spans : List DrivenSpan). week_and_spans line q.week q.days spans) k ∙ sym q.lines_are)))
