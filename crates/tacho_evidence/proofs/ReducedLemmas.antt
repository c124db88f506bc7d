-- The evidence for a reduced daily rest that comes too often: what it says, and that there is one (`laws::reduced_evidence`).
use Rattle.std.proofs.Common.{◌≡◌, ℕ, ◌+◌, ◌<◌, ◌≤◌, ◌↔◌, List, ◌∷◌, length, refl, sym, ap, subst, ◌∙◌, arith}
use Rattle.tacho_law.specs.declared.run.Run.{Run}
use Rattle.tacho_law.specs.declared.breach.Breach.{Breach}
use Rattle.tacho_law.specs.declared.days.DutyDay.{DutyDay}
use Rattle.tacho_law.specs.Breaches.{IsB3}
use Rattle.tacho_law.specs.Days.{EarlierDay, IsReduced}
use Rattle.tacho_law.specs.Exactly.{AreExactly}
use Rattle.tacho_law.specs.Line.{Line}
use Rattle.tacho_law.specs.Runs.{AreRestRuns, Before}
use Rattle.tacho_law.proofs.ExactlyLemmas.{one_exactly, exactly_as}
use Rattle.tacho_evidence.specs.declared.line.EvidenceLine.{EvidenceLine}
use Rattle.tacho_evidence.specs.declared.line.EvidenceLine.TheVariants.{Weekly}
use Rattle.tacho_evidence.specs.Evidence.{IsReducedSince, IsReducedEvidence, reduced_lines}
use Rattle.tacho_evidence.proofs.RestsLemmas.{one_by_past, never_both_days}

-- the lines for a weekly rest and the days after it
abbrev pub since_lines : Run → List DutyDay → List EvidenceLine
since_lines weekly days = Weekly weekly ∷ reduced_lines 1 days

-- the days that a breach counts, up to the day whose rest starts at its moment
abbrev UpToDay : Line → Run → DutyDay → DutyDay → Type 0
UpToDay line weekly day other = IsReduced line other × Before weekly other.rest × (other.rest.start ≤ day.rest.start)

-- they are those that the evidence lists
same_days : (line : Line) (weekly : Run) (moment : ℕ) (day other : DutyDay) → moment ≡ day.rest.start
    → IsReducedSince line weekly moment other ↔ UpToDay line weekly day other
same_days line weekly moment day other e = (
  λ h. (h.reduced, h.after, let l : other.rest.start ≤ moment = h.before in omega arith),
  λ h. record {
    reduced = h.0;
    after = h.1;
    before = let l : other.rest.start ≤ day.rest.start = h.2 in omega arith;
  },
)

-- there is one list of them
pub one_days : (line : Line) (weekly : Run) (moment : ℕ) (days others : List DutyDay)
    → AreExactly (IsReducedSince line weekly moment) EarlierDay days
    → AreExactly (IsReducedSince line weekly moment) EarlierDay others → days ≡ others
one_days line weekly moment = one_exactly (IsReducedSince line weekly moment) EarlierDay
    (λ x y p q. never_both_days line x y p.reduced.duty q.reduced.duty)

-- what has evidence is such a reduced rest
pub reduced_sound : (line : Line) (breach : Breach) (lines : List EvidenceLine)
    → IsReducedEvidence line breach lines → IsB3 line breach
reduced_sound line breach lines h =
    let is : IsReducedSince line h.weekly breach.moment h.day = (h.reduced.each h.day).0 h.this in
    record {
      day = h.day;
      weekly = h.weekly;
      ordinal = length h.days;
      reduced = is.reduced;
      rest = h.rest;
      before = is.after;
      last = h.last;
      how_many = record {
        all = h.days;
        exactly =
            exactly_as (IsReducedSince line h.weekly breach.moment) (UpToDay line h.weekly h.day) EarlierDay h.days
            (λ other. same_days line h.weekly breach.moment h.day other h.moment) h.reduced;
        count = refl;
      };
      many = h.many;
      moment = h.moment;
      since = h.since;
      amount = h.amount;
    }

-- such a reduced rest has evidence
pub reduced_whole : (line : Line) (breach : Breach) → IsB3 line breach
    → (lines : List EvidenceLine) × IsReducedEvidence line breach lines
reduced_whole line breach h =
    let days : List DutyDay = h.how_many.all in
    let count : length days ≡ h.ordinal = h.how_many.count in (
      since_lines h.weekly days,
      record {
        weekly = h.weekly;
        rest = h.rest;
        days = days;
        reduced =
            exactly_as (UpToDay line h.weekly h.day) (IsReducedSince line h.weekly breach.moment) EarlierDay days
            (λ other. let s : IsReducedSince line h.weekly breach.moment other ↔ UpToDay line h.weekly h.day other =
            same_days line h.weekly breach.moment h.day other h.moment in (s.1, s.0))
            h.how_many.exactly;
        day = h.day;
        this = (h.how_many.exactly.each h.day).1 (h.reduced, h.before, omega arith);
        last = h.last;
        many = let m : 3 < h.ordinal = h.many in omega arith;
        moment = h.moment;
        since = h.since;
        amount = let a : breach.amount + 3 ≡ h.ordinal = h.amount in omega arith;
        lines_are = refl;
      },
    )

-- and only one
pub reduced_one : (line : Line) (runs : List Run) (breach : Breach) (lines others : List EvidenceLine)
    → AreRestRuns line runs
    → IsReducedEvidence line breach lines → IsReducedEvidence line breach others → lines ≡ others
reduced_one line runs breach lines others are p q =
    let e : p.weekly ≡ q.weekly =
    one_by_past line runs are p.weekly q.weekly p.rest.rests q.rest.rests (sym p.since ∙ q.since) in
    let reduced : AreExactly (IsReducedSince line q.weekly breach.moment) EarlierDay p.days =
    subst (λ (weekly : Run). AreExactly (IsReducedSince line weekly breach.moment) EarlierDay p.days) e p.reduced in
    let f : p.days ≡ q.days = one_days line q.weekly breach.moment p.days q.days reduced q.reduced in
    p.lines_are ∙ (ap (λ (weekly : Run). since_lines weekly p.days) e ∙ (ap (since_lines q.weekly) f ∙ sym q.lines_are))
