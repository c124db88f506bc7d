-- The evidence for a daily rest that is too short: what it says, and that there is one (`laws::daily_rest_evidence`).
use Rattle.std.proofs.Common.{◌≡◌, ◌+◌, ◌<◌, ◌≤◌, ◌⊎◌, inl, inr, List, [], ◌∷◌, ◌++◌, refl, sym, ap, subst}
use Rattle.std.proofs.Common.{◌∙◌, arith, min}
use Rattle.std.specs.Prelude.{map}
use Rattle.std.specs.List.{Contains}
use Rattle.std.proofs.lemmas.Bool.{cases_lt}
use Rattle.tacho_law.specs.declared.run.Run.{Run}
use Rattle.tacho_law.specs.declared.breach.Breach.{Breach}
use Rattle.tacho_law.specs.declared.days.DutyDay.{DutyDay}
use Rattle.tacho_law.specs.Breaches.{IsB2}
use Rattle.tacho_law.specs.Exactly.{AreExactly}
use Rattle.tacho_law.specs.Line.{Line}
use Rattle.tacho_law.specs.Runs.{AreRestRuns, Before, minutes_of}
use Rattle.tacho_law.proofs.ExactlyLemmas.{one_exactly, exactly_as}
use Rattle.tacho_evidence.specs.declared.line.EvidenceLine.{EvidenceLine}
use Rattle.tacho_evidence.specs.declared.line.EvidenceLine.TheVariants.{Day, Limit, Rest, DailyRest}
use Rattle.tacho_evidence.specs.Evidence.{IsRestWithin, IsDailyRestEvidence}
use Rattle.tacho_evidence.proofs.RestsLemmas.{one_duty, Kept, kept_of}

-- the lines for a duty day and the rests within it
abbrev pub daily_lines : DutyDay → List Run → List EvidenceLine
daily_lines day rests = Day day.start day.past ∷ (Limit (day.start + 1440)
    ∷ (map Rest rests ++ (DailyRest day.rest (day.start + 1440) ∷ [])))

-- what makes a rest run one within a day
record Fits (day : DutyDay) (run : Run) : Type 0 where
  pub enough : 180 ≤ minutes_of run
  pub after : day.start ≤ run.start
  pub before : run.past ≤ day.past

-- this can be decided
fits_or : (day : DutyDay) (run : Run) → Fits day run ⊎ (Fits day run → ⊥)
fits_or day run = elim (cases_lt (minutes_of run) 180) [
  | inl few ↦ inr (λ h. let e : 180 ≤ minutes_of run = h.enough in omega arith)
  | inr enough ↦ elim (cases_lt run.start day.start) [
    | inl early ↦ inr (λ h. let e : day.start ≤ run.start = h.after in omega arith)
    | inr after ↦ elim (cases_lt day.past run.past) [
      | inl late ↦ inr (λ h. let e : run.past ≤ day.past = h.before in omega arith)
      | inr before ↦ inl (record { enough = enough; after = after; before = before })
    ]
  ]
]

-- the rests within a day are listed
rests_within : (line : Line) (runs : List Run) (day : DutyDay) → AreRestRuns line runs
    → (rests : List Run) × AreExactly (IsRestWithin line day) Before rests
rests_within line runs day are =
    let k : Kept Before (Fits day) runs = kept_of Before (Fits day) (fits_or day) runs are.in_order in (
      k.kept,
      exactly_as (λ run. Contains runs run × Fits day run) (IsRestWithin line day) Before k.kept
          (λ run. (
            λ h. record {
              rest = record { rests = (are.each run).0 h.0; enough = h.1.enough };
              after = h.1.after;
              before = h.1.before;
            },
            λ h. ((are.each run).1 h.rest.rests, record { enough = h.rest.enough; after = h.after; before = h.before }),
          ))
          k.exactly,
    )

-- there is one list of them
pub one_rests_within : (line : Line) (day : DutyDay) (rests others : List Run)
    → AreExactly (IsRestWithin line day) Before rests
    → AreExactly (IsRestWithin line day) Before others → rests ≡ others
one_rests_within line day = one_exactly (IsRestWithin line day) Before (λ a b p q before after.
    let some : a.start < a.past = p.rest.rests.some in
    let some' : b.start < b.past = q.rest.rests.some in
    let l : a.past < b.start = before in
    let m : b.past < a.start = after in
    omega arith)

-- what has evidence is such a daily rest
pub daily_sound : (line : Line) (breach : Breach) (lines : List EvidenceLine)
    → IsDailyRestEvidence line breach lines → IsB2 line breach
daily_sound line breach lines h =
    let past : h.day.past ≡ h.day.rest.start = h.duty.past in
    let short : min h.day.rest.past (h.day.start + 1440) < h.day.rest.start + 540 = h.short in
    record {
      day = h.day;
      duty = h.duty;
      short = λ portion. let e : h.day.past + 540 ≤ min h.day.rest.past (h.day.start + 1440) = portion in omega arith;
      moment = h.moment;
      since = h.since;
      amount = let a : breach.amount + min h.day.rest.past (h.day.start + 1440) ≡ 540 + h.day.rest.start = h.amount in omega arith;
    }

-- such a daily rest has evidence
pub daily_whole : (line : Line) (runs : List Run) (breach : Breach) → AreRestRuns line runs → IsB2 line breach
    → (lines : List EvidenceLine) × IsDailyRestEvidence line breach lines
daily_whole line runs breach are h =
    let (rests, rested) = rests_within line runs h.day are in
    let past : h.day.past ≡ h.day.rest.start = h.duty.past in (
      daily_lines h.day rests,
      record {
        day = h.day;
        duty = h.duty;
        short = elim (cases_lt (min h.day.rest.past (h.day.start + 1440)) (h.day.rest.start + 540)) [
          | inl lt ↦ lt
          | inr ge ↦ absurd (h.short (omega arith))
        ];
        moment = h.moment;
        since = h.since;
        amount = let a : breach.amount + min h.day.rest.past (h.day.start + 1440) ≡ 540 + h.day.past = h.amount in omega arith;
        rests = rests;
        rested = rested;
        lines_are = refl;
      },
    )

-- and only one
pub daily_one : (line : Line) (runs : List Run) (breach : Breach) (lines others : List EvidenceLine)
    → AreRestRuns line runs
    → IsDailyRestEvidence line breach lines → IsDailyRestEvidence line breach others → lines ≡ others
daily_one line runs breach lines others are p q =
    let e : p.day ≡ q.day = one_duty line runs are p.day q.day p.duty q.duty (sym p.since ∙ q.since) in
    let rested : AreExactly (IsRestWithin line q.day) Before p.rests =
    subst (λ (day : DutyDay). AreExactly (IsRestWithin line day) Before p.rests) e p.rested in
    let f : p.rests ≡ q.rests = one_rests_within line q.day p.rests q.rests rested q.rested in
    p.lines_are ∙ (ap (λ (day : DutyDay). daily_lines day p.rests) e ∙ (ap (daily_lines q.day) f ∙ sym q.lines_are))
