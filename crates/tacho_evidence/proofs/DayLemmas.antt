-- The evidence for a breach B4: what has evidence is a breach, each breach has evidence, and only one (`laws::day_evidence`).
use Rattle.std.proofs.Common.{◌≡◌, ℕ, ◌<◌, ◌⊎◌, inl, inr, List, [], ◌∷◌, map, refl, sym, ap, subst, ◌∙◌, arith}
use Rattle.std.specs.List.{AllPairs, Contains}
use Rattle.tacho_law.specs.declared.run.Run.{Run}
use Rattle.tacho_law.specs.declared.breach.Breach.{Breach}
use Rattle.tacho_law.specs.declared.days.DutyDay.{DutyDay}
use Rattle.tacho_law.specs.Breaches.{IsB4}
use Rattle.tacho_law.specs.Days.{IsDuty}
use Rattle.tacho_law.specs.Limits.{driving_in_extended_day}
use Rattle.tacho_law.specs.Line.{Line}
use Rattle.tacho_law.specs.Runs.{AreRestRuns, Before, IsRestRun}
use Rattle.tacho_law.proofs.ExactlyLemmas.{contains_cases, head_first, tail_order}
use Rattle.tacho_evidence.specs.declared.driven.DrivenSpan.{DrivenSpan}
use Rattle.tacho_evidence.specs.declared.line.EvidenceLine.{EvidenceLine}
use Rattle.tacho_evidence.specs.declared.line.EvidenceLine.TheVariants.{Day, Drive}
use Rattle.tacho_evidence.specs.Driven.{AreDriven}
use Rattle.tacho_evidence.specs.Evidence.{IsDayEvidence}
use Rattle.tacho_evidence.proofs.TotalsLemmas.{above_by_totals, one_driven}
use Rattle.tacho_evidence.proofs.ExistLemmas.{driven_exist}

-- of two members of an ordered list, one is before the other, or they are the same
pub in_turn : {A : Type 0} (R : A → A → Type 0) (xs : List A) (x y : A) → AllPairs R xs → Contains xs x → Contains xs y
    → (x ≡ y) ⊎ (R x y ⊎ R y x)
in_turn R [] x y o p q = let k : p.0 < 0 = p.1 in absurd (omega arith)
in_turn R (z ∷ xs) x y o p q = elim (contains_cases z xs x p) [
  | inl first ↦ elim (contains_cases z xs y q) [
    | inl second ↦ inl (sym first ∙ second)
    | inr later ↦ inr (inl (subst (λ w. R w y) first (head_first R z xs y o later)))
  ]
  | inr after ↦ elim (contains_cases z xs y q) [
    | inl second ↦ inr (inr (subst (λ w. R w x) second (head_first R z xs x o after)))
    | inr later ↦ in_turn R xs x y (tail_order R z xs o) after later
  ]
]

-- two rest runs of a line are the same, or one is before the other
pub rests_in_turn : (line : Line) (runs : List Run) (a b : Run) → AreRestRuns line runs → IsRestRun line a → IsRestRun line b
    → (a ≡ b) ⊎ (Before a b ⊎ Before b a)
rests_in_turn line runs a b are p q = in_turn Before runs a b are.in_order ((are.each a).1 p) ((are.each b).1 q)

-- two rest runs of a line with the same end are the same
pub same_past : (line : Line) (runs : List Run) (a b : Run) → AreRestRuns line runs → IsRestRun line a → IsRestRun line b
    → a.past ≡ b.past → a ≡ b
same_past line runs a b are p q e =
    let some : a.start < a.past = p.some in
    let some' : b.start < b.past = q.some in
    elim (rests_in_turn line runs a b are p q) [
      | inl same ↦ same
      | inr apart ↦ absurd (elim apart [ inl early ↦ omega (arith, early) | inr late ↦ omega (arith, late) ])
    ]

-- a day is determined by its start, its end and its rest
same_fields : (a b : DutyDay) → a.start ≡ b.start → a.past ≡ b.past → a.rest ≡ b.rest → a ≡ b
same_fields a b e f g =
    let one : ℕ → DutyDay = λ x. record { start = x; past = a.past; rest = a.rest } in
    let two : ℕ → DutyDay = λ x. record { start = b.start; past = x; rest = a.rest } in
    let three : Run → DutyDay = λ x. record { start = b.start; past = b.past; rest = x } in
    ap one e ∙ (ap two f ∙ ap three g)

-- a line's duty days with the same start are the same
pub same_day : (line : Line) (runs : List Run) (a b : DutyDay) → AreRestRuns line runs → IsDuty line a → IsDuty line b
    → a.start ≡ b.start → a ≡ b
same_day line runs a b are p q e =
    let last : p.last ≡ q.last =
    same_past line runs p.last q.last are p.neighbours.first.rests q.neighbours.first.rests
    (sym p.start ∙ e ∙ q.start) in
    let rest : a.rest ≡ b.rest =
    elim (rests_in_turn line runs a.rest b.rest are p.neighbours.second.rests q.neighbours.second.rests) [
      | inl same ↦ same
      | inr apart ↦ absurd (elim apart [
        | inl early ↦
            q.neighbours.between a.rest p.neighbours.second
            (subst (λ (x : Run). Before x a.rest) last p.neighbours.before) early
        | inr late ↦
            p.neighbours.between b.rest q.neighbours.second
            (subst (λ (x : Run). Before x b.rest) (sym last) q.neighbours.before) late
      ])
    ] in
    same_fields a b e (p.past ∙ (ap (λ (x : Run). x.start) rest ∙ sym q.past)) rest

-- what has evidence is a breach
pub day_sound : (line : Line) (breach : Breach) (lines : List EvidenceLine) → IsDayEvidence line breach lines → IsB4 line breach
day_sound line breach lines e = record {
  day = e.day;
  duty = e.duty;
  over =
      (above_by_totals line driving_in_extended_day e.day.start e.day.past breach.moment breach.amount e.spans e.driven).0
      e.above;
  since = e.since;
}

-- each breach has evidence
pub day_whole : (line : Line) (runs : List Run) (breach : Breach) → AreRestRuns line runs → IsB4 line breach
    → (lines : List EvidenceLine) × IsDayEvidence line breach lines
day_whole line runs breach are b =
    let (spans, driven) = driven_exist line b.day.start b.day.past in (
      Day b.day.start b.day.past ∷ map Drive spans,
      record {
        day = b.day;
        duty = b.duty;
        spans = spans;
        driven = driven;
        above =
            (above_by_totals line driving_in_extended_day b.day.start b.day.past breach.moment breach.amount spans driven).1
            b.over;
        since = b.since;
        lines_are = refl;
      },
    )

-- and only one
pub day_one : (line : Line) (runs : List Run) (breach : Breach) (lines others : List EvidenceLine) → AreRestRuns line runs
    → IsDayEvidence line breach lines → IsDayEvidence line breach others → lines ≡ others
day_one line runs breach lines others are a b =
    let day : a.day ≡ b.day = same_day line runs a.day b.day are a.duty b.duty (sym a.since ∙ b.since) in
    let driven : AreDriven line b.day.start b.day.past a.spans =
    subst (λ (d : DutyDay). AreDriven line d.start d.past a.spans) day a.driven in
    let spans : a.spans ≡ b.spans = one_driven line b.day.start b.day.past a.spans b.spans driven b.driven in
    a.lines_are
    ∙ (ap (λ (d : DutyDay). Day d.start d.past ∷ map Drive a.spans) day
    ∙ (ap (λ (s : List DrivenSpan). Day b.day.start b.day.past ∷ map Drive s) spans ∙ sym b.lines_are))
