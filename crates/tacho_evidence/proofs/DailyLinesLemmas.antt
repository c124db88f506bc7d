-- Lines that list what they have to are the evidence of a breach of a rule on days (`day_lines`, `daily_rest_lines`, `reduced_lines`,
-- `extended_lines`): the breach has evidence, and it is the same list.
use Rattle.std.proofs.Common.{◌≡◌, ℕ, List, ◌∷◌, map, sym, ap, subst, ◌∙◌}
use Rattle.tacho_law.specs.declared.run.Run.{Run}
use Rattle.tacho_law.specs.declared.breach.Breach.{Breach}
use Rattle.tacho_law.specs.declared.days.DutyDay.{DutyDay}
use Rattle.tacho_law.specs.Breaches.{IsB2, IsB3, IsB4, IsB5}
use Rattle.tacho_law.specs.Days.{EarlierDay, IsDuty}
use Rattle.tacho_law.specs.Exactly.{AreExactly}
use Rattle.tacho_law.specs.Line.{Line}
use Rattle.tacho_law.specs.Runs.{AreRestRuns, Before, IsRestRun}
use Rattle.tacho_law.specs.Weeks.{IsInWeek}
use Rattle.tacho_law.proofs.MainRestLemmas.{one_week}
use Rattle.tacho_evidence.specs.declared.driven.DrivenSpan.{DrivenSpan}
use Rattle.tacho_evidence.specs.declared.line.EvidenceLine.{EvidenceLine}
use Rattle.tacho_evidence.specs.declared.line.EvidenceLine.TheVariants.{Day, Drive}
use Rattle.tacho_evidence.specs.Driven.{AreDriven}
use Rattle.tacho_evidence.specs.Evidence.{IsDailyRestEvidence, IsDayEvidence, IsExtendedEvidence, IsExtendedUpTo}
use Rattle.tacho_evidence.specs.Evidence.{IsReducedEvidence, IsReducedSince, IsRestWithin}
use Rattle.tacho_evidence.proofs.DayLemmas.{day_whole}
use Rattle.tacho_evidence.proofs.ExistLemmas.{driven_exist}
use Rattle.tacho_evidence.proofs.ExtendedLemmas.{extended_whole, week_and_spans, one_days as one_extended}
use Rattle.tacho_evidence.proofs.ReducedLemmas.{reduced_whole, since_lines, one_days as one_reduced}
use Rattle.tacho_evidence.proofs.RestsLemmas.{one_by_past, one_duty}
use Rattle.tacho_evidence.proofs.RestsWithinLemmas.{daily_whole, daily_lines, one_rests_within}
use Rattle.tacho_evidence.proofs.TotalsLemmas.{one_driven}

-- for a breach on a line with these rest runs
module _ (line : Line) (runs : List Run) (are : AreRestRuns line runs) (breach : Breach) (lines : List EvidenceLine) where
  -- over a duty day that begins where the breach is judged from
  module _ (day : DutyDay) (duty : IsDuty line day) (begins : day.start ≡ breach.since) where
    -- the driving of a day
    pub day_lines_are : IsB4 line breach → (spans : List DrivenSpan) → AreDriven line day.start day.past spans
        → lines ≡ Day day.start day.past ∷ map Drive spans → IsDayEvidence line breach lines
    day_lines_are b spans driven is =
        let (others, e) = day_whole line runs breach are b in
        let same : day ≡ e.day = one_duty line runs are day e.day duty e.duty (begins ∙ e.since) in
        let driven' : AreDriven line e.day.start e.day.past spans =
        subst (λ (d : DutyDay). AreDriven line d.start d.past spans) same driven in
        let f : spans ≡ e.spans = one_driven line e.day.start e.day.past spans e.spans driven' e.driven in
        let g : lines ≡ others =
        is
        ∙ (ap (λ (d : DutyDay). Day d.start d.past ∷ map Drive spans) same
        ∙ (ap (λ (s : List DrivenSpan). Day e.day.start e.day.past ∷ map Drive s) f ∙ sym e.lines_are)) in
        subst (λ (x : List EvidenceLine). IsDayEvidence line breach x) (sym g) e

    -- a daily rest
    pub daily_rest_lines_are : IsB2 line breach → (rests : List Run) → AreExactly (IsRestWithin line day) Before rests
        → lines ≡ daily_lines day rests → IsDailyRestEvidence line breach lines
    daily_rest_lines_are b rests rested is =
        let (others, e) = daily_whole line runs breach are b in
        let same : day ≡ e.day = one_duty line runs are day e.day duty e.duty (begins ∙ e.since) in
        let rested' : AreExactly (IsRestWithin line e.day) Before rests =
        subst (λ (d : DutyDay). AreExactly (IsRestWithin line d) Before rests) same rested in
        let f : rests ≡ e.rests = one_rests_within line e.day rests e.rests rested' e.rested in
        let g : lines ≡ others =
        is ∙ (ap (λ (d : DutyDay). daily_lines d rests) same ∙ (ap (daily_lines e.day) f ∙ sym e.lines_are)) in
        subst (λ (x : List EvidenceLine). IsDailyRestEvidence line breach x) (sym g) e

    -- extended days of a week
    pub extended_lines_are : IsB5 line breach → (week : ℕ) → IsInWeek week breach.since → (days : List DutyDay)
        → AreExactly (IsExtendedUpTo line week breach.since) EarlierDay days
        → (spans : List DrivenSpan) → AreDriven line day.start day.past spans
        → lines ≡ week_and_spans line week days spans → IsExtendedEvidence line breach lines
    extended_lines_are b week in' days extended spans driven is =
        let (others, e) = extended_whole driven_exist line breach b in
        let mine : IsExtendedUpTo line e.week breach.since e.day = (e.extended.each e.day).0 e.this in
        let same : day ≡ e.day = one_duty line runs are day e.day duty mine.extended.duty (begins ∙ e.since) in
        let in'' : IsInWeek e.week breach.since =
        subst (λ (m : ℕ). IsInWeek e.week m) (sym e.since) mine.extended.week in
        let weeks : week ≡ e.week = one_week week e.week breach.since in' in'' in
        let extended' : AreExactly (IsExtendedUpTo line e.week breach.since) EarlierDay days =
        subst (λ (w : ℕ). AreExactly (IsExtendedUpTo line w breach.since) EarlierDay days) weeks extended in
        let f : days ≡ e.days = one_extended line e.week breach.since days e.days extended' e.extended in
        let driven' : AreDriven line e.day.start e.day.past spans =
        subst (λ (d : DutyDay). AreDriven line d.start d.past spans) same driven in
        let h : spans ≡ e.spans = one_driven line e.day.start e.day.past spans e.spans driven' e.driven in
        let g : lines ≡ others =
        is
        ∙ (ap (λ (w : ℕ). week_and_spans line w days spans) weeks
        ∙ (ap (λ (ds : List DutyDay). week_and_spans line e.week ds spans) f
        ∙ (ap (λ (s : List DrivenSpan). week_and_spans line e.week e.days s) h ∙ sym e.lines_are))) in
        subst (λ (x : List EvidenceLine). IsExtendedEvidence line breach x) (sym g) e

  -- reduced rests since the rest run that ends where the breach is judged from
  pub reduced_lines_are : IsB3 line breach → (weekly : Run) → IsRestRun line weekly → weekly.past ≡ breach.since
      → (days : List DutyDay) → AreExactly (IsReducedSince line weekly breach.moment) EarlierDay days
      → lines ≡ since_lines weekly days → IsReducedEvidence line breach lines
  reduced_lines_are b weekly run ends days reduced is =
      let (others, e) = reduced_whole line breach b in
      let same : weekly ≡ e.weekly =
      one_by_past line runs are weekly e.weekly run e.rest.rests (ends ∙ e.since) in
      let reduced' : AreExactly (IsReducedSince line e.weekly breach.moment) EarlierDay days =
      subst (λ (w : Run). AreExactly (IsReducedSince line w breach.moment) EarlierDay days) same reduced in
      let f : days ≡ e.days = one_reduced line e.weekly breach.moment days e.days reduced' e.reduced in
      let g : lines ≡ others =
      is ∙ (ap (λ (w : Run). since_lines w days) same ∙ (ap (since_lines e.weekly) f ∙ sym e.lines_are)) in
      subst (λ (x : List EvidenceLine). IsReducedEvidence line breach x) (sym g) e
