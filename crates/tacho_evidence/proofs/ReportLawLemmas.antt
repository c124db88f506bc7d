-- Evidence is of a breach of the report, each breach of the report has evidence, and it has one list alone (`laws::evidence_of_reports`).
use Rattle.std.proofs.Common.{◌≡◌, ℕ, List, subst}
use Rattle.std.specs.List.{Contains}
use Rattle.tacho_law.specs.declared.breach.Breach.{Breach}
use Rattle.tacho_law.specs.declared.breach.Kind.{Kind}
use Rattle.tacho_law.specs.declared.breach.Kind.TheVariants.{B1, B2, B3, B4, B5, B6, B7, B8, B9, B10}
use Rattle.tacho_law.specs.declared.debt.Debt.{Debt}
use Rattle.tacho_law.specs.declared.run.Run.{Run}
use Rattle.tacho_law.specs.Breaches.{IsBreach}
use Rattle.tacho_law.specs.Breaks.{AreCompleteBreaks}
use Rattle.tacho_law.specs.Debts.{AreDebts}
use Rattle.tacho_law.specs.Line.{Line}
use Rattle.tacho_law.specs.Order.{AreBreaches}
use Rattle.tacho_law.specs.Runs.{AreRestRuns}
use Rattle.tacho_law.specs.Weeks.{IsWeeklyRest, Touches}
use Rattle.tacho_evidence.specs.declared.line.EvidenceLine.{EvidenceLine}
use Rattle.tacho_evidence.specs.OfReport.{AreJudged, IsEvidence, IsEvidenceOfKind}
use Rattle.tacho_evidence.proofs.BreakLemmas.{break_sound, break_whole, break_one}
use Rattle.tacho_evidence.proofs.ChoiceEvidenceLemmas.{choice_one}
use Rattle.tacho_evidence.proofs.DayLemmas.{day_sound, day_whole, day_one}
use Rattle.tacho_evidence.proofs.DebtLemmas.{debt_sound, debt_whole, debt_one}
use Rattle.tacho_evidence.proofs.ExistLemmas.{driven_exist}
use Rattle.tacho_evidence.proofs.ExtendedLemmas.{extended_sound, extended_whole, extended_one}
use Rattle.tacho_evidence.proofs.LateLemmas.{late_sound, late_whole, late_one}
use Rattle.tacho_evidence.proofs.ReducedLemmas.{reduced_sound, reduced_whole, reduced_one}
use Rattle.tacho_evidence.proofs.ReportLemmas.{judged_by, same_complete_breaks}
use Rattle.tacho_evidence.proofs.ReportWeekLemmas.{choice_sound, choice_whole, two_weeks_sound, two_weeks_whole, two_weeks_one, week_sound, week_whole, week_one}
use Rattle.tacho_evidence.proofs.RestsWithinLemmas.{daily_sound, daily_whole, daily_one}

module _ (line : Line) (base horizon : ℕ) (runs breaks : List Run) (debts : List Debt) (are : AreRestRuns line runs)
    (complete : AreCompleteBreaks runs breaks) (owed : AreDebts line horizon debts) where
  -- evidence of a kind is of a breach of this kind
  sound_of : (kind : Kind) (breach : Breach) (lines : List EvidenceLine)
      → IsEvidenceOfKind line base horizon breaks debts kind breach lines → IsBreach line base horizon breaks debts kind breach
  sound_of B1 breach lines h = break_sound line breaks breach lines h
  sound_of B2 breach lines h = daily_sound line breach lines h
  sound_of B3 breach lines h = reduced_sound line breach lines h
  sound_of B4 breach lines h = day_sound line breach lines h
  sound_of B5 breach lines h = extended_sound line breach lines h
  sound_of B6 breach lines h = week_sound line breach lines h
  sound_of B7 breach lines h = two_weeks_sound line breach lines h
  sound_of B8 breach lines h = late_sound line breach lines h
  sound_of B9 breach lines h = choice_sound line base horizon breach lines h
  sound_of B10 breach lines h = debt_sound line horizon debts breach lines owed h

  -- each breach of a kind has evidence
  whole_of : ((rest : Run) → IsWeeklyRest line rest → (week : ℕ) × Touches rest week) → (kind : Kind) (breach : Breach)
      → IsBreach line base horizon breaks debts kind breach
      → (lines : List EvidenceLine) × IsEvidenceOfKind line base horizon breaks debts kind breach lines
  whole_of there B1 breach h = break_whole line runs breaks breach are complete h
  whole_of there B2 breach h = daily_whole line runs breach are h
  whole_of there B3 breach h = reduced_whole line breach h
  whole_of there B4 breach h = day_whole line runs breach are h
  whole_of there B5 breach h = extended_whole driven_exist line breach h
  whole_of there B6 breach h = week_whole line breach h
  whole_of there B7 breach h = two_weeks_whole line breach h
  whole_of there B8 breach h = late_whole line breach h
  whole_of there B9 breach h = choice_whole line runs base horizon breach are there h
  whole_of there B10 breach h = debt_whole line runs horizon debts breach are owed h

  -- a breach has one list of evidence of a kind
  one_of : (kind : Kind) (breach : Breach) (lines others : List EvidenceLine)
      → IsEvidenceOfKind line base horizon breaks debts kind breach lines
      → IsEvidenceOfKind line base horizon breaks debts kind breach others → lines ≡ others
  one_of B1 breach lines others p q = break_one line runs breaks breach lines others are complete p q
  one_of B2 breach lines others p q = daily_one line runs breach lines others are p q
  one_of B3 breach lines others p q = reduced_one line runs breach lines others are p q
  one_of B4 breach lines others p q = day_one line runs breach lines others are p q
  one_of B5 breach lines others p q = extended_one line runs breach lines others are p q
  one_of B6 breach lines others p q = week_one line breach lines others p q
  one_of B7 breach lines others p q = two_weeks_one line breach lines others p q
  one_of B8 breach lines others p q = late_one line runs breach lines others are p q
  one_of B9 breach lines others p q = choice_one line base horizon breach lines others p q
  one_of B10 breach lines others p q = debt_one line horizon debts breach lines others owed p q

module _ (line : Line) (base horizon : ℕ) (found : List Breach) (debts : List Debt) (judged : AreJudged line base horizon found debts)
    (breach : Breach) where
  -- evidence is of a breach of the report
  pub report_sound : (lines : List EvidenceLine) → IsEvidence line base horizon debts breach lines → Contains found breach
  report_sound lines e =
      let exact : AreBreaches (λ b. IsBreach line base horizon e.breaks debts b.kind b) found =
      judged_by line base horizon found debts e.runs e.breaks judged e.are_runs e.are_breaks in
      (exact.each breach).1
      (sound_of line base horizon e.runs e.breaks debts e.are_runs e.are_breaks judged.are_debts breach.kind breach lines e.shows)

  -- each breach of the report has evidence
  pub report_whole : ((rest : Run) → IsWeeklyRest line rest → (week : ℕ) × Touches rest week) → Contains found breach
      → (lines : List EvidenceLine) × IsEvidence line base horizon debts breach lines
  report_whole there among =
      let (lines, shows) = whole_of line base horizon judged.runs judged.breaks debts judged.are_runs judged.are_breaks
      judged.are_debts there breach.kind breach ((judged.exactly.each breach).0 among) in (
        lines,
        record {
          runs = judged.runs;
          breaks = judged.breaks;
          are_runs = judged.are_runs;
          are_breaks = judged.are_breaks;
          shows = shows;
        },
      )

  -- it has one list of evidence
  pub report_one : (lines others : List EvidenceLine) → IsEvidence line base horizon debts breach lines
      → IsEvidence line base horizon debts breach others → lines ≡ others
  report_one lines others p q =
      one_of line base horizon q.runs q.breaks debts q.are_runs q.are_breaks judged.are_debts breach.kind breach lines others
      (subst (λ (x : List Run). IsEvidenceOfKind line base horizon x debts breach.kind breach lines)
      (same_complete_breaks line p.runs p.breaks q.runs q.breaks p.are_runs p.are_breaks q.are_runs q.are_breaks) p.shows)
      q.shows
