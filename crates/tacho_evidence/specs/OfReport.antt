-- Trusted: The evidence for the breaches of a report.
use Rattle.std.specs.Prelude.{◌≡◌, ℕ, List, All, map}
use Rattle.tacho_law.specs.declared.run.Run.{Run}
use Rattle.tacho_law.specs.declared.breach.Kind.{Kind}
use Rattle.tacho_law.specs.declared.breach.Kind.TheVariants.{B1, B2, B3, B4, B5, B6, B7, B8, B9, B10}
use Rattle.tacho_law.specs.declared.breach.Breach.{Breach}
use Rattle.tacho_law.specs.declared.debt.Debt.{Debt}
use Rattle.tacho_law.specs.Breaches.{IsBreach}
use Rattle.tacho_law.specs.Breaks.{AreCompleteBreaks}
use Rattle.tacho_law.specs.Debts.{AreDebts}
use Rattle.tacho_law.specs.Line.{Line}
use Rattle.tacho_law.specs.Order.{AreBreaches}
use Rattle.tacho_law.specs.Runs.{AreRestRuns}
use Rattle.tacho_evidence.specs.declared.line.EvidenceLine.{EvidenceLine}
use Rattle.tacho_evidence.specs.declared.report.Evidence.{Evidence}
use Rattle.tacho_evidence.specs.Evidence.{IsBreakEvidence, IsDailyRestEvidence, IsReducedEvidence, IsDayEvidence, IsExtendedEvidence}
use Rattle.tacho_evidence.specs.Evidence.{IsWeekEvidence, IsTwoWeeksEvidence, IsLateEvidence, IsChoiceEvidence, IsDebtEvidence}

-- the breaches and the debts are exactly those of the examined line
pub record AreJudged (line : Line) (base horizon : ℕ) (found : List Breach) (debts : List Debt) : Type 0 where
  pub runs : List Run
  pub breaks : List Run
  pub are_runs : AreRestRuns line runs
  pub are_breaks : AreCompleteBreaks runs breaks
  pub are_debts : AreDebts line horizon debts
  pub exactly : AreBreaches (λ breach. IsBreach line base horizon breaks debts breach.kind breach) found

-- evidence for a breach of a kind
abbrev pub IsEvidenceOfKind : Line → ℕ → ℕ → List Run → List Debt → Kind → Breach → List EvidenceLine → Type 0
IsEvidenceOfKind line base horizon breaks debts B1 breach lines = IsBreakEvidence line breaks breach lines
IsEvidenceOfKind line base horizon breaks debts B2 breach lines = IsDailyRestEvidence line breach lines
IsEvidenceOfKind line base horizon breaks debts B3 breach lines = IsReducedEvidence line breach lines
IsEvidenceOfKind line base horizon breaks debts B4 breach lines = IsDayEvidence line breach lines
IsEvidenceOfKind line base horizon breaks debts B5 breach lines = IsExtendedEvidence line breach lines
IsEvidenceOfKind line base horizon breaks debts B6 breach lines = IsWeekEvidence line breach lines
IsEvidenceOfKind line base horizon breaks debts B7 breach lines = IsTwoWeeksEvidence line breach lines
IsEvidenceOfKind line base horizon breaks debts B8 breach lines = IsLateEvidence line breach lines
IsEvidenceOfKind line base horizon breaks debts B9 breach lines = IsChoiceEvidence line base horizon breach lines
IsEvidenceOfKind line base horizon breaks debts B10 breach lines = IsDebtEvidence line horizon debts breach lines

-- evidence for a breach
pub record IsEvidence (line : Line) (base horizon : ℕ) (debts : List Debt) (breach : Breach) (lines : List EvidenceLine) : Type 0 where
  pub runs : List Run
  pub breaks : List Run
  pub are_runs : AreRestRuns line runs
  pub are_breaks : AreCompleteBreaks runs breaks
  pub shows : IsEvidenceOfKind line base horizon breaks debts breach.kind breach lines

-- a breach and its evidence
pub record Shown : Type 0 where
  pub breach : Breach
  pub lines : List EvidenceLine

abbrev pub shown_of : Evidence → Shown
shown_of e = record { breach = e.breach; lines = e.lines.items }

-- these are the breaches, in order, each with its evidence
pub record AreShown (line : Line) (base horizon : ℕ) (debts : List Debt) (breaches : List Breach) (shown : List Shown) : Type 0 where
  pub each : map (λ (s : Shown). s.breach) shown ≡ breaches
  pub proved : All (λ (s : Shown). IsEvidence line base horizon debts s.breach s.lines) shown
