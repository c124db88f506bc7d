-- There is one text of the evidence for a month's breaches (`laws::one_why_of_a_month`).
use Rattle.std.proofs.Common.{◌≡◌, ◌∙◌, ℕ, suc, List, [], ◌∷◌, ◌++◌, map, refl, sym, ap, subst, arith}
use Rattle.std.specs.List.{All, flat_map}
use Rattle.tacho_time.specs.declared.span.Span.{Span}
use Rattle.tacho_law.specs.declared.breach.Breach.{Breach}
use Rattle.tacho_law.specs.declared.debt.Debt.{Debt}
use Rattle.tacho_law.specs.Line.{Line}
use Rattle.tacho_evidence.specs.declared.line.EvidenceLine.{EvidenceLine}
use Rattle.tacho_evidence.specs.OfReport.{AreJudged, IsEvidence, Shown}
use Rattle.tacho_evidence.proofs.ReportLawLemmas.{report_one}
use Rattle.tacho_rules.specs.Report.{examined_line}
use Rattle.tacho_stretches.specs.Stretches.{Judged, AreAll}
use Rattle.tacho_sheet.specs.Evidence.{shown_text}
use Rattle.tacho_sheet.specs.Why.{AreWhyOf, IsMonthWhy, IsWhyOf}
use Rattle.tacho_sheet.proofs.OneLemmas.{same_bounds}
use Rattle.tacho_sheet.proofs.WhyLemmas.{judged}

module _ (line : Line) (base horizon : ℕ) (found : List Breach) (debts : List Debt) (are : AreJudged line base horizon found debts) where
  -- a breach has one list of evidence, so two with the same breach are the same
  same_shown : (x y : Shown) → x.breach ≡ y.breach → IsEvidence line base horizon debts x.breach x.lines
      → IsEvidence line base horizon debts y.breach y.lines → x ≡ y
  same_shown x y e p q =
      let lines : x.lines ≡ y.lines =
      report_one line base horizon found debts are y.breach x.lines y.lines
      (subst (λ (b : Breach). IsEvidence line base horizon debts b x.lines) e p) q in
      ap (λ (b : Breach). record { breach = b; lines = x.lines }) e
      ∙ ap (λ (ls : List EvidenceLine). record { breach = y.breach; lines = ls }) lines

  -- likewise of a list of breaches
  same_list : (a b : List Shown) → map (λ (s : Shown). s.breach) a ≡ map (λ (s : Shown). s.breach) b
      → All (λ (s : Shown). IsEvidence line base horizon debts s.breach s.lines) a
      → All (λ (s : Shown). IsEvidence line base horizon debts s.breach s.lines) b → a ≡ b
  same_list [] [] e p q = refl
  same_list [] (y ∷ b) e p q = cc
  same_list (x ∷ a) [] e p q = cc
  same_list (x ∷ a) (y ∷ b) e p q =
      let first : x.breach ≡ y.breach = cc in
      let others : map (λ (s : Shown). s.breach) a ≡ map (λ (s : Shown). s.breach) b = cc in
      ap (λ (s : Shown). s ∷ a) (same_shown x y first (p 0 x (omega arith)) (q 0 y (omega arith)))
      ∙ ap (λ (ss : List Shown). y ∷ ss)
      (same_list a b others (λ k d within. p (suc k) d (omega (arith, within))) (λ k d within. q (suc k) d (omega (arith, within))))

-- a stretch has one text
one_of_stretch : (held : List Span) (end start past : ℕ) (s : Judged) (a b : List ℕ)
    → AreJudged (examined_line held s.monday s.horizon.minute) s.monday s.horizon.minute s.breaches s.debts
    → IsWhyOf held start past s a → IsWhyOf held start past s b → a ≡ b
one_of_stretch held end start past s a b are p q =
    p.is
    ∙ ap (λ (xs : List Shown). flat_map shown_text xs)
    (same_list (examined_line held s.monday s.horizon.minute) s.monday s.horizon.minute s.breaches s.debts are p.shown q.shown
    (p.are.each ∙ sym q.are.each) p.are.proved q.are.proved)
    ∙ sym q.is

-- stretches have one text
one_of_all : (held : List Span) (end start past : ℕ) (stretches : List Judged) (a b : List ℕ) → AreAll held end stretches
    → AreWhyOf held start past stretches a → AreWhyOf held start past stretches b → a ≡ b
one_of_all held end start past [] a b all p q = p ∙ sym q
one_of_all held end start past (s ∷ stretches) a b all (front, back, is, here, others) (front', back', is', here', others') =
    is
    ∙ ap (λ (t : List ℕ). t ++ back)
    (one_of_stretch held end start past s front front' (judged held s.monday s.horizon s.breaches s.debts all.0.report) here here')
    ∙ ap (λ (t : List ℕ). front' ++ t) (one_of_all held end start past stretches back back' all.1 others others')
    ∙ sym is'

-- a month has one text
pub one_why : (held : List Span) (end month : ℕ) (stretches : List Judged) (a b : List ℕ) → AreAll held end stretches
    → IsMonthWhy held stretches month a → IsMonthWhy held stretches month b → a ≡ b
one_why held end month stretches a b all p q =
    let same = same_bounds month p.start p.past q.start q.past p.bounds q.bounds in
    one_of_all held end p.start p.past stretches a b all p.are
    (subst (λ (x : ℕ). AreWhyOf held x p.past stretches b) same.0
    (subst (λ (x : ℕ). AreWhyOf held q.start x stretches b) same.1 q.are))
