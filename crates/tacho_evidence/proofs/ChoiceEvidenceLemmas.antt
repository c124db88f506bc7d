-- The evidence for weeks without their weekly rests is one (`laws::choice_evidence`).
use Rattle.std.proofs.Common.{◌≡◌, ℕ, ◌+◌, ◌-◌, ◌<◌, ◌≤◌, ◌⊎◌, List, ◌∷◌, ◌++◌, refl, sym, ap, subst, ◌∙◌, arith}
use Rattle.tacho_law.specs.declared.run.Run.{Run}
use Rattle.tacho_law.specs.declared.breach.Breach.{Breach}
use Rattle.tacho_law.specs.Anew.{EndedBy, Fails}
use Rattle.tacho_law.specs.Choice.{CanServe}
use Rattle.tacho_law.specs.Exactly.{AreExactly}
use Rattle.tacho_law.specs.Line.{Line}
use Rattle.tacho_law.specs.Runs.{Before}
use Rattle.tacho_law.specs.Weeks.{week_start}
use Rattle.tacho_evidence.specs.declared.line.EvidenceLine.{EvidenceLine}
use Rattle.tacho_evidence.specs.declared.line.EvidenceLine.TheVariants.{From}
use Rattle.tacho_evidence.specs.Evidence.{IsWeeklyRestIn, AreWeekLines, AreRestLines, IsChoiceEvidence}
use Rattle.tacho_evidence.proofs.ChoiceLemmas.{one_weekly_in, one_start}
use Rattle.tacho_evidence.proofs.ChoiceLinesLemmas.{one_week_lines, one_rest_lines}

-- what determines the lines, for the first week of all and the first week of the two
record IsTold (line : Line) (horizon begin week : ℕ) (lines : List EvidenceLine) : Type 0 where
  pub first : ℕ
  pub starts : (first ≡ begin) ⊎ Fails (CanServe line) (EndedBy horizon) begin first
  pub later : first < week + 1
  pub served : (v : ℕ) → first ≤ v → v < week + 1 → CanServe line first v
  pub rests : List Run
  pub rested : AreExactly (IsWeeklyRestIn line first (week + 1)) Before rests
  pub weeks : List EvidenceLine
  pub week_lines : AreWeekLines line first ((week + 2) - first) weeks
  pub counted : List EvidenceLine
  pub rest_lines : AreRestLines first (week + 1) rests counted
  pub lines_are : lines ≡ From (week_start first) ∷ (weeks ++ counted)

-- evidence says this
told : (line : Line) (base horizon : ℕ) (breach : Breach) (lines : List EvidenceLine) (begin week : ℕ)
    → (h : IsChoiceEvidence line base horizon breach lines) → h.begin ≡ begin → h.week ≡ week
    → IsTold line horizon begin week lines
told line base horizon breach lines begin week h e f =
    subst (λ (x : ℕ). IsTold line horizon x week lines) e
    (subst (λ (x : ℕ). IsTold line horizon h.begin x lines) f (record {
      first = h.first;
      starts = h.anew;
      later = h.later;
      served = h.served;
      rests = h.rests;
      rested = h.rested;
      weeks = h.weeks;
      week_lines = h.week_lines;
      counted = h.counted;
      rest_lines = h.rest_lines;
      lines_are = h.lines_are;
    }))

-- lines that say the same of the first week from which the choice was made anew
record IsToldFrom (line : Line) (first week : ℕ) (lines : List EvidenceLine) : Type 0 where
  pub rests : List Run
  pub rested : AreExactly (IsWeeklyRestIn line first (week + 1)) Before rests
  pub weeks : List EvidenceLine
  pub week_lines : AreWeekLines line first ((week + 2) - first) weeks
  pub counted : List EvidenceLine
  pub rest_lines : AreRestLines first (week + 1) rests counted
  pub lines_are : lines ≡ From (week_start first) ∷ (weeks ++ counted)

-- they say this, if that is the first week
told_from : (line : Line) (horizon begin week first : ℕ) (lines : List EvidenceLine)
    → (h : IsTold line horizon begin week lines) → h.first ≡ first → IsToldFrom line first week lines
told_from line horizon begin week first lines h e =
    subst (λ (x : ℕ). IsToldFrom line x week lines) e (record {
      rests = h.rests;
      rested = h.rested;
      weeks = h.weeks;
      week_lines = h.week_lines;
      counted = h.counted;
      rest_lines = h.rest_lines;
      lines_are = h.lines_are;
    })

-- from one week there is one list of lines
same_from : (line : Line) (first week : ℕ) (lines others : List EvidenceLine) → first < week + 1
    → IsToldFrom line first week lines → IsToldFrom line first week others → lines ≡ others
same_from line first week lines others later p q =
    let rests : p.rests ≡ q.rests = one_weekly_in line first (week + 1) p.rests q.rests p.rested q.rested in
    let weeks : p.weeks ≡ q.weeks =
    one_week_lines line first ((week + 2) - first) p.weeks q.weeks p.week_lines q.week_lines in
    let counted : p.counted ≡ q.counted =
    one_rest_lines first (week + 1) q.rests p.counted q.counted (omega arith)
    (subst (λ (xs : List Run). AreRestLines first (week + 1) xs p.counted) rests p.rest_lines) q.rest_lines in
    p.lines_are
    ∙ (ap (λ (xs : List EvidenceLine). From (week_start first) ∷ (xs ++ p.counted)) weeks
    ∙ (ap (λ (xs : List EvidenceLine). From (week_start first) ∷ (q.weeks ++ xs)) counted ∙ sym q.lines_are))

-- for the first week of all and the first week of the two there is one list of lines
same_told : (line : Line) (horizon begin week : ℕ) (lines others : List EvidenceLine)
    → IsTold line horizon begin week lines → IsTold line horizon begin week others → lines ≡ others
same_told line horizon begin week lines others p q =
    let e : p.first ≡ q.first =
    one_start line horizon begin p.first q.first (week + 1) p.starts q.starts p.later q.later p.served q.served in
    same_from line q.first week lines others q.later (told_from line horizon begin week q.first lines p e) (record {
      rests = q.rests;
      rested = q.rested;
      weeks = q.weeks;
      week_lines = q.week_lines;
      counted = q.counted;
      rest_lines = q.rest_lines;
      lines_are = q.lines_are;
    })

-- a breach has one evidence
pub choice_one : (line : Line) (base horizon : ℕ) (breach : Breach) (lines others : List EvidenceLine)
    → IsChoiceEvidence line base horizon breach lines → IsChoiceEvidence line base horizon breach others → lines ≡ others
choice_one line base horizon breach lines others p q =
    let since : week_start p.week ≡ week_start q.week = sym p.since ∙ q.since in
    let week : p.week ≡ q.week = omega arith in
    let monday : week_start p.begin ≡ week_start q.begin = sym p.monday ∙ q.monday in
    let begin : p.begin ≡ q.begin = omega arith in
    same_told line horizon q.begin q.week lines others
    (told line base horizon breach lines q.begin q.week p begin week)
    (told line base horizon breach others q.begin q.week q refl refl)
