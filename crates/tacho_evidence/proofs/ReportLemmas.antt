-- The evidence for each breach of a report is listed, one breach after another (`report::evidence_within`).
use Rattle.std.proofs.Common.{◌≡◌, ◌≢◌, ℕ, ◌+◌, ◌<◌, ◌≤◌, ◌⊎◌, inl, inr, Bool, true, false, List, [], ◌∷◌, ◌++◌}
use Rattle.std.proofs.Common.{length, get_or, take, append-nil, cond, nat_cmp, is_le, is_lt, refl, ap, sym, subst, ◌∙◌, arith}
use Rattle.std.specs.Prelude.{◌&&◌, filter, nat_le, nat_lt}
use Rattle.std.specs.List.{Contains}
use Rattle.std.proofs.lemmas.Bool.{cases_lt}
use Rattle.std.proofs.lemmas.Bool.Decides.{nat_tests}
use Rattle.std.proofs.lemmas.List.{take_more, length-take-le, get_or-take, get_or_default, map-append}
use Rattle.std.proofs.lemmas.List.Elements.{All-push, Contains-get_or, filter_more}
use Rattle.tacho_law.specs.declared.run.Run.{Run}
use Rattle.tacho_law.specs.declared.breach.Breach.{Breach}
use Rattle.tacho_law.specs.declared.breach.Kind.{Kind}
use Rattle.tacho_law.specs.declared.breach.Kind.TheVariants.{B1, B2, B3, B4, B5, B6, B7, B8, B9, B10}
use Rattle.tacho_law.specs.declared.debt.Debt.{Debt}
use Rattle.tacho_law.specs.Breaches.{IsB9, IsBreach}
use Rattle.tacho_law.specs.Breaks.{AreCompleteBreaks}
use Rattle.tacho_law.specs.Limits.{latest}
use Rattle.tacho_law.specs.Line.{Line}
use Rattle.tacho_law.specs.Order.{AreBreaches, Earlier}
use Rattle.tacho_law.specs.Runs.{AreRestRuns}
use Rattle.tacho_law.specs.Weeks.{week_start}
use Rattle.tacho_law.proofs.BreaksLemmas.{one_complete_breaks}
use Rattle.tacho_law.proofs.RunsLemmas.{one_rest_runs, rest_runs_are}
use Rattle.tacho_periods.proofs.KeptLemmas.{seen_before}
use Rattle.tacho_evidence.specs.Anew.{IsAnewFor}
use Rattle.tacho_evidence.specs.OfReport.{AreJudged, AreShown, IsEvidence, Shown}
use Rattle.tacho_evidence.proofs.ReportAnewLemmas.{IsLast, last_anew, last_failed, last_other, next_failure, failed_ended}

-- a kind is B9 or another one
is_b9_or : (k : Kind) → (k ≡ B9) ⊎ (k ≢ B9)
is_b9_or B1 = inr (λ e. cc)
is_b9_or B2 = inr (λ e. cc)
is_b9_or B3 = inr (λ e. cc)
is_b9_or B4 = inr (λ e. cc)
is_b9_or B5 = inr (λ e. cc)
is_b9_or B6 = inr (λ e. cc)
is_b9_or B7 = inr (λ e. cc)
is_b9_or B8 = inr (λ e. cc)
is_b9_or B9 = inl refl
is_b9_or B10 = inr (λ e. cc)

-- a line's complete breaks are the ones by which its breaches are judged
pub same_complete_breaks : (line : Line) (runs breaks others_runs others : List Run) → AreRestRuns line runs → AreCompleteBreaks runs breaks
    → AreRestRuns line others_runs → AreCompleteBreaks others_runs others → breaks ≡ others
same_complete_breaks line runs breaks others_runs others are complete are' complete' =
    one_complete_breaks others_runs breaks others (rest_runs_are line others_runs are').some
    (subst (λ (x : List Run). AreCompleteBreaks x breaks) (one_rest_runs line runs others_runs are are') complete) complete'

-- the breaches are those that are judged by these breaks
pub judged_by : (line : Line) (base horizon : ℕ) (found : List Breach) (debts : List Debt) (runs breaks : List Run)
    → AreJudged line base horizon found debts → AreRestRuns line runs → AreCompleteBreaks runs breaks
    → AreBreaches (λ breach. IsBreach line base horizon breaks debts breach.kind breach) found
judged_by line base horizon found debts runs breaks judged are complete =
    subst (λ (x : List Run). AreBreaches (λ breach. IsBreach line base horizon x debts breach.kind breach) found)
    (same_complete_breaks line judged.runs judged.breaks runs breaks judged.are_runs judged.are_breaks are complete) judged.exactly

-- the test of a breach
abbrev pub is_within : ℕ → ℕ → Breach → Bool
is_within start past b = nat_le start b.moment && nat_lt b.moment past

-- it is passed by a breach that both comparisons pass
pub passes_both : (start past : ℕ) (b : Breach) → true ≡ is_le (nat_cmp start b.moment) → true ≡ is_lt (nat_cmp b.moment past)
    → is_within start past b ≡ true
passes_both start past b e f = grind (arith, nat_tests)

-- a breach before the range fails it
pub fails_before : (start past : ℕ) (b : Breach) → false ≡ is_le (nat_cmp start b.moment) → is_within start past b ≡ false
fails_before start past b e = grind (arith, nat_tests)

-- a breach after the range fails it
pub fails_after : (start past : ℕ) (b : Breach) → false ≡ is_lt (nat_cmp b.moment past) → is_within start past b ≡ false
fails_after start past b e = grind (arith, nat_tests)

-- what the loop over the breaches keeps
pub record IsShownTo (line : Line) (base horizon : ℕ) (debts : List Debt) (found : List Breach) (start past i : ℕ) (shown : List Shown)
    (anew : ℕ) : Type 0 where
  pub are : AreShown line base horizon debts (filter (is_within start past) (take i found)) shown
  pub last : IsLast line base horizon (take i found) anew

module _ (line : Line) (base horizon : ℕ) (breaks : List Run) (debts : List Debt) (found : List Breach)
    (exact : AreBreaches (λ breach. IsBreach line base horizon breaks debts breach.kind breach) found) where
  -- a breach of the list is one
  pub is_breach : (i : ℕ) (d : Breach) → i < length found
      → IsBreach line base horizon breaks debts (get_or found i d).kind (get_or found i d)
  is_breach i d within = (exact.each (get_or found i d)).0 (Contains-get_or found i d within)

  -- a B9 of the list is one
  pub is_failed : (i : ℕ) (d : Breach) → i < length found → (get_or found i d).kind ≡ B9 → IsB9 line base horizon (get_or found i d)
  is_failed i d within kind =
      subst (λ (k : Kind). IsBreach line base horizon breaks debts k (get_or found i d)) kind (is_breach i d within)

  -- its weeks are before the end of 2099
  pub failed_early : (i : ℕ) (d : Breach) → i < length found → horizon ≤ latest → (get_or found i d).kind ≡ B9
      → (5760 ≤ (get_or found i d).since) × ((get_or found i d).since < week_start 6788)
  failed_early i d within early kind =
      let h : IsB9 line base horizon (get_or found i d) = is_failed i d within kind in
      let since : (get_or found i d).since ≡ week_start h.week = h.since in
      let ended : week_start (h.week + 2) ≤ horizon = failed_ended line base horizon (get_or found i d) h in
      (omega arith, omega arith)

  -- an earlier B9 comes before it
  comes_before : (i : ℕ) (d : Breach) → i < length found → (b : Breach) → b.kind ≡ B9 → IsB9 line base horizon b
      → b.moment < (get_or found i d).moment → Contains (take i found) b
  comes_before i d within b kind is lt =
      let (k, below, e) = (exact.each b).1 (subst (λ (x : Kind). IsBreach line base horizon breaks debts x b) (sym kind) is) in
      let x : Breach = get_or found i d in
      let before : k < i = elim (cases_lt k i) [
        | inl early ↦ early
        | inr late ↦ absurd (elim (cases_lt i k) [
          | inl after ↦
              let order : Earlier (get_or found i b) (get_or found k b) = exact.in_order i k b after below in
              let f : get_or found i b ≡ x = get_or_default found i b d within in
              let g : (get_or found i b).moment ≡ x.moment = ap (λ (y : Breach). y.moment) f in
              let h : (get_or found k b).moment ≡ b.moment = ap (λ (y : Breach). y.moment) e in
              elim order [ inl less ↦ omega arith | inr more ↦ (let same = more.0 in omega arith) ]
          | inr here ↦
              let s : k ≡ i = omega arith in
              let f : get_or found i b ≡ x = get_or_default found i b d within in
              let g : b ≡ x = sym e ∙ (ap (λ (n : ℕ). get_or found n b) s ∙ f) in
              let h : b.moment ≡ x.moment = ap (λ (y : Breach). y.moment) g in
              omega arith
        ])
      ] in
      let l : length (take i found) ≡ i = length-take-le i found (omega arith) in
      (k, omega arith, get_or-take i found k b before ∙ e)

  module _ (i : ℕ) (d : Breach) (within : i < length found) (first : ℕ) (l : IsLast line base horizon (take i found) first) where
    -- the breach at this place
    abbrev here : Breach
    here = get_or found i d

    -- the choice was made anew from this week before it
    pub anew_for : IsAnewFor line base horizon first here
    anew_for = record {
      anew = last_anew line base horizon (take i found) first l;
      next = λ kind. next_failure line base horizon (take i found) first l here kind (is_failed i d within kind)
          (seen_before Breach Earlier (λ b. b.kind ≡ B9) found i d within exact.in_order) (comes_before i d within);
    }

    -- and from this week after it
    pub last_after : (next : ℕ) → (here.kind ≡ B9 → (week : ℕ) → here.since ≡ week_start week → next ≡ week + 1)
        → (here.kind ≢ B9 → next ≡ first) → IsLast line base horizon (take (i + 1) found) next
    last_after next failed other =
        rw (take_more found i d within)
        (elim (is_b9_or here.kind) [
          | inl kind ↦
              let h : IsB9 line base horizon here = is_failed i d within kind in
              last_failed line base horizon (take i found) first l here kind h
              (seen_before Breach Earlier (λ b. b.kind ≡ B9) found i d within exact.in_order) (comes_before i d within)
              next (failed kind h.week h.since)
          | inr not ↦
              subst (λ (n : ℕ). IsLast line base horizon (take i found ++ here ∷ []) n) (sym (other not))
              (last_other line base horizon (take i found) first here not l)
        ])

-- the evidence for a breach within the range is added
pub shown_more : (line : Line) (base horizon : ℕ) (debts : List Debt) (found : List Breach) (start past i : ℕ) (d : Breach)
    (shown : List Shown) (s : Shown) → i < length found
    → AreShown line base horizon debts (filter (is_within start past) (take i found)) shown
    → s.breach ≡ get_or found i d → is_within start past (get_or found i d) ≡ true → IsEvidence line base horizon debts s.breach s.lines
    → AreShown line base horizon debts (filter (is_within start past) (take (i + 1) found)) (shown ++ s ∷ [])
shown_more line base horizon debts found start past i d shown s within are same passes is = let seen : List Breach = filter (is_within start past) (take i found) in record {
  each =
      map-append (λ (x : Shown). x.breach) shown (s ∷ [])
      ∙ (ap (λ (xs : List Breach). xs ++ s.breach ∷ []) are.each
      ∙ (ap (λ (b : Breach). seen ++ b ∷ []) same
      ∙ sym (filter_more (is_within start past) found i d within
      ∙ ap (λ (t : Bool). seen ++ cond t (get_or found i d ∷ []) []) passes)));
  proved = All-push (λ (x : Shown). IsEvidence line base horizon debts x.breach x.lines) shown s are.proved is;
}

-- a breach outside it is left out
pub shown_same : (line : Line) (base horizon : ℕ) (debts : List Debt) (found : List Breach) (start past i : ℕ) (d : Breach)
    (shown : List Shown) → i < length found
    → AreShown line base horizon debts (filter (is_within start past) (take i found)) shown
    → is_within start past (get_or found i d) ≡ false
    → AreShown line base horizon debts (filter (is_within start past) (take (i + 1) found)) shown
shown_same line base horizon debts found start past i d shown within are fails = let seen : List Breach = filter (is_within start past) (take i found) in record {
  each = are.each ∙ (sym (append-nil seen) ∙ sym (filter_more (is_within start past) found i d within
      ∙ ap (λ (t : Bool). seen ++ cond t (get_or found i d ∷ []) []) fails));
  proved = are.proved;
}
