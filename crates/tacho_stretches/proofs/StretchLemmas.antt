-- Stretches that are found one after another.
use Rattle.std.proofs.Common.{◌≡◌, ℕ, suc, ◌<◌, ◌≤◌, inl, inr, List, [], ◌∷◌, ◌++◌, Option, Some, sym, ap, subst, ◌∙◌, arith, map}
use Rattle.std.specs.List.{All}
use Rattle.std.proofs.lemmas.List.{append_assoc, map-append}
use Rattle.std.proofs.lemmas.Bool.Decides.{nat_tests}
use Rattle.std.proofs.lemmas.Bool.{cases_lt}
use Rattle.tacho_time.specs.declared.span.Span.{Span}
use Rattle.tacho_line.specs.Line.{mark_at, IsSingle, IsHorizon}
use Rattle.tacho_line.specs.declared.horizon.Horizon.{Horizon}
use Rattle.tacho_law.specs.Line.{IsBase}
use Rattle.tacho_rules.specs.Report.{IsReport}
use Rattle.tacho_rules.proofs.SliceLemmas.{early_horizon}
use Rattle.tacho_stretches.specs.declared.stretch.Stretch.{Stretch}
use Rattle.tacho_stretches.specs.Start.{IsStart, IsNextStart}
use Rattle.tacho_stretches.specs.Stretches.{Judged, judged_of, first_monday, unseen_to, IsStretch, AreAll}

-- a single minute is before the end of a span
pub before_end : (held : List Span) (last m : ℕ) → All (λ (s : Span). s.past ≤ last) held → IsSingle (mark_at held m) → m < last
before_end [] last m ended single = absurd single
before_end (s ∷ held) last m ended single = elim (cases_lt m s.past) [
  | inl lt ↦ let e : s.past ≤ last = ended 0 s (omega arith) in omega arith
  | inr ge ↦
      let e : mark_at (s ∷ held) m ≡ mark_at held m = grind (arith, nat_tests) in
      before_end held last m (λ k d within. ended (suc k) d (omega arith)) (subst IsSingle e single)
]

-- so a start is at most the last minute that can be examined
pub early_start : (line : List Span) (after m : ℕ) → All (λ (s : Span). s.past ≤ 68374080) line → IsStart line after m → m ≤ 68374080
early_start line after m ended start = let l : m < 68374080 = before_end line 68374080 m ended start.single in omega arith

-- the stretches that were found so far, and the Monday of the next one
pub record IsSoFar (line : List Span) (base end : ℕ) (done : List Judged) (monday : ℕ) : Type 0 where
  pub is_base : IsBase monday
  pub early : monday ≤ 68374080
  pub all : (rest : List Judged) → first_monday rest ≡ Some monday → AreAll line end rest → AreAll line end (done ++ rest)
  pub first : (rest : List Judged) → first_monday rest ≡ Some monday → first_monday (done ++ rest) ≡ Some base

pub none_yet : (line : List Span) (base end : ℕ) → IsBase base → base ≤ 68374080 → IsSoFar line base end [] base
none_yet line base end is early = record {
  is_base = is;
  early = early;
  all = λ rest e all. all;
  first = λ rest e. e;
}

pub one_more : (line : List Span) (base end monday next : ℕ) (done : List Judged) (s : Judged)
    → All (λ (s : Span). s.past ≤ 68374080) line
    → IsSoFar line base end done monday → s.monday ≡ monday → IsStretch line end s (Some next)
    → IsSoFar line base end (done ++ s ∷ []) next
one_more line base end monday next done s ended so same is = record {
  is_base = is.followed.0.monday;
  early = early_start line s.horizon.minute next ended is.followed.0;
  all = λ rest e all.
      subst (λ (xs : List Judged). AreAll line end xs) (sym (append_assoc done (s ∷ []) rest))
      (so.all (s ∷ rest) (ap (λ (m : ℕ). Some m) same)
      (subst (λ (o : Option ℕ). IsStretch line end s o) (sym e) is, all));
  first = λ rest e.
      subst (λ (xs : List Judged). first_monday xs ≡ Some base) (sym (append_assoc done (s ∷ []) rest))
      (so.first (s ∷ rest) (ap (λ (m : ℕ). Some m) same));
}

-- ---- stretches in the loop

-- a report from a Monday, with the next start after it and the range between, is a stretch
pub stretch_is : (line spans : List Span) (end horizon : ℕ) (s : Stretch) (next o : Option ℕ) → spans ≡ line
    → horizon ≡ s.report.horizon.minute
    → IsReport line s.monday s.report.horizon s.report.breaches.items s.report.debts.items
    → IsNextStart spans horizon o → s.unseen ≡ unseen_to end horizon o → o ≡ next → IsStretch line end (judged_of s) next
stretch_is line spans end horizon s next o same at report followed rest is = record {
  report = report;
  followed = subst (λ (xs : List Span). IsNextStart xs s.report.horizon.minute next) same
      (subst (λ (m : ℕ). IsNextStart spans m next) at (subst (λ (x : Option ℕ). IsNextStart spans horizon x) is followed));
  rest = rest ∙ ap (λ (m : ℕ). unseen_to end m o) at ∙ ap (λ (x : Option ℕ). unseen_to end s.report.horizon.minute x) is;
}

-- one more stretch in the list
pub pushed : (old new : List Stretch) (s : Stretch) → new ≡ old ++ s ∷ [] → map judged_of new ≡ map judged_of old ++ judged_of s ∷ []
pushed old new s e = ap (map judged_of) e ∙ map-append judged_of old (s ∷ [])

-- the horizon is at most the last minute that can be examined
pub early_end : (line : List Span) (monday horizon : ℕ) (h : Horizon) → IsHorizon line monday h → horizon ≡ h.minute
    → monday ≤ 68374080 → All (λ (s : Span). s.past ≤ 68374080) line → horizon ≤ 68374080
early_end line monday horizon h is e early ended = let l = early_horizon line monday h is early ended in omega (arith, l, e)
