-- Each line has stretches, because it has a report from each Monday.
use Rattle.std.proofs.Common.{◌≡◌, ℕ, zero, suc, ◌+◌, ◌*◌, ◌<◌, ◌≤◌, ◌⊎◌, inl, inr, List, [], ◌∷◌, Bool, true, false}
use Rattle.std.proofs.Common.{Option, None, Some, refl, sym, subst, ◌∙◌, arith}
use Rattle.std.specs.List.{All}
use Rattle.std.proofs.lemmas.Bool.Decides.{nat_tests}
use Rattle.tacho_time.specs.declared.span.Mark.{Mark}
use Rattle.tacho_time.specs.declared.span.Span.{Span}
use Rattle.tacho_time.proofs.CanonicalLemmas.{lt_or_le}
use Rattle.tacho_line.specs.Line.{mark_at, IsSingle}
use Rattle.tacho_law.specs.Line.{IsBase}
use Rattle.tacho_rules.proofs.ReportExistLemmas.{HasReport, each_report}
use Rattle.tacho_stretches.specs.Start.{IsStart, IsNextStart, IsHeld, IsEndOfHeld}
use Rattle.tacho_stretches.specs.Stretches.{Judged, first_monday, unseen_to, AreAll, AreStretches}
use Rattle.tacho_stretches.proofs.StretchLemmas.{before_end}

-- ---- the least number with a decided property

-- no number below `n` has the property, or this is the least number that has it
abbrev Least : (ℕ → Type 0) → ℕ → Type 0
Least P n = ((w : ℕ) → w < n → ¬ (P w)) ⊎ ((w : ℕ) × P w × ((v : ℕ) → P v → w ≤ v))

least : (P : ℕ → Type 0) → ((w : ℕ) → P w ⊎ (¬ (P w))) → (n : ℕ) → Least P n
least P decided zero = inl (λ w l. omega arith)
least P decided (suc n) = go (least P decided n) (decided n) where
  go : Least P n → P n ⊎ (¬ (P n)) → Least P (suc n)
  go (inr found) d = inr found
  go (inl none) (inl p) = inr (n, p, λ v q. first v q (lt_or_le v n)) where
    first : (v : ℕ) → P v → (v < n) ⊎ (n ≤ v) → n ≤ v
    first v q (inl l) = absurd (none v l q)
    first v q (inr l) = l
  go (inl none) (inr not) = inl (λ w l. last w l (lt_or_le w n)) where
    last : (w : ℕ) → w < suc n → (w < n) ⊎ (n ≤ w) → ¬ (P w)
    last w l (inl lt) = none w lt
    last w l (inr le) = let e : n ≡ w = omega arith in λ q. not (subst P (sym e) q)

-- ---- the next start

decide_single : (o : Option Mark) → IsSingle o ⊎ (¬ (IsSingle o))
decide_single None = inr (λ single. single)
decide_single (Some mark) = go mark.crew refl where
  go : (b : Bool) → mark.crew ≡ b → IsSingle (Some mark) ⊎ (¬ (IsSingle (Some mark)))
  go true e = inr (λ single. cc)
  go false e = inl e

-- the first minute of a week
abbrev monday_of : ℕ → ℕ
monday_of w = 5760 + 10080 * w

decide_start : (line : List Span) (after w : ℕ) → IsStart line after (monday_of w) ⊎ (¬ (IsStart line after (monday_of w)))
decide_start line after w =
    go (lt_or_le after (monday_of w)) (lt_or_le (monday_of w) 15780960) (decide_single (mark_at line (monday_of w))) where
      go : (after < monday_of w) ⊎ (monday_of w ≤ after) → (monday_of w < 15780960) ⊎ (15780960 ≤ monday_of w)
          → IsSingle (mark_at line (monday_of w)) ⊎ (¬ (IsSingle (mark_at line (monday_of w))))
          → IsStart line after (monday_of w) ⊎ (¬ (IsStart line after (monday_of w)))
      go (inl later) (inr from) (inl single) = inl (record {
        later = later;
        monday = record { week = w; monday = refl; from = from };
        single = single;
      })
      go (inr early) f s = inr (λ is. (let l = is.later in omega (arith, l, early)))
      go (inl later) (inl below) s = inr (λ is. (let l = is.monday.from in omega (arith, l, below)))
      go (inl later) (inr from) (inr crew) = inr (λ is. crew is.single)

-- a line that ends has a next start after each minute, or it is known that there is none
next : (line : List Span) (last after : ℕ) → All (λ (s : Span). s.past ≤ last) line → (r : Option ℕ) × IsNextStart line after r
next line last after ended = go (least (λ (w : ℕ). IsStart line after (monday_of w)) (decide_start line after) last) where
  at : (m : ℕ) → (is : IsStart line after m) → IsStart line after (monday_of is.monday.week)
  at m is = subst (λ (n : ℕ). IsStart line after n) is.monday.monday is

  go : Least (λ (w : ℕ). IsStart line after (monday_of w)) last → (r : Option ℕ) × IsNextStart line after r
  go (inl none) = (None, λ m is. none is.monday.week (early m is) (at m is)) where
    early : (m : ℕ) → (is : IsStart line after m) → is.monday.week < last
    early m is =
        let l : m < last = before_end line last m ended is.single in
        let e : m ≡ monday_of is.monday.week = is.monday.monday in
        omega (arith, l, e)
  go (inr found) = (Some (monday_of found.0), (found.1, λ m is. first m is)) where
    first : (m : ℕ) → IsStart line after m → monday_of found.0 ≤ m
    first m is =
        let l : found.0 ≤ is.monday.week = found.2 is.monday.week (at m is) in
        let e : m ≡ monday_of is.monday.week = is.monday.monday in
        omega (arith, l, e)

-- ---- the end of what is held

decide_held : (line : List Span) (m : ℕ) → IsHeld line m ⊎ (¬ (IsHeld line m))
decide_held line m = go (mark_at line m) refl where
  go : (o : Option Mark) → mark_at line m ≡ o → IsHeld line m ⊎ (¬ (IsHeld line m))
  go None e = inr (λ held. (let h = held.1 in cc))
  go (Some mark) e = inl (mark, e)

-- a held minute is before the end of a span
held_early : (line : List Span) (last m : ℕ) → All (λ (s : Span). s.past ≤ last) line → IsHeld line m → m < last
held_early [] last m ended held = (let h = held.1 in cc)
held_early (s ∷ line) last m ended held = elim (lt_or_le m s.past) [
  | inl lt ↦ let e : s.past ≤ last = ended 0 s (omega arith) in omega (arith, e, lt)
  | inr ge ↦
      let e : mark_at (s ∷ line) m ≡ mark_at line m = grind (arith, nat_tests) in
      held_early line last m (λ k d within. ended (suc k) d (omega arith)) (held.0, sym e ∙ held.1)
]

end_from : (line : List Span) (base n : ℕ) → ((m : ℕ) → n ≤ m → ¬ (IsHeld line m)) → (end : ℕ) × IsEndOfHeld line base end
end_from line base zero none = (base, record { from = omega arith; after = λ m l. none m (omega arith); last = inl refl })
end_from line base (suc n) none = go (lt_or_le base (suc n)) (decide_held line n) (λ fewer. end_from line base n fewer) where
  go : (base < suc n) ⊎ (suc n ≤ base) → IsHeld line n ⊎ (¬ (IsHeld line n))
      → (((m : ℕ) → n ≤ m → ¬ (IsHeld line m)) → (end : ℕ) × IsEndOfHeld line base end) → (end : ℕ) × IsEndOfHeld line base end
  go (inr l) d less = (base, record { from = omega arith; after = λ m b. none m (omega arith); last = inl refl })
  go (inl l) (inl held) less = (suc n, record { from = omega arith; after = none; last = inr (n, omega arith, held) })
  go (inl l) (inr not) less = less (λ m b. fewer m b (lt_or_le n m)) where
    fewer : (m : ℕ) → n ≤ m → (n < m) ⊎ (m ≤ n) → ¬ (IsHeld line m)
    fewer m b (inl lt) = none m (omega arith)
    fewer m b (inr le) = let e : n ≡ m = omega arith in λ held. not (subst (λ (k : ℕ). IsHeld line k) (sym e) held)

end : (line : List Span) (last base : ℕ) → All (λ (s : Span). s.past ≤ last) line → (end : ℕ) × IsEndOfHeld line base end
end line last base ended = end_from line base last (λ m l held. (let e = held_early line last m ended held in omega (arith, e, l)))

-- ---- stretches from a Monday

-- the stretches from a Monday to the end
abbrev From : List Span → ℕ → ℕ → Type 0
From line end monday = (stretches : List Judged) × (first_monday stretches ≡ Some monday) × AreAll line end stretches

from : (n : ℕ) (line : List Span) (last end monday : ℕ) → All (λ (s : Span). s.past ≤ last) line
    → ((m : ℕ) → IsBase m → m ≤ last → HasReport line m)
    → last < monday + n → IsBase monday → monday ≤ last → From line end monday
from zero line last to monday ended reports fuel is early = absurd (omega arith)
from (suc n) line last to monday ended reports fuel is early =
    go (next line last report.horizon.minute ended) (λ m. from n line last to m ended reports) where
      report : HasReport line monday
      report = reports monday is early

      stretch : Option ℕ → Judged
      stretch r = record {
        monday = monday;
        horizon = report.horizon;
        breaches = report.breaches;
        debts = report.debts;
        unseen = unseen_to to report.horizon.minute r;
      }

      go : (r : Option ℕ) × IsNextStart line report.horizon.minute r
          → ((m : ℕ) → last < m + n → IsBase m → m ≤ last → From line to m) → From line to monday
      go (None, follows) further =
          (stretch None ∷ [], refl, (record { report = report.report; followed = follows; rest = refl }, tt))
      go (Some m, follows) further =
          let f = report.report.is_horizon.from in
          let l = follows.0.later in
          let e : m < last = before_end line last m ended follows.0.single in
          let more = further m (omega (arith, f, l, fuel)) follows.0.monday (omega (arith, e)) in (
            stretch (Some m) ∷ more.0,
            refl,
            (
              record {
                report = report.report;
                followed = subst (λ (o : Option ℕ). IsNextStart line report.horizon.minute o) (sym more.1) follows;
                rest = subst (λ (o : Option ℕ). Some m ≡ unseen_to to report.horizon.minute o) (sym more.1) refl;
              },
              more.2,
            ),
          )

each : (line : List Span) (last base : ℕ) → All (λ (s : Span). s.past ≤ last) line → IsBase base → base ≤ last
    → ((m : ℕ) → IsBase m → m ≤ last → HasReport line m) → (stretches : List Judged) × AreStretches line base stretches
each line last base ended is early reports =
    let ends = end line last base ended in
    let all = from (suc last) line last ends.0 base ended reports (omega arith) is early in
    (all.0, record { first = all.1; end = ends.0; is_end = ends.1; all = all.2 })

-- from each base, a line has stretches up to the end of what is held
pub each_line : (line : List Span) (base : ℕ) → All (λ (s : Span). s.past ≤ 68374080) line → IsBase base → base ≤ 68374080
    → (stretches : List Judged) × AreStretches line base stretches
each_line line base ended is early =
    each line 68374080 base ended is early (λ m monday l. each_report line m ended monday l)
