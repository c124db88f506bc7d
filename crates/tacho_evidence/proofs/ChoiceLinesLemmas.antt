-- The lines for the weeks and the weekly rests of a choice: there are such lines, and only these (`laws::choice_evidence`).
use Rattle.std.proofs.Common.{◌≡◌, ◌≢◌, ℕ, zero, suc, ◌+◌, ◌-◌, ◌/◌, ◌<◌, ◌≤◌, ◌⊎◌, inl, inr, List, [], ◌∷◌}
use Rattle.std.proofs.Common.{min, max, refl, sym, ap, subst, ◌∙◌, arith}
use Rattle.std.specs.List.{Contains}
use Rattle.std.proofs.lemmas.Bool.{cases_lt}
use Rattle.tacho_time.specs.declared.span.Activity.{Activity}
use Rattle.tacho_time.specs.declared.span.Activity.TheVariants.{Rest as AtRest, Available, Work, Drive as Driving}
use Rattle.tacho_law.specs.declared.run.Run.{Run}
use Rattle.tacho_law.specs.Line.{Line}
use Rattle.tacho_law.specs.Weeks.{week_start, IsWhollyAtRest}
use Rattle.tacho_law.proofs.ExactlyLemmas.{contains_head, contains_tail}
use Rattle.tacho_evidence.specs.declared.line.EvidenceLine.{EvidenceLine}
use Rattle.tacho_evidence.specs.declared.line.EvidenceLine.TheVariants.{Week, WeekAtRest, WeeklyIn}
use Rattle.tacho_evidence.specs.Evidence.{IsWeeklyRestIn, IsWeekLine, AreWeekLines, IsIn, AreRestLines}

-- ---- weeks

-- whether an activity is rest
rests_or : (a : Activity) → (a ≡ AtRest) ⊎ (a ≢ AtRest)
rests_or AtRest = inl refl
rests_or Driving = inr (λ e. cc)
rests_or Available = inr (λ e. cc)
rests_or Work = inr (λ e. cc)

-- n minutes are at rest
record AreAtRest (line : Line) (from n : ℕ) : Type 0 where
  pub each : (m : ℕ) → from ≤ m → m < from + n → line m ≡ AtRest

-- this can be decided
at_rest_or : (line : Line) (from n : ℕ) → AreAtRest line from n ⊎ (AreAtRest line from n → ⊥)
at_rest_or line from zero = inl (record { each = λ m above below. absurd (omega arith) })
at_rest_or line from (suc n) = elim (rests_or (line (from + n))) [
  | inr busy ↦ inr (λ h. busy (h.each (from + n) (omega arith) (omega arith)))
  | inl last ↦ elim (at_rest_or line from n) [
    | inr busy ↦ inr (λ h. busy (record { each = λ m above below. h.each m above (omega arith) }))
    | inl rest ↦ inl (record {
      each = λ m above below. elim (cases_lt m (from + n)) [
        | inl before ↦ rest.each m above before
        | inr after ↦
            let e : from + n ≡ m = omega arith in
            subst (λ (k : ℕ). line k ≡ AtRest) e last
      ];
    })
  ]
]

-- whether a week is wholly at rest
wholly_or : (line : Line) (w : ℕ) → IsWhollyAtRest line w ⊎ (IsWhollyAtRest line w → ⊥)
wholly_or line w = elim (at_rest_or line (week_start w) 10080) [
  | inl rest ↦ inl (λ m within.
      let a : week_start w ≤ m = within.0 in
      let b : m < week_start (w + 1) = within.1 in
      rest.each m a (omega arith))
  | inr busy ↦ inr (λ whole. busy (record { each = λ m above below. whole m (above, omega arith) }))
]

-- n weeks have their lines
pub week_lines_exist : (line : Line) (w n : ℕ) → (lines : List EvidenceLine) × AreWeekLines line w n lines
week_lines_exist line w zero = ([], refl)
week_lines_exist line w (suc n) =
    let x = week_lines_exist line (w + 1) n in
    elim (wholly_or line w) [
      | inl whole ↦ (WeekAtRest (week_start w) ∷ x.0, (WeekAtRest (week_start w), x.0, refl, (refl, whole), x.1))
      | inr not' ↦ (Week (week_start w) ∷ x.0, (Week (week_start w), x.0, refl, (refl, not'), x.1))
    ]

-- the line of a week is one of two
record IsOfWeek (line : Line) (w : ℕ) (one : EvidenceLine) : Type 0 where
  pub either : ((one ≡ Week (week_start w)) × (IsWhollyAtRest line w → ⊥))
      ⊎ ((one ≡ WeekAtRest (week_start w)) × IsWhollyAtRest line w)

of_week : (line : Line) (w : ℕ) (one : EvidenceLine) → IsWeekLine line w one → IsOfWeek line w one
of_week line w (Week monday) h = record { either = inl (ap Week h.0, h.1) }
of_week line w (WeekAtRest monday) h = record { either = inr (ap WeekAtRest h.0, h.1) }
of_week line w other h = absurd h

-- and there is one
one_of_week : (line : Line) (w : ℕ) (one other : EvidenceLine) → IsOfWeek line w one → IsOfWeek line w other → one ≡ other
one_of_week line w one other h k = elim h.either [
  | inl busy ↦ elim k.either [
    | inl busy' ↦ busy.0 ∙ sym busy'.0
    | inr whole ↦ absurd (busy.1 whole.1)
  ]
  | inr whole ↦ elim k.either [
    | inl busy ↦ absurd (busy.1 whole.1)
    | inr whole' ↦ whole.0 ∙ sym whole'.0
  ]
]

-- the lines of n weeks are determined
pub one_week_lines : (line : Line) (w n : ℕ) (lines others : List EvidenceLine)
    → AreWeekLines line w n lines → AreWeekLines line w n others → lines ≡ others
one_week_lines line w zero lines others h k = h ∙ sym k
one_week_lines line w (suc n) lines others (one, after, is, this, those) (one', after', is', this', those') =
    let e : one ≡ one' = one_of_week line w one one' (of_week line w one this) (of_week line w one' this') in
    let f : after ≡ after' = one_week_lines line (w + 1) n after after' those those' in
    is ∙ (ap (λ (x : EvidenceLine). x ∷ after) e ∙ (ap (λ (xs : List EvidenceLine). one' ∷ xs) f ∙ sym is'))

-- ---- weekly rests

-- the first and the last of some weeks in which a run has a minute
abbrev first_in : ℕ → Run → ℕ
first_in first run = max first ((run.start - 5760) / 10080)

abbrev last_in : ℕ → Run → ℕ
last_in last run = min last ((run.past - 5761) / 10080)

-- they are these
is_in : (line : Line) (first last : ℕ) (run : Run) → first ≤ last → IsWeeklyRestIn line first last run
    → IsIn first last run (first_in first run) (last_in last run)
is_in line first last run some is =
    let a : week_start first < run.past = is.after in
    let b : run.start < week_start (last + 1) = is.before in
    let c : run.start < run.past = is.rest.rests.some in
    record {
      from = omega arith;
      until = omega arith;
      in_first = (omega arith, omega arith);
      in_last = (omega arith, omega arith);
      all = λ w from until touches.
          let d : run.start < week_start (w + 1) = touches.0 in
          let e : week_start w < run.past = touches.1 in
          (omega arith, omega arith);
    }

-- the first is not after the last
in_order : (first last : ℕ) (run : Run) (a b : ℕ) → first ≤ last → IsIn first last run a b → a ≤ b
in_order first last run a b some h =
    let from : first ≤ a = h.from in
    let until : b ≤ last = h.until in
    elim (cases_lt b first) [
      | inl early ↦
          let c : run.start < week_start (b + 1) = h.in_last.0 in
          let d : week_start a < run.past = h.in_first.1 in
          let (x, y) = h.all first (omega arith) some (omega arith, omega arith) in
          absurd (omega arith)
      | inr late ↦ (h.all b late until h.in_last).0
    ]

-- no other weeks are
one_first_in : (first last : ℕ) (run : Run) (a b a' b' : ℕ) → first ≤ last → IsIn first last run a b
    → IsIn first last run a' b' → (a ≡ a') × (b ≡ b')
one_first_in first last run a b a' b' some h k =
    let from : first ≤ a = h.from in
    let until : b ≤ last = h.until in
    let from' : first ≤ a' = k.from in
    let until' : b' ≤ last = k.until in
    let o : a ≤ b = in_order first last run a b some h in
    let o' : a' ≤ b' = in_order first last run a' b' some k in
    let (x, y) = h.all a' from' (omega arith) k.in_first in
    let (x', y') = k.all a from (omega arith) h.in_first in
    let (z, u) = h.all b' (omega arith) until' k.in_last in
    let (z', u') = k.all b (omega arith) until h.in_last in
    (omega arith, omega arith)

-- weekly rests of these weeks have lines
pub rest_lines_exist : (line : Line) (first last : ℕ) (runs : List Run) → first ≤ last
    → ((run : Run) → Contains runs run → IsWeeklyRestIn line first last run)
    → (lines : List EvidenceLine) × AreRestLines first last runs lines
rest_lines_exist line first last [] some are = ([], refl)
rest_lines_exist line first last (run ∷ runs) some are =
    let x = rest_lines_exist line first last runs some (λ other h. are other (contains_tail run runs other h)) in
    let a = first_in first run in
    let b = last_in last run in (
      WeeklyIn run (week_start a) (week_start b) ∷ x.0,
      (a, b, x.0, is_in line first last run some (are run (contains_head run runs)), refl, x.1),
    )

-- and only these
pub one_rest_lines : (first last : ℕ) (runs : List Run) (lines others : List EvidenceLine) → first ≤ last
    → AreRestLines first last runs lines → AreRestLines first last runs others → lines ≡ others
one_rest_lines first last [] lines others some h k = h ∙ sym k
one_rest_lines first last (run ∷ runs) lines others some (a, b, after, in', is, those) (a', b', after', in'', is', those') =
    let (e, f) = one_first_in first last run a b a' b' some in' in'' in
    let g : after ≡ after' = one_rest_lines first last runs after after' some those those' in
    is
    ∙ (ap (λ (x : ℕ). WeeklyIn run (week_start x) (week_start b) ∷ after) e
    ∙ (ap (λ (x : ℕ). WeeklyIn run (week_start a') (week_start x) ∷ after) f
    ∙ (ap (λ (xs : List EvidenceLine). WeeklyIn run (week_start a') (week_start b') ∷ xs) g ∙ sym is')))
