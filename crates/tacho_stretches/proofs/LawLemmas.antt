-- Facts about all stretches (`laws`).
use Rattle.std.proofs.Common.{◌≡◌, ℕ, ◌+◌, ◌-◌, ◌<◌, ◌≤◌, ◌⊎◌, inl, inr, nat_lt, Bool, true, false, cond, List, [], ◌∷◌, ◌++◌, Option, None, Some, refl, sym, ap, subst, ◌∙◌, arith}
use Rattle.std.proofs.lemmas.Bool.Decides.{nat_tests}
use Rattle.std.proofs.lemmas.Bool.{cases_lt}
use Rattle.tacho_time.specs.declared.span.Mark.{Mark}
use Rattle.tacho_time.specs.declared.span.Span.{Span}
use Rattle.tacho_line.specs.declared.horizon.Horizon.{Horizon}
use Rattle.tacho_line.specs.Line.{mark_at, IsSingle, IsHorizon}
use Rattle.tacho_law.specs.declared.breach.Breach.{Breach}
use Rattle.tacho_law.specs.declared.debt.Debt.{Debt}
use Rattle.tacho_rules.specs.Report.{IsReport}
use Rattle.tacho_rules.proofs.ReportLemmas.{one_report}
use Rattle.tacho_stretches.specs.Start.{IsNextStart, IsHeld, IsEndOfHeld}
use Rattle.tacho_stretches.specs.Stretches.{Judged, first_monday, unseen_to, IsStretch, AreAll, AreStretches}
use Rattle.tacho_stretches.specs.Ranges.{unseen_part, parts, FollowOn}

-- ---- the list is unique

-- the next start is unique
pub one_next : (line : List Span) (after : ℕ) (a b : Option ℕ) → IsNextStart line after a → IsNextStart line after b → a ≡ b
one_next line after None None is is' = refl
one_next line after None (Some n) is is' = absurd (is n is'.0)
one_next line after (Some m) None is is' = absurd (is' m is.0)
one_next line after (Some m) (Some n) is is' =
    let a : m ≤ n = is.1 n is'.0 in
    let b : n ≤ m = is'.1 m is.0 in
    ap (λ (x : ℕ). Some x) (omega (arith, a, b))

-- no end of what is held is later than another
no_later : (line : List Span) (base e f : ℕ) → IsEndOfHeld line base e → IsEndOfHeld line base f → e ≤ f
no_later line base e f is is' = go is.last where
  go : (e ≡ base) ⊎ ((m : ℕ) × (e ≡ m + 1) × IsHeld line m) → e ≤ f
  go (inl same) = let l : base ≤ f = is'.from in omega (arith, l, same)
  go (inr (m, same, held)) = elim (cases_lt m f) [
    | inl lt ↦ omega (arith, lt, same)
    | inr ge ↦ absurd (is'.after m ge held)
  ]

-- the end of what is held is unique
pub one_end : (line : List Span) (base e f : ℕ) → IsEndOfHeld line base e → IsEndOfHeld line base f → e ≡ f
one_end line base e f is is' =
    let a = no_later line base e f is is' in
    let b = no_later line base f e is' is in
    omega (arith, a, b)

-- a stretch is determined by its members
pub made : (s t : Judged) → s.monday ≡ t.monday → s.horizon ≡ t.horizon → s.breaches ≡ t.breaches → s.debts ≡ t.debts
    → s.unseen ≡ t.unseen → s ≡ t
made s t a b c d e =
    ap (λ (x : ℕ). record { monday = x; horizon = s.horizon; breaches = s.breaches; debts = s.debts; unseen = s.unseen }) a
    ∙ ap (λ (x : Horizon). record { monday = t.monday; horizon = x; breaches = s.breaches; debts = s.debts; unseen = s.unseen }) b
    ∙ ap (λ (x : List Breach). record { monday = t.monday; horizon = t.horizon; breaches = x; debts = s.debts; unseen = s.unseen }) c
    ∙ ap (λ (x : List Debt). record { monday = t.monday; horizon = t.horizon; breaches = t.breaches; debts = x; unseen = s.unseen }) d
    ∙ ap (λ (x : Option ℕ). record { monday = t.monday; horizon = t.horizon; breaches = t.breaches; debts = t.debts; unseen = x }) e

-- the stretch from a Monday is unique, and so is the next start
one_stretch : (line : List Span) (end : ℕ) (s t : Judged) (n o : Option ℕ) → s.monday ≡ t.monday
    → IsStretch line end s n → IsStretch line end t o → (s ≡ t) × (n ≡ o)
one_stretch line end s t n o monday is is' =
    let here : IsReport line t.monday s.horizon s.breaches s.debts =
    subst (λ (m : ℕ). IsReport line m s.horizon s.breaches s.debts) monday is.report in
    let r = one_report line t.monday s.horizon t.horizon s.breaches t.breaches s.debts t.debts here is'.report in
    let next : n ≡ o =
    one_next line t.horizon.minute n o (subst (λ (h : Horizon). IsNextStart line h.minute n) r.0 is.followed) is'.followed in
    let unseen : s.unseen ≡ t.unseen =
    is.rest ∙ ap (λ (h : Horizon). unseen_to end h.minute n) r.0 ∙ ap (λ (x : Option ℕ). unseen_to end t.horizon.minute x) next ∙ sym is'.rest in
    (made s t monday r.0 r.1 r.2 unseen, next)

one_all : (line : List Span) (end : ℕ) (xs ys : List Judged) → first_monday xs ≡ first_monday ys
    → AreAll line end xs → AreAll line end ys → xs ≡ ys
one_all line end [] [] e h k = refl
one_all line end [] (t ∷ ys) e h k = cc
one_all line end (s ∷ xs) [] e h k = cc
one_all line end (s ∷ xs) (t ∷ ys) e h k =
    let monday : s.monday ≡ t.monday = cc in
    let both = one_stretch line end s t (first_monday xs) (first_monday ys) monday h.0 k.0 in
    let more : xs ≡ ys = one_all line end xs ys both.1 h.1 k.1 in
    ap (λ (x : Judged). x ∷ xs) both.0 ∙ ap (λ (l : List Judged). t ∷ l) more

-- a line has one list of stretches from a base
pub one_list : (line : List Span) (base : ℕ) (stretches others : List Judged)
    → AreStretches line base stretches → AreStretches line base others → stretches ≡ others
one_list line base stretches others is is' =
    let same : is.end ≡ is'.end = one_end line base is.end is'.end is.is_end is'.is_end in
    one_all line is'.end stretches others (is.first ∙ sym is'.first)
    (subst (λ (e : ℕ). AreAll line e stretches) same is.all) is'.all

-- ---- the first stretch is the report from the base

pub first_is : (line : List Span) (base : ℕ) (s : Judged) (stretches : List Judged)
    → AreStretches line base (s ∷ stretches) → (s.monday ≡ base) × IsReport line base s.horizon s.breaches s.debts
first_is line base s stretches is =
    let monday : s.monday ≡ base = (let e = is.first in cc) in
    (monday, subst (λ (m : ℕ). IsReport line m s.horizon s.breaches s.debts) monday is.all.0.report)

-- ---- no minute is left out

-- a single minute is held
held_single : (line : List Span) (m : ℕ) → IsSingle (mark_at line m) → IsHeld line m
held_single line m single = go (mark_at line m) refl single where
  go : (o : Option Mark) → mark_at line m ≡ o → IsSingle o → IsHeld line m
  go None e single = absurd single
  go (Some mark) e single = (mark, e)

-- so it is before the end of what is held
single_before : (line : List Span) (base end m : ℕ) → IsEndOfHeld line base end → IsSingle (mark_at line m) → m < end
single_before line base end m is single = elim (cases_lt m end) [
  | inl lt ↦ lt
  | inr ge ↦ absurd (is.after m ge (held_single line m single))
]

-- no horizon is later than the end
horizon_before : (line : List Span) (base end monday : ℕ) (h : Horizon) → IsEndOfHeld line base end → monday ≤ end
    → IsHorizon line monday h → h.minute ≤ end
horizon_before line base end monday h is early horizon = elim (cases_lt monday h.minute) [
  | inl lt ↦
      let l = single_before line base end (h.minute - 1) is (horizon.single (h.minute - 1) (omega (arith, lt), omega (arith, lt))) in
      omega (arith, l, lt)
  | inr ge ↦ omega (arith, ge, early)
]

-- the part after the last horizon
follow_last : (end horizon : ℕ) (unseen : Option ℕ) → horizon ≤ end → unseen ≡ unseen_to end horizon None
    → FollowOn (unseen_part horizon unseen ++ []) horizon end
follow_last end horizon unseen early e =
    subst (λ (o : Option ℕ). FollowOn (unseen_part horizon o ++ []) horizon end) (sym e) (go (nat_lt horizon end) refl) where
      go : (b : Bool) → nat_lt horizon end ≡ b → FollowOn (unseen_part horizon (cond b (Some end) None) ++ []) horizon end
      go true t = (refl, early, refl)
      go false t = let ge : end ≤ horizon = grind (arith, nat_tests) in omega (arith, ge, early)

-- the parts of stretches follow one another up to the end of what is held
follow : (line : List Span) (base end start : ℕ) (xs : List Judged) → IsEndOfHeld line base end → first_monday xs ≡ Some start
    → start ≤ end → AreAll line end xs → FollowOn (parts xs) start end
follow line base end start [] is e early h = cc
follow line base end start (s ∷ []) is e early h =
    let monday : s.monday ≡ start = cc in
    let within = horizon_before line base end s.monday s.horizon is (omega (arith, monday, early)) h.0.report.is_horizon in
    (monday, h.0.report.is_horizon.from, follow_last end s.horizon.minute s.unseen within h.0.rest)
follow line base end start (s ∷ t ∷ xs) is e early h =
    let monday : s.monday ≡ start = cc in
    let next = h.0.followed.0 in
    let l : s.horizon.minute < t.monday = next.later in
    let within : t.monday < end = single_before line base end t.monday is next.single in
    let more : FollowOn (parts (t ∷ xs)) t.monday end =
    follow line base end t.monday (t ∷ xs) is refl (omega (arith, within)) h.1 in (
      monday,
      h.0.report.is_horizon.from,
      subst (λ (o : Option ℕ). FollowOn (unseen_part s.horizon.minute o ++ parts (t ∷ xs)) s.horizon.minute end) (sym h.0.rest)
          (refl, omega (arith, l), more),
    )

pub none_left_out : (line : List Span) (base end : ℕ) (stretches : List Judged) → AreStretches line base stretches
    → IsEndOfHeld line base end → FollowOn (parts stretches) base end
none_left_out line base end stretches is is_end =
    let same : is.end ≡ end = one_end line base is.end end is.is_end is_end in
    follow line base end base stretches is_end is.first is_end.from (subst (λ (e : ℕ). AreAll line e stretches) same is.all)
