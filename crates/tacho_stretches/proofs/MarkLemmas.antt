-- Lines that agree from a base on have the same stretches (`laws`).
use Rattle.std.proofs.Common.{◌≡◌, ℕ, ◌+◌, ◌<◌, ◌≤◌, ◌⊎◌, inl, inr, List, [], ◌∷◌, Option, None, Some, refl, sym, ◌∙◌, arith}
use Rattle.std.proofs.lemmas.Bool.{cases_lt}
use Rattle.tacho_time.specs.declared.span.Span.{Span}
use Rattle.tacho_line.specs.Line.{mark_at}
use Rattle.tacho_stretches.specs.Start.{IsNextStart, IsHeld, IsEndOfHeld}
use Rattle.tacho_stretches.specs.Stretches.{Judged, first_monday, IsStretch, AreAll, AreStretches}
use Rattle.tacho_stretches.proofs.NearLemmas.{near_report, near_start, near_next}

module _ (line other : List Span) (base : ℕ) (agree : (m : ℕ) → base ≤ m → mark_at line m ≡ mark_at other m) where
  -- they have the same end of what is held
  end_moved : (end : ℕ) → IsEndOfHeld line base end → IsEndOfHeld other base end
  end_moved end is = record {
    from = is.from;
    after = λ m l held. (let f = is.from in is.after m l (held.0, agree m (omega (arith, f, l)) ∙ held.1));
    last = last is.last;
  } where
    last : (end ≡ base) ⊎ ((m : ℕ) × (end ≡ m + 1) × IsHeld line m) → (end ≡ base) ⊎ ((m : ℕ) × (end ≡ m + 1) × IsHeld other m)
    last (inl same) = inl same
    last (inr (m, e, held)) = elim (cases_lt m base) [
      | inl lt ↦ inl (let f = is.from in omega (arith, lt, e, f))
      | inr ge ↦ inr (m, e, (held.0, sym (agree m ge) ∙ held.1))
    ]

  -- after a minute, the next start is the same
  next_moved : (after : ℕ) (o : Option ℕ) → base ≤ after → IsNextStart line after o → IsNextStart other after o
  next_moved after None from is = λ m start.
      is m (near_start other line base after m m (λ k a b. sym (agree k a)) from (omega arith) start)
  next_moved after (Some next) from is = near_next line other base after next next (λ k a b. agree k a) from (omega arith) is

  -- each stretch is the same
  stretch_moved : (end : ℕ) (s : Judged) (next : Option ℕ) → base ≤ s.monday → IsStretch line end s next → IsStretch other end s next
  stretch_moved end s next from is = record {
    report = near_report line other s.monday s.horizon s.breaches s.debts (λ m a b. agree m (omega (arith, from, a))) is.report;
    followed = next_moved s.horizon.minute next (let l = is.report.is_horizon.from in omega (arith, from, l)) is.followed;
    rest = is.rest;
  }

  -- so is each list of stretches
  all_moved : (end start : ℕ) (xs : List Judged) → first_monday xs ≡ Some start → base ≤ start → AreAll line end xs → AreAll other end xs
  all_moved end start [] e from all = tt
  all_moved end start (s ∷ []) e from all =
      let monday : s.monday ≡ start = cc in
      (stretch_moved end s None (omega (arith, monday, from)) all.0, tt)
  all_moved end start (s ∷ t ∷ xs) e from all =
      let monday : s.monday ≡ start = cc in
      let first : base ≤ s.monday = omega (arith, monday, from) in
      let at = all.0.report.is_horizon.from in
      let later : s.horizon.minute < t.monday = all.0.followed.0.later in
      (stretch_moved end s (Some t.monday) first all.0, all_moved end t.monday (t ∷ xs) refl (omega (arith, first, at, later)) all.1)

-- they have the same stretches
pub by_marks : (line other : List Span) (base : ℕ) (stretches : List Judged) → AreStretches line base stretches
    → ((m : ℕ) → base ≤ m → mark_at line m ≡ mark_at other m) → AreStretches other base stretches
by_marks line other base stretches is agree = record {
  first = is.first;
  end = is.end;
  is_end = end_moved line other base agree is.end is.is_end;
  all = all_moved line other base agree is.end base stretches is.first (omega arith) is.all;
}
