-- Each minute at rest is in a rest run (specs/Runs).
use Rattle.std.proofs.Common.{◌≡◌, ◌≢◌, ℕ, ◌+◌, ◌-◌, ◌<◌, ◌≤◌, ◌⊎◌, inl, inr, zero}
use Rattle.std.proofs.Common.{suc, refl, subst, arith}
use Rattle.std.proofs.lemmas.Bool.{cases_lt}
use Rattle.tacho_time.specs.declared.span.Activity.{Activity}
use Rattle.tacho_time.specs.declared.span.Activity.TheVariants.{Rest, Available, Work, Drive}
use Rattle.tacho_law.specs.declared.run.Run.{Run}
use Rattle.tacho_law.specs.declared.run.TheConstants.{FAR}
use Rattle.tacho_law.specs.Line.{Line}
use Rattle.tacho_law.specs.Runs.{IsRestRun}

-- each activity is rest or isn't
pub rest_or : (a : Activity) → (a ≡ Rest) ⊎ (a ≢ Rest)
rest_or Rest = inl refl
rest_or Available = inr (λ e. cc)
rest_or Work = inr (λ e. cc)
rest_or Drive = inr (λ e. cc)

-- a minute from which the line is at rest up to m, and before which it isn't
record StartsBy (line : Line) (m : ℕ) : Type 0 where
  pub start : ℕ
  pub below : start ≤ m
  pub rest : (k : ℕ) → start ≤ k → k ≤ m → line k ≡ Rest
  pub from : (start ≡ 0) ⊎ ((k : ℕ) → k + 1 ≡ start → line k ≢ Rest)

-- each minute at rest has such a start
starts_by : (line : Line) (m : ℕ) → line m ≡ Rest → StartsBy line m
starts_by line zero here = record {
  start = 0;
  below = omega arith;
  rest = λ k above below. subst (λ (x : ℕ). line x ≡ Rest) (let e : 0 ≡ k = omega arith in e) here;
  from = inl refl;
}
starts_by line (suc m) here = elim (rest_or (line m)) [
  | inl rest ↦
      let r : StartsBy line m = starts_by line m rest in
      let b : r.start ≤ m = r.below in
      record {
        start = r.start;
        below = omega arith;
        rest = λ k above below. elim (cases_lt m k) [
          | inl lt ↦ subst (λ (x : ℕ). line x ≡ Rest) (let e : suc m ≡ k = omega arith in e) here
          | inr ge ↦ r.rest k above ge
        ];
        from = r.from;
      }
  | inr busy ↦ record {
    start = suc m;
    below = omega arith;
    rest = λ k above below. subst (λ (x : ℕ). line x ≡ Rest) (let e : suc m ≡ k = omega arith in e) here;
    from = inr (λ k e. subst (λ (x : ℕ). line x ≢ Rest) (let f : m ≡ k = omega arith in f) busy);
  }
]

-- a minute up to which the line is at rest from p on, and at which it isn't
pub record EndsAfter (line : Line) (p : ℕ) : Type 0 where
  pub past : ℕ
  pub above : p ≤ past
  pub rest : (k : ℕ) → p ≤ k → k < past → line k ≡ Rest
  pub until : (past ≡ FAR) ⊎ (line past ≢ Rest)

-- each minute has such an end
pub ends_after : (line : Line) (n p : ℕ) → p + n ≡ FAR → EndsAfter line p
ends_after line zero p e =
    record { past = p; above = omega arith; rest = λ k above below. absurd (omega arith); until = inl (omega arith) }
ends_after line (suc n) p e = elim (rest_or (line p)) [
  | inl rest ↦
      let r : EndsAfter line (p + 1) = ends_after line n (p + 1) (omega arith) in
      let b : p + 1 ≤ r.past = r.above in
      record {
        past = r.past;
        above = omega arith;
        rest = λ k above below. elim (cases_lt p k) [
          | inl lt ↦ r.rest k (omega arith) below
          | inr ge ↦ subst (λ (x : ℕ). line x ≡ Rest) (let f : p ≡ k = omega arith in f) rest
        ];
        until = r.until;
      }
  | inr busy ↦ record { past = p; above = omega arith; rest = λ k above below. absurd (omega arith); until = inr busy }
]

-- a rest run that contains minute m
pub record Covers (line : Line) (m : ℕ) : Type 0 where
  pub run : Run
  pub rests : IsRestRun line run
  pub from : run.start ≤ m
  pub to : m < run.past

-- a minute at rest is in a rest run
pub covered : (line : Line) (m : ℕ) → m < FAR → line m ≡ Rest → Covers line m
covered line m near here =
    let s : StartsBy line m = starts_by line m here in
    let p : EndsAfter line (m + 1) = ends_after line (FAR - (m + 1)) (m + 1) (omega arith) in
    let a : s.start ≤ m = s.below in
    let b : m + 1 ≤ p.past = p.above in
    record {
      run = record { start = s.start; past = p.past };
      rests = record {
        some = omega arith;
        rest = λ k above below.
            elim (cases_lt m k) [ inl lt ↦ p.rest k (omega arith) below | inr ge ↦ s.rest k above ge ];
        from = s.from;
        until = p.until;
      };
      from = a;
      to = omega arith;
    }
