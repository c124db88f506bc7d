-- Spans that follow one another, without a second driver, and that held spans have too: their line is the examined line.
use Rattle.std.proofs.Common.{◌≡◌, ℕ, suc, ◌<◌, ◌≤◌, inl, inr, List, [], ◌∷◌, ◌++◌, Bool, true, false, cond, Option, None, Some, refl, sym, ap, subst, ◌∙◌, arith}
use Rattle.std.specs.Option.{option_map_or}
use Rattle.std.specs.List.{All}
use Rattle.std.proofs.Math.Path.{fun_ext}
use Rattle.std.proofs.lemmas.Bool.{cases_lt}
use Rattle.std.proofs.lemmas.Bool.Decides.{nat_tests}
use Rattle.tacho_time.specs.declared.span.Activity.TheVariants.{Rest}
use Rattle.tacho_time.specs.declared.span.Mark.{Mark}
use Rattle.tacho_time.specs.declared.span.Span.{Span}
use Rattle.tacho_time.specs.Spans.{Gives}
use Rattle.tacho_line.specs.declared.horizon.Horizon.{Horizon}
use Rattle.tacho_line.specs.Line.{covers, mark_at, Holds, IsSingle, IsCause, IsHorizon}
use Rattle.tacho_law.specs.Line.{line_of, Joined}
use Rattle.tacho_law.proofs.RunsLemmas.{line_before, line_within, line_past, joined_le}
use Rattle.tacho_law.proofs.DrivingLemmas.{line_from_past}
use Rattle.tacho_rules.specs.Report.{examined_line}

-- ---- spans, followed by others

-- a held minute keeps its mark
pub held_first : (xs ys : List Span) (m : ℕ) (k : Mark) → mark_at xs m ≡ Some k → mark_at (xs ++ ys) m ≡ Some k
held_first [] ys m k e = absurd (let wrong = e in cc)
held_first (s ∷ xs) ys m k e = go (covers s m) e (held_first xs ys m k) where
  go : (b : Bool) → cond b (Some s.mark) (mark_at xs m) ≡ Some k → (mark_at xs m ≡ Some k → mark_at (xs ++ ys) m ≡ Some k)
      → cond b (Some s.mark) (mark_at (xs ++ ys) m) ≡ Some k
  go true e more = e
  go false e more = more e

-- a minute that isn't held has the mark that the others give it
pub held_after : (xs ys : List Span) (m : ℕ) → mark_at xs m ≡ None → mark_at (xs ++ ys) m ≡ mark_at ys m
held_after [] ys m e = refl
held_after (s ∷ xs) ys m e = go (covers s m) e (held_after xs ys m) where
  go : (b : Bool) → cond b (Some s.mark) (mark_at xs m) ≡ None → (mark_at xs m ≡ None → mark_at (xs ++ ys) m ≡ mark_at ys m)
      → cond b (Some s.mark) (mark_at (xs ++ ys) m) ≡ mark_at ys m
  go true e more = absurd (let wrong = e in cc)
  go false e more = more e

-- spans that follow one another, and one more span
pub joined_next : (xs : List Span) (s : Span) (from mid : ℕ) → Joined xs from mid → s.start ≡ mid → mid < s.past
    → Joined (xs ++ s ∷ []) from s.past
joined_next [] s from mid h e some = (e ∙ sym h, omega (arith, h, some), refl)
joined_next (x ∷ xs) s from mid h e some = (h.0, h.1, joined_next xs s x.past mid h.2 e some)

-- ---- what spans give

-- spans that follow one another give each minute from the first to the last
pub covered : (spans : List Span) (from past m : ℕ) → Joined spans from past → from ≤ m → m < past
    → All (λ s. s.mark.crew ≡ false) spans
    → (k : Mark) × Gives spans m k × (k.crew ≡ false)
covered [] from past m j above below single = absurd (omega (arith, j, above, below))
covered (s ∷ spans) from past m j above below single = elim (cases_lt m s.past) [
  | inl lt ↦ let e : s.start ≡ from = j.0 in (s.mark, inl ((omega (arith, e, above), lt), refl), single 0 s (omega arith))
  | inr ge ↦
      let more = covered spans s.past past m j.2 ge below (λ k d within. single (suc k) d (omega arith)) in
      (more.0, inr more.1, more.2)
]

-- they give no minute before the first
pub given_from : (spans : List Span) (from past m : ℕ) (k : Mark) → Joined spans from past → Gives spans m k → from ≤ m
given_from [] from past m k j g = absurd g
given_from (s ∷ spans) from past m k j (inl c) =
    let e : s.start ≡ from = j.0 in let l : s.start ≤ m = c.0.0 in omega (arith, e, l)
given_from (s ∷ spans) from past m k j (inr g) =
    let l : s.past ≤ m = given_from spans s.past past m k j.2 g in let f : from < s.past = j.1 in omega (arith, l, f)

-- their line has the activity that they give
pub line_given : (spans : List Span) (from past m : ℕ) (k : Mark) → Joined spans from past → Gives spans m k
    → line_of spans m ≡ k.activity
line_given [] from past m k j g = absurd g
line_given (s ∷ spans) from past m k j (inl c) = line_within s spans m c.0.0 c.0.1 ∙ ap (λ (x : Mark). x.activity) c.1
line_given (s ∷ spans) from past m k j (inr g) =
    line_past s spans m (given_from spans s.past past m k j.2 g) ∙ line_given spans s.past past m k j.2 g

-- ---- spans of what is held

-- `parts` follow one another from the base to `end`, without a second driver, and what they give is held
module _ (held parts : List Span) (base end : ℕ) (joined : Joined parts base end)
    (single : All (λ s. s.mark.crew ≡ false) parts) (has : (m : ℕ) (k : Mark) → Gives parts m k → Holds held m k) where
  -- if the examination can't go on at `end`, this is the horizon
  pub joined_horizon : (h : Horizon) → h.minute ≡ end → IsCause (mark_at held end) h.cause → IsHorizon held base h
  joined_horizon h same cause = record {
    from = (let le = joined_le parts base end joined in omega (arith, same, le));
    single = λ m w.
        let r = w.1 in
        let c = covered parts base end m joined w.0 (omega (arith, same, r)) single in
        subst IsSingle (sym (has m c.0 c.1)) c.2;
    cause = subst (λ (m : ℕ). IsCause (mark_at held m) h.cause) (sym same) cause;
  }

  -- the line of the parts is the examined line
  pub joined_line : line_of parts ≡ examined_line held base end
  joined_line = fun_ext each where
    each : (m : ℕ) → line_of parts m ≡ examined_line held base end m
    each m = elim (cases_lt m base) [
      | inl before ↦
          let f : line_of parts m ≡ Rest = line_before parts base end m joined before in
          grind (arith, nat_tests, f)
      | inr above ↦ elim (cases_lt m end) [
        | inl below ↦
            let c = covered parts base end m joined above below single in
            let k = c.0 in
            let f : line_of parts m ≡ k.activity = line_given parts base end m k joined c.1 in
            let g : option_map_or (λ (x : Mark). x.activity) (mark_at held m) Rest ≡ k.activity =
            ap (λ (o : Option Mark). option_map_or (λ (x : Mark). x.activity) o Rest) (has m k c.1) in
            grind (arith, nat_tests, f, g)
        | inr later ↦
            let f : line_of parts m ≡ Rest = line_from_past parts base end m joined later in
            grind (arith, nat_tests, f)
      ]
    ]
