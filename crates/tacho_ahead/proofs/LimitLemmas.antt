-- The search for a rule's limit.
use Rattle.std.proofs.Common.{◌≡◌, ℕ, ◌+◌, ◌≤◌, inl, inr, List, Option, None, Some, ◌<◌, sym, subst, arith}
use Rattle.std.proofs.lemmas.Bool.{cases_lt}
use Rattle.tacho_time.specs.declared.span.Span.{Span}
use Rattle.tacho_law.specs.declared.breach.Breach.{Breach}
use Rattle.tacho_law.specs.declared.breach.Kind.{Kind}
use Rattle.tacho_law.specs.declared.breach.Kind.TheVariants.{B1, B2, B3, B4, B5, B6, B7, B8, B9, B10}
use Rattle.tacho_pass.specs.declared.found.Found.{Found}
use Rattle.tacho_rules.specs.declared.scan.Scan.{Scan}
use Rattle.tacho_ahead.specs.declared.limits.Limits.{Limits}
use Rattle.tacho_ahead.specs.Ahead.{Breaks, BreaksNone, IsReach, IsLimit, limit_of}
use Rattle.tacho_ahead.specs.Fed.{IsKnown, HasSame}
use Rattle.tacho_ahead.proofs.PlanLemmas.{same_known, same_then}

-- driving to before each minute up to `until` was tried, and broke nothing
pub record IsSearched (s : Scan) (was found : Found) (had : List Breach) (k : Kind) (start until : ℕ) : Type 0 where
  pub same : HasSame was found
  pub none : (held : List Span) (base : ℕ) → IsKnown s was had held base start → BreaksNone held base start k until

pub searched_next : (s : Scan) (was found new : Found) (had : List Breach) (k : Kind) (start until : ℕ)
    → IsSearched s was found had k start until → HasSame found new
    → ((held : List Span) (base : ℕ) → IsKnown s found had held base start → Breaks held base start k (until + 1) → ⊥)
    → IsSearched s was new had k start (until + 1)
searched_next s was found new had k start until is same not = record {
  same = same_then was found new is.same same;
  none = λ held base known x above below. elim (cases_lt until x) [
    | inl lt ↦
        let e : x ≡ until + 1 = omega (arith, lt, below) in
        subst (λ (y : ℕ). Breaks held base start k y → ⊥) (sym e)
        (not held base (same_known s was found had held base start is.same known))
    | inr ge ↦ is.none held base known x above ge
  ];
}

module _ (s : Scan) (was found : Found) (had : List Breach) (k : Kind) (first until : ℕ) where
  -- one minute more breaks the rule
  pub limit_found : (start result past : ℕ) → first ≡ start → result ≡ until → first ≤ until → IsReach start k past → until < past
      → IsSearched s was found had k first until
      → ((held : List Span) (base : ℕ) → IsKnown s found had held base first → Breaks held base first k (until + 1))
      → (held : List Span) (base : ℕ) → IsKnown s was had held base start → IsLimit held base start k (Some result)
  limit_found start result past e f forward reach within is broken =
      subst (λ (st : ℕ). IsReach st k past → (held : List Span) (base : ℕ) → IsKnown s was had held base st
      → IsLimit held base st k (Some result)) e
      (λ reaches held base known.
      subst (λ (r : ℕ). IsLimit held base first k (Some r)) (sym f) (
        forward,
        (past, reaches, within),
        is.none held base known,
        broken held base (same_known s was found had held base first is.same known),
      )) reach

  -- nothing is broken within reach
  pub limit_none : (start past : ℕ) → first ≡ start → IsReach start k past → past ≤ until
      → IsSearched s was found had k first until
      → (held : List Span) (base : ℕ) → IsKnown s was had held base start → IsLimit held base start k None
  limit_none start past e reach ended is held base known = (
    past,
    reach,
    subst (λ (st : ℕ). IsKnown s was had held base st → BreaksNone held base st k past) e
        (λ known x above below. is.none held base known x above (omega (arith, below, ended))) known,
  )

-- the limits of all rules
pub limits_all : (P : Kind → Option ℕ → Type 0) (l : Limits) → P B1 l.breaks → P B2 l.daily_rest → P B3 l.reduced_rest
    → P B4 l.extended_day → P B5 l.third_day → P B6 l.week → P B7 l.two_weeks → P B8 l.late_rest → P B9 l.missing_rest
    → P B10 None → (k : Kind) → P k (limit_of l k)
limits_all P l b1 b2 b3 b4 b5 b6 b7 b8 b9 b10 B1 = b1
limits_all P l b1 b2 b3 b4 b5 b6 b7 b8 b9 b10 B2 = b2
limits_all P l b1 b2 b3 b4 b5 b6 b7 b8 b9 b10 B3 = b3
limits_all P l b1 b2 b3 b4 b5 b6 b7 b8 b9 b10 B4 = b4
limits_all P l b1 b2 b3 b4 b5 b6 b7 b8 b9 b10 B5 = b5
limits_all P l b1 b2 b3 b4 b5 b6 b7 b8 b9 b10 B6 = b6
limits_all P l b1 b2 b3 b4 b5 b6 b7 b8 b9 b10 B7 = b7
limits_all P l b1 b2 b3 b4 b5 b6 b7 b8 b9 b10 B8 = b8
limits_all P l b1 b2 b3 b4 b5 b6 b7 b8 b9 b10 B9 = b9
limits_all P l b1 b2 b3 b4 b5 b6 b7 b8 b9 b10 B10 = b10
