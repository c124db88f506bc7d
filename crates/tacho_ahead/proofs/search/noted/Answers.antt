use Rattle.std.proofs.Common.{◌≡◌, inl, refl}
use Rattle.tacho_law.specs.declared.breach.Kind.{Kind}
use Rattle.tacho_law.specs.declared.breach.Kind.TheVariants.{B1, B2, B3, B4, B5, B6, B7, B8, B9, B10}
use Rattle.tacho_ahead.specs.Ahead.{limit_of}
use Rattle.tacho_ahead.specs.Fed.{IsPicked}
use Rattle.tacho_ahead.proofs.search.noted.Goals as goal

pub returns : goal.returns
returns c = λ kind not. go kind not where
  go : (kind : Kind) → (kind ≡ B3 → ⊥)
      → IsPicked c.args.start kind c.args.until c.args.breaches.now c.args.had.now (limit_of c.args.limits kind) (limit_of (record { breaks = c.pick-breaks.result; daily_rest = c.pick-daily_rest.result; reduced_rest = c.args.limits.reduced_rest; extended_day = c.pick-extended_day.result; third_day = c.pick-third_day.result; week = c.pick-week.result; two_weeks = c.pick-two_weeks.result; late_rest = c.pick-late_rest.result; missing_rest = c.pick-missing_rest.result }) kind)
  go B1 not = c.pick-breaks.ensures
  go B2 not = c.pick-daily_rest.ensures
  go B3 not = absurd (not refl)
  go B4 not = c.pick-extended_day.ensures
  go B5 not = c.pick-third_day.ensures
  go B6 not = c.pick-week.ensures
  go B7 not = c.pick-two_weeks.ensures
  go B8 not = c.pick-late_rest.ensures
  go B9 not = c.pick-missing_rest.ensures
  go B10 not = (c.args.start, refl, inl c.requires.forward)
