-- The examples of docs/RULES.md, checked against the definitions: with another value here, this file is refused.
use Rattle.std.proofs.Common.{inl, inr, refl, arith}
use Rattle.tacho_law.specs.declared.breach.Kind.TheVariants.{B2}
use Rattle.tacho_law.proofs.PageFacts.{at, rest_between, day_to}
use Rattle.tacho_plain.specs.DailyRests.{IsShortRest}
use Rattle.tacho_periods.specs.MainRests.{IsBetter}

-- ---- days

-- B2: work from 06:00 to 21:01, and again from 06:01, is a breach at 21:00, since 06:00, of 1
pub short_rest_from_21_01 : IsShortRest (day_to 1261 361)
    (record { kind = B2; moment = at 4 1260; since = at 4 360; amount = 1 })
short_rest_from_21_01 =
    record { kind = refl; short = λ portion. omega arith; moment = refl; since = refl; amount = refl }

-- ---- weekly rests

-- in the month's example, the rest from 29 March 18:00 is longer than the one from the 26th 12:00, and so is its week's main rest
pub longer_rest_is_better : IsBetter (at 32 0)
    (rest_between (at 29 1080) (at 31 900)) (rest_between (at 26 720) (at 27 960))
longer_rest_is_better = inl (omega arith)

-- of two rests with the same number of minutes, the earlier is the main rest
pub earlier_rest_is_better : IsBetter (at 32 0)
    (rest_between (at 23 720) (at 24 720)) (rest_between (at 24 1080) (at 25 1080))
earlier_rest_is_better = inr (refl, omega arith)
