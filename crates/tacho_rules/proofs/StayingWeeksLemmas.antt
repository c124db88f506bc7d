-- Breaches of the rules on weeks and on late weekly rests stay when a line continues after its horizon (`laws::breaches_stay`).
use Rattle.std.proofs.Common.{◌≡◌, ℕ, ◌+◌, ◌-◌, ◌<◌, List, refl, arith}
use Rattle.tacho_law.specs.declared.run.Run.{Run}
use Rattle.tacho_law.specs.declared.breach.Breach.{Breach}
use Rattle.tacho_law.specs.declared.breach.Kind.TheVariants.{B6, B7, B8}
use Rattle.tacho_law.specs.Line.{Line}
use Rattle.tacho_law.specs.Limits.{driving_in_week, driving_in_two_weeks, weekly_rest}
use Rattle.tacho_law.specs.Runs.{AreRestRuns}
use Rattle.tacho_law.specs.Weeks.{week_start}
use Rattle.tacho_law.specs.Breaches.{IsB6, IsB7, IsB8}
use Rattle.tacho_rules.proofs.StayingLemmas.{GoesOn}
use Rattle.tacho_rules.proofs.StayingHoursLemmas.{HasSame, over_stays, neighbours_stay}

module _ (line other : Line) (h k : ℕ) (g : GoesOn line other h k) where
  -- too much driving in a week stays
  pub b6_stays : (breach : Breach) → IsB6 line breach
      → HasSame (λ b. (b.kind ≡ B6) × IsB6 other b) (record breach { kind = B6 })
  b6_stays breach is =
      let to : ℕ = week_start (is.week + 1) in
      let (amount, excess) =
      over_stays line other h k g driving_in_week (week_start is.week) to to breach (omega arith) is.over in (
        record { kind = B6; moment = breach.moment; since = breach.since; amount = amount },
        (refl, record { week = is.week; over = excess; since = is.since }),
        record { moment = refl; kind = refl; since = refl },
      )

  -- too much driving in two weeks stays
  pub b7_stays : (breach : Breach) → IsB7 line breach
      → HasSame (λ b. (b.kind ≡ B7) × IsB7 other b) (record breach { kind = B7 })
  b7_stays breach is =
      let to : ℕ = week_start (is.week + 2) in
      let (amount, excess) =
      over_stays line other h k g driving_in_two_weeks (week_start is.week) to to breach (omega arith) is.over in (
        record { kind = B7; moment = breach.moment; since = breach.since; amount = amount },
        (refl, record { week = is.week; over = excess; since = is.since }),
        record { moment = refl; kind = refl; since = refl },
      )

  module _ (theirs : List Run) (are : AreRestRuns other theirs) where
    -- a weekly rest that starts too late stays one
    pub b8_stays : (breach : Breach) → IsB8 line breach
        → HasSame (λ b. (b.kind ≡ B8) × IsB8 other b) (record breach { kind = B8 })
    b8_stays breach is =
        let (next, n, later, same) =
        neighbours_stay line other h k g theirs are weekly_rest (omega arith) is.earlier is.later is.neighbours in
        let late : 0 < breach.amount = is.late in
        let at : breach.moment + breach.amount ≡ is.later.start = is.amount in (
          record { kind = B8; moment = breach.moment; since = breach.since; amount = next.start - breach.moment },
          (
            refl,
            record {
              earlier = is.earlier;
              later = next;
              neighbours = n;
              moment = is.moment;
              since = is.since;
              late = omega arith;
              amount = omega arith;
            },
          ),
          record { moment = refl; kind = refl; since = refl },
        )
