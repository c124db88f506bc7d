use Rattle.std.proofs.Common.{ℕ, List}
use Rattle.std.proofs.lemmas.Result.{on_ok_weaker}
use Rattle.tacho_time.specs.declared.span.Span.{Span}
use Rattle.tacho_ahead.specs.Ended.{AreAllFound}
use Rattle.tacho_ahead.specs.Fed.{EndsAt, IsFedTo}
use Rattle.tacho_ahead.proofs.plan.drive_and_sleep.Goals as goal

pub returns-clause-all : goal.returns-clause-all
returns-clause-all c =
    on_ok_weaker c.end_at.result (λ (finds : (p : List Span) (base : ℕ) → IsFedTo c.go_on-4.new.scan c.go_on-4.new.found p base c.new.result
    → EndsAt p c.new.result → AreAllFound p base c.end_at.new.found) plan base is goes.
    let driven = c.in_ok-go_on.ensures.fed plan base is goes.drives in
    let slept = c.in_ok-go_on-2.ensures.fed plan base driven goes.sleeps in
    let worked = c.in_ok-go_on-3.ensures.fed plan base slept goes.works in
    let rested = c.in_ok-go_on-4.ensures.fed plan base worked goes.rests in
    (rw c.new.ensures at finds) plan base rested goes.ends) c.end_at.ensures.all
