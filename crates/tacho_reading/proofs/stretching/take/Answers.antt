use Rattle.std.proofs.Common.{◌∷◌, ◌++◌, [], subst}
use Rattle.tacho_time.specs.declared.span.Span.{Span}
use Rattle.tacho_stretches.specs.Pass.{HasPassed, passing}
use Rattle.tacho_reading.proofs.stretching.take.Goals as goal

pub returns-clause-took : goal.returns-clause-took
returns-clause-took c = record {
  fed = λ base before is.
      subst (λ (s : Span). HasPassed (passing c.feed.new.self c.feed.new.found) base (before ++ s ∷ [])) c.in-Some.ensures.some
      (c.in_ok-feed.ensures.fed base before is);
}
