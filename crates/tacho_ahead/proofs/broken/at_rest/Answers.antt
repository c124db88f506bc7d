use Rattle.std.proofs.Common.{◌∙◌}
use Rattle.tacho_ahead.proofs.EndedLemmas.{reported_of}
use Rattle.tacho_ahead.proofs.PlanLemmas.{known_of}
use Rattle.tacho_ahead.proofs.broken.at_rest.Goals as goal

pub returns-clause-known : goal.returns-clause-known
returns-clause-known c = λ held base is.
    known_of c.args.scan.now c.args.found.now held base c.args.start is c.requires.within c.drive_and_rest.new.found.breaches.items
    (λ p b fed goes. reported_of p b c.drive_and_rest.new.found (c.in_ok-drive_and_rest.ensures.all p b fed goes)) c.drive_and_rest.ensures.appends.breaches c.drive_and_rest.ensures.appends.longer
    c.in_ok-had.had.items (c.in_ok-had.ensures.items ∙ c.deref.ensures.value)
