use Rattle.std.proofs.Common.{arith}
use Rattle.tacho_ahead.proofs.EndedLemmas.{reported_of}
use Rattle.tacho_ahead.proofs.PlanLemmas.{rests_reported, works_reported}
use Rattle.tacho_ahead.proofs.broken.foresee.Goals as goal

pub returns-in_ok-drive_and_sleep-in-B3-clause-found : goal.returns-in_ok-drive_and_sleep-in-B3-clause-found
returns-in_ok-drive_and_sleep-in-B3-clause-found c = λ held base is.
    works_reported c.args.scan.now c.args.found.now held base c.args.start is c.args.past c.requires.forward c.requires.within c.args.kind c.in-B3.is
    c.drive_and_sleep.new.found.breaches.items
    (λ p b fed goes. reported_of p b c.drive_and_sleep.new.found (c.in_ok-drive_and_sleep-in-B3.ensures.all p b fed goes))

pub returns-in_ok-drive_and_rest-in_default : goal.returns-in_ok-drive_and_rest-in_default
returns-in_ok-drive_and_rest-in_default c = record {
  found = λ held base is.
      rests_reported c.args.scan.now c.args.found.now held base c.args.start is c.args.past c.requires.forward
      (let w = c.requires.within in omega (arith, w)) c.args.kind c.in_default.not-B3
      c.drive_and_rest.new.found.breaches.items
      (λ p b fed goes. reported_of p b c.drive_and_rest.new.found (c.in_ok-drive_and_rest-in_default.ensures.all p b fed goes));
  appends = c.drive_and_rest.ensures.appends;
}
