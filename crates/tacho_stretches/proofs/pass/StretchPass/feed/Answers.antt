use Rattle.std.proofs.Common.{refl}
use Rattle.tacho_stretches.specs.Pass.{examining, passing}
use Rattle.tacho_stretches.proofs.PassLemmas.{pass_examining, pass_seeking}
use Rattle.tacho_stretches.proofs.pass.StretchPass.feed.Goals as goal

pub returns-in-Some-clause-fed : goal.returns-in-Some-clause-fed
returns-in-Some-clause-fed c =
    pass_seeking c.seek.result (passing c.args.self.now c.args.found.now) (passing c.seek.new.self c.seek.new.found) c.args.span
    (examining c.examine.new.examination c.examine.new.found) c.take-examined.result
    c.in_ok-examined.field-0 c.in-Some.examined c.take-examined.ensures.value c.in-Some.is c.requires.next c.in_ok-examined.ensures.monday
    c.in_ok-examined.ensures.taken c.seek.ensures.fed

pub returns-in-None-clause-fed : goal.returns-in-None-clause-fed
returns-in-None-clause-fed c =
    pass_examining (passing c.args.self.now c.args.found.now) _ c.args.span c.take-examined.result c.in_ok-examined.field-0 c.take-examined.ensures.value c.in-None.is
    c.take-examined.ensures.after refl refl c.requires.next c.in_ok-examined.ensures.monday c.in_ok-examined.ensures.taken
