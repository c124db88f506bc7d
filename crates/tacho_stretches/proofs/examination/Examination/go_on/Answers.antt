use Rattle.std.proofs.Common.{refl}
use Rattle.tacho_time.specs.declared.span.Span.{Span}
use Rattle.tacho_stretches.specs.Pass.{examining}
use Rattle.tacho_stretches.proofs.PassLemmas.{gone_on}
use Rattle.tacho_stretches.proofs.examination.Examination.go_on.Goals as goal

pub returns-clause-taken : goal.returns-clause-taken
returns-clause-taken c = λ spans is ended from single.
    (let s = c.args.span.now in
    let rest : Span = record { start = c.args.self.now.minute; past = s.past; mark = s.mark } in
    gone_on (examining c.args.self.now c.args.found.now) _ spans s rest is ended from c.requires.rest single refl refl refl refl refl c.in_ok-feed.ensures.fed)
