use Rattle.std.proofs.Common.{nat_le, subst, sym}
use Rattle.tacho_time.specs.Spans.{IsCanonical}
use Rattle.tacho_line.proofs.SearchLemmas.{rest_canonical}
use Rattle.tacho_line.proofs.search.overlap.Goals as goal

pub before-requires : goal.before-requires
before-requires c = subst IsCanonical (sym c.behind.ensures) (rest_canonical (λ s. nat_le s.past c.args.start) c.args.spans.now c.requires)
