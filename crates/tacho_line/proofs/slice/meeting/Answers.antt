use Rattle.std.proofs.Common.{map, subst, sym, ap, arith, List}
use Rattle.std.proofs.lemmas.Grind.{common_steps}
use Rattle.tacho_time.specs.declared.span.Span.{Span}
use Rattle.tacho_time.specs.Spans.{IsCanonicalOf}
use Rattle.tacho_line.specs.Line.{HoldsWithin}
use Rattle.tacho_line.specs.Walk.{cut_to}
use Rattle.tacho_line.proofs.RangeLemmas.{slice_is}
use Rattle.tacho_line.proofs.slice.meeting.Goals as goal

pub returns : goal.returns
returns c =
    let spans = c.args.spans.now in
    let start = c.args.start in
    let past = c.args.past in
    subst (λ (x : List Span). IsCanonicalOf (HoldsWithin spans start past) x) (sym (ap (map (cut_to start past)) c.overlap.ensures))
    (slice_is spans start past c.requires (grind (arith, common_steps)))
