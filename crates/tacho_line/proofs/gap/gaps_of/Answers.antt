use Rattle.std.proofs.Common.{◌≡◌, ap, ◌∙◌}
use Rattle.std.proofs.lemmas.Result.{IfOk-weaker}
use Rattle.tacho_line.specs.Line.{AreGaps}
use Rattle.tacho_line.specs.Walk.{gaps_from}
use Rattle.tacho_line.proofs.RangeLemmas.{gaps_are}
use Rattle.tacho_line.proofs.gap.gaps_of.Goals as goal

pub returns : goal.returns
returns c =
    let spans = c.args.spans.now in
    let start = c.args.start in
    let past = c.args.past in
    IfOk-weaker c.gaps_between.result (λ gaps. gaps.items ≡ gaps_from start past c.overlap.result.now) (λ gaps. AreGaps spans start past gaps.items)
    (λ gaps e. gaps_are spans start past gaps.items c.requires (e ∙ ap (gaps_from start past) c.overlap.ensures)) c.gaps_between.ensures
