use Rattle.std.proofs.Common.{◌≡◌, ◌++◌, codes, decimal, string_bytes}
use Rattle.tacho_law.specs.declared.breach.Kind.TheVariants.{B1}
use Rattle.tacho_sheet.specs.Months.{kinds}
use Rattle.tacho_sheet.proofs.MonthLemmas.{counts_more}
use Rattle.tacho_sheet.proofs.months.push_counts.Goals as goal

pub loop-kind-preserved : goal.loop-kind-preserved
loop-kind-preserved c =
    let pushed : string_bytes c.write.new.self ≡ string_bytes c.loop-kind.text ++ (codes "," ++ decimal c.count_of-count.result) =
    c.in_ok-write.ensures.bytes in
    counts_more c.args.breaches.now kinds c.loop-kind.kind-index B1 c.count_of-count.result (string_bytes c.args.text.now)
    (string_bytes c.loop-kind.text) _ c.loop-kind-test.true c.count_of-count.ensures c.loop-kind.invariant pushed
