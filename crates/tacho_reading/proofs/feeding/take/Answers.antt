use Rattle.std.proofs.Common.{rules, ◌≡◌, ◌∙◌, ap, arith}
use Rattle.tacho_time.specs.declared.span.Span.{Span}
use Rattle.tacho_reading.specs.Standing.{stored_span}
use Rattle.tacho_reading.specs.Taken.{cut}
use Rattle.tacho_reading.proofs.TakenLemmas.{taken_after, taken_one}
use Rattle.tacho_reading.proofs.feeding.take.Goals as goal

pub returns-then-row-number-clause-step : goal.returns-then-row-number-clause-step
returns-then-row-number-clause-step c =
    taken_after c.args.base c.args.minute (stored_span c.args.row.now) c.args.scan.now c.args.found.now c.requires.at
    c.requires.in_range (search rules)

pub returns-clause-step : goal.returns-clause-step
returns-clause-step c =
    let s : Span = stored_span c.args.row.now in
    let is : c.cut-start.result ≡ cut c.args.base s = c.cut-start.ensures ∙ ap (cut c.args.base) c.in-Some.ensures.some in
    let some = c.if-row.false in
    let late = c.if-row-gt-LATEST.false in
    let behind = c.if-row-number.false in
    let base = c.number-3.ensures.value in
    let below = c.if-number.false in
    let above = c.if-number-2.false in
    let one = c.number.ensures.value in
    let two = c.number-2.ensures.value in
    let three = c.number-4.ensures.value in
    let four = c.number-5.ensures.value in
    taken_one c.args.base c.args.minute s c.cut-start.result c.args.scan.now c.args.found.now c.feed.new.self
    c.feed.new.found is (omega (arith, some)) (omega (arith, behind, base)) (omega (arith, late))
    (omega (arith, below, above, one, two, three, four)) c.if-mark.false c.feed.ensures.at c.feed.ensures.appends
    c.in_ok-feed.ensures.fed
