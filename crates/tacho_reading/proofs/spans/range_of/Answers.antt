use Rattle.std.proofs.Common.{sym, ap, ◌∙◌}
use Rattle.std.specs.Option.{option_copied}
use Rattle.tacho_reading.proofs.ExtentLemmas.{in_range}
use Rattle.tacho_reading.proofs.spans.range_of.Goals as goal

pub returns-in-Some-Some : goal.returns-in-Some-Some
returns-in-Some-Some c m k g =
    let within = in_range c.args.spans.now c.in-Some-Some.first.now c.in-Some-Some.last.now c.requires
    (sym c.first.ensures.value ∙ ap option_copied c.in-Some-Some.is-0)
    (sym c.last.ensures.value ∙ ap option_copied c.in-Some-Some.is-1) m k g in
    (rw c.number.ensures.value within.0, rw c.number-in-Some-Some.ensures.value within.1)
