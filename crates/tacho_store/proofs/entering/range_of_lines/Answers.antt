use Rattle.std.proofs.Common.{sym, ap, ◌∙◌}
use Rattle.std.specs.Option.{option_copied}
use Rattle.tacho_store.proofs.EnteringLemmas.{lines_in_range}
use Rattle.tacho_store.proofs.entering.range_of_lines.Goals as goal

pub returns-in-Some-Some : goal.returns-in-Some-Some
returns-in-Some-Some c m k g =
    let within = lines_in_range c.args.lines.now c.in-Some-Some.first.now c.in-Some-Some.last.now c.requires
    (sym c.first.ensures.value ∙ ap option_copied c.in-Some-Some.is-0)
    (sym c.last.ensures.value ∙ ap option_copied c.in-Some-Some.is-1) m k g in
    (rw (c.number.ensures.value, c.start.ensures) within.0, rw (c.number-in-Some-Some.ensures.value, c.past.ensures) within.1)
