use Rattle.std.proofs.Common.{◌<◌, ℕ, ap, arith, rules, subst}
use Rattle.tacho_line.specs.declared.horizon.Horizon.{Horizon}
use Rattle.tacho_rules.proofs.ReportLemmas.{one_horizon}
use Rattle.tacho_ahead.specs.Plans.{rested}
use Rattle.tacho_ahead.specs.Ended.{AreParts}
use Rattle.tacho_ahead.proofs.EndedLemmas.{parts_alone, parts_and_rest}
use Rattle.tacho_ahead.proofs.outlook.rested_spans.Goals as goal
use Rattle.tacho_ahead.proofs.outlook.rested_spans.Goals.{then-lt+in_ok-push, else-lt}

pub returns : goal.returns
returns c =
    let line = c.args.line.now in
    let base : ℕ = c.args.monday in
    let start : ℕ = c.args.start in
    let h = c.args.horizon in
    let slice = c.in_ok-spans.spans.items in
    let same = ap (λ (x : Horizon). x.minute) (one_horizon line base h c.requires.ended.horizon c.requires.is c.requires.ended.is) in
    let early = c.requires.ended.early in
    elim c.if-lt.branch [
      | then-lt+in_ok-push w ↦
          subst (AreParts (rested line h.minute start) base start) (search rules)
          (parts_and_rest line base start h c.requires.is slice c.in_ok-spans.ensures c.requires.monday (search rules) c.requires.within
          (search rules) (λ m l. c.requires.ended.none m (omega (arith, same, l))))
      | else-lt w ↦
          let not : ¬ (h.minute < start) = search rules in
          subst (AreParts (rested line h.minute start) base start) (search rules)
          (parts_alone line base start h c.requires.is slice c.in_ok-spans.ensures c.requires.monday (search rules) c.requires.within
          (omega (arith, not, same, early)))
    ]
