use Rattle.std.proofs.Common.{◌+◌, ◌*◌, ◌∙◌, ap}
use Rattle.tacho_sheet.specs.Reports.{breaches_within}
use Rattle.tacho_sheet.proofs.ChartLemmas.{day_breaches, gaps_unseen, same_group}
use Rattle.tacho_sheet.proofs.TextLemmas.{on_done}
use Rattle.tacho_sheet.proofs.chart.push_day.Goals as goal

pub returns : goal.returns
returns c =
    on_done c.push_group.result c.push_group.ensures
    (λ written stretches start past seen found low high. (
      _,
      written,
      record {
        spans = c.in_ok-spans.spans.items;
        held = c.in_ok-spans.ensures;
        gaps = c.in_ok-gaps.gaps.items;
        unseen = gaps_unseen stretches c.args.seen.now _ _ _ seen c.in_ok-gaps.ensures;
        breaches = c.in_ok-found.found.items;
        marked =
            c.in_ok-found.ensures ∙ ap (λ b. breaches_within (1440 * c.args.day) (1440 * (c.args.day + 1)) b) found
            ∙ day_breaches start past (1440 * c.args.day) (1440 * (c.args.day + 1)) stretches low high;
        is =
            same_group c.args.day c.args.y _ _ _ _ _ _ _ _ c.deref.ensures.value c.deref-2.ensures.value c.deref-3.ensures.value
            c.in_ok-amounts.ensures.drive;
      },
    ))
