use Rattle.std.proofs.Common.{◌∙◌, List, sym, ap}
use Rattle.std.specs.List.{flat_map}
use Rattle.tacho_time.specs.Text.{span_line}
use Rattle.tacho_time.specs.declared.span.Span.{Span}
use Rattle.tacho_cli.proofs.CommandLemmas.{lines_listed}
use Rattle.tacho_cli.proofs.commands.card_text.Goals as goal

pub returns : goal.returns
returns c =
    lines_listed c.args.part c.args.bytes.now _ c.in_ok-spans.spans.items
    c.in_ok-span_lines.field-0.items (sym c.in_ok-file.ensures) c.in_ok-spans.ensures
    (c.in_ok-span_lines.ensures ∙ ap (λ (spans : List Span). flat_map span_line spans) c.deref.ensures.value)
