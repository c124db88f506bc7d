use Rattle.std.proofs.Common.{rules, ◌≡◌, ℕ, ◌+◌, ◌<◌, ◌++◌, List, [], ◌∷◌, length, take, get_or, flat_map, append-nil, sym, ap, ◌∙◌}
use Rattle.std.proofs.lemmas.Grind.{flat_map-append}
use Rattle.std.proofs.lemmas.List.{take_more}
use Rattle.tacho_time.specs.declared.span.Span.{Span}
use Rattle.tacho_time.specs.Text.{span_line}
use Rattle.tacho_time.proofs.lines.span_lines.Goals as goal

pub loop-span-preserved : goal.loop-span-preserved
loop-span-preserved c =
    let xs : List Span = c.args.spans.now in
    let i : ℕ = c.loop-span.span-index in
    let span : Span = c.span-item.result in
    let within : i < length xs = search rules in
    let same : span ≡ get_or xs i span = c.span-item.is in
    let before : List ℕ = flat_map span_line (take i xs) in
    let more : flat_map span_line (take (i + 1) xs) ≡ before ++ span_line span =
    ap (flat_map span_line) (take_more xs i span within)
    ∙ flat_map-append span_line (take i xs) (get_or xs i span ∷ [])
    ∙ ap (λ (t : List ℕ). before ++ t) (append-nil (span_line (get_or xs i span)))
    ∙ ap (λ (s : Span). before ++ span_line s) (sym same) in
    c.in_ok-push_line.ensures ∙ ap (λ (t : List ℕ). t ++ span_line span) c.loop-span.invariant ∙ sym more
