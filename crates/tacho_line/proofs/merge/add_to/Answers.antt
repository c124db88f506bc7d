use Rattle.std.proofs.Common.{◌≡◌, List, [], ◌++◌, take, drop, subst, sym, ap, ap₂, ◌∙◌}
use Rattle.std.specs.Option.{option_copied}
use Rattle.tacho_time.specs.declared.span.Span.{Span}
use Rattle.tacho_time.specs.Spans.{IsCanonical, IsCanonicalOf, SamePairs}
use Rattle.tacho_line.specs.Line.{Holds, Together}
use Rattle.tacho_line.specs.Join.{ShareNone, EitherGives, ending_before, ending_from, starting_after}
use Rattle.tacho_line.proofs.AddLemmas.{part_is, held_same, spans_added, vec_items_yielded, part_apart, part_canonical, none_added, no_first_get}
use Rattle.tacho_line.proofs.merge.add_to.Goals as goal

pub returns-in_default-2-clause-held : goal.returns-in_default-2-clause-held
returns-in_default-2-clause-held c =
    let none : c.args.spans.now ≡ [] = no_first_get c.args.spans.now (sym c.first.ensures.value ∙ ap option_copied c.in_default.is-0) in
    subst (λ (x : List Span). SamePairs (Holds c.args.line.now.items) (Together c.args.line.now.items x)) (sym none) (held_same c.args.line.now.items [] c.args.line.now.items (none_added c.args.line.now.items c.requires.line))

pub merge-requires-clause-held : goal.merge-requires-clause-held
merge-requires-clause-held c =
    let first = c.in-Some-Some.first.now in
    let last = c.in-Some-Some.last.now in
    let middle = part_is c.args.line.now.items c.deref.result.now c.deref-2.result.now c.places_around-start.result.0 c.places_around-start.result.1 first.start last.past c.deref.ensures.value c.deref-2.ensures.value c.places_around-start.ensures.middle in
    subst IsCanonical (sym middle) (part_canonical c.args.line.now.items first.start last.past c.requires.line)

pub merge-requires-clause-apart : goal.merge-requires-clause-apart
merge-requires-clause-apart c =
    let first = c.in-Some-Some.first.now in
    let last = c.in-Some-Some.last.now in
    let middle = part_is c.args.line.now.items c.deref.result.now c.deref-2.result.now c.places_around-start.result.0 c.places_around-start.result.1 first.start last.past c.deref.ensures.value c.deref-2.ensures.value c.places_around-start.ensures.middle in
    subst (λ (x : List Span). ShareNone x c.args.spans.now) (sym middle) (part_apart c.args.line.now.items c.args.spans.now first.start last.past c.requires.line c.requires.new)

pub returns : goal.returns
returns c =
    let line = c.args.line.now.items in
    let spans = c.args.spans.now in
    let first = c.in-Some-Some.first.now in
    let last = c.in-Some-Some.last.now in
    let i = c.places_around-start.result.0 in
    let j = c.places_around-start.result.1 in
    let merged = c.in_ok-merged.merged.items in
    let d = c.in_ok-splice.ensures.items in
    let items : d.1 ≡ merged = vec_items_yielded merged d.1 d.0 d.3.1.0 d.3.0 d.2.0 (d.2.1 ∙ c.in_ok-merged.merged.ok.0) d.3.1.1 d.3.1.2 in
    let front = subst (λ (x : List Span). take i x ≡ ending_before first.start x) c.deref.ensures.value c.places_around-start.ensures.front in
    let back = subst (λ (x : List Span). drop j x ≡ starting_after last.past (ending_from first.start x)) c.deref.ensures.value c.places_around-start.ensures.back in
    let middle = part_is line c.deref.result.now c.deref-2.result.now i j first.start last.past c.deref.ensures.value c.deref-2.ensures.value c.places_around-start.ensures.middle in
    let run = subst (λ (x : List Span). IsCanonicalOf (EitherGives x spans) merged) middle c.in_ok-merged.ensures in
    let added : IsCanonicalOf (Together line spans) c.splice.new.self.items = spans_added line spans merged c.splice.new.self.items first last c.requires.line c.requires.canonical
    (sym c.first.ensures.value ∙ ap option_copied c.in-Some-Some.is-0) (sym c.last.ensures.value ∙ ap option_copied c.in-Some-Some.is-1)
    run (d.4 ∙ ap (λ x. take i line ++ (x ++ drop j line)) items ∙ ap₂ (λ x y. x ++ (merged ++ y)) front back) in
    record { held = held_same line spans c.splice.new.self.items added; canonical = added.canonical; err = tt }
