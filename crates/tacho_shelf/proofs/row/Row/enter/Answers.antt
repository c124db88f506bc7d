use Rattle.std.proofs.Common.{ℕ, ◌≡◌, ◌∙◌, ◌++◌, List, Some, length, ap, sym, subst, rules}
use Rattle.tacho_time.specs.declared.span.Span.{Span}
use Rattle.tacho_time.specs.Spans.{Gives, Conflicts}
use Rattle.tacho_line.specs.Line.{first_empty}
use Rattle.tacho_state.specs.Batch.{batch_of}
use Rattle.tacho_state.specs.Limits.{next_number}
use Rattle.tacho_state.specs.State.{Driver, Entry, entered_spans, held_spans}
use Rattle.tacho_shelf.specs.Shelf.{AreKept}
use Rattle.tacho_shelf.proofs.KeptLemmas.{kept_batch, none_empty_line, room_left}
use Rattle.tacho_shelf.proofs.row.Row.enter.Goals as goal

pub check-requires : goal.check-requires
check-requires c =
    let all : c.deref-2.result.now ≡ entered_spans (batch_of c.args.lines.now) = search rules in
    ap first_empty all ∙ none_empty_line c.args.lines.now c.requires

pub invariant_of-self-2 : goal.invariant_of-self-2
invariant_of-self-2 c =
    let d = c.args.self.now in
    let batch = c.in_ok-batch.batch.items in
    let all : c.deref-2.result.now ≡ entered_spans batch = search rules in
    let kept = subst (λ (x : Driver). AreKept x.downloads x.entries) c.self.view_is c.self.invariant in
    let numbers : next_number (length d.entries) (length batch) ≡ Some c.in-Some.first = search rules in
    let agreed = subst (λ (xs : List Span). (m : ℕ) → ¬ (Conflicts (Gives (held_spans d ++ xs)) m)) all c.in_ok-check.ensures.agreed in
    let more = kept_batch batch d kept (room_left (length d.entries) (length batch) c.in-Some.first numbers) agreed in
    subst (λ (es : List Entry). AreKept c.self.inside.downloads.items es) (sym c.in_ok-append.ensures.items)
    (subst (λ (x : Driver). AreKept x.downloads (x.entries ++ batch)) (sym c.self.view_is) more)
