use Rattle.std.proofs.Common.{ℕ, ◌≡◌, ◌++◌, ◌∷◌, [], List, Some, length, sym, subst, rules}
use Rattle.tacho_time.specs.declared.span.Span.{Span}
use Rattle.tacho_time.specs.Spans.{Gives, IsCanonical, Conflicts}
use Rattle.tacho_state.specs.Limits.{next_number}
use Rattle.tacho_state.specs.State.{Download, Driver, held_spans}
use Rattle.tacho_state.specs.Numbers.{part_number}
use Rattle.tacho_shelf.specs.Shelf.{AreKept}
use Rattle.tacho_shelf.proofs.KeptLemmas.{kept_download, room_left}
use Rattle.tacho_shelf.proofs.GainLemmas.{none_empty}
use Rattle.tacho_shelf.proofs.row.Row.import.Goals as goal

pub has_given-requires : goal.has_given-requires
has_given-requires c = none_empty c.deref.result.now (subst IsCanonical (sym c.deref.ensures.value) c.requires)

pub check-requires : goal.check-requires
check-requires c = none_empty c.deref-2.result.now (subst IsCanonical (sym c.deref-2.ensures.value) c.requires)

pub invariant_of-self-2 : goal.invariant_of-self-2
invariant_of-self-2 c =
    let d = c.args.self.now in
    let added : Download = record { part = part_number c.args.part; file = c.in_ok-file.file.items; spans = c.args.spans.items } in
    let kept = subst (λ (x : Driver). AreKept x.downloads x.entries) c.self.view_is c.self.invariant in
    let number : next_number (length d.downloads) 1 ≡ Some c.in-Some.number = search rules in
    let agreed = subst (λ (xs : List Span). (m : ℕ) → ¬ (Conflicts (Gives (held_spans d ++ xs)) m)) c.deref-2.ensures.value
    c.in_ok-check.ensures.agreed in
    let more = kept_download d added.part added.file added.spans kept (room_left (length d.downloads) 1 c.in-Some.number number) agreed in
    subst (λ (ds : List Download). AreKept ds c.self.inside.entries.items) (sym c.in_ok-push.ensures.items)
    (subst (λ (x : Driver). AreKept (x.downloads ++ added ∷ []) x.entries) (sym c.self.view_is) more)
