use Rattle.std.proofs.Common.{◌≡◌, ◌∙◌, Result, Ok, Err, Some, inr, ap, sym, subst, rules}
use Rattle.std.proofs.lemmas.Option.{slice_get_within}
use Rattle.tacho_state.specs.declared.fault.StoreFault.{StoreFault}
use Rattle.tacho_state.specs.declared.imported.Imported.{Imported}
use Rattle.tacho_state.specs.State.{Driver}
use Rattle.tacho_state.specs.Numbers.{part_number}
use Rattle.tacho_state.specs.Steps.{Content, import_own, import_step, refusal_turn, turn_of, Own}
use Rattle.tacho_state.specs.Acts.{caller_number}
use Rattle.tacho_shelf.proofs.CallLemmas.{ShelfActs, acts_at, by_content, gave_up, has_no_fault, import_unread, read_there, still_numbered, unreadable}
use Rattle.tacho_shelf.proofs.shelf.ShelfKeeper.import.Goals as goal

pub returns-in_err-content-clause-unreadable : goal.returns-in_err-content-clause-unreadable
returns-in_err-content-clause-unreadable c =
    let told : c.from_residual.result ≡ Err c.in_err-content.field-0.0 = search rules in
    unreadable c.args.part c.args.file.now c.args.self.now c.in_err-content.field-0.0 c.from_residual.result told
    c.in_err-content.ensures.told

pub returns-in_err-content-clause-imported : goal.returns-in_err-content-clause-imported
returns-in_err-content-clause-imported c = λ content tells.
    let told : c.from_residual.result ≡ Err c.in_err-content.field-0.0 = search rules in
    let step = import_step (caller_number c.args.caller) (part_number c.args.part) c.args.file.now content in
    subst (λ (r : Result Imported StoreFault). ShelfActs (λ (done : Imported). done) c.args.self.now c.args.self.now r step) (sym told)
    (gave_up (λ (done : Imported). done) c.args.self.now c.in_err-content.field-0.0 step
    (import_unread (caller_number c.args.caller) c.args.part c.args.file.now c.args.self.now c.in_err-content.field-0.0 content
    c.in_err-content.ensures.told tells))

pub returns-in_err-place-clause-unreadable : goal.returns-in_err-place-clause-unreadable
returns-in_err-place-clause-unreadable c = λ card tells.
    absurd (has_no_fault c.args.part c.args.file.now _ c.in_ok-content.ensures.told card tells)

pub returns-in_err-place-clause-imported : goal.returns-in_err-place-clause-imported
returns-in_err-place-clause-imported c = λ content tells.
    let told : c.from_residual-in_err-place.result ≡ Err c.in_err-place.field-0.0 = search rules in
    let fault = c.in_err-place.field-0.0 in
    let read : Content = record { holder = c.in_ok-content.content.holder; spans = c.in_ok-content.content.spans.items } in
    let step = import_step (caller_number c.args.caller) (part_number c.args.part) c.args.file.now content in
    subst (λ (r : Result Imported StoreFault). ShelfActs (λ (done : Imported). done) c.args.self.now c.args.self.now r step) (sym told)
    (gave_up (λ (done : Imported). done) c.args.self.now fault step
    (inr (by_content (caller_number c.args.caller) c.args.part c.args.file.now c.args.self.now (Ok read) content
    (refusal_turn fault c.args.self.now) c.in_ok-content.ensures.told tells
    (c.in_err-place.ensures.told (part_number c.args.part) c.args.file.now read.spans))))

pub index_mut-requires : goal.index_mut-requires
index_mut-requires c =
    let owner = c.in_ok-place.ensures.told in
    let within = slice_get_within c.args.self.now c.in_ok-place.place owner.0 owner.1 in
    search rules

pub invariant_of-self : goal.invariant_of-self
invariant_of-self c =
    let owner = c.in_ok-place.ensures.told in
    let x = c.index_mut.result.now in
    let same = read_there c.in_ok-place.place _ c.args.self.now owner.0 x c.self.view_is owner.1 c.index_mut.ensures.value in
    still_numbered _ c.args.self.now c.in_ok-place.place x c.import.new.self c.self.view_is c.self.invariant (owner.1 ∙ ap Some same)
    c.import.ensures.step.number

pub returns-clause-unreadable : goal.returns-clause-unreadable
returns-clause-unreadable c = λ card tells.
    absurd (has_no_fault c.args.part c.args.file.now _ c.in_ok-content.ensures.told card tells)

pub returns-clause-imported : goal.returns-clause-imported
returns-clause-imported c = λ content tells.
    let owner = c.in_ok-place.ensures.told in
    let s = c.args.self.now in
    let x = c.index_mut.result.now in
    let read : Content = record { holder = c.in_ok-content.content.holder; spans = c.in_ok-content.content.spans.items } in
    let same = read_there c.in_ok-place.place _ s owner.0 x c.self.view_is owner.1 c.index_mut.ensures.value in
    let own : Own Imported = import_own (part_number c.args.part) c.args.file.now read.spans in
    let turn = by_content (caller_number c.args.caller) c.args.part c.args.file.now s (Ok read) content (turn_of s (own x))
    c.in_ok-content.ensures.told tells (owner.2 (part_number c.args.part) c.args.file.now read.spans
    ∙ ap (λ (d : Driver). turn_of s (own d)) same) in
    acts_at (λ (done : Imported). done) own (import_step (caller_number c.args.caller) (part_number c.args.part) c.args.file.now content)
    _ s c.in_ok-place.place x c.import.new.self c.import.result c.self.view_is c.self.invariant (owner.1 ∙ ap Some same) turn
    c.import.ensures.step
