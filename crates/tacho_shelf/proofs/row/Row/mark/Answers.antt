use Rattle.std.proofs.Common.{◌-◌, ◌∙◌, ap, sym, subst, rules}
use Rattle.std.proofs.lemmas.Option.{slice_get_within}
use Rattle.tacho_state.specs.State.{Driver}
use Rattle.tacho_state.specs.Steps.{withdraw_own}
use Rattle.tacho_shelf.specs.Shelf.{IsEntered}
use Rattle.tacho_shelf.proofs.KeptLemmas.{kept_left, marked_there, place_of_number}
use Rattle.tacho_shelf.proofs.RangeLemmas.{is_done}
use Rattle.tacho_shelf.proofs.row.Row.mark.Goals as goal

pub overflow_sub-place : goal.overflow_sub-place
overflow_sub-place c = (place_of_number c.args.number c.args.self.now.entries c.requires.0 c.requires.1).0

pub index_mut-requires : goal.index_mut-requires
index_mut-requires c =
    let at = (place_of_number c.args.number c.args.self.now.entries c.requires.0 c.requires.1).1 in
    let within = slice_get_within c.args.self.now.entries (c.args.number - 1) c.requires.0 at in
    search rules

pub invariant_of-self : goal.invariant_of-self
invariant_of-self c =
    let entries = c.self.inside.entries.items in
    let there = subst (λ (d : Driver). IsEntered d.entries c.args.number) (sym c.self.view_is) c.requires in
    kept_left c.self.inside.downloads.items entries c.args.number c.index_mut.result.now c.withdraw.new.self c.self.invariant
    (marked_there c.args.number entries c.index_mut.result.now c.withdraw.new.self there c.index_mut.ensures.value c.withdraw.ensures)

pub returns : goal.returns
returns c =
    let there = subst (λ (d : Driver). IsEntered d.entries c.args.number) (sym c.self.view_is) c.requires in
    ap (withdraw_own c.args.number) (sym c.self.view_is)
    ∙ is_done _ c.args.number _ there (marked_there c.args.number c.self.inside.entries.items c.index_mut.result.now c.withdraw.new.self
    there c.index_mut.ensures.value c.withdraw.ensures)
