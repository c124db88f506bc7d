use Rattle.std.proofs.Common.{rules, ◌≡◌, ◌∙◌, Err, ap, map, sym, subst}
use Rattle.sqlite.specs.Held.{state}
use Rattle.tacho_state.specs.declared.fault.StoreFault.TheVariants.{Full}
use Rattle.tacho_state.specs.Numbers.{part_number}
use Rattle.tacho_tables.specs.Tables.{Turns, row_of}
use Rattle.tacho_reading.specs.Standing.{Follows, span_row}
use Rattle.tacho_reading.proofs.LookUpLemmas.{handed_on, is_told}
use Rattle.tacho_reading.proofs.MappedLemmas.{was_ok}
use Rattle.tacho_store.specs.Importing.{tables_after_download}
use Rattle.tacho_store.proofs.StepsLemmas.{given_by}
use Rattle.tacho_store.proofs.AdditionLemmas.{full_answer, added_answer, added_after, count_is}
use Rattle.tacho_store.proofs.RefusalLemmas.{refused_no_file, was_none, was_some}
use Rattle.tacho_store.proofs.import.add_download.Goals as goal

pub returns-clause-steps : goal.returns-clause-steps
returns-clause-steps g c = given_by (search rules) (search rules) (search rules)
    (λ clean schema s stands p given.
    added_answer _ s p.0 c.args.importer (part_number c.args.part) c.args.file.now p.1 _ _ given.0 given.1 c.in_ok-number.number
    (was_some _ _ _ c.in_ok-number.ensures))
    (λ clean schema s stands p given.
    let some = was_some _ _ _ c.in_ok-number.ensures in
    let d = p.0 in
    let spans = p.1 in
    let is = given.0 in
    let new = given.1 in
    let n = c.args.importer.number in
    let part = part_number c.args.part in
    let file = c.args.file.now in
    let cards = c.args.news.now.card_spans.items in
    let helds = c.args.news.now.held.items in
    let old = state g.S.Store c.args.tx.now.conn.now in
    let after = state g.S.Store c.write_download.new.tx.conn.now in
    let card_rows : map (row_of n) c.deref-3.result.now ≡ map (span_row n) cards = rw c.deref-3.ensures.value
    (subst (λ x. map (row_of n) c.in_ok-cards.cards.items ≡ map (span_row n) x) c.deref.ensures.value (c.in_ok-cards.ensures n)) in
    let held_rows : map (row_of n) c.deref-4.result.now ≡ map (span_row n) helds = rw c.deref-4.ensures.value
    (subst (λ x. map (row_of n) c.in_ok-helds.helds.items ≡ map (span_row n) x) c.deref-2.ensures.value (c.in_ok-helds.ensures n)) in
    let wrote = was_ok c.write_download.result c.in_ok-map_err.field-0 _ c.in_ok-map_err.ensures.cases
    (rw (card_rows, held_rows) at (c.write_download.ensures.turned clean schema)) in
    let turned = subst (λ number. Turns old after (tables_after_download n number part file (map (span_row n) cards) (map (span_row n) helds)))
    (count_is _ s d c.args.importer part file spans cards helds is new c.in_ok-number.number some) (rw c.number_of_part.ensures at wrote) in (
      turned.schema,
      subst (Follows old.now.trees after.now.trees s)
          (sym (added_after _ s d c.args.importer part file spans cards helds is new c.in_ok-number.number some))
          (new.follows c.args.part file p.2 after.now.trees given.2 turned.stands),
    ))

pub returns-in_err-number-clause-steps : goal.returns-in_err-number-clause-steps
returns-in_err-number-clause-steps g c =
    let none = was_none _ Full _ c.in_err-number.ensures in record {
      stays = search rules;
      keeps = search rules;
      of_no_file = refused_no_file Full _ c.from_residual.result none.1 tt c.from_residual.ensures;
      answer = λ clean schema s stands p given. handed_on _ _ c.from_residual.result _ (is_told _ _
          (full_answer _ s p.0 c.args.importer (part_number c.args.part) c.args.file.now p.1 _ _ given.0 given.1 none.0 ∙ ap Err none.1))
          c.from_residual.ensures;
      made = search rules;
      others = search rules;
    }
