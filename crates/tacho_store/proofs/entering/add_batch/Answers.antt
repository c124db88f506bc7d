use Rattle.std.proofs.Common.{rules, ◌≡◌, ◌∙◌, Err, ◌+◌, ◌≤◌, ◌<◌, map, refl, sym, ap, subst, arith}
use Rattle.sqlite.specs.Held.{state}
use Rattle.tacho_tables.specs.Tables.{row_of}
use Rattle.tacho_state.specs.declared.fault.StoreFault.TheVariants.{Full}
use Rattle.tacho_state.specs.Steps.{most_records}
use Rattle.tacho_reading.specs.Standing.{span_row}
use Rattle.tacho_reading.proofs.LookUpLemmas.{handed_on, is_told}
use Rattle.tacho_reading.proofs.MappedLemmas.{was_ok}
use Rattle.tacho_store.proofs.StepsLemmas.{given_by}
use Rattle.tacho_store.proofs.EnteringLemmas.{numbers_left, no_numbers, too_many, batch_answer, batch_written}
use Rattle.tacho_store.proofs.RefusalLemmas.{refused_no_file, was_none, was_some}
use Rattle.tacho_store.proofs.entering.add_batch.Goals as goal

pub returns-in_err-first-clause-steps : goal.returns-in_err-first-clause-steps
returns-in_err-first-clause-steps g c =
    let none = was_none _ Full _ c.in_err-first.ensures in record {
      stays = search rules;
      keeps = search rules;
      of_no_file = refused_no_file Full _ c.from_residual.result none.1 tt c.from_residual.ensures;
      answer = λ clean schema s stands d all. handed_on _ _ c.from_residual.result _ (is_told _ _
          (too_many _ s c.args.driver d c.args.lines.now c.args.gains.now all.1 c.args.given all.0
          (no_numbers c.args.given _ none.0) ∙ ap Err none.1)) c.from_residual.ensures;
      made = search rules;
      others = search rules;
    }

pub write_batch-requires : goal.write_batch-requires
write_batch-requires g c =
    let room = numbers_left c.args.given _ c.in_ok-first.first (was_some _ _ _ c.in_ok-first.ensures) in
    let most_of = room.0 in
    let first = room.1 in
    omega (arith, most_of, first)

pub returns-clause-steps : goal.returns-clause-steps
returns-clause-steps g c = given_by (search rules) (search rules) (search rules)
    (λ clean schema s stands d all.
    let room = numbers_left c.args.given _ c.in_ok-first.first (was_some _ _ _ c.in_ok-first.ensures) in
    batch_answer _ s c.args.driver d c.args.lines.now c.args.gains.now all.1 c.args.given all.0
    c.in_ok-first.first room.0 room.1)
    (λ clean schema s stands d all.
    let n = c.args.driver in
    let room = numbers_left c.args.given _ c.in_ok-first.first (was_some _ _ _ c.in_ok-first.ensures) in
    let wrote = was_ok c.write_batch.result c.in_ok-map_err.field-0 _ c.in_ok-map_err.ensures.cases
    (c.write_batch.ensures.turned clean schema) in (
      wrote.schema,
      batch_written (state g.S.Store c.args.tx.now.conn.now).now.trees s n d c.args.lines.now c.args.gains.now all.1 c.args.given all.0
          c.in_ok-first.first _ c.deref.result.now
          (state g.S.Store c.write_batch.new.tx.conn.now).now.trees
          room.0 room.1
          refl
          (subst (λ x. map (row_of n) x ≡ map (span_row n) c.args.gains.now) (sym c.deref.ensures.value)
          (c.in_ok-helds.ensures n))
          wrote.stands,
    ))
