use Rattle.std.proofs.lemmas.Result.{on_ok_weaker}
use Rattle.sqlite.specs.Held.{state}
use Rattle.tacho_tables.specs.Schema.{old_schema}
use Rattle.tacho_tables.proofs.CarryLemmas.{clears, sets_version, carries}
use Rattle.tacho_tables.proofs.Texts.{carries_entry_rows}
use Rattle.tacho_tables.proofs.making.carry.Goals as goal

pub returns-clause-carried : goal.returns-clause-carried
returns-clause-carried g c clean schema =
    let first = state g.S.Store c.args.tx.now.conn.now in
    let made = state g.S.Store c.make_entry_rows.new.tx.conn.now in
    let copied = state g.S.Store c.copy_entries.new.tx.conn.now in
    let cleared = state g.S.Store c.run.new.tx.conn.now in
    let last = state g.S.Store c.run-2.new.tx.conn.now in
    let clean_3 = c.run-2.ensures.stays.clean clean in
    let clean_2 = c.run.ensures.stays.clean clean_3 in
    let clean_1 = c.copy_entries.ensures.stays.clean clean_2 in
    let one = c.in_ok-make_entry_rows.ensures.made clean_1 old_schema schema carries_entry_rows in
    let two = c.in_ok-copy_entries.ensures.copied clean_2 one.after in
    let clear = c.in_ok-run.ensures.ran clean_3 in
    let three = clears copied cleared clear.0 two.schema clear.1 in
    on_ok_weaker c.run-2.result
    (λ ran. carries first made copied cleared last one two three (sets_version cleared last ran.0 three.0.schema ran.1))
    (rw c.params-to_sql.ensures at (c.run-2.ensures.ran clean))
