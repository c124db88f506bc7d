use Rattle.std.proofs.Common.{pos, ◌∷◌, ◌++◌, map, flat_map, refl, subst, sym}
use Rattle.sqlite.specs.declared.types.Value.TheVariants.{Int}
use Rattle.sqlite.specs.Held.{state}
use Rattle.tacho_tables.specs.Tables.{Turns, new_entry_row}
use Rattle.tacho_tables.proofs.CallLemmas.{changes}
use Rattle.tacho_tables.proofs.EntryLemmas.{entry_table, entry_values, no_entry}
use Rattle.tacho_tables.proofs.Firsts.{some_from, by_places}
use Rattle.tacho_tables.proofs.Statements.{four_entries, four_entries_text, four_entries_are}
use Rattle.tacho_tables.proofs.TableLemmas.{adds_rows}
use Rattle.tacho_tables.proofs.entries.insert_four.Goals as goal

pub returns : goal.returns
returns g c =
    let old = state g.S.Store c.args.tx.now.conn.now in
    let new = state g.S.Store c.run.new.tx.conn.now in
    let driver = c.args.driver in
    let entries = some_from no_entry 4 0 c.args.entries.now in
    changes
    (rw (c.params-to_sql-14.ensures, c.params-to_sql-15.ensures, c.params-to_sql-16.ensures, c.params-to_sql-17.ensures, c.params-to_sql-18.ensures, c.params-to_sql-19.ensures, c.params-to_sql-20.ensures, c.params-to_sql-21.ensures, c.params-to_sql-22.ensures, c.params-to_sql-23.ensures, c.params-to_sql-24.ensures, c.params-to_sql-25.ensures) at
    (rw (c.params-to_sql.ensures, c.params-to_sql-2.ensures, c.params-to_sql-3.ensures, c.params-to_sql-4.ensures, c.params-to_sql-5.ensures, c.params-to_sql-6.ensures, c.params-to_sql-7.ensures, c.params-to_sql-8.ensures, c.params-to_sql-9.ensures, c.params-to_sql-10.ensures, c.params-to_sql-11.ensures, c.params-to_sql-12.ensures, c.params-to_sql-13.ensures) at
    c.run.ensures))
    (λ is count ran. subst (λ l. Turns old new (λ a. record a { entries = map (new_entry_row driver) l ++ a.entries }))
    (sym (by_places no_entry 4 c.args.entries.now c.told-entries))
    (adds_rows entry_table four_entries_text four_entries 9 (Int (pos driver) ∷ flat_map entry_values entries)
    (map (new_entry_row driver) entries) _ _ count is four_entries_are refl ran))
