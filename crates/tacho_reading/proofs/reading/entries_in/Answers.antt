use Rattle.std.proofs.Common.{rules, ◌∙◌, refl, map, sym, ap, Ok}
use Rattle.std.specs.Ordering.{is_lt, nat_cmp}
use Rattle.std.proofs.lemmas.Result.{IfOk-weaker}
use Rattle.tacho_state.proofs.SummaryLemmas.{sorted_map}
use Rattle.tacho_tables.specs.declared.rows.StoredEntry.{StoredEntry}
use Rattle.tacho_tables.specs.Tables.{ListedEntry, told_entry}
use Rattle.tacho_reading.proofs.LookUpLemmas.{given_up}
use Rattle.tacho_reading.proofs.ListedLemmas.{entries_told}
use Rattle.tacho_reading.proofs.TellLemmas.{answers_handed, tells_as, tells_rows, tells_then, finds_more, unknown_answers}
use Rattle.tacho_reading.proofs.TimelineLemmas.{told_or_gave_up}
use Rattle.tacho_reading.proofs.reading.entries_in.Goals as goal

pub returns-in_err-driver_with : goal.returns-in_err-driver_with
returns-in_err-driver_with g c = unknown_answers _ _ _ c.in_err-driver_with.ensures c.from_residual.ensures

pub returns : goal.returns
returns g c = tells_as (tells_then c.in_ok-driver_with.ensures
    (tells_rows (finds_more c.of_driver.ensures.found c.of_driver.ensures.sorted) c.in_ok-rows.ensures.cases)) (search rules)
    (λ db s stands (it, read). told_or_gave_up _ c.listed_entries.result _
    (IfOk-weaker c.listed_entries.result _ _ (λ entries all.
    entries_told db _ s it.found.0 (map told_entry c.in_ok-rows.rows.items) stands it.found.1 (λ a stand. (read a stand).0)
    (λ a stand. sorted_map told_entry (λ (x y : ListedEntry). is_lt (nat_cmp x.number y.number))
    (λ (x y : StoredEntry). is_lt (nat_cmp x.number y.number)) c.in_ok-rows.rows.items (λ x y. refl) (read a stand).1)
    ∙ ap Ok (sym all)) c.listed_entries.ensures.entries) c.listed_entries.ensures.fault)

pub returns-in_err-rows : goal.returns-in_err-rows
returns-in_err-rows g c = answers_handed _ _ (tells_then c.in_ok-driver_with.ensures (tells_rows c.of_driver.ensures.found c.in_err-rows.ensures.cases))
    c.from_residual-in_err-rows.ensures (λ db s stands (it, up). given_up _ _ up)
