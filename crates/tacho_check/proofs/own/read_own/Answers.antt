use Rattle.std.proofs.Common.{rules, to_z-of_z}
use Rattle.sqlite.specs.Held.{state}
use Rattle.tacho_tables.specs.Ask.{own_in}
use Rattle.tacho_check.proofs.LearnLemmas.{both, learned, learned_none}
use Rattle.tacho_check.proofs.ShownLemmas.{each_table}
use Rattle.tacho_check.proofs.own.read_own.Goals as goal

pub returns-in_err-downloads : goal.returns-in_err-downloads
returns-in_err-downloads g c = learned_none _ _ (both c.in_ok-drivers.ensures c.in_err-downloads.ensures) (search rules)

pub returns-in_err-card_spans : goal.returns-in_err-card_spans
returns-in_err-card_spans g c =
    learned_none _ _ (both (both c.in_ok-drivers.ensures c.in_ok-downloads.ensures) c.in_err-card_spans.ensures) (search rules)

pub returns-in_err-entry_rows : goal.returns-in_err-entry_rows
returns-in_err-entry_rows g c =
    learned_none _ _ (both (both
    (both c.in_ok-drivers.ensures c.in_ok-downloads.ensures) c.in_ok-card_spans.ensures) c.in_err-entry_rows.ensures)
    (search rules)

pub returns-in_err-held : goal.returns-in_err-held
returns-in_err-held g c =
    learned_none _ _ (both (both (both (both c.in_ok-drivers.ensures c.in_ok-downloads.ensures) c.in_ok-card_spans.ensures)
    c.in_ok-entry_rows.ensures) c.in_err-held.ensures) (search rules)

pub returns : goal.returns
returns g c =
    learned _ _ (both (both (both (both c.in_ok-drivers.ensures c.in_ok-downloads.ensures) c.in_ok-card_spans.ensures)
    c.in_ok-entry_rows.ensures) c.in_ok-held.ensures)
    (λ is found ready.
    let drivers = rw (to_z-of_z c.ranges.driver) at found.0.0.0.0 ready in
    let downloads = rw (to_z-of_z c.ranges.driver) at found.0.0.0.1 ready in
    let card_spans = rw (to_z-of_z c.ranges.driver) at found.0.0.1 ready in
    let entry_rows = rw (to_z-of_z c.ranges.driver) at found.0.1 ready in
    let held = rw (to_z-of_z c.ranges.driver) at found.1 ready in
    each_table (own_in is.layout (state g.S.Store c.args.tx.now.conn.now).now.trees c.args.driver) (record {
      drivers = c.in_ok-drivers.drivers;
      downloads = c.in_ok-downloads.downloads;
      card_spans = c.in_ok-card_spans.card_spans;
      entry_rows = c.in_ok-entry_rows.entry_rows;
      held = c.in_ok-held.held;
    }) drivers downloads card_spans entry_rows held)
