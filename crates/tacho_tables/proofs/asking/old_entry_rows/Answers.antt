use Rattle.std.proofs.Common.{map, sym, subst}
use Rattle.sqlite.specs.Given.{IsPlain}
use Rattle.sqlite.specs.Held.{state}
use Rattle.sqlite.specs.Listing.{understood}
use Rattle.sqlite.specs.Schema.{Schema}
use Rattle.tacho_tables.specs.Schema.{old_entry_tree}
use Rattle.tacho_tables.specs.Ask.{AreFirst, old_entries_text, old_entry_shown}
use Rattle.tacho_tables.proofs.CallLemmas.{learns}
use Rattle.tacho_tables.proofs.CurrentAskLemmas.{old_entries_is, asked_old_entries}
use Rattle.tacho_tables.proofs.asking.old_entry_rows.Goals as goal

pub returns : goal.returns
returns g c =
    let old = state g.S.Store c.args.tx.now.conn.now in
    learns (λ rows. rows.items) c.read.ensures (λ layout db rows. AreFirst 1 (map old_entry_shown (db old_entry_tree)) rows)
    (λ is. subst (λ (s : Schema). IsPlain (understood s old_entries_text)) (sym c.requires) old_entries_is.plain)
    (λ is rows shown. asked_old_entries old _ rows c.requires shown)
