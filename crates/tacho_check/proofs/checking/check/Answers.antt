use Rattle.std.proofs.Common.{rules, ◌≡◌, false}
use Rattle.sqlite.specs.Held.{state}
use Rattle.sqlite.specs.State.{HasCleanDisk}
use Rattle.tacho_check.proofs.OrderedLemmas.{all_numbered}
use Rattle.tacho_check.proofs.StoreLemmas.{open_if_whole, same_rows, rows_checked}
use Rattle.tacho_check.proofs.checking.check.Goals as goal

pub returns-clause-same : goal.returns-clause-same
returns-clause-same g c clean =
    let store = c.into_store-store.result in
    let whole : (g.S.Store.view store).is_broken ≡ false = search rules in
    let shown = open_if_whole (g.S.Store.view store).is_open (g.S.Store.view store).is_broken (g.met.S.Store.broken_if_shut store) whole in
    let before : HasCleanDisk (state g.S.Store c.check_rows-found.new.conn) = search rules in
    same_rows g.S.Store c.args.conn c.check_rows-found.new.conn store c.check_rows-found.result c.check_rows-found.ensures.checks
    (search rules) (c.into_store-store.ensures.undone.undone shown).0 before
    (c.has_archive.ensures.0 c.if-not-has_archive.false) c.schema-sound.ensures.live

pub returns-clause-checked : goal.returns-clause-checked
returns-clause-checked g c clean =
    let store = c.into_store-store.result in
    let whole : (g.S.Store.view store).is_broken ≡ false = search rules in
    let shown = open_if_whole (g.S.Store.view store).is_open (g.S.Store.view store).is_broken (g.met.S.Store.broken_if_shut store) whole in
    let before : HasCleanDisk (state g.S.Store c.check_rows-found.new.conn) = search rules in
    rows_checked g.S.Store c.args.conn c.check_rows-found.new.conn store c.check_rows-found.result c.check_rows-found.ensures.checks
    (search rules) (c.into_store-store.ensures.undone.undone shown).0 before
    (c.has_archive.ensures.0 c.if-not-has_archive.false) c.schema-sound.ensures.live
    (λ layout sound. all_numbered layout (g.S.Store.view store).trees sound (g.S.Store.view store).shape (g.S.Store.view store).reals
    (g.met.S.Alter.listed store whole) (g.met.S.Store.ordered store whole))
