use Rattle.std.proofs.Common.{rules, ◌∙◌, ap, sym, subst, inl, not, Err}
use Rattle.sqlite.specs.Effect.{Database}
use Rattle.sqlite.specs.Tree.{Trees}
use Rattle.sqlite.specs.Held.{state}
use Rattle.tacho_state.specs.declared.fault.StoreFault.{StoreFault}
use Rattle.tacho_reading.specs.Standing.{Represents}
use Rattle.tacho_store.proofs.CrashLemmas.{shows_found}
use Rattle.tacho_tables.proofs.CatalogLemmas.{archive_of}
use Rattle.tacho_store.proofs.archive.Archive.adopt.Goals as goal

pub returns-in-Ok-clause-adopted : goal.returns-in-Ok-clause-adopted
returns-in-Ok-clause-adopted g c clean =
    let found = c.in-Ok.ensures.found in
    let live = found.live clean in
    let old = state g.S.Store c.args.conn in
    let held = shows_found old (state g.S.Store c.find_archive.new.conn) c.schema-sound.ensures.live
    (found.alone.was_open clean) (found.alone.same clean) in
    let same = c.is_autocommit-settled.ensures.settled (c.is_autocommit-settled.ensures.value ∙ ap not c.in-Ok.ensures.autocommit) live in
    record {
      was_open = found.alone.was_open clean (found.live clean);
      held = held;
      live = search rules;
      left = search rules;
      rests = λ s stands db may. inl (subst (λ (d : Trees). Represents d s)
          (ap (λ (d : Database). d.trees) same ∙ sym (g.met.S.Store.settled c.find_archive.new.conn.store db live may)) (held s stands live).1);
      schema = archive_of old.now found.schema (c.schema-sound.ensures.live (found.alone.was_open clean live)).0;
      stated = found.stated clean;
      version = found.version clean;
    }

pub returns-in-Err-clause-refused : goal.returns-in-Err-clause-refused
returns-in-Err-clause-refused g c = (c.in-Err.ensures.refused, c.find_archive.ensures.autocommit, c.in-Err.ensures.found.alone)

pub returns-in-Err-clause-old : goal.returns-in-Err-clause-old
returns-in-Err-clause-old g c clean is = c.in-Err.ensures.found.is_old clean (ap (λ (fault : StoreFault). Err fault) is)
