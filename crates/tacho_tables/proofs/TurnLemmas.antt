-- What an edit of an archive does to its tables.
use Rattle.std.proofs.Common.{◌≡◌, ap, subst, sym}
use Rattle.sqlite.specs.Edit.{Edit}
use Rattle.sqlite.specs.Effect.{Database}
use Rattle.sqlite.specs.State.{State}
use Rattle.sqlite.specs.Tree.{Trees}
use Rattle.sqlite_catalog.specs.Listing.{IsSound}
use Rattle.tacho_tables.specs.Schema.{archive_schema}
use Rattle.tacho_tables.specs.Tables.{Tables, HasTables, IsArchive, Turns}
use Rattle.tacho_tables.proofs.CatalogLemmas.{layout_is}
use Rattle.tacho_tables.proofs.Writes.{Edits}

module _ (old new : State) (is : IsArchive old.now) {edit : Edit} (e : Edits (archive_schema is.layout) old new edit) where
  -- the edit leaves an archive
  pub archive_left : IsArchive new.now
  archive_left = record {
    layout = is.layout;
    schema = ap (λ (d : Database). d.schema) e.now_is;
    sound = subst (IsSound (archive_schema is.layout)) (sym (ap (λ (d : Database). d.trees) e.now_is)) e.sound;
  }

  -- it is the step `step`, if its rows represent what `step` makes of the lists
  pub turns : (step : Tables → Tables)
      → ((a : Tables) (s : HasTables old.now.trees a) → s.layout ≡ is.layout → HasTables e.next (step a)) → Turns old new step
  turns step stands = record {
    schema = archive_left;
    stands = λ a s. subst (λ (db : Trees). HasTables db (step a)) (sym (ap (λ (d : Database). d.trees) e.now_is))
        (stands a s (layout_is old.now a is s));
  }
