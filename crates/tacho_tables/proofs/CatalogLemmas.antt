-- A catalog lists one schema only.
use Rattle.std.proofs.Common.{◌≡◌, ap, arith, length, refl, subst}
use Rattle.sqlite.specs.Effect.{Database, IsDatabase}
use Rattle.sqlite.specs.Schema.{Schema}
use Rattle.sqlite.specs.Tree.{Trees}
use Rattle.sqlite_catalog.specs.Listing.{IsSound}
use Rattle.sqlite_catalog.proofs.ReadLemmas.{lists_once}
use Rattle.tacho_tables.specs.Schema.{Layout, Made, Carried, archive_schema, IsArchiveSchema}
use Rattle.tacho_tables.specs.Tables.{Tables, HasTables, IsArchive}

-- different layouts have different schemas
one_schema : (a b : Layout) → archive_schema a ≡ archive_schema b → a ≡ b
one_schema Made Made same = refl
one_schema Made Carried same = absurd (let count = ap (λ (s : Schema). length s.tables) same in omega (arith, count))
one_schema Carried Made same = absurd (let count = ap (λ (s : Schema). length s.tables) same in omega (arith, count))
one_schema Carried Carried same = refl

-- the rows of a database have one layout only
pub one_layout : (db : Trees) (a b : Layout) → IsSound (archive_schema a) db → IsSound (archive_schema b) db → a ≡ b
one_layout db a b it other = one_schema a b (lists_once _ (archive_schema a) (archive_schema b) it.lists other.lists)

-- the layout of a database's rows is that of its schema
pub layout_is : (d : Database) (a : Tables) (is : IsArchive d) (s : HasTables d.trees a) → s.layout ≡ is.layout
layout_is d a is s = one_layout d.trees s.layout is.layout s.sound is.sound

-- a database whose rows represent the tables of an archive is an archive
pub is_archive : (d : Database) (a : Tables) → HasTables d.trees a → IsDatabase d → IsArchive d
is_archive d a s it = record {
  layout = s.layout;
  schema = lists_once _ d.schema (archive_schema s.layout) it.lists s.sound.lists;
  sound = s.sound;
}

-- so is a sound database that has the schema of an archive
pub archive_of : (d : Database) → IsArchiveSchema d.schema → IsDatabase d → IsArchive d
archive_of d has it = record {
  layout = has.0;
  schema = has.1;
  sound = subst (λ (schema : Schema). IsSound schema d.trees) has.1 it;
}
