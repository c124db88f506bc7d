-- Trusted in part: The schemas that a database can have; how a table is made, and how the entries of schema 1 are copied.
use Rattle.std.specs.Prelude.{◌≡◌, ◌⊎◌, ℕ, List, [], Option, Some, None, false, Ok, IsTrue, map}
use Rattle.std.specs.List.{AllByRecursion}
use Rattle.sqlite.specs.Schema.{Schema}
use Rattle.sqlite.specs.Table.{Table}
use Rattle.sqlite.specs.Tree.{Trees}
use Rattle.sqlite.specs.State.{State}
use Rattle.sqlite.specs.Does.{lacks_sequence}
use Rattle.sqlite.specs.Listing.{understood}
use Rattle.sqlite.specs.Command.TheVariants.{CreateTable}
use Rattle.sqlite.specs.Compile.{table_defined_by}
use Rattle.sqlite.specs.Change.{created, next_tree, KeepsRows}
use Rattle.sqlite.specs.Given.{IsPlain}
use Rattle.sqlite.specs.Effect.{Database}
use Rattle.sqlite_catalog.specs.Listing.{IsSound}
use Rattle.tacho_tables.specs.Schema.{IsArchiveSchema, Carried, archive_schema, old_schema, entry_tree, meta_rows, old_entry_tree}
use Rattle.tacho_tables.specs.Rows.{AreRowsOf, OldEntryRow, by_office, entry_columns, old_entry_columns}
use Rattle.tacho_tables.specs.Tables.{IsVersion}
use Rattle.sqlite.proofs.Callers.{command_of, statement_of}

-- under the schema, the text is a statement that makes this table
pub record IsCreate (schema : Schema) (text : List ℕ) (table : Table) : Type 0 where
  pub command : command_of (understood schema text) ≡ CreateTable
  pub statement : statement_of text (understood schema text) ≡ text
  pub plain : IsPlain (understood schema text)
  pub defined : table_defined_by text ≡ Ok table
  pub uncounted : lacks_sequence (created schema table) ≡ false

-- the table was made in a transaction, and is empty
pub record HasMade (schema : Schema) (table : Table) (old new : State) : Type 0 where
  pub inside : IsTrue new.in_transaction
  pub committed : new.committed ≡ old.committed
  pub after : new.now.schema ≡ created schema table
  pub empty : new.now.trees (next_tree schema) ≡ []
  pub others : KeepsRows schema.tables old.now.trees new.now.trees

-- each entry of schema 1 has a row in `entry_rows`, with the office as its author and no note; the other tables are unchanged
pub record Copies (old new : Database) : Type 0 where
  pub schema : new.schema ≡ archive_schema Carried
  pub sound : IsSound (archive_schema Carried) new.trees
  pub others : KeepsRows old_schema.tables old.trees new.trees
  pub copied : old.trees (entry_tree Carried) ≡ [] → (entries : List OldEntryRow)
      → AreRowsOf old_entry_columns (old.trees old_entry_tree) entries
      → AreRowsOf entry_columns (new.trees (entry_tree Carried)) (map by_office entries)

-- these tables have no rows
abbrev pub AreEmpty : List ℕ → Trees → Type 0
AreEmpty trees db = AllByRecursion (λ t. db t ≡ []) trees

-- the tables are of schema 1 or of schema 2
abbrev pub IsVersioned : Database → Type 0
IsVersioned d = (d.schema ≡ old_schema) ⊎ IsArchiveSchema d.schema

-- `found` is the version in the row of `meta`, or none if there is no row
pub record TellsVersion (db : Trees) (found : Option ℕ) : Type 0 where
  pub said : (version : ℕ) → IsVersion version db → found ≡ Some version
  pub missing : db meta_rows ≡ [] → found ≡ None
