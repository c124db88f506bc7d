-- What the rows that are read of `meta` and of the table of schema 1 say of the stored rows.
use Rattle.std.proofs.Common.{◌≡◌, ◌∙◌, true, true≢false, inl, pos, List, [], ◌∷◌, map, drop, take, Some, codes, refl, sym, ap, subst}
use Rattle.std.specs.List.Sorted.{IsPermutation}
use Rattle.std.proofs.lemmas.Bool.{and_parts}
use Rattle.std.proofs.lemmas.List.Sorted.{IsPermutation-sym}
use Rattle.sqlite_value.specs.declared.value.Value.TheVariants.{Null, Int}
use Rattle.sqlite_value.specs.Order.{Row}
use Rattle.sqlite_sql.specs.Ops.{is_null}
use Rattle.sqlite_schema.specs.declared.schema.Kind.TheVariants as kind
use Rattle.sqlite_schema.specs.declared.schema.Column.{Column}
use Rattle.sqlite_schema.specs.Rules.{are_typed, suits}
use Rattle.sqlite_catalog.specs.Listing.{IsSound}
use Rattle.sqlite_rules.specs.Lists.{Has}
use Rattle.sqlite_trees.specs.Tree.{Trees}
use Rattle.tacho_tables.specs.Schema.{current_version, Layout, Made, Carried, archive_schema}
use Rattle.tacho_tables.proofs.Places.{meta_at}
use Rattle.tacho_tables.specs.Schema as tree
use Rattle.tacho_tables.specs.Tables.{IsVersion, HasNoOldEntries}
use Rattle.tacho_tables.specs.Ask.{AreFirst, meta_shown, old_entry_shown}
use Rattle.tacho_check.specs.Current.{current_shown}
use Rattle.tacho_check.proofs.ShownLemmas.{one_mapped, none_shown}
use Rattle.tacho_check.proofs.SpreadLemmas.{single}
use Rattle.tacho_check.proofs.TypeLemmas.{null_of, row_typed}

-- ---- the first rows of a list

-- where the first two are one, there is one
one_taken : {X : Type 0} (x : X) (xs : List X) → take 2 xs ≡ x ∷ [] → xs ≡ x ∷ []
one_taken x [] e = absurd (let g = e in cc)
one_taken x (y ∷ []) e = e
one_taken x (y ∷ z ∷ xs) e = absurd (let g = e in cc)

-- where the first is none, there is none
none_taken : {X : Type 0} (xs : List X) → take 1 xs ≡ [] → xs ≡ []
none_taken [] e = refl
none_taken (y ∷ xs) e = absurd (let g = e in cc)

-- ---- `meta`

-- its columns
abbrev id_column : Column
id_column = tree.free (codes "id") kind.Integer

abbrev version_column : Column
version_column = tree.need (codes "version") kind.Integer

-- a stored row that shows id 1 and version 2 is the row of version 2: the id is the row's number, and its own column is NULL
row_is : (w : Row) → are_typed (Some 0) 0 (id_column ∷ version_column ∷ []) (drop 1 w) ≡ true → meta_shown w ≡ current_shown
    → w ≡ Int (pos 1) ∷ Null ∷ Int (pos 2) ∷ []
row_is [] typed e = absurd (let g = e in cc)
row_is (v ∷ []) typed e = absurd (let g = e in cc)
row_is (v ∷ a ∷ []) typed e = absurd (let g = e in cc)
row_is (v ∷ a ∷ b ∷ []) typed e =
    let key : a ≡ Null = null_of a (and_parts (is_null a) (are_typed (Some 0) 1 (version_column ∷ []) (b ∷ [])) typed).0 in
    let first : v ≡ Int (pos 1) = let g = e in cc in
    let second : b ≡ Int (pos 2) = let g = e in cc in
    cc
row_is (v ∷ a ∷ b ∷ d ∷ w) typed e =
    let more = and_parts (is_null a) (are_typed (Some 0) 1 (version_column ∷ []) (b ∷ d ∷ w)) typed in
    let last = and_parts (suits version_column b) (are_typed (Some 0) 2 [] (d ∷ w)) more.1 in
    absurd (true≢false (sym last.1))

-- where the rows that were read are the one row of the current version, so are the stored rows
pub version_is : (layout : Layout) (db : Trees) → IsSound (archive_schema layout) db → (rows : List Row)
    → AreFirst 2 (map meta_shown (db tree.meta_rows)) rows → rows ≡ current_shown ∷ []
    → IsVersion current_version db
version_is layout db sound rows shown is =
    let stored = db tree.meta_rows in
    let listed = one_taken current_shown shown.listed (sym shown.first ∙ is) in
    let back = IsPermutation-sym (map meta_shown stored) (current_shown ∷ [])
    (subst (IsPermutation (map meta_shown stored)) listed shown.same) in
    let one = one_mapped meta_shown stored current_shown (single current_shown (map meta_shown stored) back) in
    let has : Has stored one.0 = subst (λ (xs : List Row). Has xs one.0) (sym one.1) (only one.0) in
    one.1 ∙ ap (λ (w : Row). w ∷ []) (row_is one.0 (row_typed layout db sound 0 tree.meta (meta_at layout) one.0 has) one.2)
  where
    only : (w : Row) → Has (w ∷ []) w
    only w = inl refl

-- ---- the table of schema 1

-- where no row was read of it, it has none
pub none_stored : (db : Trees) (rows : List Row) → AreFirst 1 (map old_entry_shown (db tree.old_entry_tree)) rows → rows ≡ []
    → db tree.old_entry_tree ≡ []
none_stored db rows shown is =
    let stored = db tree.old_entry_tree in
    let listed = none_taken shown.listed (sym shown.first ∙ is) in
    none_shown old_entry_shown stored shown.listed shown.same listed

pub no_old_entries : (layout : Layout) (db : Trees) → db tree.old_entry_tree ≡ [] → HasNoOldEntries layout db
no_old_entries Made db none = tt
no_old_entries Carried db none = none

pub made_has_none : (layout : Layout) (db : Trees) → layout ≡ Made → HasNoOldEntries layout db
made_has_none Made db is = tt
made_has_none Carried db is = absurd (let e = is in cc)
