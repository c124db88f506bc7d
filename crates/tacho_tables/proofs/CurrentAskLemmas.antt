-- What the readings of `meta` and of the table of schema 1 show.
use Rattle.std.proofs.Common.{◌≡◌, ◌∙◌, ℕ, pos, List, [], ◌∷◌, flat_map, map, codes, refl, ap, subst}
use Rattle.std.specs.List.Sorted.{IsPermutation}
use Rattle.std.proofs.lemmas.List.Sorted.{IsPermutation-map}
use Rattle.sqlite_value.specs.declared.value.Value.TheVariants.{Null, Int}
use Rattle.sqlite_value.specs.Order.{Row}
use Rattle.sqlite.specs.Command.TheVariants.{Select}
use Rattle.sqlite.specs.Listing.{understood}
use Rattle.sqlite.specs.Schema.{Schema}
use Rattle.sqlite.specs.Program.{overlay}
use Rattle.sqlite.specs.State.{State, Shown}
use Rattle.sqlite.proofs.Callers.{reads_as}
use Rattle.sqlite_tied.specs.Compute.{everything}
use Rattle.sqlite_trees.specs.Tree.{Trees}
use Rattle.sqlite_trees.proofs.ListLemmas.{map-map}
use Rattle.sqlite_sql.specs.Term.{Term, Env, lit, col, eval_all}
use Rattle.sqlite_sql.specs.Query.{Query, IsAnswer, output, Output}
use Rattle.tacho_tables.specs.Schema.{Layout, Carried, archive_schema}
use Rattle.tacho_tables.specs.Ask.{AreFirst, meta_text, old_entries_text, meta_shown, old_entry_shown}
use Rattle.tacho_tables.proofs.Answers.{none_given, simple}
use Rattle.tacho_tables.proofs.Statements.{IsStatement, stated}

-- a query for at most `count` rows of one table
abbrev pub first_rows : ℕ → ℕ → List Term → Query
first_rows count t shown = record (simple t [] shown []) { limit = lit (Int (pos count)) }

-- without tests each row matches
all_match : (params : Row) (rows : List Row)
    → flat_map (λ (r : Row). (params ∷ r ∷ []) ∷ []) rows ≡ map (λ (r : Row). params ∷ r ∷ []) rows
all_match params [] = refl
all_match params (r ∷ rows) = ap (λ (xs : List Env). (params ∷ r ∷ []) ∷ xs) (all_match params rows)

-- what such a query shows
shows : (count t : ℕ) (shown : List Term) (db : Trees) (params : Row) (rows : List Row) → IsAnswer (first_rows count t shown) db params rows
    → AreFirst count (map (λ (r : Row). eval_all shown (params ∷ r ∷ [])) (db t)) rows
shows count t shown db params rows a =
    let out : Row → Output = λ (r : Row). output (first_rows count t shown) (params ∷ r ∷ []) in
    let staged : a.staged ≡ map (λ (r : Row). params ∷ r ∷ []) (db t) = a.grouped ∙ all_match params (db t) in
    let kept : a.kept ≡ map out (db t) = a.distinct ∙ ap (map (output (first_rows count t shown))) staged ∙ map-map _ _ _ in
    let same : IsPermutation (map out (db t)) a.ordered = subst (λ k. IsPermutation k a.ordered) kept a.same in
    record {
      listed = map (λ (o : Output). o.1) a.ordered;
      same = subst (λ xs. IsPermutation xs (map (λ (o : Output). o.1) a.ordered)) (map-map (λ (o : Output). o.1) out (db t))
          (IsPermutation-map (λ (o : Output). o.1) (map out (db t)) a.ordered same);
      first = a.shown;
    }

-- under the schema the text shows these columns of at most `count` rows of a table
abbrev pub IsReadingUpTo : Schema → List ℕ → ℕ → ℕ → List Term → List (List ℕ) → Type 0
IsReadingUpTo schema text count t shown names =
    IsStatement schema text (Select (record { lets = []; body = first_rows count t shown }) names)

abbrev pub meta_terms : List Term
meta_terms = col 1 0 ∷ col 1 2 ∷ []

abbrev pub old_entry_terms : List Term
old_entry_terms = col 1 1 ∷ []

pub meta_is : (layout : Layout) → IsReadingUpTo (archive_schema layout) meta_text 2 0 meta_terms (codes "id" ∷ codes "version" ∷ [])
unfolding understood everything
meta_is = stated _ _ refl

pub old_entries_is : IsReadingUpTo (archive_schema Carried) old_entries_text 1 8 old_entry_terms (codes "driver" ∷ [])
unfolding understood everything
old_entries_is = record { meant = refl; unlisted = refl; plain = (refl, refl) }

module _ (schema : Schema) (text : List ℕ) (count t : ℕ) (shown : List Term) (names : List (List ℕ))
    (it : IsReadingUpTo schema text count t shown names) (old new : State) (rows : List Row) (same : old.now.schema ≡ schema)
    (h : Shown text [] old new rows) where
  -- the rows that are read are the first of the table
  asked : AreFirst count (map (λ (r : Row). eval_all shown ([] ∷ r ∷ [])) (old.now.trees t)) rows
  asked =
      let db = old.now.trees in
      let got = reads_as text [] old new schema same _ it.meant it.plain it.unlisted rows h in
      rw (none_given db t) at (shows count t shown (overlay db []) [] rows (got.answer Null))

pub asked_meta : (layout : Layout) (old new : State) (rows : List Row) → old.now.schema ≡ archive_schema layout
    → Shown meta_text [] old new rows → AreFirst 2 (map meta_shown (old.now.trees 0)) rows
asked_meta layout old new rows same h = asked (archive_schema layout) meta_text 2 0 meta_terms _ (meta_is layout) old new rows same h

pub asked_old_entries : (old new : State) (rows : List Row) → old.now.schema ≡ archive_schema Carried
    → Shown old_entries_text [] old new rows → AreFirst 1 (map old_entry_shown (old.now.trees 8)) rows
asked_old_entries old new rows same h = asked (archive_schema Carried) old_entries_text 1 8 old_entry_terms _ old_entries_is old new rows same h
