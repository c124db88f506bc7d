-- The rows of a query on a driver's held spans, from a start on, read one at a time.
use Rattle.std.proofs.Common.{◌≡◌, ◌∙◌, ℕ, pos, ◌==◌, ◌&&◌, Bool, true, false, cond}
use Rattle.std.proofs.Common.{List, [], ◌∷◌, ◌++◌}
use Rattle.std.proofs.Common.{map, Option, None, Result, Ok, Err, IfOk, OnErr, IsTrue, inl, inr, refl, sym, ap}
use Rattle.std.proofs.Common.{subst}
use Rattle.std.specs.Prelude.{nat_lt, nat_le}
use Rattle.sqlite.specs.declared.error.Error.{Error}
use Rattle.sqlite.specs.declared.types.Value.TheVariants.{Null, Int}
use Rattle.sqlite.specs.declared.types.Value.{Value}
use Rattle.sqlite.specs.Clock.{timed}
use Rattle.sqlite.specs.Collation.TheVariants.{Binary}
use Rattle.sqlite.specs.Command.{Command}
use Rattle.sqlite.specs.Given.{HasGiven, HasBegun, Returns, IsRefused}
use Rattle.sqlite.specs.Held.{Held, state}
use Rattle.sqlite.specs.Listing.{understood, reads_listing, listing_schema, is_select, if_select}
use Rattle.sqlite.specs.Order.{Row}
use Rattle.sqlite.specs.Program.{overlay}
use Rattle.sqlite.specs.Schema.{Schema}
use Rattle.sqlite.specs.State.{State, Shown, IsUnchanged, IsNotRun, CommitsShowing, FailsToQuery, FailsToShow}
use Rattle.sqlite.specs.State.{Survives, HasCleanDisk}
use Rattle.sqlite.specs.Store.{Ghosts}
use Rattle.sqlite.specs.Term.{Term, col, op2}
use Rattle.sqlite.proofs.Callers.{command_of, EndsIn, reads_as, given_begin, begins_shown}
use Rattle.sqlite.proofs.StateLemmas.{survives_weaker}
use Rattle.sqlite_resolve.specs.declared.compiled.Compiled.{Compiled}
use Rattle.sqlite_resolve.specs.declared.error.CompileError.{CompileError}
use Rattle.sqlite_resolve.specs.declared.error.CompileError.TheVariants.{NoSuchTable}
use Rattle.sqlite_resolve.specs.Compile.{first, compiled, planned, meaning, returning, command}
use Rattle.sqlite_resolve.specs.Scope.{Name}
use Rattle.sqlite_schema.specs.declared.command.Returning.{Returning}
use Rattle.sqlite_resolve.specs.Lowering.{Checked, and_then}
use Rattle.sqlite_sql.specs.declared.ops.BinaryOp.TheVariants.{Compare}
use Rattle.sqlite_sql.specs.declared.ops.CompareOp.TheVariants.{Eq, Le}
use Rattle.sqlite_tied.specs.Compute.{everything}
use Rattle.tacho_tables.specs.Next.{AreOnward, IsKept, onward_text, IsAsked, BeginsOnward}
use Rattle.tacho_tables.specs.Rows.{AreRowsOf, SpanRow, span_columns}
use Rattle.tacho_tables.specs.Schema.{Layout, archive_schema}
use Rattle.tacho_tables.specs.Tables.{IsArchive, is_onward, span_shown}
use Rattle.tacho_tables.proofs.Answers.{passes, listed, eq_test, le_test}
use Rattle.tacho_tables.proofs.SortedLemmas.{by_one_minute}
use Rattle.tacho_tables.specs.declared.spans.SpanTable.TheVariants.{Held as HeldSpans}
use Rattle.tacho_tables.proofs.Answers.{and-true}
use Rattle.tacho_tables.proofs.SpanLemmas.{span_table}
use Rattle.tacho_tables.proofs.TableLemmas.{shows_sorted}
use Rattle.tacho_tables.proofs.Statements.{IsReading, stated, three_shown, by_start, span_names}

-- ---- the text

-- the tests of `onward_text`
abbrev onward : List Term
onward = op2 (Compare Eq Binary) (col 1 1) (col 0 0) ∷ op2 (Compare Le Binary) (col 0 1) (col 1 2) ∷ []

-- the reading that `onward_text` is
pub onward_is : (layout : Layout) → IsReading (archive_schema layout) onward_text 10 onward three_shown by_start span_names
unfolding understood everything
onward_is = stated _ _ refl

-- its SQL tests are `is_onward`
onward_test : (driver start : ℕ) (v : Value) (x : SpanRow)
    → passes onward (Int (pos driver) ∷ Int (pos start) ∷ []) (v ∷ span_columns x) ≡ is_onward driver start x
onward_test driver start v x =
    rw (eq_test x.driver driver, le_test start x.start) (ap (λ b. (x.driver == driver) && b)
    (and-true (nat_le start x.start)))

-- ---- it commits nothing, whatever the schema is

-- a text without RETURNING: it shows no rows of a write
abbrev selects : List ℕ → Type 0
selects text = (p : _) → first text ≡ Ok p → (schema : Schema) (base : ℕ) → returning schema base p.statement ≡ Ok None

-- a chain of two steps succeeds only if both do
through : {A B : Type 0} (r : Checked A) (f : A → Checked B) (b : B) → and_then r f ≡ Ok b
    → (a : A) × (r ≡ Ok a) × (f a ≡ Ok b)
through (Ok a) f b h = (a, refl, h)
through (Err e) f b h = absurd (let wrong = h in cc)

-- equal results have equal values
same_ok : {A : Type 0} (a b : A) → ◌≡◌ {A = Checked A} (Ok a) (Ok b) → a ≡ b
same_ok a b h = cc

-- compiled, such a text has no RETURNING
compiled_bare : (schema : Schema) (text : List ℕ) (c : Compiled) → selects text → compiled schema text ≡ Ok c
    → c.returning ≡ None
unfolding compiled planned meaning
compiled_bare schema text c s h =
    let p = through (first text) _ c h in
    let plan = through _ _ c p.2 in
    let found = through _ _ plan.0 plan.1 in
    let shown = through _ _ found.0 found.1 in
    let made = through {A = Command} (command schema p.0.formats _ p.0.statement) _ found.0 shown.2 in
    let none = same_ok _ _ (sym shown.1 ∙ s p.0 p.1 schema _) in
    let is = same_ok _ _ plan.2 in
    let of = same_ok _ _ found.2 in
    let by = same_ok (made.0, shown.0) found.0 made.2 in
    sym (ap (λ (x : Compiled). x.returning) is) ∙ sym (ap (λ (x : List Name × (Command × Option Returning)). x.1.1) of)
    ∙ sym (ap (λ (x : Command × Option Returning). x.1) by) ∙ none

understood_bare : (schema : Schema) (text : List ℕ) (c : Compiled) → selects text → understood schema text ≡ Ok c
    → c.returning ≡ None
unfolding understood
understood_bare schema text c s = go (reads_listing schema text) where
  listed_bare : (r : Result Compiled CompileError) → ((k : Compiled) → r ≡ Ok k → k.returning ≡ None)
      → if_select r ≡ Ok c → c.returning ≡ None
  listed_bare (Ok k) bare h = kept (is_select k.command) h where
    kept : (b : Bool) → cond b (Ok k) (Err NoSuchTable) ≡ Ok c → c.returning ≡ None
    kept true e = let is : k ≡ c = (let f = e in cc) in subst (λ (x : Compiled). x.returning ≡ None) is (bare k refl)
    kept false e = absurd (let wrong = e in cc)
  listed_bare (Err e) bare h = absurd (let wrong = h in cc)

  go : (b : Bool) → cond b (if_select (compiled listing_schema text)) (compiled schema text) ≡ Ok c → c.returning ≡ None
  go true h = listed_bare (compiled listing_schema text) (λ k. compiled_bare listing_schema text k s) h
  go false h = compiled_bare schema text c s h

-- `onward_text` is such a text
onward_selects : selects onward_text
unfolding everything
onward_selects p is schema base = subst (λ q. returning schema base q.statement ≡ Ok None) (same_ok _ p is) refl

-- so the query commits nothing
pub onward_commits_nothing : (params : Row) (old new : State) → Survives old new (CommitsShowing onward_text params old)
    → Survives old new (λ _. ⊥)
unfolding CommitsShowing
onward_commits_nothing params old new = survives_weaker old new _ _ (λ _ db h.
    let none = understood_bare old.now.schema onward_text h.0 onward_selects h.1.is in
    absurd (let some = rw none at h.2 in cc))

-- a query that has begun has given no row, and has written nothing
pub onward_begun : {S : Type 0} (g : Ghosts S) (params : Row) (old new : Held S) → HasBegun g onward_text params old new
    → HasGiven g onward_text params new [] × IsUnchanged (state g old) (state g new)
onward_begun g params old new (inl h) = h
onward_begun g params old new (inr h) = absurd (never (understood old.schema onward_text)
    (λ c is. understood_bare old.schema onward_text c onward_selects is) h.0) where
      never : (r : Result Compiled CompileError) → ((c : Compiled) → r ≡ Ok c → c.returning ≡ None) → ¬ Returns r
      never (Ok c) bare some = let e = rw (bare c refl) at some in cc
      never (Err e) bare some = some

-- where nothing changed, the connection is kept
kept_same : (old new : State) → IsUnchanged old new → IsKept old new
kept_same old new h = record { was_open = λ _. h.0.was_open; same = λ _ _. h.0.now_is }

pub onward_kept : (params : Row) (old new : State) (e : Error) → FailsToQuery onward_text params old new e
    → IsKept old new
unfolding FailsToQuery IsNotRun
onward_kept params old new e (inl (inl h)) = kept_same old new h.1
onward_kept params old new e (inl (inr h)) = record {
  was_open = h.3.was_open;
  same = λ o settled. (h.3.undone o).0
      ∙ sym settled;
}
onward_kept params old new e (inr h) =
    let bare = understood_bare old.now.schema onward_text h.0 onward_selects h.1.is in
    kept_same old new (subst (FailsToShow old new onward_text h.0 (timed params h.0.formats h.1.now) e) bare h.2).3

module _ {S X : Type 0} (g : Ghosts S) (params : Row) (old : Held S) (r : Result X Error) where
  -- where the query does not begin, `IsAsked` holds
  pub asked_where_refused : (new : Held S) → OnErr r (IsRefused g onward_text params old r new)
      → OnErr r (IsAsked g old new)
  asked_where_refused new = go r where
    go : (q : Result X Error) → OnErr q (IsRefused g onward_text params old q new) → OnErr q (IsAsked g old new)
    go (Ok x) h = tt
    go (Err e) h = record {
      kept = λ clean. onward_kept params (state g old) (state g new) e (h.err clean);
      mode = h.mode;
      survives = onward_commits_nothing params (state g old) (state g new) h.survives;
    }

  -- where the query begins, `BeginsOnward` holds
  pub begins_onward : (driver start : ℕ) (conn : X → Held S) → params ≡ Int (pos driver) ∷ Int (pos start) ∷ []
      → IfOk r (λ x. HasCleanDisk (state g (conn x)) → HasBegun g onward_text params old (conn x))
      → IfOk r (λ x. old.in_transaction ≡ false → (conn x).in_transaction ≡ false)
      → IfOk r (λ x. Survives (state g old) (state g (conn x)) (CommitsShowing onward_text params (state g old)))
      → IfOk r (λ x. BeginsOnward g old (conn x) driver start)
  begins_onward driver start conn is = go r where
    go : (q : Result X Error)
        → IfOk q (λ x. HasCleanDisk (state g (conn x)) → HasBegun g onward_text params old (conn x))
        → IfOk q (λ x. old.in_transaction ≡ false → (conn x).in_transaction ≡ false)
        → IfOk q (λ x. Survives (state g old) (state g (conn x)) (CommitsShowing onward_text params (state g old)))
        → IfOk q (λ x. BeginsOnward g old (conn x) driver start)
    go (Ok x) begun mode survives = record {
      asked = record {
        kept = λ clean. kept_same (state g old) (state g (conn x)) (onward_begun g params old (conn x) (begun clean)).1;
        mode = mode;
        survives = onward_commits_nothing params (state g old) (state g (conn x)) survives;
      };
      given = λ clean. subst (λ (p : Row). HasGiven g onward_text p (conn x) []) is
          (onward_begun g params old (conn x) (begun clean)).0;
      same = λ clean. (onward_begun g params old (conn x) (begun clean)).1;
    }
    go (Err e) begun mode survives = tt

-- ---- the rows

-- a complete answer shows all spans from the start on, in the order of their starts
pub shown_onward : (driver start : ℕ) (all : List SpanRow) (old new : State) (rows : List Row) → IsArchive old.now
    → Shown onward_text (Int (pos driver) ∷ Int (pos start) ∷ []) old new rows → AreRowsOf span_columns (old.now.trees 10) all
    → (shown : List SpanRow) × (rows ≡ map span_shown shown) × AreOnward driver start all shown
shown_onward driver start all old new rows is h s =
    let params = Int (pos driver) ∷ Int (pos start) ∷ [] in
    let it = onward_is is.layout in
    let got = reads_as onward_text params old new (archive_schema is.layout) is.schema _ it.meant it.plain it.unlisted rows h in
    let sorted = shows_sorted (span_table HeldSpans) onward three_shown by_start params (is_onward driver start) (onward_test driver start)
    (λ x. (Int (pos x.start) ∷ [], span_shown x)) (λ t v x. refl) (λ x y. nat_lt x.start y.start) (λ t x y. by_one_minute x.start y.start)
    (λ xs. xs) old.now.trees is.layout all s rows (listed 10 onward three_shown by_start (overlay old.now.trees []) params rows (got.answer Null)) in
    (sorted.0, sorted.1, record { same = sorted.2; sorted = sorted.3 })

-- the rows given so far are the first of these
pub given_onward : (driver start : ℕ) (all : List SpanRow) {S : Type 0} (g : Ghosts S) (h : Held S) (given : List Row) → IsArchive (state g h).now
    → IsTrue (state g h).is_open
    → HasGiven g onward_text (Int (pos driver) ∷ Int (pos start) ∷ []) h given
    → AreRowsOf span_columns ((state g h).now.trees 10) all
    → (tail : List Row) × (shown : List SpanRow) × (given ++ tail ≡ map span_shown shown) × AreOnward driver start all
    shown
given_onward driver start all g h given archive opened it s =
    let now = state g h in
    let params = Int (pos driver) ∷ Int (pos start) ∷ [] in
    let whole = begins_shown onward_text params now now given (given_begin g onward_text params h given it) (
      record { was_open = opened; is_open = opened; now_is = refl; committed_is = refl; mode = refl },
      record { changes = refl; last_rowid = refl },
      refl,
    )
    (λ c db is source. subst (λ (k : Command). EndsIn k db (timed params c.formats is.now))
    (sym (onward_is archive.layout).meant ∙ ap (λ x. command_of (understood x onward_text)) (sym archive.schema)
    ∙ ap command_of is.is) tt) in
    let shown = shown_onward driver start all now now (given ++ whole.0) archive whole.1 s in
    (whole.0, shown.0, shown.1, shown.2)
