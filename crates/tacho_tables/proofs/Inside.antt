-- A statement that succeeded inside a transaction.
use Rattle.std.proofs.Common.{◌≡◌, ℕ, true, false, List, Ok, Err, Result, IsTrue, refl, sym, inl, inr, ◌⊎◌}
use Rattle.std.proofs.lemmas.Bool.{cases_Bool}
use Rattle.sqlite.specs.declared.error.Error.{Error}
use Rattle.sqlite.specs.Order.{Row}
use Rattle.std.proofs.Common.{subst, ap, ◌∙◌, IfOk, IfErr, Vec, Global}
use Rattle.sqlite.specs.Store.{Ghosts}
use Rattle.sqlite.specs.Held.{Held, state}
use Rattle.sqlite.specs.Clock.{timed}
use Rattle.sqlite.specs.Listing.{understood}
use Rattle.sqlite.proofs.Callers.{IsPlain}
use Rattle.sqlite.specs.declared.rows.Row.{Row as TheRow}
use Rattle.sqlite.specs.State.{State, Shows, Executes, ExecutesInside, KeepsCommit, IsUnchanged, IsRolledBack, FailsToQuery, FailsToShow, IsNotRun, IsTooLate, Shown, ShowsRows}
use Rattle.sqlite.specs.Schema.{Schema}
use Rattle.sqlite_resolve.specs.declared.compiled.Compiled.{Compiled}
use Rattle.sqlite_resolve.specs.declared.error.CompileError.{CompileError}
use Rattle.sqlite_schema.specs.declared.command.Returning.{Returning}
use Rattle.std.proofs.Common.{Option, Some, None}
use Rattle.std.proofs.lemmas.Result.{IfOk-weaker}
use Rattle.tacho_tables.proofs.Answers.{shown_same}

-- a statement that succeeded was within a transaction
pub ran_inside : {X : Type 0} (sql : List ℕ) (params : Row) (old new : State) (count : ℕ) (e : Error)
    → (old.in_transaction ≡ false → (Ok count ≡ Err e) × X)
    → (IsTrue old.in_transaction → ExecutesInside 0 sql params old new (Ok count))
    → Executes sql params old new (Ok count) × Shows old new new.now old.committed true
ran_inside sql params old new count e ended runs = elim (cases_Bool old.in_transaction) [
  | inl is ↦ let h = runs is in (h.0, h.1)
  | inr not ↦ absurd (let k = (ended not).0 in cc)
]

-- a step that changes nothing commits nothing
keeps_unchanged : (old new : State) → IsUnchanged old new → KeepsCommit old new
keeps_unchanged old new h = record { was_open = λ _. h.0.was_open; committed = λ _. h.0.committed_is }

-- a rollback commits nothing
keeps_rolled : (old new : State) → IsRolledBack old new → KeepsCommit old new
keeps_rolled old new h = record { was_open = h.was_open; committed = λ o. (h.undone o).1 }

-- a call that did not reach the store commits nothing
keeps_same : {S : Type 0} (g : Ghosts S) (old new : Held S) → new ≡ old → KeepsCommit (state g old) (state g new)
keeps_same g old new same = subst (λ h. KeepsCommit (state g old) (state g h)) (sym same)
    (record { was_open = λ o. o; committed = λ _. refl })

-- a statement within a transaction commits nothing
keeps_inside : (sql : List ℕ) (params : Row) (old new : State) (r : Result ℕ Error) → ExecutesInside 0 sql params old new r
    → KeepsCommit old new
keeps_inside sql params old new (Ok count) h = record { was_open = λ _. h.1.was_open; committed = λ _. h.1.committed_is }
keeps_inside sql params old new (Err e) (inl h) = elim h.1 [ inl same ↦ keeps_unchanged old new same | inr back ↦ keeps_rolled old new back ]
keeps_inside sql params old new (Err e) (inr h) = keeps_unchanged old new h.2

-- whatever a statement inside a transaction does, it commits nothing
pub keeps_ran : {S : Type 0} (g : Ghosts S) (sql : List ℕ) (params : Row) (old new : Held S) (r : Result ℕ Error) (e : Error)
    → (old.in_transaction ≡ false → (r ≡ Err e) × (new ≡ old))
    → (IsTrue old.in_transaction → ExecutesInside 0 sql params (state g old) (state g new) r) → KeepsCommit (state g old) (state g new)
keeps_ran g sql params old new r e ended runs = elim (cases_Bool old.in_transaction) [
  | inl is ↦ keeps_inside sql params (state g old) (state g new) r (runs is)
  | inr not ↦ keeps_same g old new (ended not).1
]

-- a query that failed commits nothing
keeps_failed : (sql : List ℕ) (params : Row) (old new : State) (e : Error) → IsPlain (understood old.now.schema sql)
    → FailsToQuery sql params old new e → KeepsCommit old new
unfolding FailsToQuery IsNotRun
keeps_failed sql params old new e plain (inl (inl h)) = keeps_unchanged old new h.1
keeps_failed sql params old new e plain (inl (inr h)) = keeps_rolled old new h.3
keeps_failed sql params old new e plain (inr h) =
    let bare = subst IsPlain h.1.is plain in
    keeps_unchanged old new (subst (FailsToShow old new sql h.0 (timed params h.0.formats h.1.now) e) bare.0 h.2).3

-- a query that succeeded commits nothing
keeps_read : (sql : List ℕ) (params : Row) (old new : State) (r : Result (Vec TheRow Global) Error)
    → IsPlain (understood old.now.schema sql) → IfOk r (λ rows. IsUnchanged old new)
    → IfErr r (λ e. FailsToQuery sql params old new e ⊎ IsTooLate sql params old new e) → KeepsCommit old new
keeps_read sql params old new (Ok rows) plain same fails = keeps_unchanged old new same
keeps_read sql params old new (Err e) plain same (inl h) = keeps_failed sql params old new e plain h
keeps_read sql params old new (Err e) plain same (inr h) = keeps_unchanged old new h.5

-- a reading commits nothing
pub keeps_reading : (sql : List ℕ) (params : Row) (old new : State) (r : Result (Vec TheRow Global) Error)
    → IsPlain (understood old.now.schema sql)
    → IfOk r (λ rows. Shown sql params old new rows.items)
    → IfErr r (λ e. FailsToQuery sql params old new e ⊎ IsTooLate sql params old new e) → KeepsCommit old new
keeps_reading sql params old new r plain shown fails =
    keeps_read sql params old new r plain
    (IfOk-weaker r _ _ (λ rows h. shown_same sql params old new rows.items plain h) shown) fails

-- two steps that commit nothing, one after the other, commit nothing
pub keeps_then : (a b c : State) → KeepsCommit a b → KeepsCommit b c → KeepsCommit a c
keeps_then a b c p q = record { was_open = λ o. p.was_open (q.was_open o); committed = λ o. q.committed o ∙ p.committed (q.was_open o) }

-- a text that isn't a statement shows no rows
pub unknown_shows : (sql : List ℕ) (params : Row) (old new : State) (rows : List Row) {schema : Schema} {fault : CompileError}
    → old.now.schema ≡ schema → understood schema sql ≡ Err fault
    → ¬ Shown sql params old new rows
unfolding Shown
unknown_shows sql params old new rows has unknown h = let known = sym h.1.is ∙ ap (λ s. understood s sql) has ∙ unknown in cc

-- rows are shown only by a connection that was open
rows_open : (old new : State) (sql : List ℕ) (c : Compiled) (params : Row) (rows : List Row) (r : Option Returning)
    → ShowsRows old new sql c params rows r → IsTrue new.is_open → IsTrue old.is_open
rows_open old new sql c params rows None h _ = h.3.0.was_open
rows_open old new sql c params rows (Some what) h _ = h.1.shown.was_open

-- a query shows its rows only on a connection that was open
shown_open : (sql : List ℕ) (params : Row) (old new : State) (rows : List Row) → Shown sql params old new rows → IsTrue new.is_open
    → IsTrue old.is_open
unfolding Shown
shown_open sql params old new rows h = rows_open old new sql h.0 _ rows h.0.returning h.2

-- a query that shows rows leaves the connection open
rows_live : (old new : State) (sql : List ℕ) (c : Compiled) (params : Row) (rows : List Row) (r : Option Returning)
    → ShowsRows old new sql c params rows r → IsTrue new.is_open
rows_live old new sql c params rows None h = h.3.0.is_open
rows_live old new sql c params rows (Some what) h = h.1.shown.is_open

-- likewise for `Shown`, whatever the schema is
pub shown_live : (sql : List ℕ) (params : Row) (old new : State) (rows : List Row) → Shown sql params old new rows → IsTrue new.is_open
unfolding Shown
shown_live sql params old new rows h = rows_live old new sql h.0 _ rows h.0.returning h.2

-- a query that shows nothing leaves a connection open only if it was open before
not_shown_open : (old new : State) (sql : List ℕ) (c : Compiled) (params : Row) (e : Error) (r : Option Returning)
    → FailsToShow old new sql c params e r → IsTrue new.is_open → IsTrue old.is_open
not_shown_open old new sql c params e None h = λ _. h.3.0.was_open
not_shown_open old new sql c params e (Some what) (inl h) = λ _. h.1.0.was_open
not_shown_open old new sql c params e (Some what) (inr h) = h.3.was_open

-- likewise for a query that fails
fails_open : (sql : List ℕ) (params : Row) (old new : State) (e : Error) → FailsToQuery sql params old new e → IsTrue new.is_open
    → IsTrue old.is_open
unfolding FailsToQuery IsNotRun
fails_open sql params old new e (inl (inl h)) = λ _. h.1.0.was_open
fails_open sql params old new e (inl (inr h)) = h.3.was_open
fails_open sql params old new e (inr h) = not_shown_open old new sql h.0 _ e h.0.returning h.2

-- likewise for a reading
pub read_open : (sql : List ℕ) (params : Row) (old new : State) (r : Result (Vec TheRow Global) Error)
    → IfOk r (λ rows. Shown sql params old new rows.items)
    → IfErr r (λ e. FailsToQuery sql params old new e ⊎ IsTooLate sql params old new e) → IsTrue new.is_open → IsTrue old.is_open
read_open sql params old new (Ok rows) h fails = shown_open sql params old new rows.items h
read_open sql params old new (Err e) h (inl x) = fails_open sql params old new e x
read_open sql params old new (Err e) h (inr x) = λ _. x.5.0.was_open
