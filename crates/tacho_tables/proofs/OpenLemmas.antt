-- What a statement that is only prepared leaves unchanged.
use Rattle.std.proofs.Common.{◌≡◌, ◌∙◌, sym, ap, subst, List, ℕ, inl, inr, Result, Ok, Err, IfOk, IfErr, IsTrue}
use Rattle.sqlite.specs.Order.{Row}
use Rattle.sqlite.specs.Listing.{understood}
use Rattle.sqlite.specs.Outline.{Outline}
use Rattle.sqlite.specs.Schema.{Schema}
use Rattle.sqlite.specs.Steps.{Outlines}
use Rattle.sqlite_resolve.specs.declared.error.CompileError.{CompileError}
use Rattle.sqlite.specs.declared.error.Error.{Error}
use Rattle.sqlite.specs.State.{State, IsUnchanged, IsNotRun}

-- an open connection was open before, and sees the same data if nothing was uncommitted
pub record IsAsked (old new : State) : Type 0 where
  pub was_open : IsTrue new.is_open → IsTrue old.is_open
  pub same : IsTrue new.is_open → old.now ≡ old.committed → new.now ≡ old.now

-- where nothing changed, `IsAsked` holds
asked_same : (old new : State) → IsUnchanged old new → IsAsked old new
asked_same old new h = record { was_open = λ _. h.0.was_open; same = λ _ _. h.0.now_is }

-- where a text wasn't run, `IsAsked` holds
asked_not : (sql : List ℕ) (params : Row) (old new : State) (e : Error) → IsNotRun old new sql params e → IsAsked old new
unfolding IsNotRun
asked_not sql params old new e (inl h) = asked_same old new h.1
asked_not sql params old new e (inr h) = record { was_open = h.3.was_open; same = λ o settled. (h.3.undone o).0 ∙ sym settled }

-- `IsAsked` holds whether the text was prepared or not
pub asked : {X : Type 0} (sql : List ℕ) (params : Row) (old new : State) (r : Result X Error) (P : X → Type 0)
    → IfOk r (λ x. P x × IsUnchanged old new) → IfErr r (λ e. IsNotRun old new sql params e) → IsAsked old new
asked sql params old new (Ok x) P h _ = asked_same old new h.1
asked sql params old new (Err e) P h fails = asked_not sql params old new e fails

-- a text that isn't a statement under the schema isn't prepared
pub unknown_outline : (sql : List ℕ) (schema : Schema) (s : Outline) {other : Schema} {fault : CompileError} → schema ≡ other
    → understood other sql ≡ Err fault → ¬ Outlines (understood schema sql) s
unknown_outline sql schema s has unknown h = subst (λ r. Outlines r s) (ap (λ x. understood x sql) has ∙ unknown) h
