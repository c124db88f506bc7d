-- Results whose faults were mapped to other faults.
use Rattle.std.proofs.Common.{◌≡◌, sym, subst, Result, Ok, Err, IfOk, OnOk}
use Rattle.std.specs.Prelude.{IsErrAnd, MatchResult}
use Rattle.tacho_state.specs.declared.fault.StoreFault.{StoreFault}
use Rattle.tacho_state.specs.Acts.{Answers}
use Rattle.tacho_tables.specs.declared.fault.TableFault.{TableFault}
use Rattle.tacho_tables.specs.declared.fault.TableFault.TheVariants as table
use Rattle.tacho_reading.specs.Faults.{fault_of_tables}

-- a result that is Ok after its faults were mapped was the same Ok before
pub was_ok : {T E : Type 0} (r : Result T E) (x : T) (P : T → Type 0)
    → MatchResult r (λ y. ◌≡◌ {A = Result T StoreFault} (Ok x) (Ok y)) (λ _. ⊥) → IfOk r P → P x
was_ok (Ok y) x P same h = let is : y ≡ x = (let both = same in cc) in subst P is h
was_ok (Err e) x P same h = absurd same

-- a fact about a successful call still holds after its faults were mapped
pub on_ok_mapped : {T E D : Type 0} (r : Result T E) (t : Result T D) (Q : E → D → Type 0) (P R : Type 0) → (P → R)
    → MatchResult r (λ y. t ≡ Ok y) (λ e. IsErrAnd t (Q e)) → OnOk r P → OnOk t R
on_ok_mapped (Ok y) t Q P R weaker cases h = subst (λ u. OnOk u R) (sym cases) (weaker h)
on_ok_mapped (Err e) (Ok x) Q P R weaker cases h = absurd cases
on_ok_mapped (Err e) (Err f) Q P R weaker cases h = tt

-- a call on the tables that ends a command answers Ok, or it gives up
pub answers_mapped : {A : Type 0} (r : Result A TableFault) (t : Result A StoreFault) (told : Result A StoreFault)
    → MatchResult r (λ y. t ≡ Ok y) (λ e. IsErrAnd t (λ f. f ≡ fault_of_tables e)) → ((y : A) → told ≡ Ok y) → Answers (λ y. y) t told
answers_mapped (Ok y) t told cases is = subst (λ u. Answers (λ y. y) u told) (sym cases) (is y)
answers_mapped (Err e) (Ok x) told cases is = absurd cases
answers_mapped (Err table.Memory) (Err f) told cases is = subst (λ g. Answers (λ y. y) (Err g) told) (sym cases) tt
answers_mapped (Err table.Store) (Err f) told cases is = subst (λ g. Answers (λ y. y) (Err g) told) (sym cases) tt
