-- Refusals by a test of what was found.
use Rattle.std.proofs.Common.{◌≡◌, Bool, true, false, cond, Option, Some, None, Result, Ok, Err, refl, sym, ap, subst, ◌∙◌}
use Rattle.std.specs.Prelude.{IsErr, IsErrAnd, ok_or}
use Rattle.tacho_state.specs.declared.fault.StoreFault.{StoreFault}
use Rattle.tacho_state.specs.Acts.{IsOfNoFile}

-- a test that was passed
pub passed : {X : Type 0} (b : Bool) (x y : X) (code : StoreFault) → Ok x ≡ cond b (Ok y) (Err code) → b ≡ true
passed true x y code e = refl
passed false x y code e = absurd (let both = e in cc)

-- a test that was failed
pub failed : {X : Type 0} (b : Bool) (x : X) (code fault : StoreFault) → Err fault ≡ cond b (Ok x) (Err code) → (b ≡ false) × (code ≡ fault)
failed true x code fault e = absurd (let both = e in cc)
failed false x code fault e = (refl, (let both = e in cc))

-- a refusal that is handed on isn't of a card file, if it wasn't when it was decided
pub refused_no_file : {A : Type 0} (code fault : StoreFault) (r : Result A StoreFault) → code ≡ fault → IsOfNoFile {A = A} (Err code)
    → IsErr r × IsErrAnd r (λ found. found ≡ fault) → IsOfNoFile r
refused_no_file code fault (Ok x) same is e = tt
refused_no_file {A = A} code fault (Err f) same is e = subst (λ g. IsOfNoFile {A = A} (Err g)) (same ∙ sym e.1) is

-- what is there
pub was_some : {X : Type 0} (found : Option X) (x : X) (code : StoreFault) → Ok x ≡ ok_or found code → found ≡ Some x
was_some None x code e = absurd (let both = e in cc)
was_some (Some y) x code e = let same : y ≡ x = (let both = e in cc) in ap Some same

pub was_none : {X : Type 0} (found : Option X) (code fault : StoreFault) → Err fault ≡ ok_or found code → (found ≡ None) × (code ≡ fault)
was_none None code fault e = (refl, (let both = e in cc))
was_none (Some x) code fault e = absurd (let both = e in cc)
