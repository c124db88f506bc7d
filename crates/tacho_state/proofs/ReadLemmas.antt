-- Calls that only read an archive, one after the other.
use Rattle.std.proofs.Common.{Result, List}
use Rattle.tacho_state.specs.Acts.{OnlyRead, Reads}
use Rattle.tacho_state.specs.State.{State}
use Rattle.tacho_state.specs.declared.fault.StoreFault.{StoreFault}

-- an archive has the same rows as itself; and if neither of two calls in sequence changes a row, both together change none: a `Keeper`
-- ensures these as `same_self` and `same_then`
abbrev pub IsSameAsItself : {K : Type 0} → (K → K → Type 0) → Type 0
IsSameAsItself {K = K} is_same = (keeper : K) → is_same keeper keeper

abbrev pub StaysSame : {K : Type 0} → (K → Type 0) → (K → K → Type 0) → Type 0
StaysSame {K = K} is_live is_same =
    (first second third : K) → (is_live third → is_live second) → is_same first second → is_same second third → is_same first third

-- no reading
pub not_read : {K : Type 0} {stands : K → State → Type 0} {is_clean : K → Type 0} {leaves : K → List State → Type 0} {is_same : K → K → Type 0}
    {keeper : K} → IsSameAsItself is_same → OnlyRead stands is_clean leaves is_same keeper keeper
not_read {keeper = keeper} same_self = record {
  clean = λ clean. clean;
  state = λ clean s st. st;
  same = λ clean s st. same_self keeper;
  crash = λ clean past left. left;
}

module _ {K A B : Type 0} {stands : K → State → Type 0} {is_clean is_live : K → Type 0} {leaves : K → List State → Type 0}
    {is_same : K → K → Type 0} {view : A → B} {result : Result A StoreFault} {told : State → Result B StoreFault} where
  -- the first reading
  pub read_first : {old new : K} → Reads stands is_clean is_live leaves is_same view old new result told
      → OnlyRead stands is_clean leaves is_same old new
  read_first on = record { clean = on.clean; state = on.state; same = on.same; crash = on.crash }

  -- one more reading
  pub read_on : {old now new : K} → StaysSame is_live is_same → OnlyRead stands is_clean leaves is_same old now
      → Reads stands is_clean is_live leaves is_same view now new result told → OnlyRead stands is_clean leaves is_same old new
  read_on {old = old} {now = now} {new = new} same_then read on = record {
    clean = λ clean. read.clean (on.clean clean);
    state = λ clean s st. on.state clean s (read.state (on.clean clean) s st);
    same = λ clean s st.
        let before = on.clean clean in
        same_then old now new (on.was_live clean) (read.same before s st) (on.same clean s (read.state before s st));
    crash = λ clean past left. on.crash clean past (read.crash (on.clean clean) past left);
  }
