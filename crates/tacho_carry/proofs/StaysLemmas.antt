-- Calls that only read an archive, which was live before if it is live after.
use Rattle.std.proofs.Common.{List, Result}
use Rattle.tacho_state.specs.Acts.{OnlyRead, Reads}
use Rattle.tacho_state.specs.State.{State}
use Rattle.tacho_state.specs.declared.fault.StoreFault.{StoreFault}
use Rattle.tacho_state.proofs.ReadLemmas.{StaysSame, read_first, read_on}

-- the archive was only read, and was live before if it is live after
pub record Stays {K : Type 0} (stands : K → State → Type 0) (is_clean is_live : K → Type 0) (leaves : K → List State → Type 0)
    (is_same : K → K → Type 0) (old new : K) : Type 0 where
  pub read : OnlyRead stands is_clean leaves is_same old new
  pub live : is_clean new → is_live new → is_live old

module _ {K : Type 0} {stands : K → State → Type 0} {is_clean is_live : K → Type 0} {leaves : K → List State → Type 0} {is_same : K → K
    → Type 0} where
  -- after a reading
  pub stays : {A B : Type 0} {view : A → B} {result : Result A StoreFault} {told : State → Result B StoreFault} {old new : K}
      → Reads stands is_clean is_live leaves is_same view old new result told → Stays stands is_clean is_live leaves is_same old new
  stays on = record { read = read_first on; live = on.was_live }

  -- after one more reading
  pub stays_on : {A B : Type 0} {view : A → B} {result : Result A StoreFault} {told : State → Result B StoreFault} {old now new : K}
      → StaysSame is_live is_same → Stays stands is_clean is_live leaves is_same old now
      → Reads stands is_clean is_live leaves is_same view now new result told → Stays stands is_clean is_live leaves is_same old new
  stays_on same_then before on = record {
    read = read_on same_then before.read on;
    live = λ clean live. before.live (on.clean clean) (on.was_live clean live);
  }

  -- after more readings
  pub stays_then : {old now new : K} → StaysSame is_live is_same → Stays stands is_clean is_live leaves is_same old now
      → Stays stands is_clean is_live leaves is_same now new → Stays stands is_clean is_live leaves is_same old new
  stays_then {old = old} {now = now} {new = new} same_then before then = record {
    read = record {
      clean = λ clean. before.read.clean (then.read.clean clean);
      state = λ clean s st. then.read.state clean s (before.read.state (then.read.clean clean) s st);
      same = λ clean s st.
          let was_clean = then.read.clean clean in
          same_then old now new (then.live clean) (before.read.same was_clean s st)
          (then.read.same clean s (before.read.state was_clean s st));
      crash = λ clean past left. then.read.crash clean past (before.read.crash (then.read.clean clean) past left);
    };
    live = λ clean live. before.live (then.read.clean clean) (then.live clean live);
  }
