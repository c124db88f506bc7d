-- A run of calls, and the states that a crash after it may leave.
use Rattle.std.proofs.Common.{ℕ, List, [], ◌∷◌, ◌++◌, Result, Ok, Err, sym, subst}
use Rattle.tacho_state.specs.declared.fault.StoreFault.{StoreFault}
use Rattle.tacho_state.specs.declared.fault.StoreFault.TheVariants.{Card}
use Rattle.tacho_state.specs.State.{State}
use Rattle.tacho_state.specs.Steps.{Turn}
use Rattle.tacho_state.specs.Acts.{Acts, Reads, IsAnswered, IsOfNoFile}
use Rattle.tacho_state.specs.Runs.{Call, without_value, state_after, IsDecided, AreAnswered, IsCall, IsRun}

-- a fault that is settled, and not a file's, is an answer
answered : (fault : StoreFault) → IsOfNoFile {A = Unit {0}} (Err fault) → IsDecided (Err fault) → IsAnswered {A = Unit {0}} (Err fault)
answered (Card fault) other settled = absurd other
answered fault other settled = settled

module _ {K : Type 0} {stands : K → State → Type 0} {is_clean is_live : K → Type 0} {leaves : K → List State → Type 0}
    {is_same : K → K → Type 0} {is_same_of : ℕ → K → K → Type 0} where
  -- a command is a call of a run
  pub command_is_call : {A B : Type 0} {view : A → B} {old new : K} (r : Result A StoreFault) (step : State → Turn B)
      → Acts stands is_clean is_live leaves is_same is_same_of view old new r step → IsOfNoFile r
      → IsCall stands is_clean leaves old new (record { answer = without_value r; after = λ s. (step s).after })
  command_is_call (Ok x) step h other =
      record { clean = h.clean; state = h.state; kept = λ clean s st settled l. h.kept clean s st; crash = h.crash }
  command_is_call (Err fault) step h other = record {
    clean = h.clean;
    state = h.state;
    kept = λ clean s st settled l. h.refused clean (answered fault other settled) (s ∷ []) l;
    crash = h.crash;
  }

module _ {K : Type 0} {stands : K → State → Type 0} {is_clean is_live : K → Type 0} {leaves : K → List State → Type 0}
    {is_same : K → K → Type 0} where
  -- a reading is a call of a run
  pub reading_is_call : {A B : Type 0} {view : A → B} {old new : K} (r : Result A StoreFault) (told : State → Result B StoreFault)
      → Reads stands is_clean is_live leaves is_same view old new r told
      → ((s : State) (states : List State) (k : K) → leaves k states → leaves k (s ∷ states))
      → IsCall stands is_clean leaves old new (record { answer = without_value r; after = λ s. s })
  reading_is_call (Ok x) told h more = record {
    clean = h.clean;
    state = h.state;
    kept = λ clean s st settled l. h.crash clean (s ∷ []) l;
    crash = λ clean s past st l. more s past _ (h.crash clean past l);
  }
  reading_is_call (Err fault) told h more = record {
    clean = h.clean;
    state = h.state;
    kept = λ clean s st settled l. h.crash clean (s ∷ []) l;
    crash = λ clean s past st l. more s past _ (h.crash clean past l);
  }

module _ {K : Type 0} (stands : K → State → Type 0) (is_clean : K → Type 0) (leaves : K → List State → Type 0) where
  pub run_clean : (calls : List Call) (old new : K) → IsRun stands is_clean leaves calls old new → is_clean new → is_clean old
  run_clean [] old new run clean = subst is_clean run clean
  run_clean (c ∷ calls) old new (mid, call, rest) clean = call.clean (run_clean calls mid new rest clean)

  -- what is kept represents the state that the calls lead to
  pub run_stands : (calls : List Call) (old new : K) → IsRun stands is_clean leaves calls old new → is_clean new
      → (s : State) → stands old s → stands new (state_after calls s)
  run_stands [] old new run clean s st = subst (λ k. stands k s) (sym run) st
  run_stands (c ∷ calls) old new (mid, call, rest) clean s st =
      run_stands calls mid new rest clean _ (call.state (run_clean calls mid new rest clean) s st)

  -- if all calls answered, a crash leaves the state that they lead to
  pub run_leaves : (calls : List Call) (old new : K) → IsRun stands is_clean leaves calls old new → is_clean new → AreAnswered calls
      → (s : State) → stands old s → leaves old (s ∷ []) → leaves new (state_after calls s ∷ [])
  run_leaves [] old new run clean answered s st l = subst (λ k. leaves k (s ∷ [])) (sym run) l
  run_leaves (c ∷ calls) old new (mid, call, rest) clean (first, others) s st l =
      let clean_mid = run_clean calls mid new rest clean in
      run_leaves calls mid new rest clean others _ (call.state clean_mid s st)
      (call.kept clean_mid s st first l)

  -- if one more call may have given up, a crash leaves that state, or the one after its step
  pub run_stopped : (calls : List Call) (last : Call) (old new : K) → IsRun stands is_clean leaves (calls ++ last ∷ []) old new → is_clean new
      → AreAnswered calls → (s : State) → stands old s → leaves old (s ∷ [])
      → leaves new (last.after (state_after calls s) ∷ state_after calls s ∷ [])
  run_stopped [] last old new (mid, call, rest) clean answered s st l =
      subst (λ k. leaves k (last.after s ∷ s ∷ [])) (sym rest) (call.crash (subst is_clean rest clean) s (s ∷ []) st l)
  run_stopped (c ∷ calls) last old new (mid, call, rest) clean (first, others) s st l =
      let clean_mid = run_clean (calls ++ last ∷ []) mid new rest clean in
      run_stopped calls last mid new rest clean others _ (call.state clean_mid s st)
      (call.kept clean_mid s st first l)
