-- Withdrawals one after the other, within a transaction.
use Rattle.std.proofs.Common.{◌≡◌, ◌⊎◌, ◌∙◌, inl, inr, ℕ, ◌+◌, ◌≤◌, Result, Ok, Err, refl, sym, subst, arith}
use Rattle.std.specs.Prelude.{IsErr, IsErrAnd, OnOk}
use Rattle.std.specs.Borrow.{MutBor}
use Rattle.sqlite.specs.Held.{Held, state}
use Rattle.sqlite.specs.Store.{Ghosts}
use Rattle.sqlite.specs.Tree.{Trees}
use Rattle.tacho_state.specs.declared.fault.StoreFault.{StoreFault}
use Rattle.tacho_state.specs.declared.fault.StoreFault.TheVariants.{Memory, Store}
use Rattle.tacho_state.specs.Acts.{Answers}
use Rattle.tacho_state.specs.State.{State}
use Rattle.tacho_state.specs.Steps.{Turn, withdraw_step, withdraw_range_step}
use Rattle.tacho_state.proofs.RangeLemmas.{range_one, range_still_refused, range_of_another, next_answer, next_after}
use Rattle.tacho_tables.specs.Tables.{Tables, HasTables, IsArchive}
use Rattle.tacho_tables.proofs.CallLemmas.{stays_then}
use Rattle.tacho_tables.proofs.Inside.{keeps_then}
use Rattle.tacho_reading.specs.Calls.{Steps}
use Rattle.tacho_reading.specs.Standing.{Represents, TablesRepresent}
use Rattle.tacho_store.specs.Withdrawing.{IsRenewed, Renews}
use Rattle.tacho_store.proofs.OthersLemmas.{followed}
use Rattle.tacho_store.proofs.StepsLemmas.{FollowsIn, steps_by}

-- tables that were renewed twice
renewed_twice : (n : ℕ) (t : Tables) (next : Trees) (mid after same : State) (first : IsRenewed n t next mid) (last : Trees)
    → IsRenewed n first.tables last after → after ≡ same → IsRenewed n t last same
renewed_twice n t next mid after same first last second e = record {
  tables = second.tables;
  stored = second.stored;
  represent = subst (λ (s : State). TablesRepresent second.tables s) e second.represent;
  others = λ j other. record {
    card_spans = (first.others j other).card_spans ∙ (second.others j other).card_spans;
    held = (first.others j other).held ∙ (second.others j other).held;
  };
}

-- before a number: nothing has changed, or the entries from `first` on are withdrawn
abbrev pub HasWithdrawn : {S : Type 0} → Ghosts S → ℕ → ℕ → ℕ → MutBor (Held S) → MutBor (Held S) → Type 0
HasWithdrawn g n first number old now =
    ((number ≡ first) × (now ≡ old))
    ⊎ ((last : ℕ) × (number ≡ last + 1) × (first ≤ last) × Renews g n old now (Ok tt) (withdraw_range_step n first last))

module _ {S : Type 0} {g : Ghosts S} {n first : ℕ} where
  -- the withdrawal of one number is that of a range
  begun : {old now : MutBor (Held S)} {result : Result (Unit {0}) StoreFault} → Renews g n old now result (withdraw_step n first)
      → Renews g n old now result (withdraw_range_step n first first)
  begun {old} {now} {result} it = record {
    goes = it.goes;
    schema = it.schema;
    answer = λ clean schema s stands.
        subst (λ (t : Turn (Unit {0})). Answers (λ (u : Unit {0}). tt) result t.answer) (sym (range_one n first s)) (it.answer clean schema s stands);
    renewed = λ clean schema t s stored of.
        subst (λ (turn : Turn (Unit {0})). OnOk result (IsRenewed n t (state g now.now).now.trees turn.after)) (sym (range_one n first s))
        (it.renewed clean schema t s stored of);
  }

  -- a range, and the number after it
  module _ {old mid now : MutBor (Held S)} {result : Result (Unit {0}) StoreFault} {last : ℕ} (low : first ≤ last)
      (was : Renews g n old mid (Ok tt) (withdraw_range_step n first last)) (it : Renews g n mid now result (withdraw_step n (last + 1))) where
    longer : Renews g n old now result (withdraw_range_step n first (last + 1))
    unfolding Represents
    longer = record {
      goes = record {
        stays = stays_then was.goes.stays it.goes.stays;
        keeps = λ clean schema.
            let before = it.goes.stays.clean clean in
            keeps_then _ _ _ (was.goes.keeps before schema) (it.goes.keeps clean (was.schema before schema));
        live = λ clean answered. was.goes.live (it.goes.stays.clean clean) tt;
        of_no_file = it.goes.of_no_file;
      };
      schema = λ clean schema. it.schema clean (was.schema (it.goes.stays.clean clean) schema);
      answer = λ clean schema s stands.
          let before = it.goes.stays.clean clean in
          let one = was.renewed before schema stands.0 s stands.1 stands.2 in
          subst (λ r. Answers (λ (u : Unit {0}). tt) result r) (next_answer n first last s low (was.answer before schema s stands))
          (it.answer clean (was.schema before schema) _ (one.tables, one.stored, one.represent));
      renewed = λ clean schema t s stored of.
          let before = it.goes.stays.clean clean in
          let told = was.answer before schema s (t, stored, of) in
          let one = was.renewed before schema t s stored of in
          go t s one told result
          (subst (λ r. Answers (λ (u : Unit {0}). tt) result r) (next_answer n first last s low told)
          (it.answer clean (was.schema before schema) _ (one.tables, one.stored, one.represent)))
          (it.renewed clean (was.schema before schema) one.tables _ one.stored one.represent);
    } where
      go : (t : Tables) (s : State) (one : IsRenewed n t (state g mid.now).now.trees (withdraw_range_step n first last s).after)
          → (withdraw_range_step n first last s).answer ≡ Ok tt → (r : Result (Unit {0}) StoreFault)
          → Answers (λ (u : Unit {0}). tt) r (withdraw_range_step n first (last + 1) s).answer
          → OnOk r (IsRenewed n one.tables (state g now.now).now.trees (withdraw_step n (last + 1) (withdraw_range_step n first last s).after).after)
          → OnOk r (IsRenewed n t (state g now.now).now.trees (withdraw_range_step n first (last + 1) s).after)
      go t s one told (Ok u) answer two =
          renewed_twice n t _ _ _ _ one _ two (next_after n first last s low told answer)
      go t s one told (Err f) answer two = tt

  -- the number's own withdrawal makes that of the range up to it
  pub up_to : {old mid now : MutBor (Held S)} {number : ℕ} {result : Result (Unit {0}) StoreFault} → HasWithdrawn g n first number old mid
      → Renews g n mid now result (withdraw_step n number) → (first ≤ number) × Renews g n old now result (withdraw_range_step n first number)
  up_to {old} {mid} {now} {number} {result} (inl (e, same)) it = (
    omega (arith, e),
    subst (λ (k : ℕ). Renews g n old now result (withdraw_range_step n first k)) (sym e)
        (begun (subst (λ (k : ℕ). Renews g n old now result (withdraw_step n k)) e
        (subst (λ (b : MutBor (Held S)). Renews g n b now result (withdraw_step n number)) same it))),
  )
  up_to {old} {mid} {now} {number} {result} (inr (last, e, low, was)) it = (
    omega (arith, e, low),
    subst (λ (k : ℕ). Renews g n old now result (withdraw_range_step n first k)) (sym e)
        (longer low was (subst (λ (k : ℕ). Renews g n mid now result (withdraw_step n k)) e it)),
  )

  -- once it is withdrawn, the next number's turn comes
  pub one_withdrawn : {old mid now : MutBor (Held S)} {number : ℕ} → HasWithdrawn g n first number old mid
      → Renews g n mid now (Ok tt) (withdraw_step n number) → HasWithdrawn g n first (number + 1) old now
  one_withdrawn {old} {mid} {now} {number} was it = let both = up_to was it in inr (number, refl, both.0, both.1)

  -- the step of a range
  range_steps : {old now : MutBor (Held S)} {result : Result (Unit {0}) StoreFault} {last : ℕ} → first ≤ last
      → Renews g n old now result (withdraw_range_step n first last)
      → Steps g old now result (λ (u : Unit {0}). tt) (withdraw_range_step n first last)
  unfolding Represents
  range_steps {old} {now} {result} {last} low it =
      steps_by it.goes it.answer
      (λ clean schema s (t, stored, of). go t s stored of result (it.answer clean schema s (t, stored, of)) (it.schema clean schema)
      (it.renewed clean schema t s stored of)) where
        go : (t : Tables) (s : State) → HasTables (state g old.now).now.trees t → TablesRepresent t s → (r : Result (Unit {0}) StoreFault)
            → Answers (λ (u : Unit {0}). tt) r (withdraw_range_step n first last s).answer → OnOk r (IsArchive (state g now.now).now)
            → OnOk r (IsRenewed n t (state g now.now).now.trees (withdraw_range_step n first last s).after)
            → OnOk r (FollowsIn (state g old.now) (state g now.now) s (withdraw_range_step n first last s).after)
        go t s stored of (Ok u) answer schema next = (
          schema,
          followed _ _ t next.tables s _ stored of next.stored next.represent
              (λ j same. next.others j (range_of_another n first last s low answer j same)),
        )
        go t s stored of (Err f) answer schema next = tt

  -- with the last number, the range is withdrawn, or refused
  pub last_withdrawn : {old mid now : MutBor (Held S)} {number last : ℕ} {result : Result (Unit {0}) StoreFault}
      → HasWithdrawn g n first number old mid → number ≡ last → Renews g n mid now result (withdraw_step n last)
      → Steps g old now result (λ (u : Unit {0}). tt) (withdraw_range_step n first last)
  last_withdrawn {old} {mid} {now} {number} {last} {result} was end it =
      let both = up_to (subst (λ (k : ℕ). HasWithdrawn g n first k old mid) end was) it in range_steps both.0 both.1

  -- the step of a range that is refused, or given up
  pub not_withdrawn : {old mid now : MutBor (Held S)} {number last : ℕ} {fault : StoreFault} → HasWithdrawn g n first number old mid → number ≤ last
      → Renews g n mid now (Err fault) (withdraw_step n number)
      → (result : Result (Unit {0}) StoreFault) → IsErr result × IsErrAnd result (λ found. found ≡ fault)
      → Steps g old now result (λ (u : Unit {0}). tt) (withdraw_range_step n first last)
  not_withdrawn {old} {mid} {now} {number} {last} {fault} was high it (Ok u) e = let wrong = e.0 in cc
  not_withdrawn {old} {mid} {now} {number} {last} {fault} was high it (Err found) e =
      let both = up_to was it in
      subst (λ f. Steps g old now (Err f) (λ (u : Unit {0}). tt) (withdraw_range_step n first last)) (sym e.1) (record {
        goes = both.1.goes;
        answer = λ clean schema s stands. still fault s both.0 (both.1.answer clean schema s stands);
        made = λ clean schema s stands. tt;
        others = λ clean schema s stands j same. tt;
      }) where
        still : (f : StoreFault) (s : State) → first ≤ number → Answers {A = Unit {0}} (λ (u : Unit {0}). tt) (Err f) (withdraw_range_step n first number s).answer
            → Answers {A = Unit {0}} (λ (u : Unit {0}). tt) (Err f) (withdraw_range_step n first last s).answer
        still Memory s low h = tt
        still Store s low h = tt
        still f s low h = range_still_refused n first number last s f low high h
