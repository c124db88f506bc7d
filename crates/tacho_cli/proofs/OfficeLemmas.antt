-- What a job at the archive does, derived from what its parts did.
use Rattle.std.proofs.Common.{◌≡◌, ◌∙◌, ℕ, ◌<◌, ◌⊎◌, inl, inr, Bool, true, false, List, [], length}
use Rattle.std.proofs.Common.{Option, None, Some, Result, Ok, Err, refl, sym, arith}
use Rattle.std.proofs.lemmas.List.{length-replicate}
use Rattle.std.specs.Prelude.{IfSome, replicate}
use Rattle.tacho_time.specs.declared.fault.TimeFault.{TimeFault}
use Rattle.tacho_state.specs.State.{State}
use Rattle.tacho_card.specs.declared.fault.CardFault.{CardFault}
use Rattle.tacho_card.specs.declared.fault.CardFault.TheVariants as card
use Rattle.tacho_card.specs.declared.file.Part.{Part}
use Rattle.tacho_state.specs.declared.caller.Caller.{Caller}
use Rattle.tacho_state.specs.declared.caller.Caller.TheVariants as caller
use Rattle.tacho_sheet.specs.declared.fault.SheetFault.{SheetFault}
use Rattle.tacho_sheet.specs.declared.fault.SheetFault.TheVariants as sheet
use Rattle.tacho_desk.specs.Doing.{AsksOnly, CarriesOut}
use Rattle.tacho_sheet.specs.Fault.{IsFailure, card_fault, sheet_fault}
use Rattle.tacho_desk.specs.Tasks.{Does, IsFaulty, IsSound, want_of}
use Rattle.tacho_desk.specs.Told.{Answer}
use Rattle.tacho_desk.specs.Wants.{is_command, looks_ahead, takes_input}
use Rattle.tacho_desk.specs.Words.{IsTask, Wish, by_part, by_time}
use Rattle.tacho_sheet.specs.declared.fault.Fault.{Fault}
use Rattle.tacho_sheet.specs.declared.fault.Fault.TheVariants as fault
use Rattle.tacho_desk.specs.declared.task.Task.{Task}
use Rattle.tacho_desk.specs.declared.task.Task.TheVariants as task
use Rattle.tacho_desk.specs.declared.want.Want.{Want}
use Rattle.tacho_desk.specs.declared.want.Want.TheVariants as want
use Rattle.tacho_state.proofs.ReadLemmas.{IsSameAsItself}
use Rattle.tacho_desk.proofs.MeantLemmas.{nothing, served_as}
use Rattle.tacho_cli.specs.Office.{AreArgumentsFaulty, AreSound, HasNotRead, HasRead, IsFaultyOver, OfficeWants, Performed, Performs}
use Rattle.tacho_cli.proofs.CommandLemmas.{any_input, some_input}

-- ---- X2

-- arguments are never refused with X2: not the part
part_without : (c : Caller) (o : Option Part) → Err fault.Device ≡ by_part o (λ p. task.Import c p) → ⊥
part_without c None e = cc
part_without c (Some p) e = cc

-- nor the day or the month
time_without : (make : ℕ → Task) (r : Result ℕ TimeFault) → Err fault.Device ≡ by_time r (λ n. Ok (make n)) → ⊥
time_without make (Ok n) e = cc
time_without make (Err f) e = cc

-- nor the other arguments
words_without : (w : Want) (c : Caller) (driver word next : List ℕ) → IsTask w c driver word next (Err fault.Device) → ⊥
words_without want.Import c driver word next is = grind (arith, part_without)
words_without want.Drivers caller.Office [] word next is = cc
words_without w c driver word next is = grind (arith, time_without)

-- nor is a card file
card_without : (e : CardFault) → fault.Device ≡ card_fault e → ⊥
card_without card.Memory h = cc
card_without e h = cc

-- nor is a text of CSV or a key
csv_without : (e : SheetFault) → fault.Device ≡ sheet_fault e → ⊥
csv_without sheet.Memory h = cc
csv_without e h = cc

-- the fault of an input is one of a task that has an input, and it is not X2
faulty_takes : (t : Task) (input : List ℕ) (f : Fault) → IsFaulty t input f → (takes_input (want_of t) ≡ true) × (f ≡ fault.Device → ⊥)
faulty_takes task.Register input f h = (refl, λ e. csv_without h.0 (sym e ∙ h.2))
faulty_takes (task.Import caller part) input f h = (refl, λ e. card_without h.0 (sym e ∙ h.2))
faulty_takes (task.Enter n) input f h = (refl, λ e. csv_without h.0 (sym e ∙ h.2))
faulty_takes (task.Key n) input f h = (refl, λ e. csv_without h.0 (sym e ∙ h.2))
faulty_takes (task.Name n) input f h = (refl, λ e. csv_without h.0 (sym e ∙ h.2))
faulty_takes t input f h = absurd h

-- nor is an input that may be too large
over_without : (takes : Bool) (t : Task) (input : List ℕ) → IsFaultyOver takes t input fault.Device → ⊥
over_without true t input (inl (large, e)) = cc
over_without true t input (inr (within, h)) = (faulty_takes t input fault.Device h).1 refl
over_without false t input h = h

-- a call that asks the archive only for a valid input does so where that implies another input to be valid
asks_as : {K : Type 0} (old new : K) (forecast : Bool) (Sound AlsoSound : Type 0) (Faulty AlsoFaulty : Fault → Type 0) (answer : Answer) → (Sound → AlsoSound)
    → ((f : Fault) → Faulty f → AlsoFaulty f) → AsksOnly old new forecast Sound Faulty answer
    → AsksOnly old new forecast AlsoSound AlsoFaulty answer
asks_as old new forecast Sound AlsoSound Faulty AlsoFaulty answer sound faulty (inl (is, archive)) = inl (sound is, archive)
asks_as old new forecast Sound AlsoSound Faulty AlsoFaulty (Ok told) sound faulty (inr (same, h)) = absurd h
asks_as old new forecast Sound AlsoSound Faulty AlsoFaulty (Err f) sound faulty (inr (same, inl h)) = inr (same, inl (faulty f h))
asks_as old new forecast Sound AlsoSound Faulty AlsoFaulty (Err f) sound faulty (inr (same, inr memory)) = inr (same, inr memory)

-- so X2 is no answer
never_device : {K : Type 0} (old new : K) (w : Wish) (input : List ℕ)
    → AsksOnly old new (looks_ahead w.want) (AreSound w input) (AreArgumentsFaulty w input) (Err fault.Device) → ⊥
never_device old new w input (inl (sound, archive)) = archive
never_device old new w input (inr (same, inr memory)) = cc
never_device old new w input (inr (same, inl (Err f, is, e))) = words_without w.want caller.Office w.driver w.word w.next (rw (← e) at is)
never_device old new w input (inr (same, inl (Ok t, is, h))) = over_without (takes_input w.want) t input h

-- a job at an archive, by its arguments and by whether the reader failed
module _ {w : Wish} {unread : Option (List ℕ)} {failed : Bool} {K : Type 0} {stands : K → State → Type 0}
    {is_clean is_live : K → Type 0} {leaves : K → List State → Type 0} {is_same : K → K → Type 0} where
  -- the input was read, or is not needed
  performed_by : {old new : K} {answer : Answer} (input : List ℕ) → IfSome unread (λ all. input ≡ all) → (failed ≡ true → ⊥)
      → CarriesOut stands is_clean is_live leaves is_same old new (is_command w.want) answer (Performs w input)
      → AsksOnly old new (looks_ahead w.want) (AreSound w input) (AreArgumentsFaulty w input) answer
      → Performed stands is_clean is_live leaves is_same old new w unread failed answer
  performed_by {old} {new} input whole sound serves asks = record {
    input = input;
    read = whole;
    device = λ e. absurd (sound e);
    serves = λ _. serves;
    x2 = λ e. absurd (never_device old new w input (rw e at asks));
    asks = λ _. asks;
  }

  -- nothing was done
  stopped : IsSameAsItself is_same → (keeper : K) (f : Fault) (input : List ℕ) → IfSome unread (λ all. input ≡ all) → (failed ≡ true → ⊥)
      → ((s : State) → Performs w input s (Err f) s ⊎ IsFailure f)
      → AreArgumentsFaulty w input f ⊎ (f ≡ fault.Memory)
      → Performed stands is_clean is_live leaves is_same keeper keeper w unread failed (Err f)
  stopped same_self keeper f input whole sound performs faulty =
      performed_by input whole sound
      (nothing stands is_clean is_live leaves is_same same_self keeper (is_command w.want) f (Performs w input) performs)
      (inr (refl, faulty))

  -- the arguments were refused
  pub refused_words : IsSameAsItself is_same → (keeper : K) (f : Fault) → failed ≡ false → OfficeWants w (Err f)
      → Performed stands is_clean is_live leaves is_same keeper keeper w unread failed (Err f)
  refused_words same_self keeper f sound is =
      let i = any_input unread in
      stopped same_self keeper f i.input i.told (λ e. cc) (λ s. inl (Err f, is, (refl, refl))) (inl (Err f, is, refl))

  -- a task without an input
  pub without_input : {old new : K} {answer : Answer} (t : Task) → failed ≡ false → OfficeWants w (Ok t)
      → want_of t ≡ w.want → takes_input w.want ≡ false
      → CarriesOut stands is_clean is_live leaves is_same old new (is_command (want_of t)) answer (Does t [])
      → AsksOnly old new (looks_ahead (want_of t)) (IsSound t []) (IsFaulty t []) answer
      → Performed stands is_clean is_live leaves is_same old new w unread failed answer
  without_input {old} {new} {answer} t sound is same none d asks =
      let i = any_input unread in
      performed_by i.input i.told (λ e. cc)
      (served_as stands is_clean is_live leaves is_same old new (is_command w.want) answer (Does t []) (Performs w i.input)
      (λ s told after does. (Ok t, is, rw none does)) (rw same at d))
      (asks_as old new (looks_ahead w.want) _ _ _ _ answer (λ valid. (t, is, rw none valid))
      (λ f h. absurd (let takes = (faulty_takes t [] f h).0 in cc)) (rw same at asks))

  -- an input that was not read
  pub unread_input : IsSameAsItself is_same → (keeper : K) (t : Task) (f : Fault) → OfficeWants w (Ok t)
      → takes_input w.want ≡ true → HasNotRead unread failed f
      → Performed stands is_clean is_live leaves is_same keeper keeper w unread failed (Err f)
  unread_input same_self keeper t fault.TooLarge is one h =
      let i = some_input (λ input. 262144 < length input) unread (replicate 262145 0) h.0 (simp length-replicate (omega arith)) in
      stopped same_self keeper fault.TooLarge i.input i.told h.1 (λ s. inl (Ok t, is, rw one (inl (i.holds, refl, refl))))
      (inl (Ok t, is, rw one (inl (i.holds, refl))))
  unread_input same_self keeper t fault.Device is one h =
      let i = any_input unread in
      record {
        input = i.input;
        read = i.told;
        device = λ _. (refl, refl);
        serves = λ e. absurd (cc);
        x2 = λ _. h;
        asks = λ e. absurd (cc);
      }
  unread_input same_self keeper t fault.Memory is one h =
      let i = any_input unread in
      stopped same_self keeper fault.Memory i.input i.told h (λ s. inr tt) (inr refl)
  unread_input same_self keeper t f is one h = absurd h

  -- an input that was read
  pub over_input : {old new : K} {answer : Answer} (t : Task) (input : List ℕ) → OfficeWants w (Ok t) → want_of t ≡ w.want
      → takes_input w.want ≡ true → HasRead unread failed input
      → CarriesOut stands is_clean is_live leaves is_same old new (is_command (want_of t)) answer (Does t input)
      → AsksOnly old new (looks_ahead (want_of t)) (IsSound t input) (IsFaulty t input) answer
      → Performed stands is_clean is_live leaves is_same old new w unread failed answer
  over_input {old} {new} {answer} t input is same one h d asks =
      performed_by input h.whole h.sound
      (served_as stands is_clean is_live leaves is_same old new (is_command w.want) answer (Does t input) (Performs w input)
      (λ s told after does. (Ok t, is, rw one (inr (h.within, does)))) (rw same at d))
      (asks_as old new (looks_ahead w.want) _ _ _ _ answer (λ valid. (t, is, rw one (h.within, valid)))
      (λ f wrong. (Ok t, is, rw one (inr (h.within, wrong)))) (rw same at asks))
