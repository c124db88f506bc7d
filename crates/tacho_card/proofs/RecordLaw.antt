-- What is read of a record, defined by places and words, is what the recursion reads.
use Rattle.std.proofs.Common.{◌≡◌, ℕ, zero, suc, ◌+◌, ◌-◌, ◌*◌, ◌/◌, ◌<◌, ◌≤◌, ◌⊎◌, inl, inr, ◌↔◌, not, nat_le, nat_lt, Bool, true, false, cond, List, length, Decides, Option, Some, None, Result, Ok, Err, refl, sym, ap, ap₂, ◌∙◌, subst, arith}
use Rattle.std.proofs.lemmas.Bool.Decides.{nat_tests, not_from_Decides, Decides-ltb}
use Rattle.tacho_card.specs.declared.fault.CardFault.{CardFault}
use Rattle.tacho_card.specs.declared.fault.CardFault.TheVariants.{RecordLength, Chain, DayRange, WordMinute, WordOrder}
use Rattle.tacho_card.specs.ActivityChangeInfo.{time_of}
use Rattle.tacho_card.specs.DriverActivity.{DriverActivity, wrap_place}
use Rattle.tacho_card.specs.DailyRecord.{DailyRecord, length_at, record_day, word_place, word_at, is_length, is_read_day, words_fault, fault_or, record_at}
use Rattle.tacho_card.specs.Chain.{lengths, read_after}
use Rattle.tacho_card.specs.Faults.{HasWords, IsTooLong, HasReadDay, IsWordFault, IsFirstWordFault, HaveNoWordFault, IsRecordFault, IsRecordReading}
use Rattle.tacho_card.proofs.FirstLemmas.{FirstFrom, first_here, first_after, none_there, finds_none, finds_first}

-- ---- the words

-- the fault of one of n words
abbrev Fault : List ℕ → ℕ → ℕ → ℕ → CardFault → Type 0
Fault b p n word fault = (word < n) × IsWordFault b p word fault

-- the minute before the i-th word: 0 for the first word, else the minute of the word before it
abbrev IsBefore : List ℕ → ℕ → ℕ → ℕ → Type 0
IsBefore b p minute i = ((i ≡ 0) × (minute ≡ 0)) ⊎ ((word : ℕ) × (word + 1 ≡ i) × (minute ≡ time_of (word_at b p word)))

-- a word below the minute before it is below the time of the word before it
goes_back : (b : List ℕ) (p minute i : ℕ) → IsBefore b p minute i → time_of (word_at b p i) < minute →
    (before : ℕ) × (before + 1 ≡ i) × (time_of (word_at b p i) < time_of (word_at b p before))
goes_back b p minute i (inl h) l = absurd (omega (arith, h.1, l))
goes_back b p minute i (inr h) l = (h.0, h.1, omega (arith, h.2, l))

-- a word whose time is a minute of a day, and not below the minute before, has no fault
has_none : (b : List ℕ) (p minute i : ℕ) → IsBefore b p minute i → ¬ (1440 ≤ time_of (word_at b p i)) → ¬ (time_of (word_at b p i) < minute) →
    (fault : CardFault) → ¬ (IsWordFault b p i fault)
has_none b p minute i h day order fault (inl f) = day f.0
has_none b p minute i (inl h) day order fault (inr f) = absurd (omega (arith, h.0, f.0.1))
has_none b p minute i (inr h) day order fault (inr f) =
    let same : f.0.0 ≡ h.0 = omega (arith, f.0.1, h.1) in
    let time = ap (λ x. time_of (word_at b p x)) same in
    order (omega (arith, f.0.2, h.2, time))

-- decides whether a time isn't a minute of a day
late_decides : (minute : ℕ) → Decides (nat_le 1440 minute) (1440 ≤ minute)
late_decides minute = (λ h. grind (arith, nat_tests), λ h. grind (arith, nat_tests))

-- for k words from the i-th on, the recursion finds the first fault
finds_from : (b : List ℕ) (p n minute i k : ℕ) → i + k ≡ n → IsBefore b p minute i → FirstFrom (Fault b p n) i (words_fault b p minute i k)
unfolding words_fault
finds_from b p n minute i zero e h = λ word fault l f. absurd (omega (arith, f.0))
finds_from b p n minute i (suc k) e h = go (nat_le 1440 time) refl (nat_lt time minute) refl (finds_from b p n time (i + 1) k (omega arith) (inr (i, refl, refl))) where
  time : ℕ
  time = time_of (word_at b p i)

  place : ℕ
  place = wrap_place b (word_place p i)

  others : Option CardFault
  others = words_fault b p time (i + 1) k

  go : (late : Bool) → nat_le 1440 time ≡ late → (back : Bool) → nat_lt time minute ≡ back → FirstFrom (Fault b p n) (i + 1) others →
      FirstFrom (Fault b p n) i (cond late (Some (WordMinute place)) (cond back (Some (WordOrder place)) others))
  go true l back u rest = first_here (Fault b p n) i _ (omega arith, inl ((late_decides time).0 l, refl))
  go false l true u rest = first_here (Fault b p n) i _ (omega arith, inr (goes_back b p minute i h ((Decides-ltb time minute).0 u), refl))
  go false l false u rest =
      let day = not_from_Decides _ (late_decides time) l in
      let order = not_from_Decides _ (Decides-ltb time minute) u in
      first_after (Fault b p n) i _ (λ other f. has_none b p minute i h day order other f.1) rest

-- likewise for all words
finds : (b : List ℕ) (p n : ℕ) → FirstFrom (Fault b p n) 0 (words_fault b p 0 0 n)
finds b p n = finds_from b p n 0 0 n (omega arith) (inl (refl, refl))

-- if the recursion finds no fault, the words have none
none_found : (b : List ℕ) (p n : ℕ) → words_fault b p 0 0 n ≡ None → HaveNoWordFault b p n
none_found b p n e word fault l h = none_there (Fault b p n) _ (finds b p n) e word fault (l, h)

-- if the words have no fault, the recursion finds none
no_fault : (b : List ℕ) (p n : ℕ) → HaveNoWordFault b p n → words_fault b p 0 0 n ≡ None
no_fault b p n h = finds_none (Fault b p n) _ (finds b p n) (λ word fault f. h word fault f.0 f.1)

-- the fault found by recursion is that of the first word that has one
first_found : (b : List ℕ) (p n : ℕ) (fault : CardFault) → words_fault b p 0 0 n ≡ Some fault → IsFirstWordFault b p n fault
first_found b p n fault e =
    let found = subst (FirstFrom (Fault b p n) 0) e (finds b p n) in
    record {
      word = found.0;
      among = found.2.0;
      is = found.2.1;
      first = λ earlier other l f. found.3 earlier other (omega arith) l (omega (arith, l, found.2.0), f);
    }

-- a word has at most one fault, if no earlier word has one
one_fault : (b : List ℕ) (p word : ℕ) (f g : CardFault) → ((earlier : ℕ) (other : CardFault) → earlier < word → ¬ (IsWordFault b p earlier other)) →
    IsWordFault b p word f → IsWordFault b p word g → f ≡ g
one_fault b p word f g first (inl h) (inl k) = h.1 ∙ sym k.1
one_fault b p word f g first (inl h) (inr k) = absurd (first k.0.0 _ (omega (arith, k.0.1)) (inl (omega (arith, h.0, k.0.2), refl)))
one_fault b p word f g first (inr h) (inl k) = absurd (first h.0.0 _ (omega (arith, h.0.1)) (inl (omega (arith, k.0, h.0.2), refl)))
one_fault b p word f g first (inr h) (inr k) = h.1 ∙ sym k.1

-- the fault of the first word that has one is found by recursion
first_fault : (b : List ℕ) (p n : ℕ) (fault : CardFault) → IsFirstWordFault b p n fault → words_fault b p 0 0 n ≡ Some fault
first_fault b p n fault h =
    finds_first (Fault b p n) _ (finds b p n) h.word fault (h.among, h.is) (λ earlier other l f. h.first earlier other l f.1)
    (λ other f. one_fault b p h.word other fault h.first f.1 h.is)

-- ---- the checks of a record

-- a test fails if what it decides doesn't hold
fails : {P : Type 0} (r : Bool) → Decides r P → ¬ P → r ≡ false
fails true h none = absurd (none (h.0 refl))
fails false h none = refl

-- the length of a record with n words, if it is within the buffer, passes the check
words_pass : (size len n : ℕ) → len ≡ 12 + 2 * n → len ≤ size → is_length size len ≡ true
words_pass size len n h l = grind (arith, nat_tests)

-- a length that passes the check is that of a record with some number of words
pass_words : (size len : ℕ) → is_length size len ≡ true → (len ≡ 12 + 2 * ((len - 12) / 2)) × (len ≤ size)
pass_words size len h = grind (arith, nat_tests)

-- the number of words for a length
words_count : (len n : ℕ) → len ≡ 12 + 2 * n → (len - 12) / 2 ≡ n
words_count len n h = omega arith

-- decides C9
length_decides : (activity : DriverActivity) (place : ℕ) → Decides (is_length (length activity.buffer) (length_at activity.buffer place)) ((count : ℕ) × HasWords activity place count)
length_decides activity place = (λ e. ((length_at activity.buffer place - 12) / 2, pass_words _ _ e), λ h. words_pass _ _ h.0 h.1.0 h.1.1)

-- a record of this length exceeds the remaining bytes iff all lengths together exceed the buffer
room_decides : (size before len : ℕ) → 12 ≤ len → Decides (nat_lt (size - before) len) (size < before + len)
room_decides size before len l = (λ h. grind (arith, nat_tests), λ h. grind (arith, nat_tests))

-- the bytes of the buffer that the records at these places leave
abbrev left : DriverActivity → List ℕ → ℕ
left activity front = length activity.buffer - lengths activity.buffer front

-- decides C10, for a record with some number of words
long_decides : (activity : DriverActivity) (front : List ℕ) (place count : ℕ) → HasWords activity place count →
    Decides (nat_lt (left activity front) (length_at activity.buffer place)) (IsTooLong activity front place)
long_decides activity front place count h = room_decides (length activity.buffer) (lengths activity.buffer front) (length_at activity.buffer place) (omega (arith, h.0))

-- decides C11
day_decides : (day : ℕ) → Decides (is_read_day day) ((10959 ≤ day) × (day ≤ 47481))
day_decides day = (λ h. grind (arith, nat_tests), λ h. grind (arith, nat_tests))

-- what is read at a place, given the results of the checks
abbrev by_tests : List ℕ → ℕ → Bool → Bool → Bool → Option CardFault → Result DailyRecord CardFault
by_tests b p length_passes too_long day_passes fault =
    cond (not length_passes) (Err (RecordLength p))
    (cond too_long (Err (Chain p))
    (cond (not day_passes) (Err (DayRange p))
    (fault_or fault (record { buffer = b; place = p; count = (length_at b p - 12) / 2 }))))

-- the recursion reads this, if the checks have these results
tests_read : (b : List ℕ) (p left : ℕ) (t u v : Bool) (o : Option CardFault) → is_length (length b) (length_at b p) ≡ t → nat_lt left (length_at b p) ≡ u →
    is_read_day (record_day b p) ≡ v → words_fault b p 0 0 ((length_at b p - 12) / 2) ≡ o → record_at b p left ≡ by_tests b p t u v o
unfolding record_at
tests_read b p left t u v o e f g h =
    ap (λ x. by_tests b p x (nat_lt left (length_at b p)) (is_read_day (record_day b p)) (words_fault b p 0 0 ((length_at b p - 12) / 2))) e
    ∙ ap (λ x. by_tests b p t x (is_read_day (record_day b p)) (words_fault b p 0 0 ((length_at b p - 12) / 2))) f
    ∙ ap₂ (λ x y. by_tests b p t u x y) g h

-- ---- the law

-- the record has a fault of its words, and none before
abbrev HasWordFault : DriverActivity → List ℕ → ℕ → CardFault → Type 0
HasWordFault activity front place fault =
    (count : ℕ) × HasWords activity place count × ¬ (IsTooLong activity front place) × HasReadDay activity place × IsFirstWordFault activity.buffer place count fault

-- this fault is the record's fault
word_fault_is : (activity : DriverActivity) (front : List ℕ) (place : ℕ) (fault : CardFault) → HasWordFault activity front place fault → IsRecordFault activity front place fault
word_fault_is activity front place fault h = go h.4.is where
  back : (other : CardFault) → fault ≡ other → (HasWordFault activity front place other → IsRecordFault activity front place other) → IsRecordFault activity front place fault
  back other e same = subst (IsRecordFault activity front place) (sym e) (same (subst (HasWordFault activity front place) e h))

  go : IsWordFault activity.buffer place h.4.word fault → IsRecordFault activity front place fault
  go (inl k) = back _ k.1 (λ w. w)
  go (inr k) = back _ k.1 (λ w. w)

-- what the recursion reads at a place is a reading by places and words
read_is : (activity : DriverActivity) (front : List ℕ) (place : ℕ) → IsRecordReading activity front place (read_after activity front place)
read_is activity front place =
    subst (IsRecordReading activity front place) (sym (tests_read b place (left activity front) _ _ _ _ refl refl refl refl))
    (go (is_length (length b) len) refl (nat_lt (left activity front) len) refl (is_read_day (record_day b place)) refl (words_fault b place 0 0 count) refl) where
      b : List ℕ
      b = activity.buffer

      len : ℕ
      len = length_at b place

      count : ℕ
      count = (len - 12) / 2

      words : is_length (length b) len ≡ true → HasWords activity place count
      words e = pass_words (length b) len e

      room : is_length (length b) len ≡ true → nat_lt (left activity front) len ≡ false → ¬ (IsTooLong activity front place)
      room e f = not_from_Decides _ (long_decides activity front place count (words e)) f

      go : (t : Bool) → is_length (length b) len ≡ t → (u : Bool) → nat_lt (left activity front) len ≡ u →
          (v : Bool) → is_read_day (record_day b place) ≡ v → (o : Option CardFault) → words_fault b place 0 0 count ≡ o →
          IsRecordReading activity front place (by_tests b place t u v o)
      go false e u f v g o h = (refl, λ n some. not_from_Decides _ (length_decides activity place) e (n, some))
      go true e true f v g o h = (refl, (count, words e), (long_decides activity front place count (words e)).0 f)
      go true e false f false g o h = (refl, (count, words e), room e f, not_from_Decides _ (day_decides (record_day b place)) g)
      go true e false f true g None h = (
        refl,
        record {
          buffer = refl;
          words = words e;
          room = room e f;
          day = (day_decides (record_day b place)).0 g;
          in_order = none_found b place count h;
        },
      )
      go true e false f true g (Some fault) h =
          word_fault_is activity front place fault (count, words e, room e f, (day_decides (record_day b place)).0 g, first_found b place count fault h)

-- a record that passes the checks is read, or refused with the fault of its words
words_read : (activity : DriverActivity) (front : List ℕ) (place count : ℕ) (o : Option CardFault) → HasWords activity place count → ¬ (IsTooLong activity front place) →
    HasReadDay activity place → words_fault activity.buffer place 0 0 count ≡ o →
    read_after activity front place ≡ fault_or o (record { buffer = activity.buffer; place = place; count = count })
words_read activity front place count o h room day e =
    let same = words_count (length_at activity.buffer place) count h.0 in
    tests_read activity.buffer place (left activity front) true false true o ((length_decides activity place).1 (count, h))
    (fails _ (long_decides activity front place count h) room) ((day_decides _).1 day) (ap (words_fault activity.buffer place 0 0) same ∙ e)
    ∙ ap (λ n. fault_or o (record { buffer = activity.buffer; place = place; count = n })) same

-- a reading by places and words is what the recursion reads at the place
is_read : (activity : DriverActivity) (front : List ℕ) (place : ℕ) (reading : Result DailyRecord CardFault) →
    IsRecordReading activity front place reading → read_after activity front place ≡ reading
is_read activity front place (Ok r) h =
    let none = no_fault activity.buffer r.place r.count h.1.in_order in
    ap (read_after activity front) (sym h.0) ∙ words_read activity front r.place r.count None h.1.words h.1.room h.1.day none
    ∙ ap (λ x. Ok (record { buffer = x; place = r.place; count = r.count })) (sym h.1.buffer)
is_read activity front place (Err (RecordLength p)) h =
    let none = fails _ (length_decides activity place) (λ some. h.1 some.0 some.1) in
    tests_read activity.buffer place (left activity front) false _ _ _ none refl refl refl ∙ ap (λ x. Err (RecordLength x)) (sym h.0)
is_read activity front place (Err (Chain p)) h =
    let long = (long_decides activity front place h.1.0 h.1.1).1 h.2 in
    tests_read activity.buffer place (left activity front) true true _ _ ((length_decides activity place).1 h.1) long refl refl ∙ ap (λ x. Err (Chain x)) (sym h.0)
is_read activity front place (Err (DayRange p)) h =
    let room = fails _ (long_decides activity front place h.1.0 h.1.1) h.2 in
    let day = fails _ (day_decides (record_day activity.buffer place)) h.3 in
    tests_read activity.buffer place (left activity front) true false false _ ((length_decides activity place).1 h.1) room day refl ∙ ap (λ x. Err (DayRange x)) (sym h.0)
is_read activity front place (Err fault) h =
    words_read activity front place h.0 (Some fault) h.1 h.2 h.3 (first_fault activity.buffer place h.0 fault h.4)

-- a result is a reading by places and words iff the recursion reads it
pub record_reading : (activity : DriverActivity) (front : List ℕ) (place : ℕ) (reading : Result DailyRecord CardFault) →
    IsRecordReading activity front place reading ↔ (read_after activity front place ≡ reading)
record_reading activity front place reading = (is_read activity front place reading, λ e. subst (IsRecordReading activity front place) e (read_is activity front place))
