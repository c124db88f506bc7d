-- What the spans of records give.
use Rattle.std.proofs.Common.{◌≡◌, ◌≢◌, ℕ, zero, suc, ◌+◌, ◌-◌, ◌*◌, ◌/◌, ◌<◌, ◌≤◌, ◌⊎◌, inl, inr, ◌↔◌, ◌&&◌, ◌==◌, not, nat_le, nat_lt, Bool, true, false, cond, List, [], ◌∷◌, ◌++◌, length, Option, Some, None, Result, Ok, Err, MatchResult, refl, sym, ap, ◌∙◌, subst, arith}
use Rattle.std.proofs.lemmas.Bool.Decides.{nat_tests}
use Rattle.std.specs.Result.{IsErr, IsErrAnd}
use Rattle.tacho_time.specs.declared.span.Span.{Span}
use Rattle.tacho_time.specs.declared.span.Mark.{Mark}
use Rattle.tacho_time.specs.OrMemory.{OrMemory}
use Rattle.tacho_time.specs.Spans.{Gives, SamePairs, IsCanonicalOf, Conflicts, IsFirstConflict}
use Rattle.tacho_card.specs.declared.fault.CardFault.{CardFault}
use Rattle.tacho_card.specs.declared.fault.CardFault.TheVariants.{SelfContradiction, Memory}
use Rattle.tacho_card.specs.ActivityChangeInfo.{time_of, mark_of}
use Rattle.tacho_card.specs.DriverActivity.{DriverActivity, wrap_place}
use Rattle.tacho_card.specs.DailyRecord.{DailyRecord, is_length, is_read_day, length_at, record_day, word_at, words_fault, fault_or, record_at}
use Rattle.tacho_card.specs.Chain.{has_no_records, followed_by, chain_from, chain, fault_of}
use Rattle.tacho_card.specs.Reading.{word_minute, RecordGives, ItemsGive, ActivitiesGive, chains_fault, IsReading, IsReadingFault}
use Rattle.tacho_card.specs.RawSpans.{span_of_mark, closed_mark, word_past, words_spans, record_spans, prepend_spans, items_spans, activity_spans}
use Rattle.tacho_card.proofs.RawLemmas.{unless_zero, only_fault}

-- ---- the words of a record

-- a number is at most itself
le_self : (n : ℕ) → n ≤ n
le_self n = omega arith

-- a number that is at least i is i or more than i
lt_or_eq : (i j : ℕ) → i ≤ j → (j ≡ i) ⊎ (i < j)
lt_or_eq i j l = go (nat_lt i j) refl where
  go : (t : Bool) → nat_lt i j ≡ t → (j ≡ i) ⊎ (i < j)
  go true h = inr (grind (arith, nat_tests))
  go false h = inl (grind (arith, nat_tests))

-- two checks before a result: without a fault, both passed
passed_words : (a b : Bool) (f g : CardFault) (r : Option CardFault) → cond a (Some f) (cond b (Some g) r) ≡ None → (a ≡ false) × (b ≡ false) × (r ≡ None)
passed_words true b f g r h = cc
passed_words false true f g r h = cc
passed_words false false f g r h = (refl, refl, h)

-- the first of some words without a fault, and the others
first_sound : (b : List ℕ) (p before i n : ℕ) → words_fault b p before i (suc n) ≡ None → (time_of (word_at b p i) < 1440) × (before ≤ time_of (word_at b p i)) × (words_fault b p (time_of (word_at b p i)) (i + 1) n ≡ None)
unfolding words_fault
first_sound b p before i n h =
    let parts = passed_words _ _ _ _ _ h in
    (late parts.0, order parts.1, parts.2) where
      late : nat_le 1440 (time_of (word_at b p i)) ≡ false → time_of (word_at b p i) < 1440
      late e = grind (arith, nat_tests)

      order : nat_lt (time_of (word_at b p i)) before ≡ false → before ≤ time_of (word_at b p i)
      order e = grind (arith, nat_tests)

-- words without a fault have a minute of a day, not before that of the word before
words_after : (b : List ℕ) (p before i n j : ℕ) → words_fault b p before i n ≡ None → i ≤ j → j < i + n → (before ≤ time_of (word_at b p j)) × (time_of (word_at b p j) < 1440)
words_after b p before i zero j h l u = absurd (omega arith)
words_after b p before i (suc n) j h l u =
    let first = first_sound b p before i n h in
    go first (words_after b p (time_of (word_at b p i)) (i + 1) n j first.2) (lt_or_eq i j l) where
      go : (time_of (word_at b p i) < 1440) × (before ≤ time_of (word_at b p i)) × (words_fault b p (time_of (word_at b p i)) (i + 1) n ≡ None) → (i + 1 ≤ j → j < (i + 1) + n → (time_of (word_at b p i) ≤ time_of (word_at b p j)) × (time_of (word_at b p j) < 1440)) → (j ≡ i) ⊎ (i < j) → (before ≤ time_of (word_at b p j)) × (time_of (word_at b p j) < 1440)
      go first more (inl e) = subst (λ (k : ℕ). (before ≤ time_of (word_at b p k)) × (time_of (word_at b p k) < 1440)) (sym e) (first.1, first.0)
      go first more (inr k) = let rest = more (omega arith) (omega arith) in (omega (arith, first.1, rest.0), rest.1)

-- the times of words without a fault don't decrease
words_rise : (b : List ℕ) (p before s n i j : ℕ) → words_fault b p before s n ≡ None → s ≤ i → i ≤ j → j < s + n → (time_of (word_at b p i) ≤ time_of (word_at b p j)) × (time_of (word_at b p j) < 1440)
words_rise b p before s zero i j h l o u = absurd (omega arith)
words_rise b p before s (suc n) i j h l o u =
    let first = first_sound b p before s n h in
    go first (words_after b p (time_of (word_at b p s)) (s + 1) n j first.2) (words_rise b p (time_of (word_at b p s)) (s + 1) n i j first.2) (lt_or_eq s i l) (lt_or_eq i j o) where
      P : ℕ → ℕ → Type 0
      P x y = (time_of (word_at b p x) ≤ time_of (word_at b p y)) × (time_of (word_at b p y) < 1440)

      go : (time_of (word_at b p s) < 1440) × (before ≤ time_of (word_at b p s)) × (words_fault b p (time_of (word_at b p s)) (s + 1) n ≡ None) → (s + 1 ≤ j → j < (s + 1) + n → P s j) → (s + 1 ≤ i → i ≤ j → j < (s + 1) + n → P i j) → (i ≡ s) ⊎ (s < i) → (j ≡ i) ⊎ (i < j) → P i j
      go first after more (inr k) e = more (omega arith) o (omega arith)
      go first after more (inl e) (inr k) = subst (λ (x : ℕ). P x j) (sym e) (after (omega (arith, e, k)) (omega arith))
      go first after more (inl e) (inl f) = subst (λ (x : ℕ). P i x) (sym f) (subst (λ (x : ℕ). P x x) (sym e) (le_self _, first.0))

-- ---- what spans give

-- spans give the same with others after them
gives_first : (xs ys : List Span) (m : ℕ) (k : Mark) → Gives xs m k → Gives (xs ++ ys) m k
gives_first [] ys m k g = absurd g
gives_first (x ∷ xs) ys m k (inl c) = inl c
gives_first (x ∷ xs) ys m k (inr g) = inr (gives_first xs ys m k g)

-- spans give the same with others before them
gives_last : (xs ys : List Span) (m : ℕ) (k : Mark) → Gives ys m k → Gives (xs ++ ys) m k
gives_last [] ys m k g = g
gives_last (x ∷ xs) ys m k g = inr (gives_last xs ys m k g)

-- what two lists of spans give together, one of them gives
gives_either : (xs ys : List Span) (m : ℕ) (k : Mark) → Gives (xs ++ ys) m k → Gives xs m k ⊎ Gives ys m k
gives_either [] ys m k g = inr g
gives_either (x ∷ xs) ys m k (inl c) = inl (inl c)
gives_either (x ∷ xs) ys m k (inr g) = go (gives_either xs ys m k g) where
  go : Gives xs m k ⊎ Gives ys m k → Gives (x ∷ xs) m k ⊎ Gives ys m k
  go (inl h) = inl (inr h)
  go (inr h) = inr h

-- a span of a mark gives only this mark, and only from its start to before its end
from_marked : (a b : ℕ) (o : Option Mark) (m : ℕ) (k : Mark) → Gives (span_of_mark a b o) m k → (a ≤ m) × (m < b) × (o ≡ Some k)
from_marked a b None m k g = absurd g
from_marked a b (Some j) m k (inl c) = (c.0.0, c.0.1, ap Some c.1)
from_marked a b (Some j) m k (inr g) = absurd g

-- a span of a mark gives this mark from its start to before its end
to_marked : (a b : ℕ) (o : Option Mark) (m : ℕ) (k : Mark) → a ≤ m → m < b → o ≡ Some k → Gives (span_of_mark a b o) m k
to_marked a b None m k l h e = cc
to_marked a b (Some j) m k l h e = let f : j ≡ k = cc in inl ((l, h), f)

-- ---- what the words of a record give

-- the times of a record's words are minutes of a day and don't decrease
abbrev Rises : DailyRecord → Type 0
Rises r = (i j : ℕ) → i ≤ j → j < r.count → (time_of (word_at r.buffer r.place i) ≤ time_of (word_at r.buffer r.place j)) × (time_of (word_at r.buffer r.place j) < 1440)

-- the words of a record without a fault are like that
sound_rises : (r : DailyRecord) → words_fault r.buffer r.place 0 0 r.count ≡ None → Rises r
sound_rises r h i j l u = words_rise r.buffer r.place 0 0 r.count i j h (omega arith) l (omega arith)

-- a word from the i-th on gives the minute this mark
abbrev GivesFrom : ℕ → ℕ → DailyRecord → ℕ → Mark → Type 0
GivesFrom i newest r m k = (g : RecordGives newest r m k) × (i ≤ g.word)

-- a minute before a minute of a day is before each later minute of that day
below_later : (d a b m : ℕ) → m < 1440 * d + a → a ≤ b → m < 1440 * d + b
below_later d a b m h l = omega arith

-- a minute before a minute of a day is before the end of that day
within_day : (d a m : ℕ) → m < 1440 * d + a → a < 1440 → m < 1440 * (d + 1)
within_day d a m h l = omega arith

-- two ways to write the end of a day
day_end : (d m : ℕ) → (m < 1440 * d + 1440 → m < 1440 * (d + 1)) × (m < 1440 * (d + 1) → m < 1440 * d + 1440)
day_end d m = (λ h. omega arith, λ h. omega arith)

-- a word that isn't the last ends at the next one
inner_past : (r : DailyRecord) (i n : ℕ) → word_past r i (suc n) ≡ word_minute r (i + 1)
inner_past r i n = unless_zero (suc n) _ _ (omega arith)

-- before the end of a word, the day hasn't ended, and no later word has begun
before_past : (r : DailyRecord) (i n m : ℕ) → Rises r → i + suc n ≡ r.count → m < word_past r i n → (m < 1440 * (record_day r.buffer r.place + 1)) × ((later : ℕ) → i < later → later < r.count → m < word_minute r later)
before_past r i zero m up count h = ((day_end (record_day r.buffer r.place) m).0 h, λ later l u. absurd (omega arith))
before_past r i (suc n) m up count h =
    let next : m < word_minute r (i + 1) = subst (λ (x : ℕ). m < x) (inner_past r i n) h in (
      within_day _ _ m next (up (i + 1) (i + 1) (le_self _) (omega arith)).1,
      λ later l u. below_later (record_day r.buffer r.place) _ _ m next (up (i + 1) later (omega arith) u).0,
    )

-- if the day hasn't ended and no later word has begun, the word hasn't ended
not_past : (r : DailyRecord) (i n m : ℕ) → i + suc n ≡ r.count → m < 1440 * (record_day r.buffer r.place + 1) → ((later : ℕ) → i < later → later < r.count → m < word_minute r later) → m < word_past r i n
not_past r i zero m count day later = (day_end (record_day r.buffer r.place) m).1 day
not_past r i (suc n) m count day later = subst (λ (x : ℕ). m < x) (sym (inner_past r i n)) (later (i + 1) (omega arith) (omega arith))

-- if a word gives a mark, it is the word's own mark, and the word isn't the last one of the newest record
closed_own : (newest : ℕ) (r : DailyRecord) (i n : ℕ) (k : Mark) → closed_mark (r.place == newest) r i n ≡ Some k → (mark_of (word_at r.buffer r.place i) ≡ Some k) × (r.place ≡ newest → n ≢ 0)
closed_own newest r i n k h = go (r.place == newest) refl (n == 0) refl h where
  go : (t : Bool) → (r.place == newest) ≡ t → (z : Bool) → (n == 0) ≡ z → cond (t && z) None (mark_of (word_at r.buffer r.place i)) ≡ Some k → (mark_of (word_at r.buffer r.place i) ≡ Some k) × (r.place ≡ newest → n ≢ 0)
  go true e true f h = cc
  go true e false f h = (h, λ s d. grind (arith, nat_tests))
  go false e z f h = (h, λ s d. grind (arith, nat_tests))

-- a word with a mark gives it, unless it is the last one of the newest record
own_closed : (newest : ℕ) (r : DailyRecord) (i n : ℕ) (k : Mark) → mark_of (word_at r.buffer r.place i) ≡ Some k → (r.place ≡ newest → n ≢ 0) → closed_mark (r.place == newest) r i n ≡ Some k
own_closed newest r i n k h inner = go (r.place == newest) refl (n == 0) refl where
  go : (t : Bool) → (r.place == newest) ≡ t → (z : Bool) → (n == 0) ≡ z → cond (t && z) None (mark_of (word_at r.buffer r.place i)) ≡ Some k
  go true e true f = absurd (inner (grind (arith, nat_tests)) (grind (arith, nat_tests)))
  go true e false f = h
  go false e z f = h

-- what the span of the i-th word gives, the record gives by this word
own_gives : (newest : ℕ) (r : DailyRecord) (i n m : ℕ) (k : Mark) → Rises r → i + suc n ≡ r.count → Gives (span_of_mark (word_minute r i) (word_past r i n) (closed_mark (r.place == newest) r i n)) m k → GivesFrom i newest r m k
own_gives newest r i n m k up count g =
    let span = from_marked (word_minute r i) (word_past r i n) (closed_mark (r.place == newest) r i n) m k g in
    let before = before_past r i n m up count span.1 in
    let mark = closed_own newest r i n k span.2 in (
      record {
        word = i;
        there = omega arith;
        holds = span.0;
        last = before.1;
        in_day = before.0;
        marked = mark.0;
        closed = λ e. mark.1 e.0 (omega (arith, e.1, count));
      },
      le_self i,
    )

-- what the record gives by the i-th word, the span of this word gives
gives_own : (newest : ℕ) (r : DailyRecord) (i n m : ℕ) (k : Mark) → i + suc n ≡ r.count → (g : RecordGives newest r m k) → g.word ≡ i → Gives (span_of_mark (word_minute r i) (word_past r i n) (closed_mark (r.place == newest) r i n)) m k
gives_own newest r i n m k count g e =
    let holds : word_minute r i ≤ m = subst (λ (x : ℕ). word_minute r x ≤ m) e g.holds in
    let mark : mark_of (word_at r.buffer r.place i) ≡ Some k = subst (λ (x : ℕ). mark_of (word_at r.buffer r.place x) ≡ Some k) e g.marked in
    let past = not_past r i n m count g.in_day (λ later l u. g.last later (omega (arith, e, l)) u) in
    let closed = own_closed newest r i n k mark (λ same none. g.closed (same, omega (arith, e, count, none))) in
    to_marked (word_minute r i) (word_past r i n) (closed_mark (r.place == newest) r i n) m k holds past closed

-- the spans of the words from the i-th on give what the record gives by these words
words_give : (newest : ℕ) (r : DailyRecord) (i n m : ℕ) (k : Mark) → Rises r → i + n ≡ r.count → Gives (words_spans (r.place == newest) r i n) m k ↔ GivesFrom i newest r m k
unfolding words_spans
words_give newest r i zero m k up count = (λ g. absurd g, λ g. let there = g.0.there in absurd (omega (arith, there, g.1, count)))
words_give newest r i (suc n) m k up count = (λ g. there (words_give newest r (i + 1) n m k up (omega arith)).0 (gives_either own rest m k g), λ g. back (words_give newest r (i + 1) n m k up (omega arith)).1 g.0 (lt_or_eq i g.0.word g.1)) where
  own : List Span
  own = span_of_mark (word_minute r i) (word_past r i n) (closed_mark (r.place == newest) r i n)

  rest : List Span
  rest = words_spans (r.place == newest) r (i + 1) n

  there : (Gives rest m k → GivesFrom (i + 1) newest r m k) → Gives own m k ⊎ Gives rest m k → GivesFrom i newest r m k
  there more (inl g) = own_gives newest r i n m k up count g
  there more (inr g) = let from = more g in (from.0, omega (arith, from.1))

  back : (GivesFrom (i + 1) newest r m k → Gives rest m k) → (g : RecordGives newest r m k) → (g.word ≡ i) ⊎ (i < g.word) → Gives (own ++ rest) m k
  back more g (inl e) = gives_first own rest m k (gives_own newest r i n m k count g e)
  back more g (inr l) = gives_last own rest m k (more (g, omega arith))

-- the spans of a record without faults give what the record gives
pub record_gives : (newest : ℕ) (r : DailyRecord) (m : ℕ) (k : Mark) → words_fault r.buffer r.place 0 0 r.count ≡ None → Gives (record_spans (r.place == newest) r) m k ↔ RecordGives newest r m k
record_gives newest r m k h =
    let same = words_give newest r 0 r.count m k (sound_rises r h) (omega arith) in
    (λ g. (same.0 g).0, λ g. same.1 (g, omega arith))

-- ---- the records of a chain

-- no record of the list has a word with a fault
abbrev AllSound : List (Result DailyRecord CardFault) → Type 0
AllSound [] = Unit {0}
AllSound (Err fault ∷ items) = AllSound items
AllSound (Ok r ∷ items) = (words_fault r.buffer r.place 0 0 r.count ≡ None) × AllSound items

-- a check passed, if its failure is a fault and a record was read
passed : (b : Bool) (f : CardFault) (x : Result DailyRecord CardFault) (r : DailyRecord) → cond b (Err f) x ≡ Ok r → x ≡ Ok r
passed true f x r h = cc
passed false f x r h = h

-- if a record was read, there was no fault
no_fault : (o : Option CardFault) (q r : DailyRecord) → fault_or o q ≡ Ok r → (o ≡ None) × (q ≡ r)
no_fault None q r h = let e : q ≡ r = cc in (refl, e)
no_fault (Some f) q r h = cc

-- a record that was read has no word with a fault
read_sound : (b : List ℕ) (p l : ℕ) (r : DailyRecord) → record_at b p l ≡ Ok r → words_fault r.buffer r.place 0 0 r.count ≡ None
unfolding record_at
read_sound b p l r h =
    let one = passed (not (is_length (length b) (length_at b p))) _ _ _ h in
    let two = passed (nat_lt l (length_at b p)) _ _ _ one in
    let three = passed (not (is_read_day (record_day b p))) _ _ _ two in
    let read = no_fault (words_fault b p 0 0 ((length_at b p - 12) / 2)) (record { buffer = b; place = p; count = (length_at b p - 12) / 2 }) r three in
    subst (λ (x : DailyRecord). words_fault x.buffer x.place 0 0 x.count ≡ None) read.1 read.0

-- a record that was read, followed by records without faulty words
followed_sound : (x : Result DailyRecord CardFault) (rest : List (Result DailyRecord CardFault)) → ((r : DailyRecord) → x ≡ Ok r → words_fault r.buffer r.place 0 0 r.count ≡ None) → AllSound rest → AllSound (followed_by x rest)
followed_sound (Err f) rest h s = tt
followed_sound (Ok r) rest h s = (h r refl, s)

-- likewise if the following records come only when a test is false
unless_sound : (t : Bool) (rest : List (Result DailyRecord CardFault)) → AllSound rest → AllSound (cond t [] rest)
unless_sound true rest s = tt
unless_sound false rest s = s

-- no record from a place of a chain on has a word with a fault
from_sound : (fuel : ℕ) (b : List ℕ) (n p l : ℕ) → AllSound (chain_from fuel b n p l)
unfolding chain_from
from_sound zero b n p l = tt
from_sound (suc fuel) b n p l = followed_sound (record_at b p l) _ (λ r e. read_sound b p l r e) (unless_sound (p == n) _ (from_sound fuel b n (wrap_place b (p + length_at b p)) (l - length_at b p)))

-- no record of a chain has a word with a fault
chain_sound : (activity : DriverActivity) → AllSound (chain activity)
chain_sound activity = unless_sound (has_no_records activity) _ (from_sound (suc (length activity.buffer)) activity.buffer activity.newest activity.oldest (length activity.buffer))

-- ---- what chains give

-- if spans before others give a result, the others have one
with_ok : (front own : List Span) (x : Result (List Span) CardFault) → prepend_spans front x ≡ Ok own → (rest : List Span) × (x ≡ Ok rest) × (own ≡ front ++ rest)
with_ok front own (Ok rest) h = let e : own ≡ front ++ rest = cc in (rest, refl, e)
with_ok front own (Err f) h = cc

-- if a list of records has spans, it has no fault, and the spans give what its records give
items_give : (newest : ℕ) (items : List (Result DailyRecord CardFault)) (own : List Span) → AllSound items → items_spans newest items ≡ Ok own → (fault_of items ≡ None) × SamePairs (Gives own) (ItemsGive newest items)
unfolding items_spans
items_give newest [] own s h = let e : own ≡ [] = cc in (refl, λ m k. (λ g. subst (λ (x : List Span). Gives x m k) e g, λ g. absurd g))
items_give newest (Err f ∷ items) own s h = cc
items_give newest (Ok r ∷ items) own s h =
    let parts = with_ok (record_spans (r.place == newest) r) own (items_spans newest items) h in
    let more = items_give newest items parts.0 s.1 parts.1 in
    (more.0, λ m k. (λ g. there m k parts.0 (more.1 m k).0 (gives_either (record_spans (r.place == newest) r) parts.0 m k (subst (λ (x : List Span). Gives x m k) parts.2 g)), λ g. subst (λ (x : List Span). Gives x m k) (sym parts.2) (back m k parts.0 (more.1 m k).1 g))) where
      there : (m : ℕ) (k : Mark) (rest : List Span) → (Gives rest m k → ItemsGive newest items m k) → Gives (record_spans (r.place == newest) r) m k ⊎ Gives rest m k → ItemsGive newest (Ok r ∷ items) m k
      there m k rest more (inl g) = inl ((record_gives newest r m k s.0).0 g)
      there m k rest more (inr g) = inr (more g)

      back : (m : ℕ) (k : Mark) (rest : List Span) → (ItemsGive newest items m k → Gives rest m k) → ItemsGive newest (Ok r ∷ items) m k → Gives (record_spans (r.place == newest) r ++ rest) m k
      back m k rest more (inl g) = gives_first (record_spans (r.place == newest) r) rest m k ((record_gives newest r m k s.0).1 g)
      back m k rest more (inr g) = gives_last (record_spans (r.place == newest) r) rest m k (more g)

-- if a list of records has no spans, it has a fault
items_fault : (newest : ℕ) (items : List (Result DailyRecord CardFault)) (f : CardFault) → items_spans newest items ≡ Err f → fault_of items ≡ Some f
unfolding items_spans
items_fault newest [] f h = cc
items_fault newest (Err g ∷ items) f h = let e : g ≡ f = cc in ap Some e
items_fault newest (Ok r ∷ items) f h = items_fault newest items f (only_fault (record_spans (r.place == newest) r) (items_spans newest items) f h)

-- if data have spans, they have no fault, and the spans give what their records give
pub activity_gives : (activity : DriverActivity) (own : List Span) → activity_spans activity ≡ Ok own → (fault_of (chain activity) ≡ None) × SamePairs (Gives own) (ItemsGive activity.newest (chain activity))
activity_gives activity own h = items_give activity.newest (chain activity) own (chain_sound activity) h

-- if data have no spans, they have a fault
pub activity_fault : (activity : DriverActivity) (f : CardFault) → activity_spans activity ≡ Err f → fault_of (chain activity) ≡ Some f
activity_fault activity f h = items_fault activity.newest (chain activity) f h

-- ---- what several data give

-- the data have no fault, and the spans give what they give
abbrev pub IsRaw : List DriverActivity → List Span → Type 0
IsRaw activities raw = (chains_fault activities ≡ None) × SamePairs (Gives raw) (ActivitiesGive activities)

-- no data have no spans
pub raw_none : IsRaw [] []
raw_none = (refl, λ m k. (λ g. g, λ g. g))

-- if the first data have no fault, the first fault is that of the others
chain_without : (activity : DriverActivity) (more : List DriverActivity) → fault_of (chain activity) ≡ None → chains_fault (activity ∷ more) ≡ chains_fault more
chain_without activity more h = rw h refl

-- if the first data have a fault, it is the first fault
pub chain_with : (activity : DriverActivity) (more : List DriverActivity) (f : CardFault) → fault_of (chain activity) ≡ Some f → chains_fault (activity ∷ more) ≡ Some f
chain_with activity more f h = rw h refl

-- if several data have no fault, the first of them has none
first_without : (activity : DriverActivity) (more : List DriverActivity) → chains_fault (activity ∷ more) ≡ None → fault_of (chain activity) ≡ None
first_without activity more h = go (fault_of (chain activity)) refl where
  go : (o : Option CardFault) → fault_of (chain activity) ≡ o → fault_of (chain activity) ≡ None
  go None e = e
  go (Some f) e = let wrong = sym (chain_with activity more f e) ∙ h in cc

-- after data without a fault, the first fault is that of further data
pub fault_after : (activities more : List DriverActivity) → chains_fault activities ≡ None → chains_fault (activities ++ more) ≡ chains_fault more
fault_after [] more h = refl
fault_after (activity ∷ activities) more h =
    let none = first_without activity activities h in
    chain_without activity (activities ++ more) none ∙ fault_after activities more (sym (chain_without activity activities none) ∙ h)

-- data give the same with others after them
activities_first : (activities more : List DriverActivity) (m : ℕ) (k : Mark) → ActivitiesGive activities m k → ActivitiesGive (activities ++ more) m k
activities_first [] more m k g = absurd g
activities_first (activity ∷ activities) more m k (inl g) = inl g
activities_first (activity ∷ activities) more m k (inr g) = inr (activities_first activities more m k g)

-- data give the same with others before them
activities_last : (activities more : List DriverActivity) (m : ℕ) (k : Mark) → ActivitiesGive more m k → ActivitiesGive (activities ++ more) m k
activities_last [] more m k g = g
activities_last (activity ∷ activities) more m k g = inr (activities_last activities more m k g)

-- what two lists of data give together, one of them gives
activities_either : (activities more : List DriverActivity) (m : ℕ) (k : Mark) → ActivitiesGive (activities ++ more) m k → ActivitiesGive activities m k ⊎ ActivitiesGive more m k
activities_either [] more m k g = inr g
activities_either (activity ∷ activities) more m k (inl g) = inl (inl g)
activities_either (activity ∷ activities) more m k (inr g) = go (activities_either activities more m k g) where
  go : ActivitiesGive activities m k ⊎ ActivitiesGive more m k → ActivitiesGive (activity ∷ activities) m k ⊎ ActivitiesGive more m k
  go (inl h) = inl (inr h)
  go (inr h) = inr h

-- spans of further data, appended to the spans so far, give what all these data give
pub raw_more : (activities : List DriverActivity) (activity : DriverActivity) (raw new : List Span) → IsRaw activities raw → prepend_spans raw (activity_spans activity) ≡ Ok new → IsRaw (activities ++ activity ∷ []) new
raw_more activities activity raw new h e =
    let parts = with_ok raw new (activity_spans activity) e in
    let own = activity_gives activity parts.0 parts.1 in (
      fault_after activities (activity ∷ []) h.0 ∙ chain_without activity [] own.0,
      λ m k. (
        λ g. there m k parts.0 (own.1 m k).0 (gives_either raw parts.0 m k (subst (λ (x : List Span). Gives x m k) parts.2 g)),
        λ g. subst (λ (x : List Span). Gives x m k) (sym parts.2) (back m k parts.0 (own.1 m k).1 (activities_either activities (activity ∷ []) m k g)),
      ),
    ) where
      there : (m : ℕ) (k : Mark) (own : List Span) → (Gives own m k → ItemsGive activity.newest (chain activity) m k) → Gives raw m k ⊎ Gives own m k → ActivitiesGive (activities ++ activity ∷ []) m k
      there m k own same (inl g) = activities_first activities (activity ∷ []) m k ((h.1 m k).0 g)
      there m k own same (inr g) = activities_last activities (activity ∷ []) m k (inl (same g))

      back : (m : ℕ) (k : Mark) (own : List Span) → (ItemsGive activity.newest (chain activity) m k → Gives own m k) → ActivitiesGive activities m k ⊎ ActivitiesGive (activity ∷ []) m k → Gives (raw ++ own) m k
      back m k own same (inl g) = gives_first raw own m k ((h.1 m k).1 g)
      back m k own same (inr (inl g)) = gives_last raw own m k (same g)
      back m k own same (inr (inr g)) = absurd g

-- a fault of further data, or out of memory, is the fault of all data and of those that follow
pub raw_fault : (activities : List DriverActivity) (activity : DriverActivity) (more : List DriverActivity) (raw : List Span) (f : CardFault) → IsRaw activities raw → OrMemory Memory f (activity_spans activity ≡ Err f) → IsReadingFault (activities ++ activity ∷ more) f
raw_fault activities activity more raw f h (inl e) = inl e
raw_fault activities activity more raw f h (inr e) = inr (inl (fault_after activities (activity ∷ more) h.0 ∙ chain_with activity more f (activity_fault activity f e)))

-- ---- the reading of data

-- the fault is the first minute to which spans give two marks, or out of memory
abbrev pub IsConflictOf : List Span → CardFault → Type 0
IsConflictOf spans fault = OrMemory Memory fault ((m : ℕ) × (fault ≡ SelfContradiction m) × IsFirstConflict (Gives spans) m)

-- `SamePairs` is symmetric
pairs_sym : (P Q : ℕ → Mark → Type 0) → SamePairs P Q → SamePairs Q P
pairs_sym P Q f m k = ((f m k).1, (f m k).0)

-- `SamePairs` is transitive
pairs_trans : (P Q R : ℕ → Mark → Type 0) → SamePairs P Q → SamePairs Q R → SamePairs P R
pairs_trans P Q R f g m k = (λ x. (g m k).0 ((f m k).0 x), λ z. (f m k).1 ((g m k).1 z))

-- sets with the same pairs have two marks for the same minutes
pairs_conflict : (P Q : ℕ → Mark → Type 0) (m : ℕ) → SamePairs P Q → Conflicts P m → Conflicts Q m
pairs_conflict P Q m f c = (c.0, c.1, (f m c.0).0 c.2, (f m c.1).0 c.3, c.4)

-- sets with the same pairs have the same first minute with two marks
pairs_first : (P Q : ℕ → Mark → Type 0) (m : ℕ) → SamePairs P Q → IsFirstConflict P m → IsFirstConflict Q m
pairs_first P Q m f c = (pairs_conflict P Q m f c.0, λ n l d. c.1 n l (pairs_conflict Q P n (pairs_sym P Q f) d))

-- the canonical list of what data give is their reading
pub raw_reading : {V : Type 0} (items : V → List Span) (activities : List DriverActivity) (raw : List Span) (result : Result V CardFault) → IsRaw activities raw → MatchResult result (λ runs. IsCanonicalOf (Gives raw) (items runs)) (IsConflictOf raw) → MatchResult result (λ runs. IsReading activities (Ok (items runs))) (IsReadingFault activities)
raw_reading items activities raw (Ok v) h e = (h.0, record { canonical = e.canonical; same = pairs_trans (Gives (items v)) (Gives raw) (ActivitiesGive activities) e.same h.1 })
raw_reading items activities raw (Err f) h (inl e) = inl e
raw_reading items activities raw (Err f) h (inr c) = inr (inr (h.0, (c.0, c.1, pairs_first (Gives raw) (ActivitiesGive activities) c.0 h.1 c.2)))

-- a fault of the data that `?` passes on is that of their reading
pub raw_failure : {V : Type 0} (items : V → List Span) (activities : List DriverActivity) (fault : CardFault) (result : Result V CardFault) → IsReadingFault activities fault → IsErr result × IsErrAnd result (λ found. found ≡ fault) → MatchResult result (λ runs. IsReading activities (Ok (items runs))) (IsReadingFault activities)
raw_failure items activities fault (Ok v) h e = let wrong = e.0 in cc
raw_failure items activities fault (Err f) h e = subst (IsReadingFault activities) (sym e.1) h
