-- Collecting the spans of words and records in order.
use Rattle.std.proofs.Common.{◌≡◌, ◌≢◌, ℕ, zero, suc, ◌+◌, ◌-◌, ◌*◌, ◌<◌, ◌≤◌, ◌==◌, Bool, true, false, cond, List, [], ◌∷◌, ◌++◌, Option, None, Result, Ok, Err, refl, sym, ap, ◌∙◌, append_assoc, append-nil, arith}
use Rattle.std.proofs.lemmas.Bool.Decides.{nat_tests}
use Rattle.tacho_time.specs.declared.span.Span.{Span}
use Rattle.tacho_time.specs.declared.span.Mark.{Mark}
use Rattle.tacho_card.specs.declared.fault.CardFault.{CardFault}
use Rattle.tacho_card.specs.ActivityChangeInfo.{time_of, mark_of}
use Rattle.tacho_card.specs.DailyRecord.{DailyRecord, record_day, word_at}
use Rattle.tacho_card.specs.Reading.{word_minute}
use Rattle.tacho_card.specs.RawSpans.{span_of_mark, closed_mark, word_past, words_spans, record_spans, prepend_spans, items_spans}

-- ---- words

-- a choice for a number that is 0
if_zero : {X : Type 0} (k : ℕ) (x y : X) → k ≡ 0 → cond (k == 0) x y ≡ x
if_zero k x y h = grind (arith, nat_tests)

-- a choice for a number that isn't 0
pub unless_zero : {X : Type 0} (k : ℕ) (x y : X) → k ≢ 0 → cond (k == 0) x y ≡ y
unless_zero k x y h = grind (arith, nat_tests)

-- two ways to write a minute of a day
from_midnight : (x t : ℕ) → x * 1440 + t ≡ 1440 * x + t
from_midnight x t = omega arith

-- the minute from which a word holds, computed from its day and its time
pub word_begins : (r : DailyRecord) (i day word start : ℕ) → day ≡ record_day r.buffer r.place → word ≡ word_at r.buffer r.place i → start ≡ day * 1440 + time_of word → start ≡ word_minute r i
word_begins r i day word start d w s =
    s ∙ from_midnight day (time_of word) ∙ ap (λ x. 1440 * x + time_of word) d ∙ ap (λ x. 1440 * record_day r.buffer r.place + time_of x) w

-- the end of a day
pub day_ends : (r : DailyRecord) (day past : ℕ) → day ≡ record_day r.buffer r.place → past ≡ day * 1440 + 1440 → past ≡ 1440 * record_day r.buffer r.place + 1440
day_ends r day past d s = s ∙ from_midnight day 1440 ∙ ap (λ x. 1440 * x + 1440) d

-- the last word ends at the end of the day
pub last_past : (r : DailyRecord) (i past : ℕ) → i + 1 ≡ r.count → past ≡ 1440 * record_day r.buffer r.place + 1440 → past ≡ word_past r i (r.count - (i + 1))
last_past r i past e h = h ∙ sym (if_zero (r.count - (i + 1)) _ _ (omega arith))

-- any other word ends at the next one
pub next_past : (r : DailyRecord) (i past : ℕ) → i < r.count → i + 1 ≢ r.count → past ≡ word_minute r (i + 1) → past ≡ word_past r i (r.count - (i + 1))
next_past r i past l e h = h ∙ sym (unless_zero (r.count - (i + 1)) _ _ (omega arith))

-- the last word of the newest record has no mark
pub open_mark : (r : DailyRecord) (i : ℕ) (t : Bool) (mark : Option Mark) → i + 1 ≡ r.count → t ≡ true → mark ≡ None → mark ≡ closed_mark t r i (r.count - (i + 1))
open_mark r i true mark e h m = m ∙ sym (if_zero (r.count - (i + 1)) None _ (omega arith))
open_mark r i false mark e h m = cc

-- a word that is not the last has its own mark
pub inner_mark : (r : DailyRecord) (i : ℕ) (t : Bool) (mark : Option Mark) → i < r.count → i + 1 ≢ r.count → mark ≡ mark_of (word_at r.buffer r.place i) → mark ≡ closed_mark t r i (r.count - (i + 1))
inner_mark r i true mark l e m = m ∙ sym (unless_zero (r.count - (i + 1)) None _ (omega arith))
inner_mark r i false mark l e m = m

-- a word of a record that is not the newest has its own mark
pub closed_word : (r : DailyRecord) (i : ℕ) (t : Bool) (mark : Option Mark) → t ≡ false → mark ≡ mark_of (word_at r.buffer r.place i) → mark ≡ closed_mark t r i (r.count - (i + 1))
closed_word r i true mark h m = cc
closed_word r i false mark h m = m

-- the spans of words are those of the first word, followed by those of the others
one_span : (t : Bool) (r : DailyRecord) (i n : ℕ) → i < n → words_spans t r i (n - i) ≡ span_of_mark (word_minute r i) (word_past r i (n - (i + 1))) (closed_mark t r i (n - (i + 1))) ++ words_spans t r (i + 1) (n - (i + 1))
unfolding words_spans
one_span t r i n h = let e : n - i ≡ suc (n - (i + 1)) = omega arith in ap (words_spans t r i) e

-- equal ends and marks make equal spans
same_marked : (a b x y : ℕ) (o p : Option Mark) → a ≡ x → b ≡ y → o ≡ p → span_of_mark a b o ≡ span_of_mark x y p
same_marked a b x y o p e f g = ap (λ v. span_of_mark v b o) e ∙ ap (λ v. span_of_mark x v o) f ∙ ap (λ v. span_of_mark x y v) g

-- before the first word, the spans of all words remain
pub all_words : (t : Bool) (r : DailyRecord) (raw : List Span) → raw ++ words_spans t r 0 (r.count - 0) ≡ raw ++ record_spans t r
all_words t r raw = let e : r.count - 0 ≡ r.count = omega arith in ap (λ n. raw ++ words_spans t r 0 n) e

-- after appending a word's spans, those of one word fewer remain
pub append_word : (t : Bool) (r : DailyRecord) (i : ℕ) (raw new all : List Span) (start past : ℕ) (mark : Option Mark) → i < r.count → start ≡ word_minute r i → past ≡ word_past r i (r.count - (i + 1)) → mark ≡ closed_mark t r i (r.count - (i + 1)) → new ≡ raw ++ span_of_mark start past mark → raw ++ words_spans t r i (r.count - i) ≡ all → new ++ words_spans t r (i + 1) (r.count - (i + 1)) ≡ all
append_word t r i raw new all start past mark l s p m e h =
    let rest = words_spans t r (i + 1) (r.count - (i + 1)) in
    let own = same_marked start past _ _ mark _ s p m in
    ap (λ x. x ++ rest) (e ∙ ap (λ x. raw ++ x) own)
    ∙ append_assoc raw _ rest
    ∙ ap (λ x. raw ++ x) (sym (one_span t r i r.count l)) ∙ h

-- with no word left, the spans so far are all spans
pub no_words : (t : Bool) (r : DailyRecord) (i : ℕ) (raw all : List Span) → r.count ≤ i → raw ++ words_spans t r i (r.count - i) ≡ all → raw ≡ all
unfolding words_spans
no_words t r i raw all l h =
    let e : r.count - i ≡ zero = omega arith in
    sym (append-nil raw) ∙ sym (ap (λ n. raw ++ words_spans t r i n) e) ∙ h

-- ---- records

-- putting two lists of spans before a result is putting their concatenation before it
fronts : (xs ys : List Span) (r : Result (List Span) CardFault) → prepend_spans (xs ++ ys) r ≡ prepend_spans xs (prepend_spans ys r)
fronts xs ys (Ok zs) = ap Ok (append_assoc xs ys zs)
fronts xs ys (Err f) = refl

-- a fault after spans is there without the spans too
pub only_fault : (xs : List Span) (r : Result (List Span) CardFault) (f : CardFault) → prepend_spans xs r ≡ Err f → r ≡ Err f
only_fault xs (Ok ys) f h = cc
only_fault xs (Err g) f h = h

-- the fault of the next item is the fault of all
pub spans_fault : (raw : List Span) (n : ℕ) (rest items : List (Result DailyRecord CardFault)) (f : CardFault) (r : Result (List Span) CardFault) → rest ≡ Err f ∷ items → prepend_spans raw (items_spans n rest) ≡ r → r ≡ Err f
unfolding items_spans
spans_fault raw n rest items f r e h = sym h ∙ ap (λ l. prepend_spans raw (items_spans n l)) e

-- after appending a record's spans, those of one record fewer remain
pub spans_more : (raw new : List Span) (n : ℕ) (rest items : List (Result DailyRecord CardFault)) (x : DailyRecord) (r : Result (List Span) CardFault) → rest ≡ Ok x ∷ items → prepend_spans raw (items_spans n rest) ≡ r → new ≡ raw ++ record_spans (x.place == n) x → prepend_spans new (items_spans n items) ≡ r
unfolding items_spans
spans_more raw new n rest items x r e h added =
    ap (λ l. prepend_spans l (items_spans n items)) added ∙ fronts raw (record_spans (x.place == n) x) (items_spans n items)
    ∙ sym (ap (λ l. prepend_spans raw (items_spans n l)) e) ∙ h

-- with no record left, the spans so far are all spans
pub spans_end : (raw : List Span) (n : ℕ) (rest : List (Result DailyRecord CardFault)) (r : Result (List Span) CardFault) → rest ≡ [] → prepend_spans raw (items_spans n rest) ≡ r → r ≡ Ok raw
unfolding items_spans
spans_end raw n rest r e h = sym h ∙ ap (λ l. prepend_spans raw (items_spans n l)) e ∙ ap Ok (append-nil raw)
