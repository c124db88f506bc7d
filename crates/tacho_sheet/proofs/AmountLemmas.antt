-- Amounts that are summed run by run and day by day.
use Rattle.std.proofs.Common.{◌≡◌, ℕ, zero, suc, ◌+◌, ◌-◌, ◌*◌, ◌<◌, ◌≤◌, ◌&&◌, Bool, true, false, List, [], ◌∷◌, Option, None, Some, length, drop, get_or, refl, sym, ap, subst, ◌∙◌, arith, inl, inr, nat_le, nat_lt, if◌then◌else◌}
use Rattle.std.proofs.lemmas.Bool.Decides.{nat_tests}
use Rattle.std.proofs.lemmas.List.{drop_more, drop_all}
use Rattle.tacho_time.specs.declared.span.Activity.TheVariants.{Rest, Available, Work, Drive}
use Rattle.tacho_time.specs.declared.span.Span.{Span}
use Rattle.tacho_time.specs.declared.span.Mark.{Mark}
use Rattle.tacho_time.specs.Spans.{Gives, IsCanonical, IsCanonicalOf}
use Rattle.tacho_time.proofs.CanonicalLemmas.{later, canonical_starts}
use Rattle.tacho_line.specs.Line.{covers, mark_at, HoldsWithin, IsWithin}
use Rattle.tacho_line.proofs.LineLemmas.{first_holds, rest_holds, held_given, given_held}
use Rattle.tacho_sheet.specs.declared.amounts.Amounts.{Amounts}
use Rattle.tacho_sheet.specs.Reports.{count_from, column_minutes, is_single_minute, is_crew, is_lacking}
use Rattle.tacho_sheet.specs.Amounts.{AreAmounts, AreFrom, all_or_none, whole}

-- ---- counts

pub count_split : (p : ℕ → Bool) (m a b : ℕ) → count_from p m (a + b) ≡ count_from p m a + count_from p (m + a) b
count_split p m zero b =
    let e : zero + b ≡ b = omega arith in
    let f : m + zero ≡ m = omega arith in
    rw (e, f) (omega arith)
count_split p m (suc a) b =
    let e : suc a + b ≡ suc (a + b) = omega arith in
    let f : m + suc a ≡ (m + 1) + a = omega arith in
    let h : count_from p (m + 1) (a + b) ≡ count_from p (m + 1) a + count_from p ((m + 1) + a) b = count_split p (m + 1) a b in
    rw (e, f) (omega arith)

-- two tests that agree on all minutes count the same
pub count_same : (p q : ℕ → Bool) (m n : ℕ) → ((i : ℕ) → m ≤ i → i < m + n → p i ≡ q i) → count_from p m n ≡ count_from q m n
count_same p q m zero h = refl
count_same p q m (suc n) h =
    let e : count_from p (m + 1) n ≡ count_from q (m + 1) n = count_same p q (m + 1) n (λ i a b. h i (omega arith) (omega arith)) in
    let f : p m ≡ q m = h m (omega arith) (omega arith) in
    rw (e, f) refl

pub count_const : (b : Bool) (m n : ℕ) → count_from (λ i. b) m n ≡ all_or_none b n
count_const true m zero = refl
count_const true m (suc n) = let e : count_from (λ i. true) (m + 1) n ≡ n = count_const true (m + 1) n in omega arith
count_const false m zero = refl
count_const false m (suc n) = let e : count_from (λ i. false) (m + 1) n ≡ 0 = count_const false (m + 1) n in omega arith

not_yet : (a b m : ℕ) → m < a → nat_le a m && nat_lt m b ≡ false
not_yet a b m h = grind (arith, nat_tests)

bit_le : (b : Bool) → (if b then 1 else 0) ≤ 1
bit_le true = omega arith
bit_le false = omega arith

pub count_le : (p : ℕ → Bool) (m n : ℕ) → count_from p m n ≤ n
count_le p m zero = omega arith
count_le p m (suc n) = let e : count_from p (m + 1) n ≤ n = count_le p (m + 1) n in let f = bit_le (p m) in omega arith

-- the count of a column grows by minutes that all have one mark
column_run : (line : List Span) (column : Option Mark → Bool) (mark : Option Mark) (m n k x y : ℕ)
    → ((i : ℕ) → m + n ≤ i → i < (m + n) + k → mark_at line i ≡ mark)
    → x ≡ column_minutes line m n column → y ≡ x + all_or_none (column mark) k → y ≡ column_minutes line m (n + k) column
column_run line column mark m n k x y h e f =
    let p : ℕ → Bool = λ i. column (mark_at line i) in
    let a : count_from p (m + n) k ≡ count_from (λ i. column mark) (m + n) k = count_same p (λ i. column mark) (m + n) k (λ i u v. ap column (h i u v)) in
    f ∙ ap (λ (t : ℕ). t + all_or_none (column mark) k) e ∙ ap (λ (t : ℕ). count_from p m n + t) (sym (a ∙ count_const (column mark) (m + n) k)) ∙ sym (count_split p m n k)

-- the counts of a column over adjacent minutes add up
column_more : (line : List Span) (column : Option Mark → Bool) (m n l k x y z : ℕ) → l ≡ m + n
    → x ≡ column_minutes line m n column → y ≡ column_minutes line l k column → z ≡ x + y → z ≡ column_minutes line m (n + k) column
column_more line column m n l k x y z at e f g =
    let p : ℕ → Bool = λ i. column (mark_at line i) in
    g ∙ ap (λ (t : ℕ). t + y) e ∙ ap (λ (t : ℕ). count_from p m n + t) (f ∙ ap (λ (t : ℕ). count_from p t k) at) ∙ sym (count_split p m n k)

-- a column counts the same for two lines that agree on the minutes
column_same : (line other : List Span) (column : Option Mark → Bool) (m n x : ℕ)
    → ((i : ℕ) → m ≤ i → i < m + n → mark_at line i ≡ mark_at other i)
    → x ≡ column_minutes line m n column → x ≡ column_minutes other m n column
column_same line other column m n x h e =
    e ∙ count_same (λ i. column (mark_at line i)) (λ i. column (mark_at other i)) m n (λ i u v. ap column (h i u v))

-- ---- amounts

-- the amounts of no minutes
pub amounts_none : (line : List Span) (m : ℕ) → AreAmounts line m 0 (record { rest = 0; available = 0; work = 0; drive = 0; crew = 0; lacking = 0 })
amounts_none line m = record { rest = refl; available = refl; work = refl; drive = refl; crew = refl; lacking = refl }

-- the sum of the amounts is at most six times the minutes
pub amounts_small : (line : List Span) (m n : ℕ) (a : Amounts) → AreAmounts line m n a → whole a ≤ 6 * n
amounts_small line m n a h =
    let re : a.rest ≤ n = let e = h.rest in let l = count_le (λ i. (is_single_minute Rest) (mark_at line i)) m n in omega (arith, e, l) in
    let av : a.available ≤ n = let e = h.available in let l = count_le (λ i. (is_single_minute Available) (mark_at line i)) m n in omega (arith, e, l) in
    let wo : a.work ≤ n = let e = h.work in let l = count_le (λ i. (is_single_minute Work) (mark_at line i)) m n in omega (arith, e, l) in
    let dr : a.drive ≤ n = let e = h.drive in let l = count_le (λ i. (is_single_minute Drive) (mark_at line i)) m n in omega (arith, e, l) in
    let cr : a.crew ≤ n = let e = h.crew in let l = count_le (λ i. is_crew (mark_at line i)) m n in omega (arith, e, l) in
    let la : a.lacking ≤ n = let e = h.lacking in let l = count_le (λ i. is_lacking (mark_at line i)) m n in omega (arith, e, l) in
    omega arith

-- `b` is `a` after `k` minutes with one mark are added
pub record IsLonger (mark : Option Mark) (k : ℕ) (a b : Amounts) : Type 0 where
  pub rest : b.rest ≡ a.rest + all_or_none (is_single_minute Rest mark) k
  pub available : b.available ≡ a.available + all_or_none (is_single_minute Available mark) k
  pub work : b.work ≡ a.work + all_or_none (is_single_minute Work mark) k
  pub drive : b.drive ≡ a.drive + all_or_none (is_single_minute Drive mark) k
  pub crew : b.crew ≡ a.crew + all_or_none (is_crew mark) k
  pub lacking : b.lacking ≡ a.lacking + all_or_none (is_lacking mark) k

-- amounts with more minutes of one mark
amounts_run : (line : List Span) (mark : Option Mark) (m n k : ℕ) (a b : Amounts) → AreAmounts line m n a
    → ((i : ℕ) → m + n ≤ i → i < (m + n) + k → mark_at line i ≡ mark) → IsLonger mark k a b → AreAmounts line m (n + k) b
amounts_run line mark m n k a b h same g = record {
  rest = column_run line (is_single_minute Rest) mark m n k a.rest b.rest same h.rest g.rest;
  available = column_run line (is_single_minute Available) mark m n k a.available b.available same h.available g.available;
  work = column_run line (is_single_minute Work) mark m n k a.work b.work same h.work g.work;
  drive = column_run line (is_single_minute Drive) mark m n k a.drive b.drive same h.drive g.drive;
  crew = column_run line is_crew mark m n k a.crew b.crew same h.crew g.crew;
  lacking = column_run line is_lacking mark m n k a.lacking b.lacking same h.lacking g.lacking;
}

-- the amounts of adjacent minutes add up
pub amounts_more : (line : List Span) (m n l k : ℕ) (a b s : Amounts) → l ≡ m + n → AreAmounts line m n a → AreAmounts line l k b
    → s.rest ≡ a.rest + b.rest
    → s.available ≡ a.available + b.available
    → s.work ≡ a.work + b.work
    → s.drive ≡ a.drive + b.drive
    → s.crew ≡ a.crew + b.crew
    → s.lacking ≡ a.lacking + b.lacking
    → AreAmounts line m (n + k) s
amounts_more line m n l k a b s at h g re av wo dr cr la = record {
  rest = column_more line (is_single_minute Rest) m n l k a.rest b.rest s.rest at h.rest g.rest re;
  available = column_more line (is_single_minute Available) m n l k a.available b.available s.available at h.available g.available av;
  work = column_more line (is_single_minute Work) m n l k a.work b.work s.work at h.work g.work wo;
  drive = column_more line (is_single_minute Drive) m n l k a.drive b.drive s.drive at h.drive g.drive dr;
  crew = column_more line is_crew m n l k a.crew b.crew s.crew at h.crew g.crew cr;
  lacking = column_more line is_lacking m n l k a.lacking b.lacking s.lacking at h.lacking g.lacking la;
}

-- two lines that agree on the minutes have the same amounts
pub amounts_same : (line other : List Span) (m n : ℕ) (a : Amounts) → ((i : ℕ) → m ≤ i → i < m + n → mark_at line i ≡ mark_at other i)
    → AreAmounts line m n a → AreAmounts other m n a
amounts_same line other m n a same h = record {
  rest = column_same line other (is_single_minute Rest) m n a.rest same h.rest;
  available = column_same line other (is_single_minute Available) m n a.available same h.available;
  work = column_same line other (is_single_minute Work) m n a.work same h.work;
  drive = column_same line other (is_single_minute Drive) m n a.drive same h.drive;
  crew = column_same line other is_crew m n a.crew same h.crew;
  lacking = column_same line other is_lacking m n a.lacking same h.lacking;
}

-- ---- what a walk over spans has counted

-- the amounts up to `from` are counted, and from there on the remaining spans give what all spans give
pub record Walked (spans left : List Span) (start from past : ℕ) (a : Amounts) : Type 0 where
  pub above : start ≤ from
  pub left_from : AreFrom from past left
  pub ahead : (m : ℕ) → from ≤ m → mark_at spans m ≡ mark_at left m
  pub counted : AreAmounts spans start (from - start) a

pub walked_none : (spans : List Span) (start past : ℕ) (a : Amounts) → a ≡ record { rest = 0; available = 0; work = 0; drive = 0; crew = 0; lacking = 0 } → AreFrom start past spans → Walked spans spans start start past a
walked_none spans start past a e h = record {
  above = omega arith;
  left_from = h;
  ahead = λ m above. refl;
  counted = let z : start - start ≡ 0 = omega arith in rw (e, z) (amounts_none spans start);
}

-- no remaining span holds an earlier minute
before_left : (spans : List Span) (from past m : ℕ) → AreFrom from past spans → m < from → mark_at spans m ≡ None
before_left [] from past m h l = refl
before_left (s ∷ ss) from past m h l =
    let above : from ≤ s.start = h.0 in
    let some : s.start < s.past = h.1 in
    let under : covers s m ≡ false = not_yet s.start s.past m (omega arith) in
    ap (λ (b : Bool). if b then Some s.mark else mark_at ss m) under ∙ before_left ss s.past past m h.2 (omega arith)

-- spans in order end at or before the past
pub from_le : (spans : List Span) (from past : ℕ) → AreFrom from past spans → from ≤ past
from_le [] from past h = h
from_le (s ∷ ss) from past h =
    let e : s.past ≤ past = from_le ss s.past past h.2 in
    let above : from ≤ s.start = h.0 in
    let some : s.start < s.past = h.1 in
    omega arith

-- the walk continues over minutes before the remaining spans
pub walked_gap : (spans left : List Span) (start from to past : ℕ) (a b : Amounts) → Walked spans left start from past a → from ≤ to → AreFrom to past left → IsLonger None (to - from) a b
    → Walked spans left start to past b
walked_gap spans left start from to past a b w l h g =
    let above : start ≤ from = w.above in
    let e : (from - start) + (to - from) ≡ to - start = omega arith in
    record {
      above = omega arith;
      left_from = h;
      ahead = λ m over. w.ahead m (omega arith);
      counted = rw e at (amounts_run spans None start (from - start) (to - from) a b w.counted (λ i u v. w.ahead i (omega arith) ∙ before_left left to past i h (omega arith)) g);
    }

-- the walk continues over the minutes of the first remaining span
pub walked_span : (spans left : List Span) (s : Span) (start past : ℕ) (a b : Amounts) → Walked spans (s ∷ left) start s.start past a → IsLonger (Some s.mark) (s.past - s.start) a b
    → Walked spans left start s.past past b
walked_span spans left s start past a b w g =
    let above : start ≤ s.start = w.above in
    let some : s.start < s.past = w.left_from.1 in
    let e : (s.start - start) + (s.past - s.start) ≡ s.past - start = omega arith in
    record {
      above = omega arith;
      left_from = w.left_from.2;
      ahead = λ m over. w.ahead m (omega arith) ∙ rest_holds s left m over;
      counted = rw e at (amounts_run spans (Some s.mark) start (s.start - start) (s.past - s.start) a b w.counted (λ i u v. w.ahead i (omega arith) ∙ first_holds s left i (omega arith) (omega arith)) g);
    }

-- the number of minutes can be replaced by an equal one
pub longer_by : (mark : Option Mark) (k l : ℕ) (a b : Amounts) → k ≡ l → IsLonger mark k a b → IsLonger mark l a b
longer_by mark k l a b e g = subst (λ (n : ℕ). IsLonger mark n a b) e g

-- the walk continues up to the first remaining span
pub walked_before : (spans left : List Span) (s : Span) (start from past : ℕ) (a b : Amounts) → Walked spans (s ∷ left) start from past a
    → IsLonger None (s.start - from) a b → Walked spans (s ∷ left) start s.start past b
walked_before spans left s start from past a b w g = walked_gap spans (s ∷ left) start from s.start past a b w w.left_from.0 (omega arith, w.left_from.1, w.left_from.2) g

-- the walk continues over a span and the minutes before it
pub walked_next : (spans left : List Span) (s : Span) (start from past : ℕ) (a b c : Amounts) → Walked spans (s ∷ left) start from past a
    → IsLonger None (s.start - from) a b → IsLonger (Some s.mark) (s.past - s.start) b c → Walked spans left start s.past past c
walked_next spans left s start from past a b c w g h =
    walked_span spans left s start past b c (walked_before spans left s start from past a b w g) h

-- at the end the walk has counted all minutes
pub walked_end : (spans : List Span) (start from past : ℕ) (a b : Amounts) → Walked spans [] start from past a → IsLonger None (past - from) a b → AreAmounts spans start (past - start) b
walked_end spans start from past a b w g = (walked_gap spans [] start from past past a b w w.left_from (omega arith) g).counted

-- the amounts stay within six times the past
pub walked_small : (spans left : List Span) (start from past : ℕ) (a : Amounts) → Walked spans left start from past a → whole a ≤ 6 * past
walked_small spans left start from past a w =
    let e : whole a ≤ 6 * (from - start) = amounts_small spans start (from - start) a w.counted in
    let l : from ≤ past = from_le left from past w.left_from in
    omega arith

-- at index i of a loop, whose item is s
pub walked_here : (spans : List Span) (i : ℕ) (s : Span) (start from past : ℕ) (a : Amounts) → i < length spans → s ≡ get_or spans i s → Walked spans (drop i spans) start from past a
    → Walked spans (s ∷ drop (i + 1) spans) start from past a
walked_here spans i s start from past a within is w =
    let e : drop i spans ≡ s ∷ drop (i + 1) spans = drop_more spans i s within ∙ ap (λ (x : Span). x ∷ drop (i + 1) spans) (sym is) in
    subst (λ (left : List Span). Walked spans left start from past a) e w

-- at the end of the loop
pub walked_over : (spans : List Span) (i start from past : ℕ) (a : Amounts) → length spans ≤ i → Walked spans (drop i spans) start from past a → Walked spans [] start from past a
walked_over spans i start from past a over w = subst (λ (left : List Span). Walked spans left start from past a) (drop_all i spans over) w

-- ---- what a line holds in a range

-- canonical spans that give nothing outside a range are in order within it
from_within : (xs : List Span) (start past : ℕ) → IsCanonical xs → start ≤ past → ((m : ℕ) (k : Mark) → Gives xs m k → IsWithin start past m) → AreFrom start past xs
from_within [] start past h l w = l
from_within (s ∷ ss) start past h l w =
    let some : s.start < s.past = h.0 in
    let first = w s.start s.mark (inl ((omega arith, some), refl)) in
    let last = w (s.past - 1) s.mark (inl ((omega arith, omega arith), refl)) in
    let above : start ≤ s.start = first.0 in
    let below : s.past - 1 < past = last.1 in
    (above, some, from_within ss s.past past h.2 (omega arith) (λ m k g. (later s.past ss m k (canonical_starts s ss h) g, (w m k (inr g)).1)))

pub slice_from : (line spans : List Span) (start past : ℕ) → IsCanonicalOf (HoldsWithin line start past) spans → start ≤ past → AreFrom start past spans
slice_from line spans start past h l = from_within spans start past h.canonical l (λ m k g. ((h.same m k).0 g).0)

-- a line and its slice give the minutes of the range the same mark
slice_same : (line spans : List Span) (start past : ℕ) → IsCanonicalOf (HoldsWithin line start past) spans → (m : ℕ) → start ≤ m → m < past → mark_at spans m ≡ mark_at line m
slice_same line spans start past h m above below = go (mark_at spans m) (mark_at line m) refl refl where
  go : (x y : Option Mark) → mark_at spans m ≡ x → mark_at line m ≡ y → mark_at spans m ≡ mark_at line m
  go (Some k) y e f = e ∙ sym (((h.same m k).0 (held_given spans m k e)).1)
  go None (Some k) e f = given_held spans m k h.canonical ((h.same m k).1 ((above, below), f)) ∙ sym f
  go None None e f = e ∙ sym f

pub slice_amounts : (line spans : List Span) (m n : ℕ) (a : Amounts) → IsCanonicalOf (HoldsWithin line m (m + n)) spans → AreAmounts spans m n a → AreAmounts line m n a
slice_amounts line spans m n a h g = amounts_same spans line m n a (λ i u v. slice_same line spans m (m + n) h i u v) g
