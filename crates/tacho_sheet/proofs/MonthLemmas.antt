-- A month of all drivers: what is counted for a driver, and how it is written.
use Rattle.std.proofs.Common.{◌≡◌, ◌∙◌, ℕ, ◌+◌, ◌-◌, ◌<◌, ◌≤◌, ◌⊎◌, inl, inr, nat_cmp, is_lt, ◌&&◌, ◌||◌, nat_le, nat_lt, Bool, true, false, List, [], ◌∷◌, ◌++◌, Option, None, Some, length, take, drop, get_or, map, refl, sym, ap, arith, append_assoc, codes, decimal, cond}
use Rattle.std.specs.List.{flat_map}
use Rattle.std.specs.Ordering.{ord_max, ord_min}
use Rattle.std.proofs.lemmas.Bool.Decides.{nat_tests}
use Rattle.std.proofs.lemmas.Grind.{flat_map-append}
use Rattle.std.proofs.lemmas.List.{append-nil, drop_more, drop_all, map-append}
use Rattle.tacho_time.specs.declared.span.Span.{Span}
use Rattle.tacho_law.specs.declared.breach.Breach.{Breach}
use Rattle.tacho_law.specs.declared.breach.Kind.{Kind}
use Rattle.tacho_law.specs.declared.breach.Kind.TheVariants.{B1, B2, B3, B4, B5, B6, B7, B8, B9, B10}
use Rattle.tacho_stretches.specs.declared.stretch.Stretch.{Stretch}
use Rattle.tacho_stretches.specs.Stretches.{Judged, judged_of}
use Rattle.tacho_stretches.specs.Ranges.{unseen_part, parts, FollowOn}
use Rattle.tacho_sheet.specs.declared.amounts.Amounts.{Amounts}
use Rattle.tacho_sheet.specs.Reports.{breaches_within, columns, count_from, kind_name, column_minutes}
use Rattle.tacho_sheet.specs.Amounts.{AreAmounts, amounts_in, cells}
use Rattle.tacho_sheet.specs.Months.{article, month_breaches, count_of, is_examined, kind_code, kinds, numbers_of}
use Rattle.tacho_sheet.proofs.TextLemmas.{one_more_told, take_more}
use Rattle.tacho_sheet.proofs.AmountLemmas.{count_split, count_same, count_const}

-- ---- minutes within a stretch

-- a minute is within the stretch
abbrev is_in : Judged → ℕ → Bool
is_in s m = nat_le s.monday m && nat_lt m s.horizon.minute

in_it : (a b m : ℕ) → a ≤ m → m < b → nat_le a m && nat_lt m b ≡ true
in_it a b m h k = grind (arith, nat_tests)

before_it : (a b m : ℕ) → m < a → nat_le a m && nat_lt m b ≡ false
before_it a b m h = grind (arith, nat_tests)

after_it : (a b m : ℕ) → b ≤ m → nat_le a m && nat_lt m b ≡ false
after_it a b m h = grind (arith, nat_tests)

not_both : (a b m : ℕ) → b ≤ a → nat_le a m && nat_lt m b ≡ false
not_both a b m h = grind (arith, nat_tests)

pub count_none : (p : ℕ → Bool) (m n : ℕ) → ((i : ℕ) → m ≤ i → i < m + n → p i ≡ false) → count_from p m n ≡ 0
count_none p m n h = count_same p (λ i. false) m n h ∙ count_const false m n

pub count_every : (p : ℕ → Bool) (m n : ℕ) → ((i : ℕ) → m ≤ i → i < m + n → p i ≡ true) → count_from p m n ≡ n
count_every p m n h = count_same p (λ i. true) m n h ∙ count_const true m n

-- the stretches after a stretch begin at its horizon or later
pub record Follows (s : Judged) (xs : List Judged) (end : ℕ) : Type 0 where
  pub order : s.monday ≤ s.horizon.minute
  pub next : ℕ
  pub later : s.horizon.minute ≤ next
  pub follow : FollowOn (parts xs) next end

follow_next : (s : Judged) (xs : List Judged) (start end : ℕ) → FollowOn (parts (s ∷ xs)) start end → Follows s xs end
follow_next s xs start end follow = go s.unseen follow.2 where
  go : (o : Option ℕ) → FollowOn (unseen_part s.horizon.minute o ++ parts xs) s.horizon.minute end → Follows s xs end
  go None more = record { order = follow.1; next = s.horizon.minute; later = omega arith; follow = more }
  go (Some past) more = record { order = follow.1; next = past; later = more.1; follow = more.2 }

-- no minute before the first stretch is within a stretch
none_before : (xs : List Judged) (start end m : ℕ) → FollowOn (parts xs) start end → m < start → is_examined xs m ≡ false
none_before [] start end m follow early = refl
none_before (s ∷ xs) start end m follow early =
    let f = follow_next s xs start end follow in
    let at : s.monday ≡ start = follow.0 in
    let order : s.monday ≤ s.horizon.minute = f.order in
    let later : s.horizon.minute ≤ f.next = f.later in
    let here : is_in s m ≡ false = before_it s.monday s.horizon.minute m (omega (arith, at, early)) in
    ap (λ (b : Bool). b || is_examined xs m) here ∙ none_before xs f.next end m f.follow (omega (arith, at, early, order, later))

-- if `low` to `high` are the minutes of the range within the first stretch, that many count, and the other stretches count from `high` on
count_first : (s : Judged) (xs : List Judged) (end from past low high : ℕ) → Follows s xs end
    → from ≤ low → s.monday ≤ low → (low ≡ from) ⊎ (low ≡ s.monday)
    → high ≤ past → high ≤ s.horizon.minute → (high ≡ past) ⊎ (high ≡ s.horizon.minute) → low < high
    → count_from (is_examined (s ∷ xs)) from (past - from) ≡ (high - low) + count_from (is_examined xs) high (past - high)
count_first s xs end from past low high f a b c d e g lt =
    let p : ℕ → Bool = is_examined (s ∷ xs) in
    let q : ℕ → Bool = is_examined xs in
    let order : s.monday ≤ s.horizon.minute = f.order in
    let later : s.horizon.minute ≤ f.next = f.later in
    let many : past - from ≡ (low - from) + ((high - low) + (past - high)) = omega arith in
    let at : from + (low - from) ≡ low = omega arith in
    let to : low + (high - low) ≡ high = omega arith in
    let early : (i : ℕ) → from ≤ i → i < from + (low - from) → p i ≡ false =
    λ i u v.
    let w : i < s.monday = before i u (omega (arith, u, v, at)) c in
    ap (λ (t : Bool). t || q i) (before_it s.monday s.horizon.minute i w)
    ∙ none_before xs f.next end i f.follow (omega (arith, w, order, later)) in
    let within : (i : ℕ) → low ≤ i → i < low + (high - low) → p i ≡ true =
    λ i u v. ap (λ (t : Bool). t || q i) (in_it s.monday s.horizon.minute i (omega (arith, b, u)) (omega (arith, e, v, to))) in
    let late : (i : ℕ) → high ≤ i → i < high + (past - high) → p i ≡ q i =
    λ i u v. ap (λ (t : Bool). t || q i) (after_it s.monday s.horizon.minute i (after i u (omega (arith, u, v, d)) g)) in
    let rest : ℕ = (high - low) + (past - high) in
    let whole : count_from p from (past - from) ≡ count_from p from ((low - from) + rest) = ap (λ (n : ℕ). count_from p from n) many in
    let parted : count_from p from ((low - from) + rest) ≡ count_from p from (low - from) + count_from p (from + (low - from)) rest =
    count_split p from (low - from) rest in
    let none : count_from p from (low - from) ≡ 0 = count_none p from (low - from) early in
    let here : count_from p (from + (low - from)) rest ≡ count_from p low rest = ap (λ (m : ℕ). count_from p m rest) at in
    let split : count_from p low rest ≡ count_from p low (high - low) + count_from p (low + (high - low)) (past - high) =
    count_split p low (high - low) (past - high) in
    let every : count_from p low (high - low) ≡ high - low = count_every p low (high - low) within in
    let there : count_from p (low + (high - low)) (past - high) ≡ count_from p high (past - high) =
    ap (λ (m : ℕ). count_from p m (past - high)) to in
    let same : count_from p high (past - high) ≡ count_from q high (past - high) = count_same p q high (past - high) late in
    omega (arith, whole, parted, none, here, split, every, there, same) where
      before : (i : ℕ) → from ≤ i → i < low → (low ≡ from) ⊎ (low ≡ s.monday) → i < s.monday
      before i u v (inl k) = absurd (omega (arith, u, v, k))
      before i u v (inr k) = omega (arith, v, k)

      after : (i : ℕ) → high ≤ i → i < past → (high ≡ past) ⊎ (high ≡ s.horizon.minute) → s.horizon.minute ≤ i
      after i u v (inl k) = absurd (omega (arith, u, v, k))
      after i u v (inr k) = omega (arith, u, k)

-- no minute of the range is within the first stretch, so only the other stretches count
count_others : (s : Judged) (xs : List Judged) (from past low high : ℕ) → (low ≡ from) ⊎ (low ≡ s.monday)
    → (high ≡ past) ⊎ (high ≡ s.horizon.minute) → high ≤ low → from ≤ past
    → count_from (is_examined (s ∷ xs)) from (past - from) ≡ count_from (is_examined xs) from (past - from)
count_others s xs from past low high c g le early =
    count_same (is_examined (s ∷ xs)) (is_examined xs) from (past - from)
    (λ i u v. ap (λ (t : Bool). t || is_examined xs i) (outside i u (omega (arith, u, v, early)) c g)) where
      outside : (i : ℕ) → from ≤ i → i < past → (low ≡ from) ⊎ (low ≡ s.monday) → (high ≡ past) ⊎ (high ≡ s.horizon.minute)
          → is_in s i ≡ false
      outside i u v (inl k) (inl l) = absurd (omega (arith, u, v, k, l, le))
      outside i u v (inl k) (inr l) = after_it s.monday s.horizon.minute i (omega (arith, u, k, l, le))
      outside i u v (inr k) (inl l) = before_it s.monday s.horizon.minute i (omega (arith, v, k, l, le))
      outside i u v (inr k) (inr l) = not_both s.monday s.horizon.minute i (omega (arith, k, l, le))

-- what a walk over stretches has counted up to a minute; the remaining stretches give the rest of the count
pub record IsCounted (all left : List Judged) (start from past examined end : ℕ) : Type 0 where
  pub begin : ℕ
  pub follow : FollowOn (parts left) begin end
  pub counted : count_from (is_examined all) start (past - start) ≡ examined + count_from (is_examined left) from (past - from)

pub counted_none : (all : List Judged) (start past base end : ℕ) → FollowOn (parts all) base end → IsCounted all all start start past 0 end
counted_none all start past base end follow = record { begin = base; follow = follow; counted = omega arith }

pub counted_first : (all xs : List Judged) (s : Judged) (start from past examined end low high new : ℕ)
    → from ≤ low → s.monday ≤ low → (low ≡ from) ⊎ (low ≡ s.monday)
    → high ≤ past → high ≤ s.horizon.minute → (high ≡ past) ⊎ (high ≡ s.horizon.minute) → low < high → new ≡ examined + (high - low)
    → IsCounted all (s ∷ xs) start from past examined end → IsCounted all xs start high past new end
counted_first all xs s start from past examined end low high new a b c d e g lt more so =
    let f = follow_next s xs so.begin end so.follow in
    let step = count_first s xs end from past low high f a b c d e g lt in
    let old = so.counted in
    record { begin = f.next; follow = f.follow; counted = omega (arith, old, step, more) }

pub counted_others : (all xs : List Judged) (s : Judged) (start from past examined end low high : ℕ)
    → (low ≡ from) ⊎ (low ≡ s.monday) → (high ≡ past) ⊎ (high ≡ s.horizon.minute) → high ≤ low → from ≤ past
    → IsCounted all (s ∷ xs) start from past examined end → IsCounted all xs start from past examined end
counted_others all xs s start from past examined end low high c g le early so =
    let f = follow_next s xs so.begin end so.follow in
    record {
      begin = f.next;
      follow = f.follow;
      counted = so.counted ∙ ap (λ (n : ℕ). examined + n) (count_others s xs from past low high c g le early);
    }

count_nothing : (m n : ℕ) → count_from (λ i. false) m n ≡ 0
count_nothing m n = count_const false m n

pub counted_all : (all : List Judged) (start from past examined end : ℕ) → IsCounted all [] start from past examined end
    → examined ≡ count_from (is_examined all) start (past - start)
counted_all all start from past examined end so =
    let none : count_from (is_examined []) from (past - from) ≡ 0 = count_nothing from (past - from) in
    let counted = so.counted in
    omega (arith, counted, none)

-- ---- by the index of the loop

-- the stretch at an index, and those after it
pub told_next : (xs : List Stretch) (i : ℕ) (s : Stretch) → i < length xs → s ≡ get_or xs i s
    → map judged_of (drop i xs) ≡ judged_of s ∷ map judged_of (drop (i + 1) xs)
told_next xs i s within is =
    ap (map judged_of) (drop_more xs i s within ∙ ap (λ (x : Stretch). x ∷ drop (i + 1) xs) (sym is))

pub told_all : (xs : List Stretch) (i : ℕ) → length xs ≤ i → map judged_of (drop i xs) ≡ []
told_all xs i over = ap (map judged_of) (drop_all i xs over)

-- the rows of breaches of one more list
pub rows_more : {X A : Type 0} (row : X → List A) (xs ys all : List X) (head before after : List A) → before ≡ head ++ flat_map row xs
    → after ≡ before ++ flat_map row ys → all ≡ xs ++ ys → after ≡ head ++ flat_map row all
rows_more {A = A} row xs ys all head before after e g is =
    g ∙ ap (λ (t : List A). t ++ flat_map row ys) e ∙ append_assoc head (flat_map row xs) (flat_map row ys)
    ∙ ap (λ (t : List A). head ++ t) (sym (ap (flat_map row) is ∙ flat_map-append row xs ys))

-- the breaches of one more stretch
pub breaches_more : (start past : ℕ) (xs : List Stretch) (i : ℕ) (s : Stretch) → i < length xs → s ≡ get_or xs i s
    → month_breaches start past (map judged_of (take (i + 1) xs))
    ≡ month_breaches start past (map judged_of (take i xs)) ++ breaches_within start past s.report.breaches.items
breaches_more start past xs i s within is =
    sym (one_more_told (λ (t : Judged). breaches_within start past t.breaches) judged_of xs i s
    (month_breaches start past (map judged_of (take i xs))) _ within is refl refl)

-- ---- the row of a driver

-- the six amounts are those of the columns
amounts_told : (line : List Span) (m n : ℕ) (a : Amounts) → AreAmounts line m n a → amounts_in a ≡ map (column_minutes line m n) columns
amounts_told line m n a h = rw (h.rest, h.available, h.work, h.drive, h.crew, h.lacking) refl

-- the numbers of a driver are written as the definition says
pub numbers_told : (line : List Span) (stretches : List Judged) (start past examined : ℕ) (a : Amounts) (found : List Breach)
    → AreAmounts line start (past - start) a → examined ≡ count_from (is_examined stretches) start (past - start)
    → found ≡ month_breaches start past stretches
    → cells (amounts_in a) ++ ((codes "," ++ decimal examined) ++ cells (map (count_of found) kinds))
    ≡ cells (numbers_of line stretches start past)
numbers_told line stretches start past examined a found h e f =
    ap (λ (t : List ℕ). cells t ++ ((codes "," ++ decimal examined) ++ cells (map (count_of found) kinds)))
    (amounts_told line start (past - start) a h)
    ∙ ap (λ (n : ℕ). cells six ++ ((codes "," ++ decimal n) ++ cells (map (count_of found) kinds))) e
    ∙ ap (λ (xs : List Breach). cells six ++ ((codes "," ++ decimal minutes) ++ cells (map (count_of xs) kinds))) f
    ∙ sym (flat_map-append (λ n. codes "," ++ decimal n) six (minutes ∷ map (count_of (month_breaches start past stretches)) kinds)) where
      six : List ℕ
      six = map (column_minutes line start (past - start)) columns

      minutes : ℕ
      minutes = count_from (is_examined stretches) start (past - start)

-- the row is the concatenation of its pieces
pub row_pieces : (number name amounts examined counts numbers t t1 t2 t3 t4 t5 : List ℕ) → t1 ≡ t ++ (number ++ (codes "," ++ name))
    → t2 ≡ t1 ++ amounts → t3 ≡ t2 ++ examined → t4 ≡ t3 ++ counts → t5 ≡ t4 ++ codes "\n"
    → amounts ++ (examined ++ counts) ≡ numbers
    → t5 ≡ t ++ (number ++ (codes "," ++ (name ++ (numbers ++ codes "\n"))))
row_pieces number name amounts examined counts numbers t t1 t2 t3 t4 t5 e1 e2 e3 e4 e5 e =
    rw (← e) (pieces (codes ",") (codes "\n") e1 e2 e3 e4 e5) where
      pieces : (a z : List ℕ) → t1 ≡ t ++ (number ++ (a ++ name)) → t2 ≡ t1 ++ amounts → t3 ≡ t2 ++ examined → t4 ≡ t3 ++ counts → t5 ≡ t4 ++ z
          → t5 ≡ t ++ (number ++ (a ++ (name ++ ((amounts ++ (examined ++ counts)) ++ z))))
      pieces a z e1 e2 e3 e4 e5 = simp (e5, e4, e3, e2, e1, append_assoc) refl

-- the numbers of one more kind
pub counts_more : (found : List Breach) (xs : List Kind) (i : ℕ) (d : Kind) (n : ℕ) (head before after : List ℕ) → i < length xs
    → n ≡ count_of found (get_or xs i d) → before ≡ head ++ cells (map (count_of found) (take i xs))
    → after ≡ before ++ (codes "," ++ decimal n) → after ≡ head ++ cells (map (count_of found) (take (i + 1) xs))
counts_more found xs i d n head before after within is e g =
    let k : Kind = get_or xs i d in
    let cell : ℕ → List ℕ = λ n. codes "," ++ decimal n in
    rows_more cell (map (count_of found) (take i xs)) (count_of found k ∷ []) (map (count_of found) (take (i + 1) xs)) head before after e
    (g ∙ ap (λ (m : ℕ). before ++ cell m) is ∙ ap (λ (t : List ℕ). before ++ t) (sym (append-nil (cell (count_of found k)))))
    (ap (map (count_of found)) (take_more xs i d within) ∙ map-append (count_of found) (take i xs) (k ∷ []))

-- the later of two minutes is one of them and isn't before the other; likewise for the earlier
pub later_is : (a b m : ℕ) → m ≡ ord_max nat_cmp a b → (a ≤ m) × (b ≤ m) × ((m ≡ a) ⊎ (m ≡ b))
later_is a b m e = go (is_lt (nat_cmp b a)) refl e where
  go : (t : Bool) → is_lt (nat_cmp b a) ≡ t → m ≡ cond t a b → (a ≤ m) × (b ≤ m) × ((m ≡ a) ⊎ (m ≡ b))
  go true k same = let lt : b < a = grind (arith, nat_tests) in (omega arith, omega arith, inl same)
  go false k same = let ge : a ≤ b = grind (arith, nat_tests) in (omega arith, omega arith, inr same)

pub earlier_is : (a b m : ℕ) → m ≡ ord_min nat_cmp a b → (m ≤ a) × (m ≤ b) × ((m ≡ a) ⊎ (m ≡ b))
earlier_is a b m e = go (is_lt (nat_cmp b a)) refl e where
  go : (t : Bool) → is_lt (nat_cmp b a) ≡ t → m ≡ cond t b a → (m ≤ a) × (m ≤ b) × ((m ≡ a) ⊎ (m ≡ b))
  go true k same = let lt : b < a = grind (arith, nat_tests) in (omega arith, omega arith, inr same)
  go false k same = let ge : a ≤ b = grind (arith, nat_tests) in (omega arith, omega arith, inl same)

-- ---- the name of a rule

pub kind_told : (kind : Kind) → kind_name kind ≡ kind_code kind ++ (codes " " ++ article kind)
kind_told B1 = refl
kind_told B2 = refl
kind_told B3 = refl
kind_told B4 = refl
kind_told B5 = refl
kind_told B6 = refl
kind_told B7 = refl
kind_told B8 = refl
kind_told B9 = refl
kind_told B10 = refl
