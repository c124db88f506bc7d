-- A driver's rows that are near a range are those that begin from where the first near row does to before the range's end.
use Rattle.std.proofs.Common.{◌≡◌, ◌∙◌, ℕ, ◌<◌, ◌≤◌, ◌⊎◌, inl, inr, ◌==◌, ◌&&◌, Bool, true, false, cond, not, List, [], ◌∷◌, map, filter, Option, Some, None, refl, sym, ap, subst, arith}
use Rattle.std.specs.Prelude.{nat_lt, nat_le, MatchOption}
use Rattle.std.specs.List.{AllByRecursion}
use Rattle.std.specs.List.Sorted.{IsPermutation}
use Rattle.std.proofs.lemmas.Bool.Decides.{nat_tests}
use Rattle.std.proofs.lemmas.List.Elements.{recursion_from_All}
use Rattle.sqlite_rules.specs.Lists.{Has}
use Rattle.sqlite_rules.proofs.ListLemmas.{all_has, all_from, has_filtered, has_kept, has_contained}
use Rattle.sqlite_trees.proofs.ListLemmas.{filter_same}
use Rattle.tacho_time.specs.declared.span.Mark.{Mark}
use Rattle.tacho_time.specs.Spans.{Gives}
use Rattle.tacho_line.specs.Join.{ShareNone}
use Rattle.tacho_state.specs.Disjoint.{AreDisjoint}
use Rattle.tacho_state.specs.State.{Driver, State, driver_of}
use Rattle.tacho_tables.specs.declared.rows.StoredSpan.{StoredSpan}
use Rattle.tacho_tables.specs.Rows.{SpanRow}
use Rattle.tacho_tables.specs.Tables.{Tables, IsLatest, is_before, is_begun, is_row_near, is_of, span_of}
use Rattle.tacho_reading.specs.Standing.{TablesRepresent, IsReadNear, row_span, spans_of}
use Rattle.tacho_reading.specs.Apart.{AreAside, AreRowsApart, driver_rows, near_from}
use Rattle.tacho_reading.proofs.NearRowLemmas.{card_kept, held_kept}
use Rattle.tacho_reading.proofs.PassingLemmas.{filter_both}

-- ---- rows that are apart

-- no row is empty
full_in : (xs : List SpanRow) (x : SpanRow) → AreRowsApart xs → Has xs x → x.start < x.past
full_in [] x h c = absurd c
full_in (y ∷ ys) x h (inl e) = subst (λ (z : SpanRow). z.start < z.past) (sym e) h.0
full_in (y ∷ ys) x h (inr c) = full_in ys x h.2 c

-- two rows are the same, or one ends before the other begins
beside : (xs : List SpanRow) (x r : SpanRow) → AreRowsApart xs → Has xs x → Has xs r → (x ≡ r) ⊎ AreAside x r
beside [] x r h c d = absurd c
beside (y ∷ ys) x r h (inl e) (inl f) = inl (e ∙ sym f)
beside (y ∷ ys) x r h (inl e) (inr d) = inr (subst (λ (z : SpanRow). AreAside z r) (sym e) (all_has (AreAside y) ys r h.1 d))
beside (y ∷ ys) x r h (inr c) (inl f) = inr (subst (λ (z : SpanRow). AreAside x z) (sym f) (turned (all_has (AreAside y) ys x h.1 c))) where
  turned : AreAside y x → AreAside x y
  turned (inl a) = inr a
  turned (inr a) = inl a
beside (y ∷ ys) x r h (inr c) (inr d) = beside ys x r h.2 c d

-- ---- rows that begin in a range, and rows that are near it

-- of rows that begin at `from` or later and end after the range's start, exactly those that begin before the range's end are near it
late : (from start past : ℕ) (x : SpanRow) → from ≤ x.start → start < x.past
    → (nat_le from x.start && nat_lt x.start past) ≡ (nat_lt x.start past && nat_lt start x.past)
late from start past x after reaches = go (nat_le from x.start) (nat_lt x.start past) (nat_lt start x.past) one two where
  a : ℕ
  a = x.start

  b : ℕ
  b = x.past

  one : nat_le from x.start ≡ true
  one = grind (arith, nat_tests)

  two : nat_lt start x.past ≡ true
  two = grind (arith, nat_tests)

  go : (u v w : Bool) → u ≡ true → w ≡ true → (u && v) ≡ (v && w)
  go true true true e f = refl
  go true false true e f = refl
  go true v false e f = absurd (let wrong = f in cc)
  go false v w e f = absurd (let wrong = e in cc)

-- a row that begins before `from` and ends by the range's start isn't near the range
early : (from start past : ℕ) (x : SpanRow) → x.start < from → x.past ≤ start
    → (nat_le from x.start && nat_lt x.start past) ≡ (nat_lt x.start past && nat_lt start x.past)
early from start past x before ends = go (nat_le from x.start) (nat_lt x.start past) (nat_lt start x.past) one two where
  one : nat_le from x.start ≡ false
  one = grind (arith, nat_tests)

  two : nat_lt start x.past ≡ false
  two = grind (arith, nat_tests)

  go : (u v w : Bool) → u ≡ false → w ≡ false → (u && v) ≡ (v && w)
  go false true false e f = refl
  go false false false e f = refl
  go false v true e f = absurd (let wrong = f in cc)
  go true v w e f = absurd (let wrong = e in cc)

-- ---- where the first near row begins

-- row `x` is near the range iff it begins from `from` to before the range's end
abbrev pub IsFrom : ℕ → ℕ → ℕ → SpanRow → Type 0
IsFrom start past from x = (nat_le from x.start && nat_lt x.start past) ≡ (nat_lt x.start past && nat_lt start x.past)

-- if no row begins before the range, `from` is the range's start
from_none : (start past : ℕ) (xs : List SpanRow) → AreRowsApart xs → filter (λ r. nat_lt r.start start) xs ≡ []
    → (x : SpanRow) → Has xs x → IsFrom start past start x
from_none start past xs h none x c = go (nat_lt x.start start) refl where
  full : x.start < x.past
  full = full_in xs x h c

  go : (b : Bool) → nat_lt x.start start ≡ b → IsFrom start past start x
  go true e = absurd (subst (λ (ys : List SpanRow). Has ys x) none (has_kept (λ r. nat_lt r.start start) xs x c e))
  go false e =
      let a = x.start in
      let after : start ≤ a = grind (arith, nat_tests) in
      late start start past x after (omega (arith, after, full))

-- if some row does, `from` follows from the latest such row, which may reach into the range
from_some : (start past : ℕ) (xs : List SpanRow) (r : SpanRow) → AreRowsApart xs → Has (filter (λ r. nat_lt r.start start) xs) r
    → AllByRecursion (λ (x : SpanRow). x.start ≤ r.start) (filter (λ r. nat_lt r.start start) xs)
    → (x : SpanRow) → Has xs x → IsFrom start past (near_from start past (Some (span_of r))) x
from_some start past xs r h one latest x c = go (nat_lt r.start past && nat_lt start r.past) refl (nat_lt x.start start) refl where
  a : ℕ
  a = x.start

  p : ℕ
  p = r.start

  in_list : Has xs r × (nat_lt r.start start ≡ true)
  in_list = has_filtered (λ r. nat_lt r.start start) xs r one

  before : p < start
  before = let e = in_list.1 in grind (arith, nat_tests)

  full : x.start < x.past
  full = full_in xs x h c

  full_r : r.start < r.past
  full_r = full_in xs r h in_list.0

  go : (hit : Bool) → (nat_lt r.start past && nat_lt start r.past) ≡ hit → (b : Bool) → nat_lt x.start start ≡ b
      → IsFrom start past (cond hit r.start start) x
  go true e false f = let after : start ≤ a = grind (arith, nat_tests) in late p start past x (omega (arith, after, before)) (omega (arith, after, full))
  go false e false f = let after : start ≤ a = grind (arith, nat_tests) in late start start past x after (omega (arith, after, full))
  go hit e true f = side (beside xs x r h c in_list.0) where
    at_most : x.start ≤ r.start
    at_most = all_has (λ (x : SpanRow). x.start ≤ r.start) (filter (λ r. nat_lt r.start start) xs) x latest (has_kept (λ r. nat_lt r.start start) xs x c f)

    sooner : a < start
    sooner = grind (arith, nat_tests)

    aside : (from : Bool) → x.past ≤ r.start → IsFrom start past (cond from r.start start) x
    aside true ends = early p start past x (omega (arith, full, ends)) (omega (arith, ends, before))
    aside false ends = early start start past x sooner (omega (arith, ends, before))

    same : (from : Bool) → (nat_lt r.start past && nat_lt start r.past) ≡ from → IsFrom start past (cond from r.start start) r
    same true g = both (nat_lt r.start past) (nat_lt start r.past) (nat_le r.start r.start) g (grind (arith, nat_tests)) where
      both : (u v w : Bool) → (u && v) ≡ true → w ≡ true → (w && u) ≡ (u && v)
      both true true true g i = refl
      both true false w g i = absurd (let wrong = g in cc)
      both false v w g i = absurd (let wrong = g in cc)
      both true true false g i = absurd (let wrong = i in cc)
    same false g = neither (nat_le start p) (nat_lt p past) (let b = before in grind (arith, nat_tests)) ∙ sym g where
      neither : (u v : Bool) → u ≡ false → (u && v) ≡ false
      neither false v i = refl
      neither true v i = absurd (let wrong = i in cc)

    side : (x ≡ r) ⊎ AreAside x r → IsFrom start past (cond hit r.start start) x
    side (inl s) = subst (λ (z : SpanRow). IsFrom start past (cond hit r.start start) z) (sym s) (same hit e)
    side (inr (inl ends)) = aside hit ends
    side (inr (inr begins)) = absurd (omega (arith, begins, at_most, full_r))

-- ---- the rows of a driver

module _ (n start past : ℕ) (rows : List SpanRow) (apart : AreRowsApart (driver_rows n rows)) where
  -- the rows before the range are the driver's rows before it
  before_own : filter (is_before n start) rows ≡ filter (λ r. nat_lt r.start start) (driver_rows n rows)
  before_own = filter_both (is_of n) (λ r. nat_lt r.start start) rows

  -- with the latest row before the range, `near_from` is such a `from`
  pub from_found : (b : Option StoredSpan) → MatchOption b (filter (is_before n start) rows ≡ [])
      (λ s. (r : SpanRow) × IsLatest r (filter (is_before n start) rows) × (s ≡ span_of r))
      → (x : SpanRow) → Has (driver_rows n rows) x → IsFrom start past (near_from start past b) x
  from_found None none x c = from_none start past (driver_rows n rows) apart (sym before_own ∙ none) x c
  from_found (Some s) (r, latest, is) x c =
      let at_most = recursion_from_All (λ (x : SpanRow). x.start ≤ r.start) (filter (is_before n start) rows) latest.latest in
      subst (λ (y : StoredSpan). IsFrom start past (near_from start past (Some y)) x) (sym is)
      (from_some start past (driver_rows n rows) r apart
      (subst (λ (ys : List SpanRow). Has ys r) before_own (has_contained (filter (is_before n start) rows) r latest.one))
      (subst (λ (ys : List SpanRow). AllByRecursion (λ (x : SpanRow). x.start ≤ r.start) ys) before_own at_most) x c)

  -- the rows that begin from there on are those that are near the range
  begun_near : (b : Option StoredSpan) → MatchOption b (filter (is_before n start) rows ≡ [])
      (λ s. (r : SpanRow) × IsLatest r (filter (is_before n start) rows) × (s ≡ span_of r))
      → AllByRecursion (λ x. is_begun n (near_from start past b) past x ≡ is_row_near n start past x) rows
  begun_near b h = all_from _ rows (λ x c. go x c (x.driver == n) refl) where
    go : (x : SpanRow) → Has rows x → (o : Bool) → (x.driver == n) ≡ o
        → (o && (nat_le (near_from start past b) x.start && nat_lt x.start past)) ≡ (o && (nat_lt x.start past && nat_lt start x.past))
    go x c true e = from_found b h x (has_kept (is_of n) rows x c e)
    go x c false e = refl

  -- so the rows that were read are those near the range
  pub read_begun : (b : Option StoredSpan) (found : List StoredSpan) → MatchOption b (filter (is_before n start) rows ≡ [])
      (λ s. (r : SpanRow) × IsLatest r (filter (is_before n start) rows) × (s ≡ span_of r))
      → IsPermutation (map span_of (filter (is_begun n (near_from start past b) past) rows)) found → IsReadNear rows n start past found
  read_begun b found h p = subst (λ (ys : List SpanRow). IsPermutation (map span_of ys) found)
      (filter_same (is_begun n (near_from start past b) past) (is_row_near n start past) rows (begun_near b h)) p

  -- the rows that remain after these are deleted are those that aren't near it
  pub left_begun : (b : Option StoredSpan) → MatchOption b (filter (is_before n start) rows ≡ [])
      (λ s. (r : SpanRow) × IsLatest r (filter (is_before n start) rows) × (s ≡ span_of r))
      → filter (λ r. not (is_begun n (near_from start past b) past r)) rows ≡ filter (λ r. not (is_row_near n start past r)) rows
  left_begun b h = filter_same (λ r. not (is_begun n (near_from start past b) past r)) (λ r. not (is_row_near n start past r)) rows
      (negated rows (begun_near b h)) where
        negated : (xs : List SpanRow) → AllByRecursion (λ x. is_begun n (near_from start past b) past x ≡ is_row_near n start past x) xs
            → AllByRecursion (λ x. not (is_begun n (near_from start past b) past x) ≡ not (is_row_near n start past x)) xs
        negated [] h = tt
        negated (x ∷ xs) h = (ap not h.0, negated xs h.1)

-- ---- rows of disjoint spans

-- of two spans that share no minute, one ends before the other begins
aside_of : (r x : SpanRow) → r.start < r.past → x.start < x.past → ShareNone (row_span r ∷ []) (row_span x ∷ []) → AreAside r x
aside_of r x full_r full_x share = go (nat_le r.past x.start) (nat_le x.past r.start) refl refl where
  a : ℕ
  a = r.start

  b : ℕ
  b = r.past

  c : ℕ
  c = x.start

  d : ℕ
  d = x.past

  both : c < b → a < d → (e : Bool) → nat_le a c ≡ e → ⊥
  both l m true e = let le : a ≤ c = grind (arith, nat_tests) in
      share c (row_span r).mark (row_span x).mark (inl ((le, l), refl)) (inl ((omega arith, full_x), refl))
  both l m false e = let lt : c < a = grind (arith, nat_tests) in
      share a (row_span r).mark (row_span x).mark (inl ((omega arith, full_r), refl)) (inl ((omega (arith, lt), m), refl))

  go : (e f : Bool) → nat_le r.past x.start ≡ e → nat_le x.past r.start ≡ f → AreAside r x
  go true f p q = inl (grind (arith, nat_tests))
  go false true p q = inr (grind (arith, nat_tests))
  go false false p q = absurd (both (grind (arith, nat_tests)) (grind (arith, nat_tests)) (nat_le a c) refl)

-- a row whose span shares no minute with the spans of others lies before or after each of them
asides_of : (n : ℕ) (r : SpanRow) (rows : List SpanRow) → r.start < r.past → ShareNone (row_span r ∷ []) (spans_of n rows)
    → AreDisjoint (spans_of n rows) → AllByRecursion (AreAside r) (driver_rows n rows)
asides_of n r [] full share h = tt
asides_of n r (x ∷ rows) full share h = go (x.driver == n) share h (asides_of n r rows full) where
  go : (o : Bool) → ShareNone (row_span r ∷ []) (cond o (row_span x ∷ spans_of n rows) (spans_of n rows))
      → AreDisjoint (cond o (row_span x ∷ spans_of n rows) (spans_of n rows))
      → (ShareNone (row_span r ∷ []) (spans_of n rows) → AreDisjoint (spans_of n rows) → AllByRecursion (AreAside r) (driver_rows n rows))
      → AllByRecursion (AreAside r) (cond o (x ∷ driver_rows n rows) (driver_rows n rows))
  go true share h more = (aside_of r x full h.0 (λ m j k g i. share m j k g (first m k i)), more (λ m j k g i. share m j k g (inr i)) h.2) where
    first : (m : ℕ) (k : Mark) → Gives (row_span x ∷ []) m k → Gives (row_span x ∷ spans_of n rows) m k
    first m k (inl g) = inl g
    first m k (inr g) = absurd g
  go false share h more = more share h

-- rows of disjoint spans have no minute in common
apart_of : (n : ℕ) (rows : List SpanRow) → AreDisjoint (spans_of n rows) → AreRowsApart (driver_rows n rows)
apart_of n [] h = tt
apart_of n (r ∷ rows) h = go (r.driver == n) h (apart_of n rows) where
  go : (o : Bool) → AreDisjoint (cond o (row_span r ∷ spans_of n rows) (spans_of n rows)) → (AreDisjoint (spans_of n rows) → AreRowsApart (driver_rows n rows))
      → AreRowsApart (cond o (r ∷ driver_rows n rows) (driver_rows n rows))
  go true h more = (h.0, asides_of n r rows h.0 h.1 h.2, more h.2)
  go false h more = more h

-- so a driver's rows in an archive's tables have no minute in common
pub card_apart : (t : Tables) (s : State) (n : ℕ) (d : Driver) → TablesRepresent t s → driver_of n s ≡ Some d → AreRowsApart (driver_rows n t.card_spans)
card_apart t s n d of is = apart_of n t.card_spans (card_kept t s n d of is).disjoint

pub held_apart : (t : Tables) (s : State) (n : ℕ) (d : Driver) → TablesRepresent t s → driver_of n s ≡ Some d → AreRowsApart (driver_rows n t.held)
held_apart t s n d of is = apart_of n t.held (held_kept t s n d of is).disjoint
