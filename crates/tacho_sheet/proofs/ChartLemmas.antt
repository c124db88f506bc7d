-- The chart of a month: what isn't within a stretch, a day's breaches, and day after day.
use Rattle.std.proofs.Common.{◌≡◌, ◌∙◌, ◌↔◌, ℕ, zero, suc, ◌+◌, ◌*◌, ◌<◌, ◌≤◌, ◌⊎◌, inl, inr, ◌&&◌, ◌||◌, nat_le, nat_lt, Bool, true, false, List, [], ◌∷◌, ◌++◌, Option, None, Some, get_or, length, map, take, refl, sym, ap, subst, arith, append_assoc, cond}
use Rattle.std.proofs.lemmas.Bool.Decides.{nat_tests}
use Rattle.std.proofs.lemmas.List.{append-nil, map-append}
use Rattle.tacho_time.specs.declared.span.Activity.TheVariants.{Drive, Rest}
use Rattle.tacho_time.specs.declared.span.Mark.{Mark}
use Rattle.tacho_time.specs.declared.span.Span.{Span}
use Rattle.tacho_time.specs.declared.canonical.SpanFault.{SpanFault}
use Rattle.tacho_time.specs.declared.canonical.SpanFault.TheVariants.{Contradiction as SpanContradiction, Memory as SpanMemory}
use Rattle.tacho_time.specs.Merge.{IsFirstFault}
use Rattle.tacho_time.specs.Spans.{Gives, GiveSame, Conflicts, IsCanonical, IsCanonicalOf, StartsFrom}
use Rattle.tacho_line.specs.declared.gap.Gap.{Gap}
use Rattle.tacho_line.specs.Line.{mark_at, AgreeWithin, AreGaps, HoldsWithin, IsWithin}
use Rattle.tacho_line.proofs.LineLemmas.{held_given, line_map}
use Rattle.tacho_time.proofs.CanonicalLemmas.{canonical_starts, later}
use Rattle.tacho_law.specs.declared.breach.Breach.{Breach}
use Rattle.tacho_stretches.specs.declared.stretch.Stretch.{Stretch}
use Rattle.tacho_stretches.specs.Stretches.{Judged, judged_of}
use Rattle.tacho_sheet.specs.Reports.{breaches_within, column_minutes, is_single_minute, AgreeIn}
use Rattle.tacho_sheet.specs.Months.{is_examined, month_breaches}
use Rattle.tacho_sheet.specs.Chart.{chart_front, chart_head, chart_hours, chart_legend, chart_title, day_group, AreDayGroups, AreUnseen, HasDayGroup, HasMarks, IsDayGroup, IsMonthChart, NoneCovers, OneCovers, ShowsMinute}
use Rattle.tacho_sheet.specs.Seen.{seen_span, seen_spans}
use Rattle.tacho_sheet.proofs.AmountLemmas.{count_same}
use Rattle.tacho_sheet.proofs.MarkLemmas.{held_same}
use Rattle.tacho_sheet.proofs.TextLemmas.{take_more}
use Rattle.tacho_sheet.proofs.OneLemmas.{give_same, same_bounds, same_day}

-- ---- what is within a stretch

abbrev seen_mark : Mark
seen_mark = record { activity = Rest; crew = false }

in_here : (a b m : ℕ) (rest : Bool) → a ≤ m → m < b → (nat_le a m && nat_lt m b) || rest ≡ true
in_here a b m rest h k = grind (arith, nat_tests)

in_rest : (here rest : Bool) → rest ≡ true → here || rest ≡ true
in_rest true rest h = refl
in_rest false rest h = h

here_or_rest : (a b m : ℕ) (rest : Bool) → (nat_le a m && nat_lt m b) || rest ≡ true → ((a ≤ m) × (m < b)) ⊎ (rest ≡ true)
here_or_rest a b m rest h = go (nat_le a m && nat_lt m b) refl h where
  go : (here : Bool) → nat_le a m && nat_lt m b ≡ here → here || rest ≡ true → ((a ≤ m) × (m < b)) ⊎ (rest ≡ true)
  go true e k = inl (grind (arith, nat_tests), grind (arith, nat_tests))
  go false e k = inr k

-- the spans of stretches give exactly the minutes within a stretch, all with one mark
pub seen_told : (stretches : List Judged) (m : ℕ) (mark : Mark) → Gives (seen_spans stretches) m mark
    → (seen_mark ≡ mark) × (is_examined stretches m ≡ true)
seen_told [] m mark h = absurd h
seen_told (s ∷ stretches) m mark (inl h) = (h.1, in_here s.monday s.horizon.minute m (is_examined stretches m) h.0.0 h.0.1)
seen_told (s ∷ stretches) m mark (inr h) =
    let r = seen_told stretches m mark h in (r.0, in_rest (nat_le s.monday m && nat_lt m s.horizon.minute) (is_examined stretches m) r.1)

seen_given : (stretches : List Judged) (m : ℕ) → is_examined stretches m ≡ true → Gives (seen_spans stretches) m seen_mark
seen_given [] m h = cc
seen_given (s ∷ stretches) m h = elim (here_or_rest s.monday s.horizon.minute m (is_examined stretches m) h) [
  | inl here ↦ inl (here, refl)
  | inr rest ↦ inr (seen_given stretches m rest)
]

pub seen_agreed : (stretches : List Judged) (m : ℕ) → ¬ (Conflicts (Gives (seen_spans stretches)) m)
seen_agreed stretches m c =
    c.4 (sym (seen_told stretches m c.0 c.2).0 ∙ (seen_told stretches m c.1 c.3).0)

-- spans that agree have no fault but memory
pub no_conflict : (P : ℕ → Mark → Type 0) (fault : SpanFault) → ((m : ℕ) → ¬ (Conflicts P m)) → IsFirstFault P fault → fault ≡ SpanMemory
no_conflict P (SpanContradiction m) h f = absurd (h m f.0)
no_conflict P SpanMemory h f = refl

-- of a line that holds these minutes: a minute isn't held exactly if it isn't within a stretch
unseen_at : (stretches : List Judged) (line : List Span) (m : ℕ) → IsCanonicalOf (Gives (seen_spans stretches)) line
    → (mark_at line m ≡ None) ↔ (is_examined stretches m ≡ false)
unseen_at stretches line m c = (there (is_examined stretches m) refl, back (mark_at line m) refl) where
  there : (b : Bool) → is_examined stretches m ≡ b → mark_at line m ≡ None → is_examined stretches m ≡ false
  there false e none = e
  there true e none =
      let held = (line_map line m seen_mark c.canonical).1 ((c.same m seen_mark).1 (seen_given stretches m e)) in absurd cc

  back : (o : Option Mark) → mark_at line m ≡ o → is_examined stretches m ≡ false → mark_at line m ≡ None
  back None e out = e
  back (Some mark) e out =
      let seen = (seen_told stretches m mark ((c.same m mark).0 (held_given line m mark e))).1 in absurd cc

-- its gaps are the ranges that aren't within a stretch
pub gaps_unseen : (stretches : List Judged) (line : List Span) (start past : ℕ) (gaps : List Gap)
    → IsCanonicalOf (Gives (seen_spans stretches)) line → AreGaps line start past gaps → AreUnseen stretches start past gaps
gaps_unseen stretches line start past gaps c g = record {
  apart = g.apart;
  lacking = λ m. (
    λ i. let (within, none) = (g.lacking m).0 i in (within, (unseen_at stretches line m c).0 none),
    λ h. (g.lacking m).1 (h.0, (unseen_at stretches line m c).1 h.1),
  );
}

-- the spans of the stretches so far, and one more
pub spans_more : (xs : List Stretch) (i : ℕ) (x : Stretch) (old new : List Span) → i < length xs → x ≡ get_or xs i x
    → old ≡ seen_spans (map judged_of (take i xs)) → new ≡ old ++ seen_span (judged_of x) ∷ [] → new ≡ seen_spans (map judged_of (take (i + 1) xs))
spans_more xs i x old new within is so more =
    more ∙ ap (λ (t : List Span). t ++ seen_span (judged_of x) ∷ []) so
    ∙ sym (map-append seen_span (map judged_of (take i xs)) (judged_of x ∷ []))
    ∙ ap (λ (t : List Judged). map seen_span t) (sym (map-append judged_of (take i xs) (x ∷ [])))
    ∙ ap (λ (y : Stretch). map seen_span (map judged_of (take i xs ++ y ∷ []))) is
    ∙ ap (λ (t : List Stretch). map seen_span (map judged_of t)) (sym (take_more xs i x within))

-- ---- a day's breaches

-- a breach between two minutes within a range is one of the range's
within_range : (a b c d m : ℕ) → a ≤ c → d ≤ b → nat_le c m && nat_lt m d ≡ true → nat_le a m && nat_lt m b ≡ true
within_range a b c d m low high h = grind (arith, nat_tests)

filter_twice : (start past first end : ℕ) (breaches : List Breach) → start ≤ first → end ≤ past
    → breaches_within first end (breaches_within start past breaches) ≡ breaches_within first end breaches
filter_twice start past first end [] low high = refl
filter_twice start past first end (b ∷ breaches) low high =
    go (filter_twice start past first end breaches low high) (nat_le start b.moment && nat_lt b.moment past)
    (nat_le first b.moment && nat_lt b.moment end) refl refl where
      go : breaches_within first end (breaches_within start past breaches) ≡ breaches_within first end breaches
          → (wide own : Bool) → nat_le start b.moment && nat_lt b.moment past ≡ wide → nat_le first b.moment && nat_lt b.moment end ≡ own
          → breaches_within first end (breaches_within start past (b ∷ breaches)) ≡ breaches_within first end (b ∷ breaches)
      go more true true e f = simp (e, f, more) refl
      go more true false e f = simp (e, f, more) refl
      go more false false e f = simp (e, f, more) refl
      go more false true e f = absurd (let g = within_range start past first end b.moment low high f in cc)

breaches_append : (start past : ℕ) (xs ys : List Breach)
    → breaches_within start past (xs ++ ys) ≡ breaches_within start past xs ++ breaches_within start past ys
breaches_append start past [] ys = refl
breaches_append start past (b ∷ xs) ys = go (breaches_append start past xs ys) (nat_le start b.moment && nat_lt b.moment past) refl where
  go : breaches_within start past (xs ++ ys) ≡ breaches_within start past xs ++ breaches_within start past ys
      → (kept : Bool) → nat_le start b.moment && nat_lt b.moment past ≡ kept
      → breaches_within start past ((b ∷ xs) ++ ys) ≡ breaches_within start past (b ∷ xs) ++ breaches_within start past ys
  go more true e = simp (e, more) refl
  go more false e = simp (e, more) refl

pub day_breaches : (start past first end : ℕ) (stretches : List Judged) → start ≤ first → end ≤ past
    → breaches_within first end (month_breaches start past stretches) ≡ month_breaches first end stretches
day_breaches start past first end [] low high = refl
day_breaches start past first end (s ∷ stretches) low high =
    breaches_append first end (breaches_within start past s.breaches) (month_breaches start past stretches)
    ∙ ap (λ (xs : List Breach). xs ++ breaches_within first end (month_breaches start past stretches)) (filter_twice start past first end s.breaches low high)
    ∙ ap (λ (xs : List Breach). breaches_within first end s.breaches ++ xs) (day_breaches start past first end stretches low high)

-- ---- day after day

-- the group of the same spans, ranges, breaches and minutes
pub same_group : (day y : ℕ) (s s2 : List Span) (g g2 : List Gap) (b b2 : List Breach) (n n2 : ℕ) → s ≡ s2 → g ≡ g2 → b ≡ b2 → n ≡ n2
    → day_group day y s g b n ≡ day_group day y s2 g2 b2 n2
same_group day y s s2 g g2 b b2 n n2 es eg eb en =
    ap (λ (x : List Span). day_group day y x g b n) es ∙ ap (λ (x : List Gap). day_group day y s2 x b n) eg
    ∙ ap (λ (x : List Breach). day_group day y s2 g2 x n) eb ∙ ap (λ (x : ℕ). day_group day y s2 g2 b2 x) en

-- one more group after those of n days
pub groups_more : (line : List Span) (stretches : List Judged) (day y n : ℕ) (groups group : List ℕ)
    → AreDayGroups line stretches day y n groups → IsDayGroup line stretches (day + n) (y + 42 * n) group
    → AreDayGroups line stretches day y (suc n) (groups ++ group)
groups_more line stretches day y zero groups group are is =
    let d : day + zero ≡ day = omega arith in
    let h : y + 42 * zero ≡ y = omega arith in
    (group, [], rw are (sym (append-nil group)), subst (λ (k : ℕ). IsDayGroup line stretches k y group) d (subst (λ (k : ℕ). IsDayGroup line stretches (day + zero) k group) h is), refl)
groups_more line stretches day y (suc n) groups group are is =
    let (one, rest, whole, first, others) = are in
    let d : day + suc n ≡ (day + 1) + n = omega arith in
    let h : y + 42 * suc n ≡ (y + 42) + 42 * n = omega arith in
    let last = subst (λ (k : ℕ). IsDayGroup line stretches k ((y + 42) + 42 * n) group) d (subst (λ (k : ℕ). IsDayGroup line stretches (day + suc n) k group) h is) in (
      one,
      rest ++ group,
      ap (λ (t : List ℕ). t ++ group) whole ∙ append_assoc one rest group,
      first,
      groups_more line stretches (day + 1) (y + 42) n rest group others last,
    )

-- a chart that was written piece by piece
pub chart_pieces : (number month days n : ℕ) (name one two groups t0 t1 t2 t3 t4 : List ℕ)
    → one ≡ chart_title number name month → two ≡ chart_title number name month → n ≡ days
    → t0 ≡ [] → t1 ≡ t0 ++ chart_front one n → t2 ≡ t1 ++ chart_hours two → t3 ≡ t2 ++ groups → t4 ≡ t3 ++ chart_legend n
    → t4 ≡ chart_head number name month days ++ (groups ++ chart_legend days)
chart_pieces number month days n name one two groups t0 t1 t2 t3 t4 e1 e2 en none front hours days_written legend =
    let title = chart_title number name month in
    let fronted : t1 ≡ chart_front title days =
    front ∙ ap (λ (t : List ℕ). t ++ chart_front one n) none ∙ ap (λ (t : List ℕ). chart_front t n) e1 ∙ ap (λ (k : ℕ). chart_front title k) en in
    let headed : t2 ≡ chart_head number name month days =
    hours ∙ ap (λ (t : List ℕ). t1 ++ chart_hours t) e2 ∙ ap (λ (t : List ℕ). t ++ chart_hours title) fronted in
    legend ∙ ap (λ (t : List ℕ). t ++ chart_legend n) (days_written ∙ ap (λ (t : List ℕ). t ++ groups) headed)
    ∙ ap (λ (k : ℕ). (chart_head number name month days ++ groups) ++ chart_legend k) en
    ∙ append_assoc (chart_head number name month days) groups (chart_legend days)

-- ---- what is drawn over a minute

none_before : (n m : ℕ) (spans : List Span) → m < n → StartsFrom n spans → NoneCovers spans m
none_before n m [] lt h = tt
none_before n m (s ∷ spans) lt h =
    let low : n ≤ s.start = h.0 in ((λ c. let d : s.start ≤ m = c.0 in absurd (omega arith)), none_before s.start m spans (omega arith) h.2)

none_given : (spans : List Span) (m : ℕ) → ((mark : Mark) → ¬ (Gives spans m mark)) → NoneCovers spans m
none_given [] m h = tt
none_given (s ∷ spans) m h = ((λ c. h s.mark (inl (c, refl))), none_given spans m (λ mark g. h mark (inr g)))

one_given : (spans : List Span) (m : ℕ) (mark : Mark) → IsCanonical spans → Gives spans m mark → OneCovers spans m mark
one_given [] m mark h g = absurd g
one_given (s ∷ spans) m mark h (inl c) = inl (c.0, c.1, none_before s.past m spans c.0.1 (canonical_starts s spans h))
one_given (s ∷ spans) m mark h (inr g) =
    let from : s.past ≤ m = later s.past spans m mark (canonical_starts s spans h) g in
    inr ((λ c. let d : m < s.past = c.1 in absurd (omega arith)), one_given spans m mark h.2 g)

pub shows_minute : (line spans : List Span) (start past : ℕ) → IsCanonicalOf (HoldsWithin line start past) spans
    → (m : ℕ) → IsWithin start past m → ShowsMinute spans m (mark_at line m)
shows_minute line spans start past c m within = go (mark_at line m) refl where
  go : (o : Option Mark) → mark_at line m ≡ o → ShowsMinute spans m o
  go (Some mark) e = one_given spans m mark c.canonical ((c.same m mark).1 (within, e))
  go None e = none_given spans m (λ mark g. let held = ((c.same m mark).0 g).1 in absurd cc)

pub has_day : (line : List Span) (stretches : List Judged) (day y n : ℕ) (text : List ℕ) → AreDayGroups line stretches day y n text
    → (k : ℕ) → k < n → HasDayGroup line stretches day y k text
has_day line stretches day y zero text are k lt = absurd (omega arith)
has_day line stretches day y (suc n) text are zero lt =
    let (group, rest, whole, first, others) = are in
    let d : day + zero ≡ day = omega arith in
    let h : y + 42 * zero ≡ y = omega arith in
    record {
      before = [];
      group = group;
      after = rest;
      is = subst (λ (i : ℕ). IsDayGroup line stretches i (y + 42 * zero) group) (sym d) (subst (λ (i : ℕ). IsDayGroup line stretches day i group) (sym h) first);
      whole = whole;
    }
has_day line stretches day y (suc n) text are (suc k) lt =
    let (group, rest, whole, first, others) = are in
    let there = has_day line stretches (day + 1) (y + 42) n rest others k (omega arith) in
    let d : (day + 1) + k ≡ day + suc k = omega arith in
    let h : (y + 42) + 42 * k ≡ y + 42 * suc k = omega arith in
    record {
      before = group ++ there.before;
      group = there.group;
      after = there.after;
      is = subst (λ (i : ℕ). IsDayGroup line stretches i (y + 42 * suc k) there.group) d (subst (λ (i : ℕ). IsDayGroup line stretches ((day + 1) + k) i there.group) h there.is);
      whole = whole ∙ ap (λ (t : List ℕ). group ++ t) there.whole ∙ sym (append_assoc group there.before (there.group ++ there.after));
    }

-- ---- one chart, by the marks of the minutes

mark_seen : (stretches : List Judged) (m : ℕ) → mark_at (seen_spans stretches) m ≡ cond (is_examined stretches m) (Some seen_mark) None
mark_seen [] m = refl
mark_seen (s ∷ stretches) m = go (mark_seen stretches m) (nat_le s.monday m && nat_lt m s.horizon.minute) refl where
  go : mark_at (seen_spans stretches) m ≡ cond (is_examined stretches m) (Some seen_mark) None
      → (here : Bool) → nat_le s.monday m && nat_lt m s.horizon.minute ≡ here
      → mark_at (seen_spans (s ∷ stretches)) m ≡ cond (is_examined (s ∷ stretches) m) (Some seen_mark) None
  go more true e = simp e refl
  go more false e = simp (e, more) refl

seen_none : (stretches : List Judged) (m : ℕ) → (mark_at (seen_spans stretches) m ≡ None) ↔ (is_examined stretches m ≡ false)
seen_none stretches m = go (is_examined stretches m) refl where
  go : (b : Bool) → is_examined stretches m ≡ b → (mark_at (seen_spans stretches) m ≡ None) ↔ (is_examined stretches m ≡ false)
  go true e = ((λ h. let there = mark_seen stretches m in absurd cc), (λ h. absurd cc))
  go false e = ((λ h. e), (λ h. mark_seen stretches m ∙ ap (λ b. cond b (Some seen_mark) None) e))

as_gaps : (stretches : List Judged) (start past : ℕ) (gaps : List Gap) → AreUnseen stretches start past gaps → AreGaps (seen_spans stretches) start past gaps
as_gaps stretches start past gaps h = record {
  apart = h.apart;
  lacking = λ m. (
    λ i. let (within, out) = (h.lacking m).0 i in (within, (seen_none stretches m).1 out),
    λ i. (h.lacking m).1 (i.0, (seen_none stretches m).0 i.1),
  );
}

module _ (one_gaps : (line : List Span) (start past : ℕ) (gaps others : List Gap) → AreGaps line start past gaps → AreGaps line start past others → gaps ≡ others)
    (one_spans : (xs ys : List Span) → IsCanonical xs → IsCanonical ys → GiveSame xs ys → xs ≡ ys) where
  one_group : (line : List Span) (stretches : List Judged) (day y : ℕ) (a b : List ℕ) → IsDayGroup line stretches day y a → IsDayGroup line stretches day y b → a ≡ b
  one_group line stretches day y a b g h =
      let drive = column_minutes line (1440 * day) 1440 (is_single_minute Drive) in
      let spans : g.spans ≡ h.spans = one_spans g.spans h.spans g.held.canonical h.held.canonical
      (give_same (HoldsWithin line (1440 * day) (1440 * (day + 1))) g.spans h.spans g.held h.held) in
      let gaps : g.gaps ≡ h.gaps = one_gaps (seen_spans stretches) (1440 * day) (1440 * (day + 1)) g.gaps h.gaps
      (as_gaps stretches (1440 * day) (1440 * (day + 1)) g.gaps g.unseen) (as_gaps stretches (1440 * day) (1440 * (day + 1)) h.gaps h.unseen) in
      let breaches : g.breaches ≡ h.breaches = g.marked ∙ sym h.marked in
      g.is ∙ ap (λ (x : List Span). day_group day y x g.gaps g.breaches drive) spans
      ∙ ap (λ (x : List Gap). day_group day y h.spans x g.breaches drive) gaps
      ∙ ap (λ (x : List Breach). day_group day y h.spans h.gaps x drive) breaches ∙ sym h.is

  one_groups : (line : List Span) (stretches : List Judged) (day y n : ℕ) (a b : List ℕ) → AreDayGroups line stretches day y n a → AreDayGroups line stretches day y n b → a ≡ b
  one_groups line stretches day y zero a b g h = g ∙ sym h
  one_groups line stretches day y (suc n) a b g h =
      let (one, rest, whole, first, others) = g in
      let (one', rest', whole', first', others') = h in
      whole ∙ ap (λ (x : List ℕ). x ++ rest) (one_group line stretches day y one one' first first')
      ∙ ap (λ (x : List ℕ). one' ++ x) (one_groups line stretches (day + 1) (y + 42) n rest rest' others others') ∙ sym whole'

  pub one_chart : (number : ℕ) (name : List ℕ) (line : List Span) (stretches : List Judged) (month : ℕ) (a b : List ℕ)
      → IsMonthChart number name line stretches month a → IsMonthChart number name line stretches month b → a ≡ b
  one_chart number name line stretches month a b x y =
      let bounds = same_bounds month (1440 * x.day) (1440 * (x.day + x.days)) (1440 * y.day) (1440 * (y.day + y.days)) x.bounds y.bounds in
      let same = same_day x.day y.day x.days y.days bounds.0 bounds.1 in
      let moved = subst (λ (n : ℕ). AreDayGroups line stretches x.day 100 n y.groups) (sym same.1)
      (subst (λ (d : ℕ). AreDayGroups line stretches d 100 y.days y.groups) (sym same.0) y.are) in
      x.is ∙ ap (λ (g : List ℕ). chart_head number name month x.days ++ (g ++ chart_legend x.days)) (one_groups line stretches x.day 100 x.days x.groups y.groups x.are moved)
      ∙ ap (λ (n : ℕ). chart_head number name month n ++ (y.groups ++ chart_legend n)) same.1 ∙ sym y.is

group_same : (a b : List Span) (stretches : List Judged) (day y : ℕ) (text : List ℕ) → AgreeWithin (1440 * day) (1440 * (day + 1)) a b
    → IsDayGroup a stretches day y text → IsDayGroup b stretches day y text
group_same a b stretches day y text e g =
    let same : column_minutes a (1440 * day) 1440 (is_single_minute Drive) ≡ column_minutes b (1440 * day) 1440 (is_single_minute Drive) =
    count_same (λ k. is_single_minute Drive (mark_at a k)) (λ k. is_single_minute Drive (mark_at b k)) (1440 * day) 1440
    (λ k from to. ap (is_single_minute Drive) (e k (from, omega (arith, to)))) in
    record {
      spans = g.spans;
      held = held_same a b (1440 * day) (1440 * (day + 1)) g.spans e g.held;
      gaps = g.gaps;
      unseen = g.unseen;
      breaches = g.breaches;
      marked = g.marked;
      is = g.is ∙ ap (λ (n : ℕ). day_group day y g.spans g.gaps g.breaches n) same;
    }

groups_same : (a b : List Span) (stretches : List Judged) (day y n : ℕ) (text : List ℕ) → AgreeWithin (1440 * day) (1440 * (day + n)) a b
    → AreDayGroups a stretches day y n text → AreDayGroups b stretches day y n text
groups_same a b stretches day y zero text e g = g
groups_same a b stretches day y (suc n) text e g =
    let (one, rest, whole, first, others) = g in (
      one,
      rest,
      whole,
      group_same a b stretches day y one (λ m w. let x = w.0 in let z = w.1 in e m (omega arith, omega arith)) first,
      groups_same a b stretches (day + 1) (y + 42) n rest (λ m w. let x = w.0 in let z = w.1 in e m (omega arith, omega arith)) others,
    )

pub chart_same : (number : ℕ) (name : List ℕ) (a b : List Span) (stretches : List Judged) (month : ℕ) (text : List ℕ)
    → AgreeIn month a b → IsMonthChart number name a stretches month text → IsMonthChart number name b stretches month text
chart_same number name a b stretches month text e h = record {
  day = h.day;
  days = h.days;
  bounds = h.bounds;
  groups = h.groups;
  are = groups_same a b stretches h.day 100 h.days h.groups (e (1440 * h.day) (1440 * (h.day + h.days)) h.bounds) h.are;
  is = h.is;
}

-- the marks of a day are those of the month's breaches in the day
pub has_marks : (line : List Span) (stretches : List Judged) (start past day y : ℕ) (text : List ℕ) → start ≤ 1440 * day → 1440 * (day + 1) ≤ past
    → IsDayGroup line stretches day y text
    → HasMarks day y (breaches_within (1440 * day) (1440 * (day + 1)) (month_breaches start past stretches)) text
has_marks line stretches start past day y text low high w = record {
  spans = w.spans;
  gaps = w.gaps;
  drive = column_minutes line (1440 * day) 1440 (is_single_minute Drive);
  is = w.is ∙ same_group day y w.spans w.spans w.gaps w.gaps w.breaches _ _ _ refl refl
      (w.marked ∙ sym (day_breaches start past (1440 * day) (1440 * (day + 1)) stretches low high)) refl;
}
