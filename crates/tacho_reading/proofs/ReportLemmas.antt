-- A driver's name and report, from the driver's stored row and from what a scan took of their span rows.
use Rattle.std.proofs.Common.{◌≡◌, ◌↔◌, inl, inr, ℕ, suc, ◌*◌, ◌<◌, ◌≤◌, ◌==◌, ◌&&◌, Bool, true, false, cond, List, [], ◌∷◌, ◌++◌, map, filter, Option, None, Some, Ok, refl, sym, ap, subst, arith, add-one}
use Rattle.std.specs.Prelude.{IfSome, min, string_bytes, nat_lt, nat_le}
use Rattle.std.specs.List.{AllByRecursion}
use Rattle.std.specs.List.Sorted.{IsPermutation, IsSortedBy}
use Rattle.std.proofs.lemmas.Bool.Decides.{nat_tests}
use Rattle.std.proofs.lemmas.List.{map-append}
use Rattle.std.proofs.lemmas.List.Sorted.{IsPermutation-sym, IsPermutation-map}
use Rattle.sqlite.specs.Tree.{Trees}
use Rattle.tacho_time.specs.declared.span.Mark.{Mark}
use Rattle.tacho_time.specs.declared.span.Span.{Span}
use Rattle.tacho_time.specs.Spans.{Gives}
use Rattle.tacho_line.specs.declared.horizon.Cause.{Cause}
use Rattle.tacho_line.specs.declared.horizon.Cause.TheVariants.{Unknown, Crew}
use Rattle.tacho_line.specs.declared.horizon.Horizon.{Horizon}
use Rattle.tacho_line.specs.Line.{mark_at, IsCrew, IsCause, IsHorizon}
use Rattle.tacho_line.proofs.MergeLemmas.{append_gives, front_gives, back_gives}
use Rattle.tacho_law.specs.Line.{line_of, Joined, IsBase, IsExamined}
use Rattle.tacho_law.proofs.RunsLemmas.{joined_le}
use Rattle.tacho_pass.specs.declared.found.Found.{Found}
use Rattle.tacho_rules.specs.declared.report.Report.{Report}
use Rattle.tacho_rules.specs.declared.scan.Scan.{Scan}
use Rattle.tacho_rules.specs.Report.{IsReport}
use Rattle.tacho_rules.specs.Scan.{AreFindings, IsScanOf}
use Rattle.tacho_rules.proofs.JoinedLemmas.{joined_line, joined_horizon}
use Rattle.tacho_state.specs.State.{Driver, State, driver_of, held_spans}
use Rattle.tacho_state.specs.Steps.{reading_of, name_reading, report_reading}
use Rattle.tacho_state.specs.Reported.{IsDriverReport}
use Rattle.tacho_state.proofs.MapLemmas.{held_map}
use Rattle.tacho_tables.specs.declared.rows.StoredDriver.{StoredDriver}
use Rattle.tacho_tables.specs.Rows.{SpanRow}
use Rattle.tacho_tables.specs.Tables.{Tables, HasTables, is_onward}
use Rattle.tacho_reading.specs.declared.reading.Beginning.{Beginning}
use Rattle.tacho_reading.specs.Begun.{is_after, IsBegun}
use Rattle.tacho_reading.specs.Finding.{IsStored}
use Rattle.tacho_reading.specs.Standing.{Represents, row_span, spans_of}
use Rattle.tacho_reading.specs.Taken.{cut, cuts, AreWhole, StopsBefore, AreFed}
use Rattle.tacho_reading.proofs.NearRowLemmas.{permuted_gives, held_kept}

-- the stored name is the driver's
pub name_told : (n : ℕ) (s : State) (d : Driver) (it : StoredDriver) → driver_of n s ≡ Some d → IsStored it d
    → name_reading n s ≡ Ok (string_bytes it.name)
name_told n s d it is stored = rw is (ap Ok (sym stored.name))

-- there is a driver to report on
pub somebody : (n : ℕ) (s : State) (d : Driver) → driver_of n s ≡ Some d → report_reading n s ≡ Ok tt
somebody n s d is = ap (reading_of (λ d. Ok tt)) is

-- ---- what spans give

-- spans cut at a base give what the spans give from the base on
cuts_given : (base : ℕ) (spans : List Span) (m : ℕ) (k : Mark) → Gives (cuts base spans) m k
    → Gives spans m k × (base ≤ m)
cuts_given base [] m k g = absurd g
cuts_given base (s ∷ spans) m k g = go (nat_le s.past base) g (cuts_given base spans m k) where
  started : (b : Bool) → nat_lt s.start base ≡ b → cond b base s.start ≤ m → (s.start ≤ m) × (base ≤ m)
  started true e le = let a = s.start in let l : a < base = grind (arith, nat_tests) in (omega (arith, l, le), le)
  started false e le = let a = s.start in let l : base ≤ a = grind (arith, nat_tests) in (le, omega (arith, l, le))

  go : (b : Bool) → Gives (cond b (cuts base spans) (cut base s ∷ cuts base spans)) m k
      → (Gives (cuts base spans) m k → Gives spans m k × (base ≤ m)) → Gives (s ∷ spans) m k × (base ≤ m)
  go true g more = (inr (more g).0, (more g).1)
  go false (inl c) more = let at = started (nat_lt s.start base) refl c.0.0 in (inl ((at.0, c.0.1), c.1), at.1)
  go false (inr g) more = (inr (more g).0, (more g).1)

-- if the cut spans end at `past`, the spans give no minute from there on
given_before : (base from past : ℕ) (spans : List Span) (m : ℕ) (k : Mark) → Joined (cuts base spans) from past
    → base ≤ past → Gives spans m k → m < past
given_before base from past [] m k j le g = absurd g
given_before base from past (s ∷ spans) m k j le g = go (nat_le s.past base) refl j g
    (λ from j. given_before base from past spans m k j le) where
      ends : ℕ
      ends = s.past

      go : (b : Bool) → nat_le s.past base ≡ b
          → Joined (cond b (cuts base spans) (cut base s ∷ cuts base spans)) from past
          → Gives (s ∷ spans) m k
          → ((from : ℕ) → Joined (cuts base spans) from past → Gives spans m k → m < past) → m < past
      go true e j (inl c) more =
          let l : ends ≤ base = grind (arith, nat_tests) in
          let h : m < ends = c.0.1 in omega (arith, l, h, le)
      go true e j (inr g) more = more from j g
      go false e j (inl c) more =
          let l : s.past ≤ past = joined_le (cuts base spans) s.past past j.2 in
          let h : m < ends = c.0.1 in omega (arith, l, h)
      go false e j (inr g) more = more s.past j.2 g

-- ---- rows ordered by start

-- no row begins before one that comes earlier in the list
abbrev Rise : List SpanRow → Type 0
Rise [] = Unit {0}
Rise (r ∷ rows) = AllByRecursion (λ (x : SpanRow). r.start ≤ x.start) rows × Rise rows

all_weaker : (P Q : SpanRow → Type 0) → ((x : SpanRow) → P x → Q x) → (rows : List SpanRow) → AllByRecursion P rows
    → AllByRecursion Q rows
all_weaker P Q weaker [] h = tt
all_weaker P Q weaker (x ∷ rows) h = (weaker x h.0, all_weaker P Q weaker rows h.1)

sorted_rise : (rows : List SpanRow) → IsSortedBy (λ (x y : SpanRow). nat_lt x.start y.start) rows → Rise rows
sorted_rise [] h = tt
sorted_rise (r ∷ []) h = (tt, tt)
sorted_rise (r ∷ x ∷ rows) h =
    let a = r.start in
    let b = x.start in
    let first : nat_lt b a ≡ false = h 0 x (omega arith) (omega arith) in
    let below : a ≤ b = grind (arith, nat_tests) in
    let tail : IsSortedBy (λ (x y : SpanRow). nat_lt x.start y.start) (x ∷ rows) = λ k d p q. rw add-one
    (rw add-one at (h (suc k) d (omega arith) (omega (arith, q)))) in
    let more = sorted_rise (x ∷ rows) tail in (
      (
        below,
        all_weaker (λ (y : SpanRow). b ≤ y.start) (λ (y : SpanRow). a ≤ y.start)
            (λ y at. omega (arith, at, below)) rows more.0,
      ),
      more,
    )

rise_after : (xs ys : List SpanRow) → Rise (xs ++ ys) → Rise ys
rise_after [] ys h = h
rise_after (x ∷ xs) ys h = rise_after xs ys h.1

given_later : (n : ℕ) (rows : List SpanRow) (m : ℕ) (k : Mark) → AllByRecursion (λ (x : SpanRow). n ≤ x.start) rows
    → Gives (map row_span rows) m k → n ≤ m
given_later n [] m k h g = absurd g
given_later n (x ∷ rows) m k h (inl c) = let a : n ≤ x.start = h.0 in let b : x.start ≤ m = c.0.0 in omega arith
given_later n (x ∷ rows) m k h (inr g) = given_later n rows m k h.1 g

-- ---- the horizon

-- why the horizon is at this minute
cause_is : (held taken : List Span) (minute : ℕ) (cause : Cause) (others : List SpanRow)
    → ((k : Mark) → ¬ Gives taken minute k)
    → ((k : Mark) → Gives (taken ++ map row_span others) minute k ↔ (mark_at held minute ≡ Some k)) → Rise others
    → StopsBefore (record { minute = minute; cause = cause }) (map row_span others)
    → IsCause (mark_at held minute) cause
cause_is held taken minute Unknown others none gives rise stops = go (mark_at held minute) refl where
  behind : (others : List SpanRow) (k : Mark) → Rise others
      → StopsBefore (record { minute = minute; cause = Unknown }) (map row_span others)
      → ¬ Gives (map row_span others) minute k
  behind [] k rise stops g = g
  behind (x ∷ others) k rise stops (inl c) =
      let a : x.start ≤ minute = c.0.0 in let b : minute < x.start = stops in omega arith
  behind (x ∷ others) k rise stops (inr g) =
      let a : x.start ≤ minute = given_later x.start others minute k rise.0 g in
      let b : minute < x.start = stops in omega arith

  go : (o : Option Mark) → mark_at held minute ≡ o → mark_at held minute ≡ None
  go None e = e
  go (Some k) e = absurd (elim (append_gives taken (map row_span others) minute k ((gives k).1 e)) [
    | inl g ↦ none k g
    | inr g ↦ behind others k rise stops g
  ])
cause_is held taken minute Crew [] none gives rise stops = absurd (let wrong = stops in cc)
cause_is held taken minute Crew (x ∷ others) none gives rise stops =
    subst IsCrew (sym ((gives (row_span x).mark).0 (back_gives taken (map row_span (x ∷ others)) minute
    (row_span x).mark (inl (stops.0, refl))))) stops.1

-- The rows up to the horizon, and the others. Together they give, from the base on, what the driver holds.
module _ (held : List Span) (base : ℕ) (h : Horizon) (taken others : List SpanRow)
    (whole : AreWhole base base h.minute (map row_span taken))
    (stops : StopsBefore h (map row_span others)) (rise : Rise others)
    (gives : (m : ℕ) (k : Mark) → base ≤ m → Gives (map row_span taken ++ map row_span others) m k ↔
    (mark_at held m ≡ Some k)) where
  -- the spans of the rows up to the horizon, cut at the base
  abbrev left : List Span
  left = cuts base (map row_span taken)

  held_there : (m : ℕ) (k : Mark) → Gives left m k → mark_at held m ≡ Some k
  held_there m k g =
      let c = cuts_given base (map row_span taken) m k g in
      (gives m k c.1).0 (front_gives (map row_span taken) (map row_span others) m k c.0)

  -- it is the driver's horizon
  horizon_is : IsHorizon held base h
  horizon_is =
      joined_horizon held left base h.minute whole.joined whole.single held_there h refl
      (cause_is held (map row_span taken) h.minute h.cause others
      (λ k g. let l : h.minute < h.minute = given_before base base h.minute
      (map row_span taken) h.minute k whole.joined (joined_le left base h.minute whole.joined) g in omega arith)
      (λ k. gives h.minute k (joined_le left base h.minute whole.joined)) rise stops)

  -- so what a scan finds from them is the driver's report
  pub report_found : (report : Report) → IsBase base → report.horizon ≡ h
      → (IsExamined left base h.minute → AreFindings (line_of left) base h.minute report.breaches.items
      report.debts.items)
      → IsReport held base report.horizon report.breaches.items report.debts.items
  report_found report monday same finds =
      let are = subst (λ l. AreFindings l base h.minute report.breaches.items report.debts.items) (joined_line held left base h.minute whole.joined whole.single held_there)
      (finds (record { base_is = monday; joined = whole.joined; single = whole.single; within = whole.within })) in
      subst (λ (x : Horizon). IsReport held base x report.breaches.items report.debts.items) (sym same) (record {
        is_horizon = horizon_is;
        runs = are.runs;
        breaks = are.breaks;
        are_runs = are.are_runs;
        are_breaks = are.are_breaks;
        are_debts = are.are_debts;
        exactly = are.exactly;
      })

-- ---- the driver's rows

-- from the base on, the driver's rows that end after it give what all the driver's rows give
pub after_gives : (n base m : ℕ) (k : Mark) (rows : List SpanRow) → base ≤ m
    → Gives (map row_span (filter (is_after n base) rows)) m k ↔ Gives (spans_of n rows) m k
after_gives n base m k [] le = (λ g. g, λ g. g)
after_gives n base m k (r ∷ rows) le = go (r.driver == n) (nat_lt base r.past) refl
    (after_gives n base m k rows le) where
      go : (o b : Bool) → nat_lt base r.past ≡ b → Gives (map row_span (filter (is_after n base) rows)) m k ↔ Gives
          (spans_of n rows) m k
          → Gives
          (map row_span (cond (o && b) (r ∷ filter (is_after n base) rows) (filter (is_after n base) rows))) m k
          ↔ Gives (cond o (row_span r ∷ spans_of n rows) (spans_of n rows)) m k
      go true true e more = (left, right) where
        left : Gives (row_span r ∷ map row_span (filter (is_after n base) rows)) m k
            → Gives (row_span r ∷ spans_of n rows) m k
        left (inl c) = inl c
        left (inr g) = inr (more.0 g)

        right : Gives (row_span r ∷ spans_of n rows) m k
            → Gives (row_span r ∷ map row_span (filter (is_after n base) rows)) m k
        right (inl c) = inl c
        right (inr g) = inr (more.1 g)
      go true false e more = (λ g. inr (more.0 g), right) where
        right : Gives (row_span r ∷ spans_of n rows) m k → Gives (map row_span (filter (is_after n base) rows)) m k
        right (inl c) =
            let a = r.past in
            let l : a ≤ base = grind (arith, nat_tests) in
            let below : m < a = c.0.1 in absurd (omega (arith, l, below, le))
        right (inr g) = more.1 g
      go false b e more = more

-- so what a scan found from these rows is the driver's report
pub report_told : (db : Trees) (n from : ℕ) (s : State) (b : Beginning) (h : Horizon) (scan : Scan) (was : Found)
    (fed : Scan) (found : Found) (report : Report)
    → Represents db s → IsBegun db n from s b → b.base ≤ from → IsBase b.base → IsScanOf scan was b.base []
    → ((t : Tables) → HasTables db t → AreFed n b.start b.base t.held scan was fed found h) → report.horizon ≡ h
    → ((base : ℕ) (spans : List Span) → IsScanOf fed found base spans → IsExamined spans base h.minute
    → AreFindings (line_of spans) base h.minute report.breaches.items report.debts.items)
    → IsDriverReport n s report
unfolding Represents
report_told db n from s b h scan was fed found report (t, stand, of) begun early monday none feeds same finds =
    let d = begun.driver in
    let least : min b.base from ≡ b.base = omega (arith, early) in
    let onward : filter (is_onward n b.start) t.held ≡ filter (is_after n b.base) t.held =
    subst (λ (k : ℕ). filter (is_onward n b.start) t.held ≡ filter (is_after n k) t.held) least (begun.rows t stand of) in
    let f = feeds t stand in
    let keeps = held_kept t s n d of begun.is in
    let rows : IsPermutation (map row_span (filter (is_after n b.base) t.held))
    (map row_span f.taken ++ map row_span f.others) =
    subst (IsPermutation (map row_span (filter (is_after n b.base) t.held))) (map-append row_span f.taken f.others)
    (IsPermutation-map row_span (filter (is_after n b.base) t.held) (f.taken ++ f.others)
    (subst (λ (xs : List SpanRow). IsPermutation xs (f.taken ++ f.others)) onward f.onward.same)) in
    let gives : (m : ℕ) (k : Mark) → b.base ≤ m → Gives (map row_span f.taken ++ map row_span f.others) m k ↔
    (mark_at (held_spans d) m ≡ Some k) =
    λ m k le. (
      λ g. (held_map d (spans_of n t.held) m k keeps).0 ((keeps.same m k).0 ((after_gives n b.base m k t.held le).0
          (permuted_gives _ _ m k (IsPermutation-sym _ _ rows) g))),
      λ e. permuted_gives _ _ m k rows ((after_gives n b.base m k t.held le).1
          ((keeps.same m k).1 ((held_map d (spans_of n t.held) m k keeps).1 e))),
    ) in
    let rise = rise_after f.taken f.others (sorted_rise (f.taken ++ f.others) f.onward.sorted) in
    let is : IsReport (held_spans d) b.base report.horizon report.breaches.items report.debts.items =
    report_found (held_spans d) b.base h f.taken f.others f.took.whole f.stops rise gives report monday same
    (finds b.base (cuts b.base (map row_span f.taken)) (f.took.fed [] none)) in
    subst (λ (o : Option Driver). IfSome o
    (λ d. IsReport (held_spans d) (1440 * d.base) report.horizon report.breaches.items report.debts.items))
    (sym begun.is)
    (subst (λ (base : ℕ). IsReport (held_spans d) base report.horizon report.breaches.items report.debts.items)
    begun.base is)
