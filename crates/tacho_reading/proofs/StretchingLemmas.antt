-- What a pass over stretches takes of a driver's rows and finds from them, and what the rows kept for a range give.
use Rattle.std.proofs.Common.{◌≡◌, ◌∙◌, ◌↔◌, inl, inr, ℕ, ◌*◌, ◌<◌, ◌≤◌, Bool, true, false, cond, List, [], ◌∷◌, ◌++◌, map, filter, Option, None, Some, pos, Result, Ok, Err, OnOk, refl, sym, ap, subst, append-nil, append_assoc}
use Rattle.std.specs.Prelude.{◌==◌, ◌&&◌, IfSome, min, nat_lt}
use Rattle.std.specs.List.Sorted.{IsPermutation}
use Rattle.std.proofs.lemmas.List.{map-append}
use Rattle.std.proofs.lemmas.List.Elements.{filter-append}
use Rattle.std.proofs.lemmas.List.Sorted.{IsPermutation-sym, IsPermutation-map}
use Rattle.sqlite.specs.Given.{HasGiven}
use Rattle.sqlite.specs.Held.{Held, state}
use Rattle.sqlite.specs.declared.types.Value.TheVariants.{Int}
use Rattle.sqlite.specs.Effect.{Database}
use Rattle.sqlite.specs.State.{HasCleanDisk, IsUnchanged}
use Rattle.sqlite.specs.Store.{Ghosts}
use Rattle.sqlite.specs.Tree.{Trees}
use Rattle.sqlite_keyed.proofs.ListLemmas.{IsPermutation-filter}
use Rattle.sqlite_trees.proofs.ListLemmas.{filter-map, map-map}
use Rattle.tacho_time.specs.declared.span.Mark.{Mark}
use Rattle.tacho_time.specs.declared.span.Span.{Span}
use Rattle.tacho_time.specs.Spans.{Gives, IsCanonicalOf}
use Rattle.std.proofs.Common.{arith}
use Rattle.std.proofs.lemmas.Bool.Decides.{nat_tests}
use Rattle.tacho_line.specs.Line.{AgreeWithin, covers, mark_at}
use Rattle.tacho_line.proofs.LineLemmas.{held_given}
use Rattle.tacho_stretches.specs.Pass.{HasPassed, Passing}
use Rattle.tacho_stretches.specs.Stretches.{Judged, AreStretches}
use Rattle.tacho_stretches.proofs.MarkLemmas.{by_marks}
use Rattle.tacho_state.specs.State.{Driver, State, held_spans}
use Rattle.tacho_state.specs.Reported.{AreStretchesOf, IsHeldWithin}
use Rattle.tacho_state.specs.declared.fault.StoreFault.{StoreFault}
use Rattle.tacho_state.proofs.MapLemmas.{held_map}
use Rattle.tacho_tables.specs.declared.rows.StoredSpan.{StoredSpan}
use Rattle.tacho_tables.specs.Next.{GivesNext, onward_text}
use Rattle.tacho_tables.specs.Rows.{AreRowsOf, SpanRow, span_columns}
use Rattle.tacho_tables.specs.Tables.{Tables, HasTables, IsArchive, is_row_near, span_of, span_shown}
use Rattle.tacho_tables.proofs.NextLemmas.{shown_onward}
use Rattle.tacho_reading.specs.declared.reading.Beginning.{Beginning}
use Rattle.tacho_reading.specs.Begun.{is_after, IsBegun}
use Rattle.tacho_reading.specs.Standing.{Represents, row_span, stored_span, spans_of, IsReadNear}
use Rattle.tacho_reading.specs.Stretching.{HasTakenOn, HasTakenRows, HasTakenHeld, is_stored_near}
use Rattle.tacho_reading.proofs.LineWithinLemmas.{agreed_of}
use Rattle.tacho_reading.proofs.NearRowLemmas.{permuted_gives, held_kept, read_line}
use Rattle.tacho_reading.proofs.ReportLemmas.{after_gives}
use Rattle.tacho_reading.proofs.TakenLemmas.{HasGivenNext, IsSteady, given_none, given_more, steady_self, steady_then, told_split}

-- ---- the loop

-- no spans were taken
taken_on_none : (pass : Passing) → HasTakenOn pass pass []
taken_on_none pass = record { fed = λ base before is. subst (HasPassed pass base) (sym (append-nil before)) is }

-- spans were taken, and then others
taken_on_then : (was mid pass : Passing) (xs ys : List Span) → HasTakenOn was mid xs → HasTakenOn mid pass ys
    → HasTakenOn was pass (xs ++ ys)
taken_on_then was mid pass xs ys h k = record {
  fed = λ base before is. subst (HasPassed pass base) (append_assoc before xs ys) (k.fed base (before ++ xs) (h.fed base before is));
}

-- the rows so far were taken, and those near the range were kept
pub record IsTaking {S : Type 0} (g : Ghosts S) (old now : Held S) (start past : ℕ) (was pass : Passing)
    (before near : List StoredSpan) : Type 0 where
  pub spans : List StoredSpan
  pub taken : HasTakenOn was pass (map stored_span spans)
  pub kept : near ≡ before ++ filter (is_stored_near start past) spans
  pub given : HasCleanDisk (state g now) → IsSteady (state g old) (state g now) × HasGivenNext g old now spans

pub taking_none : {S : Type 0} (g : Ghosts S) (old : Held S) (start past : ℕ) (pass : Passing) (before : List StoredSpan)
    → IsTaking g old old start past pass pass before before
taking_none g old start past pass before = record {
  spans = [];
  taken = taken_on_none pass;
  kept = sym (append-nil before);
  given = λ clean. (steady_self (state g old), given_none g old);
}

module _ {S : Type 0} (g : Ghosts S) (old mid new : Held S) (start past : ℕ) (was pass : Passing) (before near : List StoredSpan)
    (h : IsTaking g old mid start past was pass before near)
    (early : HasCleanDisk (state g new) → HasCleanDisk (state g mid))
    (same : HasCleanDisk (state g new) → IsUnchanged (state g mid) (state g new)) where
  -- the connection is still steady
  pub taking_steady : HasCleanDisk (state g new) → IsSteady (state g old) (state g new)
  taking_steady clean = steady_then (state g old) (state g mid) (state g new) (h.given (early clean)).0 (same clean)

  -- one more row is taken
  pub taking_more : (row : StoredSpan) (next : Passing) (after : List StoredSpan)
      → (HasCleanDisk (state g new) → GivesNext g mid new (Some row)) → HasTakenOn pass next (stored_span row ∷ [])
      → after ≡ near ++ filter (is_stored_near start past) (row ∷ []) → IsTaking g old new start past was next before after
  taking_more row next after gives took keeps = record {
    spans = h.spans ++ row ∷ [];
    taken = subst (HasTakenOn was next) (sym (map-append stored_span h.spans (row ∷ [])))
        (taken_on_then was pass next (map stored_span h.spans) (stored_span row ∷ []) h.taken took);
    kept =
        keeps ∙ ap (λ (xs : List StoredSpan). xs ++ filter (is_stored_near start past) (row ∷ [])) h.kept
        ∙ append_assoc before (filter (is_stored_near start past) h.spans) (filter (is_stored_near start past) (row ∷ []))
        ∙ ap (λ (xs : List StoredSpan). before ++ xs) (sym (filter-append (is_stored_near start past) h.spans (row ∷ [])));
    given = λ clean. (taking_steady clean, given_more g old mid new h.spans row (h.given (early clean)).1 (gives clean));
  }

  -- the query has no further row
  pub taking_ended : GivesNext g mid new None → HasCleanDisk (state g new) → HasTakenRows g old new start past was pass before near
  taking_ended moves clean = record {
    spans = h.spans;
    taken = h.taken;
    kept = h.kept;
    ended = λ sql params given it.
        let rows = (h.given (early clean)).1 sql params given it in
        (rows.0, rows.1, mid, (h.given (early clean)).0.now_is, moves sql params (given ++ rows.0) rows.2);
  }

-- ---- a driver's rows

module _ {S : Type 0} (g : Ghosts S) (driver first start past : ℕ) (all : List SpanRow) (old new : Held S) (was : Passing)
    (before : List StoredSpan)
    (archive : IsArchive (state g old).now) (stands : AreRowsOf span_columns ((state g old).now.trees 10) all)
    (given : HasGiven g onward_text (Int (pos driver) ∷ Int (pos first) ∷ []) old []) where
  -- a pass that took the query's rows took the driver's rows
  took_held : (pass : Passing) (near : List StoredSpan) → HasTakenRows g old new start past was pass before near
      → HasTakenHeld driver first start past all was pass before near
  took_held pass near t =
      let it = t.ended onward_text (Int (pos driver) ∷ Int (pos first) ∷ []) [] given in
      let whole = shown_onward driver first all (state g it.2) (state g new) it.0
      (subst IsArchive (sym it.3) archive) it.4
      (subst (λ (d : Database). AreRowsOf span_columns (d.trees 10) all) (sym it.3) stands) in
      let split = told_split it.0 [] t.spans whole.0 it.1 (append-nil it.0 ∙ whole.1) in
      let same : split.0 ≡ whole.0 = none_left split.0 split.1 whole.0 split.2 split.4 in
      let read : t.spans ≡ map span_of whole.0 = split.3 ∙ ap (map span_of) same in
      record {
        onward = whole.0;
        are_onward = whole.2;
        taken = subst (HasTakenOn was pass) (ap (map stored_span) read ∙ map-map stored_span span_of whole.0) t.taken;
        kept = t.kept ∙ ap (λ (xs : List StoredSpan). before ++ filter (is_stored_near start past) xs) read;
      } where
        none_left : (taken others shown : List SpanRow) → shown ≡ taken ++ others → [] ≡ map span_shown others → taken ≡ shown
        none_left taken [] shown e none = sym (e ∙ append-nil taken)
        none_left taken (x ∷ others) shown e none = absurd (let wrong = none in cc)

  -- likewise if the call succeeded
  pub took_all : {U : Type 0} (r : Result U StoreFault) (pass : Passing) (near : List StoredSpan)
      → OnOk r (HasTakenRows g old new start past was pass before near)
      → OnOk r (HasTakenHeld driver first start past all was pass before near)
  took_all (Ok u) pass near t = took_held pass near t
  took_all (Err e) pass near t = tt

-- ---- the stretches of what a driver holds

-- a line that gives a minute a mark has a mark there
given_some : (line : List Span) (m : ℕ) (k : Mark) → Gives line m k → (j : Mark) × (mark_at line m ≡ Some j)
given_some [] m k g = absurd g
given_some (s ∷ line) m k g = go (covers s m) refl g (given_some line m k) where
  go : (b : Bool) → covers s m ≡ b → Gives (s ∷ line) m k → (Gives line m k → (j : Mark) × (mark_at line m ≡ Some j))
      → (j : Mark) × (cond b (Some s.mark) (mark_at line m) ≡ Some j)
  go true e g more = (s.mark, refl)
  go false e (inl c) more =
      let a = s.start in let b = s.past in let above : a ≤ m = c.0.0 in let below : m < b = c.0.1 in
      absurd (let wrong : covers s m ≡ true = grind (arith, nat_tests) in let no = sym e ∙ wrong in cc)
  go false e (inr g) more = more g

-- if a line gives each minute exactly what another holds, both have the same marks
marks_are : (line other : List Span) (m : ℕ) → ((k : Mark) → Gives line m k ↔ (mark_at other m ≡ Some k)) → mark_at line m ≡ mark_at other m
marks_are line other m same = go (mark_at line m) refl (mark_at other m) refl where
  go : (a : Option Mark) → mark_at line m ≡ a → (b : Option Mark) → mark_at other m ≡ b → mark_at line m ≡ mark_at other m
  go (Some k) e b f = e ∙ sym ((same k).0 (held_given line m k e))
  go None e None f = e ∙ sym f
  go None e (Some k) f = absurd (let some = given_some line m k ((same k).1 f) in let wrong = sym e ∙ some.1 in cc)

-- what a pass found from the driver's rows are the stretches of what the driver holds
pub stretches_told : (db : Trees) (n start past : ℕ) (s : State) (b : Beginning) (was pass : Passing) (before near : List StoredSpan)
    (found : List Judged) → Represents db s → IsBegun db n start s b → HasPassed was b.base []
    → ((t : Tables) → HasTables db t → HasTakenHeld n b.start start past t.held was pass before near)
    → ((base : ℕ) (spans : List Span) → HasPassed pass base spans → AreStretches spans base found)
    → AreStretchesOf n s found
unfolding Represents
stretches_told db n start past s b was pass before near found (t, stand, of) begun none takes finds =
    let d = begun.driver in
    let f = takes t stand in
    let keeps = held_kept t s n d of begun.is in
    let from = min b.base start in
    let rows : IsPermutation (map row_span (filter (is_after n from) t.held)) (map row_span f.onward) =
    IsPermutation-map row_span (filter (is_after n from) t.held) f.onward
    (subst (λ (xs : List SpanRow). IsPermutation xs f.onward) (begun.rows t stand of) f.are_onward.same) in
    let gives : (m : ℕ) (k : Mark) → from ≤ m → Gives (map row_span f.onward) m k ↔ (mark_at (held_spans d) m ≡ Some k) =
    λ m k le. (
      λ g. (held_map d (spans_of n t.held) m k keeps).0 ((keeps.same m k).0 ((after_gives n from m k t.held le).0
          (permuted_gives _ _ m k (IsPermutation-sym _ _ rows) g))),
      λ e. permuted_gives _ _ m k rows ((after_gives n from m k t.held le).1
          ((keeps.same m k).1 ((held_map d (spans_of n t.held) m k keeps).1 e))),
    ) in
    let is : AreStretches (held_spans d) b.base found =
    by_marks (map row_span f.onward) (held_spans d) b.base found (finds b.base (map row_span f.onward) (f.taken.fed b.base [] none))
    (λ m le. marks_are (map row_span f.onward) (held_spans d) m (λ k. gives m k (omega (arith, le)))) in
    subst (λ (o : Option Driver). IfSome o (λ d. AreStretches (held_spans d) (1440 * d.base) found)) (sym begun.is)
    (subst (λ (base : ℕ). AreStretches (held_spans d) base found) begun.base is)

-- ---- what a driver holds in a range

-- if the range doesn't begin before `first`, the rows in it that end after `first` are all rows in it
near_after : (n first start past : ℕ) (rows : List SpanRow) → first ≤ start
    → filter (λ (r : SpanRow). is_stored_near start past (span_of r)) (filter (is_after n first) rows)
    ≡ filter (is_row_near n start past) rows
near_after n first start past [] le = refl
near_after n first start past (r ∷ rows) le = go (r.driver == n) (nat_lt first r.past) early (near_after n first start past rows le) where
  all : List SpanRow
  all = filter (is_after n first) rows

  near : List SpanRow
  near = filter (is_row_near n start past) rows

  kept : List SpanRow → List SpanRow
  kept xs = filter (λ (x : SpanRow). is_stored_near start past (span_of x)) xs

  out : (b c : Bool) → c ≡ false → (b && c) ≡ false
  out true c e = e
  out false c e = refl

  early : nat_lt first r.past ≡ false → is_stored_near start past (span_of r) ≡ false
  early e =
      let a = r.past in
      let l : nat_lt start a ≡ false = grind (arith, nat_tests) in out (nat_lt r.start past) (nat_lt start r.past) l

  go : (o l : Bool) → (l ≡ false → is_stored_near start past (span_of r) ≡ false) → kept all ≡ near
      → kept (cond (o && l) (r ∷ all) all) ≡ cond (o && is_stored_near start past (span_of r)) (r ∷ near) near
  go true true none more = ap (λ (xs : List SpanRow). cond (is_stored_near start past (span_of r)) (r ∷ xs) xs) more
  go true false none more = more ∙ ap (λ (b : Bool). cond b (r ∷ near) near) (sym (none refl))
  go false l none more = more

-- so the rows that were kept are the driver's rows near the range
near_read : (n first start past : ℕ) (rows onward : List SpanRow) → first ≤ start
    → IsPermutation (filter (is_after n first) rows) onward
    → IsReadNear rows n start past (filter (is_stored_near start past) (map span_of onward))
near_read n first start past rows onward le same =
    let near : SpanRow → Bool = λ r. is_stored_near start past (span_of r) in
    let kept : IsPermutation (filter (is_row_near n start past) rows) (filter near onward) =
    subst (λ (xs : List SpanRow). IsPermutation xs (filter near onward)) (near_after n first start past rows le)
    (IsPermutation-filter near (filter (is_after n first) rows) onward same) in
    subst (IsPermutation (map span_of (filter (is_row_near n start past) rows))) (sym (filter-map (is_stored_near start past) span_of onward))
    (IsPermutation-map span_of (filter (is_row_near n start past) rows) (filter near onward) kept)

-- their line is what the driver holds in the range
pub line_told : (db : Trees) (n start past : ℕ) (s : State) (b : Beginning) (was pass : Passing) (before near : List StoredSpan)
    (line : List Span) → Represents db s → IsBegun db n start s b → before ≡ []
    → ((t : Tables) → HasTables db t → HasTakenHeld n b.start start past t.held was pass before near)
    → IsCanonicalOf (Gives (map stored_span near)) line → IsHeldWithin n start past s line
unfolding Represents
line_told db n start past s b was pass before near line (t, stand, of) begun none takes canonical =
    let d = begun.driver in
    let f = takes t stand in
    let from = min b.base start in
    let read : IsReadNear t.held n start past near =
    subst (IsReadNear t.held n start past)
    (sym (f.kept ∙ ap (λ (xs : List StoredSpan). xs ++ filter (is_stored_near start past) (map span_of f.onward)) none))
    (near_read n from start past t.held f.onward (omega arith)
    (subst (λ (xs : List SpanRow). IsPermutation xs f.onward) (begun.rows t stand of) f.are_onward.same)) in
    subst (λ (o : Option Driver). IfSome o (λ d. AgreeWithin start past line (held_spans d))) (sym begun.is)
    (agreed_of t s n d start past line of begun.is (read_line t.held n start past near line read canonical))
