-- What a scan takes of rows that come one at a time.
use Rattle.std.proofs.Common.{◌≡◌, ◌∙◌, ℕ, ◌<◌, ◌≤◌, Bool, true, false, cond, List, [], ◌∷◌, ◌++◌, map, None, Some, pos, Result, Ok, Err, IfOk, OnOk, IsTrue, inl, inr, refl, sym, ap, subst, arith, append-nil, append_assoc}
use Rattle.std.specs.Prelude.{nat_le, nat_lt}
use Rattle.std.specs.Borrow.{MutBor}
use Rattle.std.specs.List.{All}
use Rattle.std.proofs.lemmas.Bool.{le-leb}
use Rattle.std.proofs.lemmas.Bool.Decides.{nat_tests}
use Rattle.std.proofs.lemmas.List.{map-append}
use Rattle.std.proofs.lemmas.List.Elements.{All-append, All-cons, All-nil}
use Rattle.sqlite.specs.Given.{HasGiven}
use Rattle.sqlite.specs.Held.{Held, state}
use Rattle.sqlite.specs.Order.{Row, column}
use Rattle.sqlite.specs.declared.types.Value.{Value}
use Rattle.sqlite.specs.declared.types.Value.TheVariants.{Int}
use Rattle.sqlite.specs.Effect.{Database}
use Rattle.sqlite_trees.proofs.ListLemmas.{map-map}
use Rattle.tacho_state.specs.declared.fault.StoreFault.{StoreFault}
use Rattle.tacho_state.specs.declared.fault.StoreFault.TheVariants.{Memory, Store}
use Rattle.tacho_line.specs.declared.horizon.Horizon.{Horizon}
use Rattle.tacho_tables.specs.Rows.{AreRowsOf, SpanRow, span_columns}
use Rattle.tacho_tables.specs.Tables.{IsArchive, span_of, span_shown}
use Rattle.tacho_tables.proofs.NextLemmas.{shown_onward, given_onward}
use Rattle.sqlite.specs.State.{State, HasCleanDisk, IsUnchanged, Survives}
use Rattle.sqlite.proofs.StateLemmas.{survives_then}
use Rattle.sqlite.specs.Store.{Ghosts}
use Rattle.tacho_time.specs.declared.span.Span.{Span}
use Rattle.tacho_line.specs.declared.horizon.Cause.{Cause}
use Rattle.tacho_line.specs.declared.horizon.Cause.TheVariants.{Unknown}
use Rattle.tacho_law.specs.Line.{Joined}
use Rattle.tacho_law.proofs.RunsLemmas.{joined_le}
use Rattle.tacho_pass.specs.declared.found.Found.{Found}
use Rattle.tacho_pass.specs.Found.{Appends}
use Rattle.tacho_pass.specs.Kinds.{is_any}
use Rattle.tacho_pass.proofs.AppendingLemmas.{appends_none, appends_then}
use Rattle.tacho_rules.specs.declared.scan.Scan.{Scan}
use Rattle.tacho_rules.specs.Scan.{IsAt, IsScanOf}
use Rattle.tacho_tables.specs.declared.rows.StoredSpan.{StoredSpan}
use Rattle.tacho_tables.specs.declared.fault.TableFault.{TableFault}
use Rattle.tacho_tables.specs.declared.fault.TableFault.TheVariants as table
use Rattle.tacho_tables.specs.Next.{Tells, GivesNext, IsKept, AreOnward, IsAsked, BeginsOnward, onward_text}
use Rattle.tacho_reading.specs.Standing.{row_span, stored_span}
use Rattle.tacho_reading.specs.Faults.{fault_of_tables}
use Rattle.tacho_reading.specs.Taken.{HasTakenSome, IsRefusalOf, IsLeftAt}
use Rattle.tacho_reading.specs.Taken.{cut, cuts, HasTaken, IsHorizonCause, AreTold, HasFed, StopsBefore, AreFed, ReadsRows, ReadsSettled}

-- ---- spans

-- cutting two joined lists is cutting each
cuts_append : (base : ℕ) (xs ys : List Span) → cuts base (xs ++ ys) ≡ cuts base xs ++ cuts base ys
cuts_append base [] ys = refl
cuts_append base (s ∷ xs) ys = go (nat_le s.past base) (cuts_append base xs ys) where
  go : (b : Bool) → cuts base (xs ++ ys) ≡ cuts base xs ++ cuts base ys
      → cond b (cuts base (xs ++ ys)) (cut base s ∷ cuts base (xs ++ ys)) ≡ cond b (cuts base xs)
      (cut base s ∷ cuts base xs) ++ cuts base ys
  go true e = e
  go false e = ap (λ (x : List Span). cut base s ∷ x) e

-- joined lists follow one another if each does and the second begins where the first ends
joined_append : (xs ys : List Span) (from mid past : ℕ) → Joined xs from mid → Joined ys mid past
    → Joined (xs ++ ys) from past
joined_append [] ys from mid past h k = subst (λ (m : ℕ). Joined ys m past) (sym h) k
joined_append (s ∷ xs) ys from mid past h k = (h.0, h.1, joined_append xs ys s.past mid past h.2 k)

-- no spans were taken
pub taken_none : (base : ℕ) (scan : Scan) (found : Found) → IsAt scan base → base ≤ 68374080
    → HasTaken base base base [] scan found scan found
taken_none base scan found at early = record {
  whole = record { joined = refl; single = All-nil (λ (s : Span). s.mark.crew ≡ false); within = early };
  at = at;
  grown = appends_none is_any true found;
  fed = λ before is. subst (IsScanOf scan found base) (sym (append-nil before)) is;
}

-- a span that ends by the base leaves the scan as it was
pub taken_after : (base minute : ℕ) (s : Span) (scan : Scan) (found : Found) → IsAt scan minute → minute ≤ 68374080
    → s.past ≤ base → HasTaken base minute minute (s ∷ []) scan found scan found
taken_after base minute s scan found at early behind =
    let none : cuts base (s ∷ []) ≡ [] = rw (le-leb s.past base behind) refl in
    record {
      whole = record {
        joined = rw none refl;
        single = rw none (All-nil (λ (s : Span). s.mark.crew ≡ false));
        within = early;
      };
      at = at;
      grown = appends_none is_any true found;
      fed = λ before is. rw none (subst (IsScanOf scan found base) (sym (append-nil before)) is);
    }

-- the cut of a span that ends after the base
cuts_one : (base : ℕ) (s : Span) → base < s.past → cuts base (s ∷ []) ≡ cut base s ∷ []
cuts_one base s behind =
    let not : nat_le s.past base ≡ false = grind (arith, nat_tests) in
    rw not refl

-- a span that ends after the base and, cut at it, begins at the scan's minute is taken
pub taken_one : (base minute : ℕ) (s part : Span) (old : Scan) (was : Found) (new : Scan) (found : Found)
    → part ≡ cut base s → s.start < s.past → base < s.past → s.past ≤ 68374080 → part.start ≡ minute
    → part.mark.crew ≡ false → IsAt new part.past → Appends is_any true was found
    → ((b : ℕ) (before : List Span) → IsScanOf old was b before → IsScanOf new found b (before ++ part ∷ []))
    → HasTaken base minute part.past (s ∷ []) old was new found
taken_one base minute s part old was new found is some behind within from single at grown fed =
    let left : cuts base (s ∷ []) ≡ part ∷ [] =
    cuts_one base s behind ∙ ap (λ (x : Span). x ∷ []) (sym is) in
    let past : part.past ≡ s.past = ap (λ (x : Span). x.past) is in
    let start : part.start ≡ cond (nat_lt s.start base) base s.start = ap (λ (x : Span). x.start) is in
    let later : minute < part.past = grind (arith, nat_tests) in
    record {
      whole = record {
        joined = rw left (from, later, refl);
        single = rw left (All-cons (λ (x : Span). x.mark.crew ≡ false) part []
            single (All-nil (λ (x : Span). x.mark.crew ≡ false)));
        within = omega arith;
      };
      at = at;
      grown = grown;
      fed = λ before r. rw left (fed base before r);
    }

-- spans are taken, and then others
taken_then : (base from mid past : ℕ) (xs ys : List Span) (one : Scan) (a : Found) (two : Scan) (b : Found)
    (three : Scan) (c : Found)
    → HasTaken base from mid xs one a two b → HasTaken base mid past ys two b three c
    → HasTaken base from past (xs ++ ys) one a three c
taken_then base from mid past xs ys one a two b three c h k =
    let cuts_are = sym (cuts_append base xs ys) in
    record {
      whole = record {
        joined = subst (λ (zs : List Span). Joined zs from past) cuts_are
            (joined_append (cuts base xs) (cuts base ys) from mid past h.whole.joined k.whole.joined);
        single = subst (All (λ (s : Span). s.mark.crew ≡ false)) cuts_are
            (All-append (λ (s : Span). s.mark.crew ≡ false) (cuts base xs)
            (cuts base ys) h.whole.single k.whole.single);
        within = k.whole.within;
      };
      at = k.at;
      grown = appends_then is_any true a b c h.grown k.grown;
      fed = λ before is. subst (λ (zs : List Span). IsScanOf three c base zs)
          (append_assoc before (cuts base xs) (cuts base ys) ∙ ap (λ (zs : List Span). before ++ zs) cuts_are)
          (k.fed (before ++ cuts base xs) (h.fed before is));
    }

-- ---- rows

-- one more row that shows a span
told_more : (rows : List Row) (spans : List StoredSpan) (row : Row) (s : StoredSpan) → AreTold rows spans → Tells row s
    → AreTold (rows ++ row ∷ []) (spans ++ s ∷ [])
told_more [] [] row s h t = (t, tt)
told_more [] (x ∷ spans) row s h t = absurd h
told_more (r ∷ rows) [] row s h t = absurd h
told_more (r ∷ rows) (x ∷ spans) row s h t = (h.0, told_more rows spans row s h.1 t)

-- a query that had given some rows has now given these as well
abbrev pub HasGivenNext : {S : Type 0} → Ghosts S → Held S → Held S → List StoredSpan → Type 0
HasGivenNext g old new spans = (sql : List ℕ) (params : Row) (given : List Row) → HasGiven g sql params old given
    → (rows : List Row) × AreTold rows spans × HasGiven g sql params new (given ++ rows)

module _ {S : Type 0} (g : Ghosts S) (old : Held S) where
  -- no further row is given
  pub given_none : HasGivenNext g old old []
  given_none sql params given it = ([], tt, subst (HasGiven g sql params old) (sym (append-nil given)) it)

  -- one more row is given
  pub given_more : (mid new : Held S) (spans : List StoredSpan) (s : StoredSpan) → HasGivenNext g old mid spans
      → GivesNext g mid new (Some s)
      → HasGivenNext g old new (spans ++ s ∷ [])
  given_more mid new spans s h (row, tells, moves) sql params given it =
      let before = h sql params given it in (
        before.0 ++ row ∷ [],
        told_more before.0 spans row s before.1 tells,
        subst (HasGiven g sql params new) (append_assoc given before.0 (row ∷ []))
            (moves sql params (given ++ before.0) before.2),
      )

-- ---- the connection

-- if nothing happens, a crash may leave only what it could leave before
pub survives_self : (s : State) → Survives s s (λ _. ⊥)
survives_self s = record {
  clean = omega arith;
  shield = λ x. x;
  counts = omega arith;
  limit = refl;
  closes = λ _ o. inl
      o;
  crash = λ _ db h. inl h;
}

-- if the connection is open now, it was open before; it sees the same data
pub record IsSteady (old new : State) : Type 0 where
  pub was_open : IsTrue new.is_open → IsTrue old.is_open
  pub now_is : new.now ≡ old.now
  pub committed_is : new.committed ≡ old.committed

pub steady_self : (s : State) → IsSteady s s
steady_self s = record { was_open = λ o. o; now_is = refl; committed_is = refl }

pub steady_then : (old mid new : State) → IsSteady old mid → IsUnchanged mid new → IsSteady old new
steady_then old mid new h k = record {
  was_open = λ o. h.was_open k.0.was_open;
  now_is = k.0.now_is ∙ h.now_is;
  committed_is = k.0.committed_is ∙ h.committed_is;
}

-- such a connection is kept, also after one more step
pub kept_then : (old mid new : State) → IsSteady old mid → IsKept mid new → IsKept old new
kept_then old mid new h k = record {
  was_open = λ o. h.was_open (k.was_open o);
  same = λ o settled. k.same o (h.now_is ∙ settled ∙ sym h.committed_is) ∙ h.now_is;
}

-- ---- a connection outside a transaction

module _ {S A : Type 0} (g : Ghosts S) (old : Held S) (mode : old.in_transaction ≡ false)
    (settled : IsTrue (state g old).is_open → (state g old).now ≡ (state g old).committed) where
  -- the query did not begin
  pub settled_where_refused : (new : Held S) (fault : StoreFault) → IsAsked g old new
      → ReadsSettled {A = A} g (Err fault) old new
  settled_where_refused new fault asked = record {
    autocommit = asked.mode mode;
    live = λ _. tt;
    clean = λ clean. let k = asked.survives.clean in omega (arith, k, clean);
    was_open = λ clean. (asked.kept clean).was_open;
    same = λ clean o. (asked.kept clean).same o (settled ((asked.kept clean).was_open o));
    survives = asked.survives;
  }

  -- the rows of the query were read
  pub settled_where_read : (driver start : ℕ) (mid new : MutBor (Held S)) (r : Result A StoreFault)
      → BeginsOnward g old mid.now driver start → ReadsRows g r mid new → ReadsSettled g r old new.now
  settled_where_read driver start mid new r begun reads =
      let early : HasCleanDisk (state g new.now) → HasCleanDisk (state g mid.now) =
      (λ clean. let k = reads.survives.clean in omega (arith, k, clean)) in
      let kept : HasCleanDisk (state g new.now) → IsKept (state g old) (state g new.now) =
      (λ clean. kept_then (state g old) (state g mid.now) (state g new.now)
      (steady_then (state g old) (state g old) (state g mid.now) (steady_self (state g old)) (begun.same (early clean)))
      (reads.kept clean)) in
      record {
        autocommit = reads.mode (begun.asked.mode mode);
        live = reads.live;
        clean = λ clean. let k = begun.asked.survives.clean in let e = early clean in omega (arith, k, e);
        was_open = λ clean. (kept clean).was_open;
        same = λ clean o. (kept clean).same o (settled ((kept clean).was_open o));
        survives = survives_then (state g old) (state g mid.now) (state g new.now) (λ _. ⊥) (λ _. ⊥) (λ _. ⊥)
            (λ _ db none. none) (λ _ db none. none) begun.asked.survives reads.survives;
      }

-- ---- the loop

-- the rows so far were taken, up to `minute`
pub record IsFeeding {S : Type 0} (g : Ghosts S) (old now : Held S) (base minute : ℕ) (scan : Scan) (was : Found)
    (fed : Scan) (found : Found) : Type 0 where
  pub spans : List StoredSpan
  pub taken : HasTaken base base minute (map stored_span spans) scan was fed found
  pub from : base ≤ minute
  pub given : HasCleanDisk (state g now) → IsSteady (state g old) (state g now) × HasGivenNext g old now spans

-- no rows yet
pub feeding_none : {S : Type 0} (g : Ghosts S) (old : Held S) (base : ℕ) (scan : Scan) (found : Found) → IsAt scan base
    → base ≤ 68374080
    → IsFeeding g old old base base scan found scan found
feeding_none g old base scan found at early = record {
  spans = [];
  taken = taken_none base scan found at early;
  from = omega arith;
  given = λ clean. (steady_self (state g old), given_none g old);
}

module _ {S : Type 0} (g : Ghosts S) (old mid new : Held S) (base minute : ℕ) (scan : Scan) (was : Found) (fed : Scan)
    (found : Found)
    (h : IsFeeding g old mid base minute scan was fed found) (early : HasCleanDisk (state g new)
    → HasCleanDisk (state g mid))
    (same : HasCleanDisk (state g new) → IsUnchanged (state g mid) (state g new)) where
  -- the connection is still steady
  pub feeding_steady : HasCleanDisk (state g new) → IsSteady (state g old) (state g new)
  feeding_steady clean = steady_then (state g old) (state g mid) (state g new) (h.given (early clean)).0 (same clean)

  -- one more row is taken
  pub feeding_more : (row : StoredSpan) (past : ℕ) (then : Scan) (has : Found)
      → (HasCleanDisk (state g new) → GivesNext g mid new (Some row))
      → HasTaken base minute past (stored_span row ∷ []) fed found then has
      → IsFeeding g old new base past scan was then has
  feeding_more row past then has gives took = record {
    spans = h.spans ++ row ∷ [];
    taken = subst (λ (xs : List Span). HasTaken base base past xs scan was then has)
        (sym (map-append stored_span h.spans (row ∷ [])))
        (taken_then base base minute past (map stored_span h.spans)
        (stored_span row ∷ []) scan was fed found then has h.taken took);
    from = (let a : minute ≤ past = joined_le (cuts base (stored_span row ∷ [])) minute past took.whole.joined in let b
        = h.from in omega (arith, a, b));
    given = λ clean. (
      feeding_steady clean,
      given_more g old mid new h.spans row (h.given (early clean)).1
          (gives clean),
    );
  }

  -- the query has no further row
  pub feeding_ended : GivesNext g mid new None → HasCleanDisk (state g new)
      → HasFed g old new base scan was fed found (record { minute = minute; cause = Unknown })
  feeding_ended moves clean = record {
    spans = h.spans;
    taken = h.taken;
    stopped = λ sql params given it.
        let before = (h.given (early clean)).1 sql params given it in (
          before.0,
          before.1,
          inl (
            refl,
            mid,
            (h.given (early clean)).0.now_is,
            moves sql params
                (given ++ before.0) before.2,
          ),
        );
  }

  -- a row stops the scan
  pub feeding_stopped : (row : StoredSpan) (cause : Cause) → GivesNext g mid new (Some row)
      → IsHorizonCause minute cause (stored_span row) → HasCleanDisk (state g new)
      → HasFed g old new base scan was fed found (record { minute = minute; cause = cause })
  feeding_stopped row cause (next, tells, moves) stops clean = record {
    spans = h.spans;
    taken = h.taken;
    stopped = λ sql params given it.
        let before = (h.given (early clean)).1 sql params given it in (
          before.0,
          before.1,
          inr (next, row, tells, stops, moves sql params (given ++ before.0) before.2),
        );
  }

-- what a fault leaves of the scan, when a row is refused or the store fails
module _ {S : Type 0} (g : Ghosts S) (old now : Held S) (base minute : ℕ) (scan : Scan) (was : Found) (fed : Scan)
    (found : Found) (h : IsFeeding g old now base minute scan was fed found) where
  taken_some : HasTakenSome base scan was fed found
  taken_some = (minute, map stored_span h.spans, h.taken)

  pub left_where_refused : (row : StoredSpan) (then : Scan) (has : Found) (fault : StoreFault)
      → IsRefusalOf base minute row fed found then has fault → IsLeftAt base scan was then has fault
  left_where_refused row then has Memory r = inl (r.0, appends_then is_any true was found has h.taken.grown r.1)
  left_where_refused row then has Store r = rw (r.1, r.2) taken_some
  left_where_refused row then has fault r = absurd r

  pub left_where_failed : (fault : TableFault) → IsLeftAt base scan was fed found (fault_of_tables fault)
  left_where_failed table.Memory = inr taken_some
  left_where_failed table.Store = taken_some

-- ---- a driver's rows

-- equal lists have equal heads
head_is : {A : Type 0} {x y : A} {xs ys : List A} → x ∷ xs ≡ y ∷ ys → x ≡ y
head_is e = cc

-- and equal tails
tail_is : {A : Type 0} {x y : A} {xs ys : List A} → x ∷ xs ≡ y ∷ ys → xs ≡ ys
tail_is e = cc

-- a row that shows a span shows the span of this driver's row
pub told_row : (r : Row) (s : StoredSpan) (x : SpanRow) → Tells r s → r ≡ span_shown x → s ≡ span_of x
told_row r s x t e =
    let start = same_number s.start x.start (sym t.start ∙ ap (λ (z : Row). column z 0) e) in
    let past = same_number s.past x.past (sym t.past ∙ ap (λ (z : Row). column z 1) e) in
    let mark = same_number s.mark x.mark (sym t.mark ∙ ap (λ (z : Row). column z 2) e) in
    ap (λ (n : ℕ). record { start = n; past = s.past; mark = s.mark }) start
    ∙ ap (λ (n : ℕ). record { start = x.start; past = n; mark = s.mark }) past
    ∙ ap (λ (n : ℕ). record { start = x.start; past = x.past; mark = n }) mark where
      same_number : (a b : ℕ) → ◌≡◌ {A = Value} (Int (pos a)) (Int (pos b)) → a ≡ b
      same_number a b e = cc

-- rows that show spans, followed by others, are those of driver's rows, followed by others
pub told_split : (rows tail : List Row) (spans : List StoredSpan) (shown : List SpanRow) → AreTold rows spans
    → rows ++ tail ≡ map span_shown shown
    → (taken : List SpanRow) × (others : List SpanRow) × (shown ≡ taken ++ others) × (spans ≡ map span_of taken) ×
    (tail ≡ map span_shown others)
told_split [] tail [] shown t e = ([], shown, refl, refl, e)
told_split [] tail (s ∷ spans) shown t e = absurd t
told_split (r ∷ rows) tail [] shown t e = absurd t
told_split (r ∷ rows) tail (s ∷ spans) [] t e = absurd (let wrong = e in cc)
told_split (r ∷ rows) tail (s ∷ spans) (x ∷ shown) t e =
    let more = told_split rows tail spans shown t.1 (tail_is e) in (
      x ∷ more.0,
      more.1,
      ap (λ (xs : List SpanRow). x ∷ xs) more.2,
      ap (λ (z : StoredSpan). z ∷ spans) (told_row r s x t.0 (head_is e))
          ∙ ap (λ (zs : List StoredSpan). span_of x ∷ zs) more.3,
      more.4,
    )

module _ {S : Type 0} (g : Ghosts S) (driver start base : ℕ) (all : List SpanRow) (old new : Held S) (scan : Scan)
    (was : Found) (fed : Scan) (found : Found)
    (archive : IsArchive (state g old).now) (same : IsTrue (state g new).is_open
    → (state g new).now ≡ (state g old).now) (stands : AreRowsOf span_columns ((state g old).now.trees 10) all)
    (given : HasGiven g onward_text (Int (pos driver) ∷ Int (pos start) ∷ []) old []) where
  -- from what the rows show
  fed_of : (h : Horizon) (f : HasFed g old new base scan was fed found h) (rows tail : List Row) (shown : List SpanRow)
      → AreTold rows f.spans
      → rows ++ tail ≡ map span_shown shown → AreOnward driver start all shown
      → ((others : List SpanRow) → tail ≡ map span_shown others → StopsBefore h (map row_span others))
      → AreFed driver start base all scan was fed found h
  fed_of h f rows tail shown told e onward stops =
      let split = told_split rows tail f.spans shown told e in
      record {
        taken = split.0;
        others = split.1;
        onward = subst (AreOnward driver start all) split.2 onward;
        took = subst (λ (xs : List Span). HasTaken base base h.minute xs scan was fed found)
            (ap (map stored_span) split.3 ∙ map-map stored_span span_of split.0) f.taken;
        stops = stops split.1 split.4;
      }

  -- no row comes after the last one
  ends_all : (h : Horizon) → h.cause ≡ Unknown → (others : List SpanRow) → [] ≡ map span_shown others
      → StopsBefore h (map row_span others)
  ends_all h cause [] e = cause
  ends_all h cause (x ∷ others) e = absurd (let wrong = e in cc)

  -- after the rows that were taken comes the row that stops the scan
  stops_there : (h : Horizon) (row : Row) (tail : List Row) (next : StoredSpan) → Tells row next
      → IsHorizonCause h.minute h.cause (stored_span next)
      → (others : List SpanRow) → row ∷ tail ≡ map span_shown others → StopsBefore h (map row_span others)
  stops_there h row tail next tells stops [] e = absurd (let wrong = e in cc)
  stops_there h row tail next tells stops (x ∷ others) e =
      subst (λ (s : StoredSpan). IsHorizonCause h.minute h.cause (stored_span s)) (told_row row next x tells (head_is e)) stops

  -- a scan that was fed the query's rows was fed the driver's rows
  was_fed : (h : Horizon) → IsTrue (state g new).is_open → HasFed g old new base scan was fed found h
      → AreFed driver start base all scan was fed found h
  was_fed h live f =
      let it = f.stopped onward_text (Int (pos driver) ∷ Int (pos start) ∷ []) [] given in
      elim it.2 [
        | inl ended ↦
            let whole = shown_onward driver start all (state g ended.1) (state g new) it.0
            (subst IsArchive (sym ended.2) archive) ended.3
            (subst (λ (d : Database). AreRowsOf span_columns (d.trees 10) all) (sym ended.2) stands) in
            fed_of h f it.0 [] whole.0 it.1 (append-nil it.0 ∙ whole.1) whole.2 (ends_all h ended.0)
        | inr more ↦
            let some = given_onward driver start all g new (it.0 ++ more.0 ∷ [])
            (subst IsArchive (sym (same live)) archive) live more.4
            (subst (λ (d : Database). AreRowsOf span_columns (d.trees 10) all) (sym (same live)) stands) in
            fed_of h f it.0 (more.0 ∷ some.0) some.1 it.1 (sym (append_assoc it.0 (more.0 ∷ []) some.0) ∙ some.2) some.3
            (stops_there h more.0 some.0 more.1 more.2 more.3)
      ]

  -- likewise if the call succeeded
  pub are_fed : (r : Result Horizon StoreFault) → OnOk r (IsTrue (state g new).is_open)
      → IfOk r (HasFed g old new base scan was fed found)
      → IfOk r (AreFed driver start base all scan was fed found)
  are_fed (Ok h) live f = was_fed h live f
  are_fed (Err e) live f = tt
