-- What a batch gives, what entering it answers, and what the tables represent after its writes.
use Rattle.std.proofs.Common.{◌≡◌, ◌∙◌, get_or, ℕ, zero, suc, ◌+◌, ◌-◌, ◌<◌, ◌≤◌, ◌⊎◌, inl, inr, Bool, true, false, cond, List, [], ◌∷◌, length, map, Some, None, Result, Ok, Err, refl, sym, ap, subst, arith}
use Rattle.std.specs.Prelude.{MatchResult, nat_le}
use Rattle.std.specs.List.{slice_get, slice_index_or, AllByRecursion}
use Rattle.std.proofs.lemmas.Bool.Decides.{nat_tests}
use Rattle.std.proofs.lemmas.List.{length-map}
use Rattle.std.proofs.lemmas.List.Elements.{recursion_from_All}
use Rattle.std.proofs.lemmas.Option.{slice_get_within, get_or_from_slice_get}
use Rattle.sqlite.specs.Tree.{Trees}
use Rattle.tacho_time.specs.declared.span.Span.{Span}
use Rattle.tacho_time.specs.declared.span.Mark.{Mark}
use Rattle.tacho_time.specs.Spans.{Gives, IsCanonicalOf}
use Rattle.tacho_line.specs.Line.{empty_from, first_empty, AreGains}
use Rattle.tacho_state.specs.declared.fault.StoreFault.{StoreFault}
use Rattle.tacho_state.specs.declared.fault.StoreFault.TheVariants.{Memory, Full}
use Rattle.tacho_state.specs.Batch.{Hours, IsEntryLine, AreHoursInOrder, IsBatch, entry_of, batch_of}
use Rattle.tacho_state.specs.Disjoint.{AreInRange, near}
use Rattle.tacho_state.specs.Limits.{next_number}
use Rattle.tacho_state.specs.State.{Driver, Entry, State, AreFull, driver_of, entry_span, entered_spans, put, with_batch}
use Rattle.tacho_state.specs.Steps.{Turn, turn_of, enter_own, enter_step, most_records}
use Rattle.tacho_state.proofs.StepLemmas.{contradicted_batch, entered_batch, full_batch}
use Rattle.tacho_tables.specs.declared.rows.StoredSpan.{StoredSpan}
use Rattle.tacho_tables.specs.declared.spans.SpanTable.TheVariants.{Held}
use Rattle.tacho_tables.specs.Rows.{SpanRow, EntryRow}
use Rattle.tacho_tables.specs.Tables.{Tables, HasTables, entered_row, row_of}
use Rattle.tacho_reading.specs.Standing.{Represents, Follows, TablesRepresent, spans_of, span_row, entry_row, rows_of_entries}
use Rattle.tacho_state.specs.Numbers.{activity_number}
use Rattle.tacho_reading.specs.Apart.{IsLineNear}
use Rattle.tacho_reading.specs.Finding.{IsFindingFault, IsFound}
use Rattle.tacho_reading.proofs.LookUpLemmas.{finding_as}
use Rattle.tacho_reading.proofs.NearRowLemmas.{held_kept}
use Rattle.tacho_store.specs.Entering.{AreNumbered, tables_after_batch}
use Rattle.tacho_store.specs.News.{IsContradicted}
use Rattle.tacho_store.proofs.BatchLemmas.{entered_is}
use Rattle.tacho_store.proofs.JoinLemmas.{batch_follows}
use Rattle.tacho_store.proofs.OthersLemmas.{another_or_none}

-- ---- the spans of a batch's lines

-- no span is empty
full_lines : (lines : List Hours) → AllByRecursion IsEntryLine lines → AreFull (batch_of lines)
full_lines [] h = tt
full_lines (l ∷ ls) h = (h.0.full, full_lines ls h.1)

pub batch_full : (lines : List Hours) → IsBatch lines → AreFull (batch_of lines)
batch_full lines h = full_lines lines (recursion_from_All IsEntryLine lines h.each)

none_empty_from : (place : ℕ) (lines : List Hours) → AllByRecursion IsEntryLine lines
    → empty_from place (entered_spans (batch_of lines)) ≡ None
none_empty_from place [] h = refl
none_empty_from place (l ∷ ls) h =
    let start = l.start in
    let past = l.past in
    let some = h.0.full in
    let full : nat_le past start ≡ false = grind (arith, nat_tests) in
    ap (λ b. cond b (Some place) (empty_from (place + 1) (entered_spans (batch_of ls)))) full ∙ none_empty_from (place + 1) ls h.1

pub none_empty_line : (lines : List Hours) → IsBatch lines → first_empty (entered_spans (batch_of lines)) ≡ None
none_empty_line lines h = none_empty_from 0 lines (recursion_from_All IsEntryLine lines h.each)

-- no minute is before the start of the first line
first_line : (l : Hours) (ls : List Hours) (m : ℕ) (k : Mark) → AllByRecursion IsEntryLine (l ∷ ls) → AreHoursInOrder (l ∷ ls)
    → Gives (entered_spans (batch_of (l ∷ ls))) m k → l.start ≤ m
first_line l ls m k h o (inl c) = c.0.0
first_line l [] m k h o (inr g) = absurd g
first_line l (next ∷ ls) m k h o (inr g) =
    let more = first_line next ls m k h.1 o.1 g in
    let full = h.0.full in
    let apart = o.0 in
    omega (arith, more, full, apart)

-- all minutes are before the past of the last line
last_line : (lines : List Hours) (i m : ℕ) (k : Mark) (none : Hours) → AllByRecursion IsEntryLine lines → AreHoursInOrder lines
    → length lines ≡ i + 1 → Gives (entered_spans (batch_of lines)) m k → m < (slice_index_or lines i none).past
last_line [] i m k none h o e g = absurd g
last_line (l ∷ []) zero m k none h o e (inl c) = c.0.1
last_line (l ∷ []) zero m k none h o e (inr g) = absurd g
last_line (l ∷ []) (suc i) m k none h o e g = absurd (omega (arith, e))
last_line (l ∷ next ∷ ls) zero m k none h o e g = absurd (omega (arith, e))
last_line (l ∷ next ∷ ls) (suc i) m k none h o e (inl c) =
    let start = next.start in
    let full = h.1.0.full in
    let more = last_line (next ∷ ls) i start (entry_span (entry_of next)).mark none h.1 o.1 (omega (arith, e))
    (inl ((omega arith, full), refl)) in
    let apart = o.0 in
    let before = c.0.1 in
    omega (arith, more, apart, before)
last_line (l ∷ next ∷ ls) (suc i) m k none h o e (inr g) = last_line (next ∷ ls) i m k none h.1 o.1 (omega (arith, e)) g

-- so the range from the first start to the last past contains all minutes
pub lines_in_range : (lines : List Hours) (first last : Hours) → IsBatch lines → slice_get lines 0 ≡ Some first
    → slice_get lines (length lines - 1) ≡ Some last → AreInRange first.start last.past (entered_spans (batch_of lines))
lines_in_range lines first last h from to m k g =
    let all = recursion_from_All IsEntryLine lines h.each in
    let some = slice_get_within lines 0 first from in
    let end = get_or_from_slice_get lines (length lines - 1) last last to in (
      begins lines all h.order from g,
      subst (λ (l : Hours). m < l.past) end (last_line lines (length lines - 1) m k last all h.order (omega (arith, some)) g),
    ) where
      begins : (ls : List Hours) → AllByRecursion IsEntryLine ls → AreHoursInOrder ls → slice_get ls 0 ≡ Some first
          → Gives (entered_spans (batch_of ls)) m k → first.start ≤ m
      begins [] all order from g = absurd g
      begins (l ∷ ls) all order from g =
          let same : l ≡ first = (let both = from in cc) in
          subst (λ (x : Hours). x.start ≤ m) same (first_line l ls m k all order g)

-- ---- the rows of a batch

-- the stored row of what a line gives is that of the line's entry, with its author and its note
pub line_entered : (n i : ℕ) (line : Hours) (row : StoredSpan) → row_of n row ≡ span_row n (entry_span (entry_of line))
    → entered_row n i row line.author line.note ≡ entry_row n i (entry_of line)
line_entered n i line row is =
    let as_entry : SpanRow → EntryRow = λ x. record {
      driver = x.driver;
      number = i;
      start = x.start;
      past = x.past;
      mark = x.mark;
      withdrawn = 0;
      author = line.author;
      note = line.note;
    } in
    let same : activity_number line.activity + 0 ≡ activity_number line.activity = omega arith in
    ap as_entry is ∙ ap (λ (k : ℕ). record (entry_row n i (entry_of line)) { mark = k }) same

-- an element within a list doesn't depend on the default for elements outside it
pub any_default : {X : Type 0} (xs : List X) (i : ℕ) (d e : X) → i < length xs → get_or xs i d ≡ get_or xs i e
any_default [] i d e within = absurd (omega (arith, within))
any_default (x ∷ xs) zero d e within = refl
any_default (x ∷ xs) (suc i) d e within = any_default xs i d e (omega (arith, within))

-- ---- numbers

-- if numbers are given out, there are enough, and the first is the next one
pub numbers_left : (given count first : ℕ) → next_number given count ≡ Some first → (given + count ≤ most_records) × (first ≡ 1 + given)
numbers_left given count first is = go (nat_le (given + count) 1000000) refl is where
  go : (b : Bool) → nat_le (given + count) 1000000 ≡ b → cond b (Some (given + 1)) None ≡ Some first
      → (given + count ≤ most_records) × (first ≡ 1 + given)
  go true room e = (grind (arith, nat_tests), (let both : given + 1 ≡ first = (let same = e in cc) in omega (arith, both)))
  go false full e = absurd (let same = e in cc)

-- if none are given out, there are too few
pub no_numbers : (given count : ℕ) → next_number given count ≡ None → most_records < given + count
no_numbers given count is = go (nat_le (given + count) 1000000) refl is where
  go : (b : Bool) → nat_le (given + count) 1000000 ≡ b → cond b (Some (given + 1)) None ≡ None → most_records < given + count
  go true room e = absurd (let same = e in cc)
  go false full e = grind (arith, nat_tests)

-- ---- what is near a batch decides it

module _ (db : Trees) (s : State) (n : ℕ) (d : Driver) (a b : ℕ) (lines : List Hours) (is : driver_of n s ≡ Some d)
    (batch : IsBatch lines) (within : AreInRange a b (entered_spans (batch_of lines))) (t : Tables) (stand : HasTables db t)
    (of : TablesRepresent t s) (line : List Span) (held_near : IsCanonicalOf (Gives (near a b (spans_of n t.held))) line) where
  -- it is entered
  are_numbered : (gains : List Span) → AreGains line (entered_spans (batch_of lines)) gains → AreNumbered db s n d (batch_of lines) gains
  are_numbered gains gained =
      let held = held_kept t s n d of is in
      record {
        numbered = λ room. entered_batch d (batch_of lines) (spans_of n t.held) line gains a b held within held_near gained room;
        full = λ over. full_batch d (batch_of lines) (spans_of n t.held) line gains a b held within held_near gained over;
        follows = λ next written.
            batch_follows db next n (1 + length d.entries) (length d.entries + length (batch_of lines)) (batch_of lines) gains t s
            (put (with_batch (batch_of lines) d) s) stand of (written t stand)
            (entered_is t s n d (batch_of lines) line gains a b of is (batch_full lines batch) within held_near gained)
            (another_or_none n d s (batch_of lines) line gains is gained);
      }

  -- it is refused
  is_refused : (fault : StoreFault) → (fault ≡ Memory) ⊎ IsContradicted line (entered_spans (batch_of lines)) fault
      → IsFindingFault fault (enter_own (batch_of lines) d)
  is_refused fault (inl e) = subst (λ (f : StoreFault). IsFindingFault f (enter_own (batch_of lines) d)) (sym e) tt
  is_refused fault (inr c) = subst (λ (f : StoreFault). IsFindingFault f (enter_own (batch_of lines) d)) (sym c.1)
      (contradicted_batch d (batch_of lines) (spans_of n t.held) line a b c.0 (held_kept t s n d of is) within held_near c.2)

  -- its gains decide which of these
  by_gains : {V : Type 0} (items : V → List Span) (r : Result V StoreFault)
      → MatchResult r (λ gains. AreGains line (entered_spans (batch_of lines)) (items gains))
      (λ fault. (fault ≡ Memory) ⊎ IsContradicted line (entered_spans (batch_of lines)) fault)
      → IsFound (λ gains. AreNumbered db s n d (batch_of lines) (items gains)) (enter_own (batch_of lines) d) r
  by_gains items (Ok gains) h = record { found = are_numbered (items gains) h; refused = tt }
  by_gains items (Err fault) h = record { found = tt; refused = is_refused fault h }

-- the gains come from the line of the rows near the batch
pub gained : (db : Trees) (s : State) (n : ℕ) (d : Driver) (a b : ℕ) (lines : List Hours) (spans line : List Span)
    {V : Type 0} (items : V → List Span) (r : Result V StoreFault) → Represents db s → driver_of n s ≡ Some d → IsBatch lines
    → spans ≡ entered_spans (batch_of lines) → AreInRange a b (entered_spans (batch_of lines)) → IsLineNear db s Held n a b line
    → MatchResult r (λ gains. AreGains line spans (items gains)) (λ fault. (fault ≡ Memory) ⊎ IsContradicted line spans fault)
    → IsFound (λ gains. AreNumbered db s n d (batch_of lines) (items gains)) (enter_own (batch_of lines) d) r
unfolding Represents
gained db s n d a b lines spans line items r (t, stand, of) is batch same within near h =
    by_gains db s n d a b lines is batch within t stand of line (near.is t stand of d is) items r
    (subst (λ (x : List Span). MatchResult r (λ gains. AreGains line x (items gains)) (λ fault. (fault ≡ Memory) ⊎ IsContradicted line x fault))
    same h)

-- ---- what the step answers

module _ (db : Trees) (s : State) (n : ℕ) (d : Driver) (lines : List Hours) (gains : List Span)
    (new : AreNumbered db s n d (batch_of lines) gains) (given : ℕ) (is : given ≡ length d.entries) where
  -- there are as many entries as lines
  counted : length (batch_of lines) ≡ length lines
  counted = length-map lines entry_of

  -- too few numbers: S14
  pub too_many : most_records < given + length lines → (turn_of s (enter_own (batch_of lines) d)).answer ≡ Err Full
  too_many over = ap (λ r. (turn_of s r).answer) (new.full (let a = is in let b = counted in omega (arith, a, b, over)))

  -- the step of the driver alone
  own : given + length lines ≤ most_records → enter_own (batch_of lines) d ≡ Ok (1 + length d.entries, with_batch (batch_of lines) d)
  own room = new.numbered (let a = is in let b = counted in omega (arith, a, b, room))

  -- the answer is the next number
  pub batch_answer : (first : ℕ) → given + length lines ≤ most_records → first ≡ 1 + given
      → (turn_of s (enter_own (batch_of lines) d)).answer ≡ Ok first
  batch_answer first room next = ap (λ r. (turn_of s r).answer) (own room)
      ∙ ap Ok (let a = is in (let same : 1 + length d.entries ≡ first = omega (arith, a, next) in same))

  -- the tables after its writes represent the state after the batch
  pub batch_written : (first count : ℕ) (helds : List StoredSpan) (next : Trees) → given + length lines ≤ most_records → first ≡ 1 + given
      → count ≡ given + length lines → map (row_of n) helds ≡ map (span_row n) gains
      → ((t : Tables) → HasTables db t → HasTables next (tables_after_batch n count (rows_of_entries n first (batch_of lines)) (map (row_of n) helds) t))
      → Follows db next s (turn_of s (enter_own (batch_of lines) d)).after
  batch_written first count helds next room one counts same_helds written =
      let first_is : first ≡ 1 + length d.entries = (let a = is in omega (arith, a, one)) in
      let count_is : count ≡ length d.entries + length (batch_of lines) = (let a = is in let b = counted in omega (arith, a, b, counts)) in
      let all = batch_of lines in
      subst (Follows db next s) (sym (ap (λ r. (turn_of s r).after) (own room)))
      (new.follows next (λ t stand. subst (λ (x : List SpanRow). HasTables next
      (tables_after_batch n (length d.entries + length all) (rows_of_entries n (1 + length d.entries) all) x t)) same_helds
      (subst (λ (x : ℕ). HasTables next (tables_after_batch n (length d.entries + length all) (rows_of_entries n x all) (map (row_of n) helds) t)) first_is
      (subst (λ (x : ℕ). HasTables next (tables_after_batch n x (rows_of_entries n first all) (map (row_of n) helds) t)) count_is (written t stand)))))

-- ---- the driver's step

-- the step is that of the driver
pub enters : (n : ℕ) (s : State) (batch : List Entry) (d : Driver) → driver_of n s ≡ Some d
    → enter_step n batch s ≡ turn_of s (enter_own batch d)
enters n s batch d some = rw some refl

-- the batch's refusal is the answer
pub batch_refused : (n : ℕ) (s : State) (batch : List Entry) (d : Driver) (fault : StoreFault) → driver_of n s ≡ Some d
    → IsFindingFault fault (enter_own batch d) → IsFindingFault fault (enter_step n batch s).answer
batch_refused n s batch d fault some = finding_as fault (enter_own batch d) (enter_step n batch s).answer
    (λ is. ap (λ (x : Turn ℕ). x.answer) (enters n s batch d some) ∙ ap (λ o. (turn_of s o).answer) is)
