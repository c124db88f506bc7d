-- The lines that are read from rows are a batch.
use Rattle.std.proofs.Common.{◌≡◌, ◌<◌, ◌≤◌, ◌+◌, ◌-◌, ◌∷◌, ◌||◌, ℕ, Bool, true, false, cond, List, [], Option, Some, None, Result, Ok, Err, nat_lt, nat_le, refl, sym, arith, Vec, IfOk, IsErrAnd, ◌⊎◌, inl, inr, not}
use Rattle.std.specs.declared.alloc.Global.{Global}
use Rattle.std.proofs.lemmas.Bool.Decides.{nat_tests}
use Rattle.std.proofs.lemmas.List.Elements.{All-nil, All-cons}
use Rattle.tacho_time.specs.Reading.{minute_at}
use Rattle.tacho_time.specs.declared.span.Activity.{Activity}
use Rattle.tacho_time.specs.declared.fault.TimeFault.{TimeFault}
use Rattle.tacho_time.proofs.ReadBackLemmas.{minute_texts}
use Rattle.tacho_state.specs.Batch.{Hours, IsEntryLine, AreHoursInOrder, IsBatch}
use Rattle.tacho_state.specs.declared.driver.Column.TheVariants as column
use Rattle.tacho_state.specs.declared.entry.EntryLine.{EntryLine}
use Rattle.tacho_sheet.specs.Words.{activity_of_text, left_out_of}
use Rattle.tacho_sheet.specs.Rows.{Row}
use Rattle.tacho_sheet.specs.declared.entries.Head.{Head}
use Rattle.tacho_sheet.specs.declared.fault.LeftOut.{LeftOut}
use Rattle.tacho_sheet.specs.declared.fault.SheetFault.{SheetFault}
use Rattle.tacho_sheet.specs.declared.fault.SheetFault.TheVariants as fault
use Rattle.tacho_sheet.specs.Entries.{RowAnswer, Lines, Texts, Worked, check_length, active, check_times, check_author, is_author, is_note, line_of_texts, row_answer}
use Rattle.tacho_sheet.specs.Entries.{lines_from, with_line, put_first, lines_told, texts_of}

-- a row's minutes and activity satisfy the limits of a line, after the row before
record Works (before : ℕ) (worked : ℕ × ℕ × Activity) : Type 0 where
  pub first : 15780960 ≤ worked.0
  pub full : worked.0 < worked.1
  pub short : worked.1 ≤ worked.0 + 527040
  pub last : worked.1 ≤ 68374080
  pub after : before ≤ worked.0

-- E7: so does a row that isn't too long
sized_works : (row before start past : ℕ) (a : Activity) (worked : ℕ × ℕ × Activity)
    → 15780960 ≤ start → past ≤ 68374079 → start < past → before ≤ start → check_length row start past a ≡ Ok worked → Works before worked
sized_works row before start past a worked first last full after e = go (nat_lt 527040 (past - start)) refl e where
  go : (b : Bool) → nat_lt 527040 (past - start) ≡ b → cond b (Err (fault.TooLong row)) (Ok (start, past, a)) ≡ Ok worked
      → Works before worked
  go true t h = absurd (cc h)
  go false t h =
      let same : worked ≡ (start, past, a) = cc in
      let short : past - start ≤ 527040 = grind (arith, nat_tests) in
      rw same (record { first = first; full = full; short = omega arith; last = omega arith; after = after })

-- E5 and E6: so does a row that has an activity
active_works : (row before start past : ℕ) (l : Option LeftOut) (a : Option Activity) (worked : ℕ × ℕ × Activity)
    → 15780960 ≤ start → past ≤ 68374079 → start < past → before ≤ start → active row start past l a ≡ Ok worked → Works before worked
active_works row before start past (Some l) a worked first last full after e = absurd (cc e)
active_works row before start past None None worked first last full after e = absurd (cc e)
active_works row before start past None (Some a) worked first last full after e =
    sized_works row before start past a worked first last full after e

-- E3 and E4: so does a row whose times can be read and are in order
timed_works : (row before : ℕ) (word : List ℕ) (start past : Result ℕ TimeFault) (worked : ℕ × ℕ × Activity)
    → ((n : ℕ) → start ≡ Ok n → 15780960 ≤ n) → ((n : ℕ) → past ≡ Ok n → n ≤ 68374079) → check_times row before word start past ≡ Ok worked
    → Works before worked
timed_works row before word (Err f) past worked first last e = absurd (cc e)
timed_works row before word (Ok start) (Err f) worked first last e = absurd (cc e)
timed_works row before word (Ok start) (Ok past) worked first last e = go (nat_le past start || nat_lt start before) refl e where
  go : (b : Bool) → (nat_le past start || nat_lt start before) ≡ b
      → cond b (Err (fault.Order row)) (active row start past (left_out_of word) (activity_of_text word)) ≡ Ok worked → Works before worked
  go true t h = absurd (cc h)
  go false t h =
      let full : start < past = grind (arith, nat_tests) in
      let after : before ≤ start = grind (arith, nat_tests) in
      active_works row before start past (left_out_of word) (activity_of_text word) worked (first start refl) (last past refl) full after h

-- a line satisfies the limits of a line, after the row before
record Fits (before : ℕ) (line : Hours) : Type 0 where
  pub own : IsEntryLine line
  pub after : before ≤ line.start

-- E10: so does a row that has an author and a note
signed_fits : (row before : ℕ) (author note : List ℕ) (told : Worked) (line : Hours)
    → ((worked : ℕ × ℕ × Activity) → told ≡ Ok worked → Works before worked) → check_author row author note told ≡ Ok line → Fits before line
signed_fits row before author note (Err f) line works e = absurd (cc e)
signed_fits row before author note (Ok worked) line works e = go (not (is_author author)) (not (is_note note)) e where
  made : Hours
  made = record { start = worked.0; past = worked.1; activity = worked.2; author = author; note = note }

  go : (a n : Bool) → cond a (Err (fault.Text row column.Author)) (cond n (Err (fault.Text row column.Note)) (Ok made)) ≡ Ok line
      → Fits before line
  go true n h = absurd (cc h)
  go false true h = absurd (cc h)
  go false false h =
      let same : line ≡ made = cc in
      let w = works worked refl in
      rw same (record { own = record { first = w.first; full = w.full; short = w.short; last = w.last }; after = w.after })

-- so does the line of a row
line_fits : (row before : ℕ) (texts : Option Texts) (line : Hours) → line_of_texts row before texts ≡ Ok line → Fits before line
line_fits row before None line e = absurd (cc e)
line_fits row before (Some t) line e =
    signed_fits row before t.author t.note (check_times row before t.activity (minute_at t.start) (minute_at t.past)) line
    (λ worked told.
    timed_works row before t.activity (minute_at t.start) (minute_at t.past) worked
    (λ n h. ((minute_texts t.start n).0 h).0) (λ n h. ((minute_texts t.past n).0 h).1) told) e

abbrev StartFrom : ℕ → List Hours → Type 0
StartFrom before [] = Unit {0}
StartFrom before (line ∷ lines) = before ≤ line.start

order_cons : (line : Hours) (lines : List Hours) → StartFrom line.past lines → AreHoursInOrder lines → AreHoursInOrder (line ∷ lines)
order_cons line [] s o = tt
order_cons line (next ∷ lines) s o = (s, o)

-- the lines of rows satisfy the limits and are in order
pub lines_fit : (head : Head) (row before : ℕ) (rows : List Row) (lines : List Hours) → lines_from head row before rows ≡ Ok lines
    → IsBatch lines × StartFrom before lines
unfolding lines_from
lines_fit head row before [] lines e = let same : lines ≡ [] = cc in rw same (record { each = All-nil IsEntryLine; order = tt }, tt)
lines_fit head row before (fields ∷ rest) lines e =
    one (λ line ls t. lines_fit head (row + 1) line.past rest ls t) (row_answer head row before fields) refl e where
      Deep : Type 0
      Deep = (line : Hours) (ls : List Hours) → lines_from head (row + 1) line.past rest ≡ Ok ls → IsBatch ls × StartFrom line.past ls

      more : Deep → (line : Hours) (told : Lines) → lines_from head (row + 1) line.past rest ≡ told → Fits before line
          → put_first (line ∷ []) told ≡ Ok lines → IsBatch lines × StartFrom before lines
      more deep line (Err f) t fits h = absurd (cc h)
      more deep line (Ok ls) t fits h =
          let same : lines ≡ line ∷ ls = cc in
          let b = deep line ls t in
          rw same (record { each = All-cons IsEntryLine line ls fits.own b.0.each; order = order_cons line ls b.1 b.0.order }, fits.after)

      one : Deep → (a : RowAnswer) → row_answer head row before fields ≡ a
          → with_line a (λ line. put_first (line ∷ []) (lines_from head (row + 1) line.past rest)) ≡ Ok lines
          → IsBatch lines × StartFrom before lines
      one deep (Err f) t h = absurd (cc h)
      one deep (Ok line) t h =
          more deep line (lines_from head (row + 1) line.past rest) refl (line_fits row before (texts_of head fields) line t) h

-- the answer for some rows is a batch
pub told_fits : (P : SheetFault → Type 0) (Q : List Row → Type 0) (r : Result (Vec EntryLine Global) SheetFault) (head : Head)
    (row before : ℕ) → IsErrAnd r P ⊎ ((rows : List Row) × Q rows × (lines_told r ≡ lines_from head row before rows))
    → IfOk r (λ lines. IsBatch lines.items)
told_fits P Q (Err f) head row before h = tt
told_fits P Q (Ok lines) head row before (inl e) = absurd e
told_fits P Q (Ok lines) head row before (inr h) = (lines_fit head row before h.0 lines.items (sym h.2)).0
