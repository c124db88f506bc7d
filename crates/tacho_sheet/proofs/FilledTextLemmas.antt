-- A filled-in form is read as the hours with which it is filled in.
use Rattle.std.proofs.Common.{◌≡◌, ◌∙◌, ◌<◌, ◌≤◌, ◌+◌, ◌-◌, ◌/◌, ◌%◌, ◌++◌, ◌==◌, ◌&&◌, ◌||◌, ◌↔◌, ◌∷◌, ℕ, pos, Bool, true, false, cond, List, [], Some, None, Result, Ok, Err, append_assoc, ap, arith, codes, flat_map, inl, inr, length, map, nat_le, nat_lt, not, refl, subst, sym}
use Rattle.std.specs.List.{list_all}
use Rattle.std.proofs.lemmas.Bool.Decides.{nat_tests}
use Rattle.std.proofs.lemmas.List.{append-nil}
use native.Mathlib.Decide.{dec_lt}
use Rattle.jiff_core.proofs.CalendarLemmas.{days_in_month_bounds}
use Rattle.jiff_core.proofs.SignedLemmas.{signed_arith}
use Rattle.csv.specs.Machine.{next_record}
use Rattle.csv.specs.Reading.{Reached, default_config, strip_bom}
use Rattle.csv.specs.declared.parser.State.TheVariants as st
use Rattle.csv.proofs.RoundTrip.{record-same, start-same}
use Rattle.tacho_time.specs.Calendar.{HasNumber, civil}
use Rattle.tacho_time.specs.Reading.{minute_at}
use Rattle.tacho_time.specs.Text.{activity_name, day_text, minute_text, two_digits}
use Rattle.tacho_time.specs.declared.fault.TimeFault.{TimeFault}
use Rattle.tacho_time.specs.declared.span.Activity.{Activity}
use Rattle.tacho_time.specs.declared.span.Activity.TheVariants.{Rest, Available, Work, Drive}
use Rattle.tacho_time.specs.declared.span.Span.{Span}
use Rattle.tacho_line.specs.declared.gap.Gap.{Gap}
use Rattle.tacho_line.specs.Line.{AreGapsApart, AreGaps, BeginsAfter, InGaps}
use Rattle.tacho_stretches.specs.Start.{IsEndOfHeld}
use Rattle.tacho_state.specs.Batch.{Hours}
use Rattle.tacho_state.specs.declared.driver.Column.TheVariants as column
use Rattle.tacho_sheet.specs.Entries.{RowAnswer, IsRead, Worked, active, is_author, is_name_byte, is_note, row_answer, lines_from, put_first, check_author, check_times, with_line}
use Rattle.tacho_sheet.specs.Form.{AreCut, AreRows, Fills, filled_form, filled_row}
use Rattle.tacho_sheet.specs.Rows.{Row}
use Rattle.tacho_sheet.specs.Words.{activity_of_text, left_out_of}
use Rattle.tacho_sheet.specs.declared.entries.Head.TheVariants as head
use Rattle.tacho_sheet.specs.declared.fault.SheetFault.TheVariants as fault
use Rattle.tacho_sheet.proofs.EntryLemmas.{head_right}
use Rattle.tacho_sheet.proofs.FilledLemmas.{cut_full}

-- ---- the times of rows

-- a row that can be entered, after a row that ends at `before`
record IsRow (before : ℕ) (r : Gap) : Type 0 where
  pub after : before ≤ r.start
  pub first : 15780960 ≤ r.start
  pub full : r.start < r.past
  pub short : r.past ≤ r.start + 527040
  pub last : r.past ≤ 68374079

abbrev AreTimed : ℕ → List Gap → Type 0
AreTimed before [] = Unit {0}
AreTimed before (r ∷ rows) = IsRow before r × AreTimed r.past rows

-- the rows of one gap, followed by those of the later gaps, can be entered
cut_timed : (before start past : ℕ) (rows back : List Gap) → before ≤ start → 15780960 ≤ start → past ≤ 68374079 → AreCut start past rows
    → AreTimed past back → AreTimed before (rows ++ back)
cut_timed before start past [] back after first last h t = absurd h
cut_timed before start past (r ∷ []) back after first last h t =
    let from = h.0 in
    let to = h.1 in
    let full = h.2 in
    let short = h.3 in (
      record { after = omega arith; first = omega arith; full = omega arith; short = omega arith; last = omega arith },
      subst (λ (p : ℕ). AreTimed p back) (sym to) t,
    )
cut_timed before start past (r ∷ next ∷ rows) back after first last h t =
    let from = h.0 in
    let to = h.1 in
    let full = cut_full r.past past (next ∷ rows) h.2 in (
      record { after = omega arith; first = omega arith; full = omega arith; short = omega arith; last = omega arith },
      cut_timed r.past r.past past (next ∷ rows) back (omega arith) (omega arith) last h.2 t,
    )

-- the first gap begins at `before` or later
abbrev BeginsFrom : ℕ → List Gap → Type 0
BeginsFrom before [] = Unit {0}
BeginsFrom before (g ∷ gaps) = before ≤ g.start

begins : (g : Gap) (gaps : List Gap) → BeginsAfter g gaps → BeginsFrom g.past gaps
begins g [] h = tt
begins g (next ∷ gaps) h = omega arith

-- the rows of gaps can be entered if the minutes of the gaps can be written and read
rows_timed : (before : ℕ) (gaps rows : List Gap) → AreGapsApart gaps → BeginsFrom before gaps
    → ((m : ℕ) → InGaps gaps m → (15780960 ≤ m) × (m < 68374079)) → AreRows gaps rows → AreTimed before rows
rows_timed before [] rows a b w h = subst (λ (l : List Gap). AreTimed before l) (sym h) tt
rows_timed before (g ∷ gaps) rows a b w h =
    let full = a.0 in
    let first = (w g.start (inl (omega arith, omega arith))).0 in
    let last = (w (g.past - 1) (inl (omega arith, omega arith))).1 in
    subst (λ (l : List Gap). AreTimed before l) (sym h.2)
    (cut_timed before g.start g.past h.0 h.1 b first (omega arith) h.3
    (rows_timed g.past gaps h.1 a.2 (begins g gaps a.1) (λ m x. w m (inr x)) h.4))

-- the last minute before the end is held, so each gap ends before the end
gaps_within : (line : List Span) (base end : ℕ) (gaps : List Gap) → AreGaps line base end gaps → IsEndOfHeld line base end
    → 15780960 ≤ base → end ≤ 68374080 → (m : ℕ) → InGaps gaps m → (15780960 ≤ m) × (m < 68374079)
gaps_within line base end gaps g e first last m x =
    let w = (g.lacking m).0 x in
    let low = w.0.0 in
    let high = w.0.1 in
    elim e.last [
      | inl none ↦ absurd (omega arith)
      | inr held ↦
          let end_is = held.1 in
          elim (dec_lt (m + 1) end) [
            | yes below ↦ (omega arith, omega arith)
            | no above ↦
                let same : held.0 ≡ m = omega arith in
                absurd (cc (held.2.1, same, w.1))
          ]
    ]

-- ---- words, and the rows that are read from them

-- a text without a comma, a double quote or a control
abbrev IsWord : List ℕ → Type 0
IsWord text = list_all is_name_byte text ≡ true

and_left : (a b : Bool) → a && b ≡ true → a ≡ true
and_left true b e = refl
and_left false b e = absurd (cc e)

and_right : (a b : Bool) → a && b ≡ true → b ≡ true
and_right true b e = e
and_right false b e = absurd (cc e)

and_both : (a b : Bool) → a ≡ true → b ≡ true → a && b ≡ true
and_both true b e f = f
and_both false b e f = absurd (cc e)

-- a byte of a word is no delimiter
name_byte : (b : ℕ) → is_name_byte b ≡ true → ((b == 44) ≡ false) × ((b == 34) ≡ false) × ((b == 13) ≡ false) × ((b == 10) ≡ false)
name_byte b h = (grind (arith, nat_tests), grind (arith, nat_tests), grind (arith, nat_tests), grind (arith, nat_tests))

-- the bytes of a word are appended to the field
word_run : (fields : List (List ℕ)) (field text tail : List ℕ) → IsWord text
    → next_record default_config st.InField fields field (text ++ tail) ≡ next_record default_config st.InField fields (field ++ text) tail
unfolding next_record
word_run fields field [] tail h = rw (append-nil field) refl
word_run fields field (b ∷ rest) tail h =
    let q = name_byte b (and_left _ _ h) in
    rw (q.0, q.2, q.3) (word_run fields (field ++ (b ∷ [])) rest tail (and_right _ _ h)
    ∙ ap (λ (f : List ℕ). next_record default_config st.InField fields f tail) (append_assoc field (b ∷ []) rest))

-- a word at the start of its field, before a byte that is no quote
word_start : (fields : List (List ℕ)) (text : List ℕ) (c : ℕ) (tail : List ℕ) → (c == 34) ≡ false → IsWord text
    → next_record default_config st.StartField fields [] (text ++ (c ∷ tail)) ≡ next_record default_config st.InField fields text (c ∷ tail)
word_start fields [] c tail n h = start-same fields [] c tail n
word_start fields (b ∷ rest) c tail n h =
    let q = name_byte b (and_left _ _ h) in
    start-same fields [] b (rest ++ (c ∷ tail)) q.1 ∙ word_run fields [] (b ∷ rest) (c ∷ tail) h

-- a word and a comma
word_comma : (fields : List (List ℕ)) (text tail : List ℕ) → IsWord text
    → next_record default_config st.StartField fields [] (text ++ (codes "," ++ tail))
    ≡ next_record default_config st.StartField (fields ++ (text ∷ [])) [] tail
unfolding next_record
word_comma fields text tail h = word_start fields text 44 tail refl h ∙ refl

-- a word and the end of its line
word_end : (fields : List (List ℕ)) (text tail : List ℕ) → IsWord text
    → next_record default_config st.StartField fields [] (text ++ (codes "\n" ++ tail)) ≡ Some (fields ++ (text ∷ []), st.StartRecord, tail)
unfolding next_record
word_end fields text tail h = word_start fields text 10 tail refl h ∙ refl

-- a word at the start of a line, if it isn't empty
word_first : (text tail : List ℕ) → 0 < length text → IsWord text
    → next_record default_config st.StartRecord [] [] (text ++ tail) ≡ next_record default_config st.StartField [] [] (text ++ tail)
word_first [] tail some h = absurd (omega arith)
word_first (b ∷ rest) tail some h = let q = name_byte b (and_left _ _ h) in record-same [] [] b (rest ++ tail) q.2 q.3

-- a line of five words
five_read : (a b c d e tail : List ℕ) → 0 < length a → IsWord a → IsWord b → IsWord c → IsWord d → IsWord e
    → next_record default_config st.StartRecord [] []
    (a ++ (codes "," ++ (b ++ (codes "," ++ (c ++ (codes "," ++ (d ++ (codes "," ++ (e ++ (codes "\n" ++ tail))))))))))
    ≡ Some (a ∷ b ∷ c ∷ d ∷ e ∷ [], st.StartRecord, tail)
five_read a b c d e tail some wa wb wc wd we =
    let last = e ++ (codes "\n" ++ tail) in
    let fourth = d ++ (codes "," ++ last) in
    let third = c ++ (codes "," ++ fourth) in
    let second = b ++ (codes "," ++ third) in
    word_first a (codes "," ++ second) some wa
    ∙ (word_comma [] a second wa
    ∙ (word_comma (a ∷ []) b third wb
    ∙ (word_comma (a ∷ b ∷ []) c fourth wc
    ∙ (word_comma (a ∷ b ∷ c ∷ []) d last wd
    ∙ word_end (a ∷ b ∷ c ∷ d ∷ []) e tail we))))

-- ---- the words of a row

word_append : (xs ys : List ℕ) → IsWord xs → IsWord ys → IsWord (xs ++ ys)
word_append [] ys h g = g
word_append (b ∷ xs) ys h g =
    and_both (is_name_byte b) (list_all is_name_byte (xs ++ ys)) (and_left _ _ h) (word_append xs ys (and_right _ _ h) g)

digit_byte : (k : ℕ) → k < 10 → is_name_byte (48 + k) ≡ true
digit_byte k h = grind (arith, nat_tests)

digits_word : (n : ℕ) → n < 100 → IsWord (two_digits n)
digits_word n h =
    and_both (is_name_byte (48 + n / 10)) _ (digit_byte (n / 10) (omega arith))
    (and_both (is_name_byte (48 + n % 10)) true (digit_byte (n % 10) (omega arith)) refl)

-- each day has a date
abbrev AreDated : Type 0
AreDated = (n : ℕ) → n ≤ 47520 → HasNumber (civil n) n

date_word : (y m d : ℕ) → y < 10000 → m < 100 → d < 100
    → IsWord (two_digits (y / 100) ++ two_digits (y % 100) ++ codes "-" ++ two_digits m ++ codes "-" ++ two_digits d)
date_word y m d hy hm hd =
    let last = codes "-" ++ two_digits d in
    let months = two_digits m ++ last in
    let second = codes "-" ++ months in
    let years = two_digits (y % 100) ++ second in
    word_append (two_digits (y / 100)) years (digits_word (y / 100) (omega arith))
    (word_append (two_digits (y % 100)) second (digits_word (y % 100) (omega arith))
    (word_append (codes "-") months refl
    (word_append (two_digits m) last (digits_word m hm)
    (word_append (codes "-") (two_digits d) refl (digits_word d hd)))))

time_word : (hour minute : ℕ) → hour < 100 → minute < 100 → IsWord (codes " " ++ two_digits hour ++ codes ":" ++ two_digits minute)
time_word hour minute hh hm =
    let last = codes ":" ++ two_digits minute in
    let hours = two_digits hour ++ last in
    word_append (codes " ") hours refl
    (word_append (two_digits hour) last (digits_word hour hh)
    (word_append (codes ":") (two_digits minute) refl (digits_word minute hm)))

minute_word : AreDated → (n : ℕ) → n ≤ 68374079 → IsWord (minute_text n)
minute_word dated n h =
    let day = n / 1440 in
    let date = (dated day (omega arith)).dated in
    let year : (civil day).year < 10000 = let bound = date.0.1 in omega (arith, signed_arith) in
    let month : (civil day).month < 100 = let bound = date.1.1 in omega arith in
    let most = (days_in_month_bounds (pos (civil day).year) (civil day).month).0 in
    let days : (civil day).day < 100 = let bound = date.2.1 in omega arith in
    word_append (day_text day) (codes " " ++ two_digits (n % 1440 / 60) ++ codes ":" ++ two_digits (n % 60))
    (date_word (civil day).year (civil day).month (civil day).day year month days)
    (time_word (n % 1440 / 60) (n % 60) (omega arith) (omega arith))

activity_word : (a : Activity) → IsWord (activity_name a)
activity_word Rest = refl
activity_word Available = refl
activity_word Work = refl
activity_word Drive = refl

-- ---- the hours of a row

-- the texts of times are read back as these times
abbrev AreReadBack : Type 0
AreReadBack = (text : List ℕ) (n : ℕ) → (minute_at text ≡ Ok n) ↔ ((15780960 ≤ n) × (n ≤ 68374079) × (text ≡ minute_text n))

word_of : (a : Activity) → (left_out_of (activity_name a) ≡ None) × (activity_of_text (activity_name a) ≡ Some a)
word_of Rest = (refl, refl)
word_of Available = (refl, refl)
word_of Work = (refl, refl)
word_of Drive = (refl, refl)

-- a row with an activity, with its times in order and not too long, has no fault
timed_read : (row before start past : ℕ) (a : Activity) → start < past → before ≤ start → past ≤ start + 527040
    → check_times row before (activity_name a) (Ok start) (Ok past) ≡ Ok (start, past, a)
timed_read row before start past a full after short =
    let word = word_of a in
    let told = active row start past (left_out_of (activity_name a)) (activity_of_text (activity_name a)) in
    let order : (nat_le past start || nat_lt start before) ≡ false = grind (arith, nat_tests) in
    let size : nat_lt 527040 (past - start) ≡ false = grind (arith, nat_tests) in
    ap (λ (b : Bool). cond {A = Worked} b (Err (fault.Order row)) told) order
    ∙ (ap (λ l. active row start past l (activity_of_text (activity_name a))) word.0
    ∙ (ap (λ o. active row start past None o) word.1
    ∙ ap (λ (b : Bool). cond {A = Worked} b (Err (fault.TooLong row)) (Ok (start, past, a))) size))

line_is : (row before : ℕ) (author note word : List ℕ) (from to : Result ℕ TimeFault) (start past : ℕ) (a : Activity)
    → from ≡ Ok start → to ≡ Ok past → check_times row before word (Ok start) (Ok past) ≡ Ok (start, past, a) → is_author author ≡ true
    → is_note note ≡ true → check_author row author note (check_times row before word from to)
    ≡ Ok (record { start = start; past = past; activity = a; author = author; note = note })
line_is row before author note word from to start past a ef et worked ea en =
    let line : Hours = record { start = start; past = past; activity = a; author = author; note = note } in
    ap (λ (r : Result ℕ TimeFault). check_author row author note (check_times row before word r to)) ef
    ∙ (ap (λ (r : Result ℕ TimeFault). check_author row author note (check_times row before word (Ok start) r)) et
    ∙ (ap (check_author row author note) worked
    ∙ (ap (λ (b : Bool). cond {A = RowAnswer} (not b) (Err (fault.Text row column.Author))
    (cond {A = RowAnswer} (not (is_note note)) (Err (fault.Text row column.Note)) (Ok line))) ea
    ∙ ap (λ (b : Bool). cond {A = RowAnswer} (not b) (Err (fault.Text row column.Note)) (Ok line)) en)))

-- the fields of hours
abbrev row_of : Hours → Row
row_of h = minute_text h.start ∷ minute_text h.past ∷ activity_name h.activity ∷ h.author ∷ h.note ∷ []

line_read : AreReadBack → (row before : ℕ) (h : Hours) → 15780960 ≤ h.start → h.start < h.past → h.past ≤ 68374079 → before ≤ h.start
    → h.past ≤ h.start + 527040 → is_author h.author ≡ true → is_note h.note ≡ true → row_answer head.Five row before (row_of h) ≡ Ok h
line_read back row before h first full last after short ea en =
    line_is row before h.author h.note (activity_name h.activity) (minute_at (minute_text h.start)) (minute_at (minute_text h.past))
    h.start h.past h.activity
    ((back (minute_text h.start) h.start).1 (first, omega arith, refl))
    ((back (minute_text h.past) h.past).1 (omega arith, last, refl))
    (timed_read row before h.start h.past h.activity full after short) ea en

lines_read : AreReadBack → (row before : ℕ) (rows : List Gap) (hours : List Hours) → AreTimed before rows → Fills rows hours
    → lines_from head.Five row before (map row_of hours) ≡ Ok hours
unfolding lines_from
lines_read back row before [] [] t f = refl
lines_read back row before [] (h ∷ hours) t f = absurd f
lines_read back row before (r ∷ rows) [] t f = absurd f
lines_read back row before (r ∷ rows) (h ∷ hours) t f =
    let start = f.0 in
    let past = f.1 in
    let after = t.0.after in
    let first = t.0.first in
    let full = t.0.full in
    let short = t.0.short in
    let last = t.0.last in
    let line = line_read back row before h (omega arith) (omega arith) (omega arith) (omega arith) (omega arith) f.2 f.3 in
    ap (λ (a : RowAnswer). with_line a (λ l. put_first (l ∷ []) (lines_from head.Five (row + 1) l.past (map row_of hours)))) line
    ∙ ap (put_first (h ∷ []))
    (lines_read back (row + 1) h.past rows hours (subst (λ (p : ℕ). AreTimed p rows) (sym past) t.1) f.4)

-- ---- the form

row_append : (a b c d e x y tail : List ℕ)
    → (a ++ (x ++ (b ++ (x ++ (c ++ (x ++ (d ++ (x ++ (e ++ y))))))))) ++ tail
    ≡ a ++ (x ++ (b ++ (x ++ (c ++ (x ++ (d ++ (x ++ (e ++ (y ++ tail)))))))))
row_append a b c d e x y tail = simp append_assoc refl

row_read : AreDated → (h : Hours) (tail : List ℕ) → h.start ≤ 68374079 → h.past ≤ 68374079 → is_author h.author ≡ true
    → is_note h.note ≡ true → next_record default_config st.StartRecord [] [] (filled_row h ++ tail) ≡ Some (row_of h, st.StartRecord, tail)
row_read dated h tail start past ea en =
    let first = minute_text h.start in
    let second = minute_text h.past in
    let third = activity_name h.activity in
    ap (next_record default_config st.StartRecord [] []) (row_append first second third h.author h.note (codes ",") (codes "\n") tail)
    ∙ five_read first second third h.author h.note tail (omega arith) (minute_word dated h.start start) (minute_word dated h.past past)
    (activity_word h.activity) (and_right _ _ (and_left _ _ ea)) (and_right _ _ (and_left _ _ en))

rows_read : AreDated → (before : ℕ) (rows : List Gap) (hours : List Hours) → AreTimed before rows → Fills rows hours
    → Reached default_config st.StartRecord (flat_map filled_row hours) (map row_of hours) st.StartRecord []
unfolding Reached
rows_read dated before [] [] t f = (refl, refl)
rows_read dated before [] (h ∷ hours) t f = absurd f
rows_read dated before (r ∷ rows) [] t f = absurd f
rows_read dated before (r ∷ rows) (h ∷ hours) t f =
    let start = f.0 in
    let past = f.1 in
    let full = t.0.full in
    let last = t.0.last in (
      (row_of h, st.StartRecord, flat_map filled_row hours),
      row_read dated h (flat_map filled_row hours) (omega arith) (omega arith) f.2 f.3,
      refl,
      rows_read dated r.past rows hours t.1 f.4,
    )

-- the fields of the head
abbrev names : Row
names = codes "start" ∷ codes "past" ∷ codes "activity" ∷ codes "author" ∷ codes "note" ∷ []

head_read : (tail : List ℕ) → next_record default_config st.StartRecord [] [] (codes "start,past,activity,author,note\n" ++ tail)
    ≡ Some (names, st.StartRecord, tail)
head_read tail =
    five_read (codes "start") (codes "past") (codes "activity") (codes "author") (codes "note") tail (omega arith) refl refl refl refl refl

timed_is_read : AreDated → AreReadBack → (rows : List Gap) (hours : List Hours) → AreTimed 0 rows → Fills rows hours
    → IsRead (filled_form hours) (Ok hours)
unfolding Reached strip_bom next_record
timed_is_read dated back rows hours t f = (
  names ∷ map row_of hours,
  (
    st.StartRecord,
    [],
    ((names, st.StartRecord, flat_map filled_row hours), head_read (flat_map filled_row hours), refl, rows_read dated 0 rows hours t f),
    refl,
  ),
  head_right head.Five names (map row_of hours) (Ok hours) refl (sym (lines_read back 2 0 rows hours t f)),
)

begins_zero : (gaps : List Gap) → BeginsFrom 0 gaps
begins_zero [] = tt
begins_zero (g ∷ gaps) = omega arith

pub filled_is_read : AreDated → AreReadBack → (line : List Span) (base end : ℕ) (gaps rows : List Gap) (hours : List Hours)
    → AreGaps line base end gaps → AreRows gaps rows → IsEndOfHeld line base end → 15780960 ≤ base → end ≤ 68374080 → Fills rows hours
    → IsRead (filled_form hours) (Ok hours)
filled_is_read dated back line base end gaps rows hours g r e first last f =
    timed_is_read dated back rows hours
    (rows_timed 0 gaps rows g.apart (begins_zero gaps) (gaps_within line base end gaps g e first last) r) f
