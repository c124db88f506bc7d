-- The texts that are written for days, minutes and months are read back, and no other texts are read.
use Rattle.std.proofs.Common.{◌≡◌, ℕ, ◌+◌, ◌-◌, ◌*◌, ◌/◌, ◌%◌, ◌<◌, ◌≤◌, ◌↔◌, ◌&&◌, ◌==◌, nat_le, Bool, true, false, cond, List, ◌∷◌, ◌++◌, length, take, drop, slice_index, codes, Option, None, Some, Result, Ok, Err, ℤ, pos, negsuc, refl, sym, ap, ◌∙◌, arith}
use Rattle.std.proofs.lemmas.Bool.Decides.{nat_tests}
use Rattle.std.proofs.lemmas.List.{take-append-drop, drop-drop, drop_more, length-take-le, length-drop}
use Rattle.std.specs.Int.{IsInRange}
use Rattle.jiff_core.proofs.SignedLemmas.{signed_arith}
use Rattle.jiff_core.specs.declared.civil.date.Date.{Date}
use Rattle.jiff_core.specs.Calendar.{days_from_civil, days_in_month, IsCivilDate, IsYear}
use Rattle.jiff_core.proofs.CalendarLemmas.{days_in_month_bounds}
use Rattle.jiff_core.proofs.DateLemmas.{epoch_day_injective}
use Rattle.tacho_time.specs.Calendar.{civil}
use Rattle.tacho_time.specs.Text.{two_digits, day_text, minute_text, month_text}
use Rattle.tacho_time.specs.declared.fault.TimeFault.{TimeFault}
use Rattle.tacho_time.specs.declared.fault.TimeFault.TheVariants.{Shape, OutOfRange, NoSuchDate}
use Rattle.tacho_time.specs.declared.read.DateParts.{DateParts}
use Rattle.tacho_time.specs.Reading.{digits_at, date_at, date_parts, is_date, is_time, read_day, day_of_date, day_of_parts, day_at, minute_of_day, minute_of_parts, minute_at, is_month, month_number, month_of_parts, month_at}
use Rattle.tacho_time.proofs.CivilLemmas.{civil_number}
use Rattle.tacho_time.proofs.DigitLemmas.{pair_spelled, four_spelled, pair_read, four_read}
use Rattle.tacho_time.proofs.ReadLemmas.{date_test, same_number}

-- the text of a date
abbrev written : ℕ → ℕ → ℕ → List ℕ
written y m d = two_digits (y / 100) ++ two_digits (y % 100) ++ codes "-" ++ two_digits m ++ codes "-" ++ two_digits d

-- a text from place i on: n bytes, a separator, and the bytes after it
piece : (xs : List ℕ) (i n c : ℕ) → i + n < length xs → slice_index xs (i + n) ≡ c → drop i xs ≡ take n (drop i xs) ++ c ∷ drop (i + n + 1) xs
piece xs i n c h e =
    sym (take-append-drop n (drop i xs))
    ∙ ap (λ l. take n (drop i xs) ++ l) (drop-drop n i xs ∙ drop_more xs (i + n) 0 h ∙ ap (λ (k : ℕ). k ∷ drop (i + n + 1) xs) e)

-- the parts of a date with the separators between them
abbrev with_signs : List ℕ → List ℕ → List ℕ → List ℕ
with_signs y m d = y ++ 45 ∷ (m ++ 45 ∷ d)

-- a text of ten bytes consists of its parts and separators
ten_parts : (text : List ℕ) → length text ≡ 10 → slice_index text 4 ≡ 45 → slice_index text 7 ≡ 45 → text ≡ with_signs (take 4 text) (take 2 (drop 5 text)) (drop 8 text)
ten_parts text len first second =
    piece text 0 4 45 (omega arith) first ∙ ap (λ l. take 4 text ++ 45 ∷ l) (piece text 5 2 45 (omega arith) second)

-- the text spells these parts
record Spells (text : List ℕ) (p : DateParts) : Type 0 where
  bytes : text ≡ written p.year p.month p.day
  year : p.year < 10000

-- a text whose parts are read as these numbers spells them
ten_spelled : (text : List ℕ) (p : DateParts) → length text ≡ 10 → slice_index text 4 ≡ 45 → slice_index text 7 ≡ 45 → digits_at (take 4 text) ≡ Some p.year → digits_at (take 2 (drop 5 text)) ≡ Some p.month → digits_at (drop 8 text) ≡ Some p.day → Spells text p
ten_spelled text p len first second y m d =
    let behind = length-drop 5 text in
    let last = length-drop 8 text in
    let year = four_spelled (take 4 text) p.year (length-take-le 4 text (omega arith)) y in
    let month = pair_spelled (take 2 (drop 5 text)) p.month (length-take-le 2 (drop 5 text) (omega arith)) m in
    let day = pair_spelled (drop 8 text) p.day (omega arith) d in
    record {
      bytes = ten_parts text len first second
          ∙ ap (λ l. with_signs l (take 2 (drop 5 text)) (drop 8 text)) year.0
          ∙ ap (λ l. with_signs (two_digits (p.year / 100) ++ two_digits (p.year % 100)) l (drop 8 text)) month.0
          ∙ ap (λ l. with_signs (two_digits (p.year / 100) ++ two_digits (p.year % 100)) (two_digits p.month) l) day.0;
      year = year.1;
    }

-- ---- what a text was read as

-- the three numbers are present, and are the parts of the date
record HasParts (y m d : Option ℕ) (p : DateParts) : Type 0 where
  year : y ≡ Some p.year
  month : m ≡ Some p.month
  day : d ≡ Some p.day

-- if a date was made of three numbers, they are its parts
parts_are : (y m d : Option ℕ) (p : DateParts) → date_parts y m d ≡ Some p → HasParts y m d p
parts_are (Some y) (Some m) (Some d) p h =
    let e : record { year = y; month = m; day = d } ≡ p = cc in
    record { year = ap (λ (q : DateParts). Some q.year) e; month = ap (λ (q : DateParts). Some q.month) e; day = ap (λ (q : DateParts). Some q.day) e }
parts_are (Some y) (Some m) None p h = cc
parts_are (Some y) None d p h = cc
parts_are None m d p h = cc

-- a value that is present only if a test passes
some_if : {X : Type 0} (b : Bool) (o : Option X) (x : X) → cond b o None ≡ Some x → (b ≡ true) × (o ≡ Some x)
some_if true o x h = (refl, h)
some_if false o x h = cc

-- a value if a test passes, and a fault otherwise
ok_if : (b : Bool) (r : Result ℕ TimeFault) (fault : TimeFault) (n : ℕ) → cond b r (Err fault) ≡ Ok n → (b ≡ true) × (r ≡ Ok n)
ok_if true r fault n h = (refl, h)
ok_if false r fault n h = cc

-- the test of a length and two separators
shape_is : (len size a x b y : ℕ) → (len == size) && (a == x) && (b == y) ≡ true → (len ≡ size) × (a ≡ x) × (b ≡ y)
shape_is len size a x b y t = (grind (arith, nat_tests), grind (arith, nat_tests), grind (arith, nat_tests))

-- a text that is read as a date spells it
date_spelled : (text : List ℕ) (p : DateParts) → date_at text ≡ Some p → Spells text p
date_spelled text p h =
    let test = some_if _ _ p h in
    let is = parts_are _ _ _ p test.1 in
    let shape = shape_is (length text) 10 (slice_index text 4) 45 (slice_index text 7) 45 test.0 in
    ten_spelled text p shape.0 shape.1 shape.2 is.year is.month is.day

-- the integer z is the day n, which is in the range that can be read
record IsRead (z : ℤ) (n : ℕ) : Type 0 where
  number : z ≡ pos n
  low : 10959 ≤ n
  high : n ≤ 47481

-- equal results have equal numbers
same_ok : (a b : ℕ) → ◌≡◌ {A = Result ℕ TimeFault} (Ok a) (Ok b) → a ≡ b
same_ok a b h = cc

-- a day number is read as itself, if it is in range
day_read : (z : ℤ) (n : ℕ) → read_day z ≡ Ok n → IsRead z n
day_read (pos k) n h =
    let test : (nat_le 10959 k && nat_le k 47481 ≡ true) × (◌≡◌ {A = Result ℕ TimeFault} (Ok k) (Ok n)) = ok_if _ _ OutOfRange n h in
    let same : k ≡ n = same_ok k n test.1 in
    let t = test.0 in
    record { number = ap pos same; low = grind (arith, nat_tests); high = grind (arith, nat_tests) }
day_read (negsuc k) n h = cc

-- the test of a month and a day
tested : (m d k : ℕ) → nat_le 1 m && nat_le m 12 && nat_le 1 d && nat_le d k ≡ true → IsInRange 1 12 m × IsInRange 1 k d
tested m d k t = grind (arith, nat_tests)

-- a date with the number n is written as the day n
civil_only : (y m d n : ℕ) → IsCivilDate (pos y) m d → n ≤ 47520 → days_from_civil (pos y) m d ≡ pos n → written y m d ≡ day_text n
civil_only y m d n h l e =
    let c = civil_number n l in
    let own : Date = record { year = pos y; month = m; day = d; year_in = h.0; month_in = h.1; day_in = h.2 } in
    let other : Date = record { year = pos (civil n).year; month = (civil n).month; day = (civil n).day; year_in = c.dated.0; month_in = c.dated.1; day_in = c.dated.2 } in
    let same = epoch_day_injective own other (e ∙ sym c.number) in
    ap (λ (k : ℕ). written k m d) (same_number y (civil n).year same.0)
    ∙ ap (λ (k : ℕ). written (civil n).year k d) same.1
    ∙ ap (λ (k : ℕ). written (civil n).year (civil n).month k) same.2

-- a text that is read as a date, whose day is n, is the text of the day n
day_back : (text : List ℕ) (p : DateParts) (n : ℕ) → date_at text ≡ Some p → day_of_date p.year p.month p.day ≡ Ok n → (10959 ≤ n) × (n ≤ 47481) × (text ≡ day_text n)
day_back text p n h d =
    let spelled = date_spelled text p h in
    let test = ok_if (is_date p.year p.month p.day) (read_day (days_from_civil (pos p.year) p.month p.day)) NoSuchDate n d in
    let is = day_read (days_from_civil (pos p.year) p.month p.day) n test.1 in
    let parts = tested p.month p.day (days_in_month (pos p.year) p.month) test.0 in
    let year : IsYear (pos p.year) = let below = spelled.year in (omega (arith, signed_arith), omega (arith, signed_arith)) in
    let same = civil_only p.year p.month p.day n (year, parts.0, parts.1) (let high = is.high in omega arith) is.number in
    (is.low, is.high, spelled.bytes ∙ same)

-- the parts are present, and their day is n
record HasDay (o : Option DateParts) (n : ℕ) : Type 0 where
  parts : DateParts
  is : o ≡ Some parts
  day : day_of_date parts.year parts.month parts.day ≡ Ok n

-- if a day was found, the date's parts are present
has_day : (o : Option DateParts) (n : ℕ) → day_of_parts o ≡ Ok n → HasDay o n
has_day (Some p) n h = record { parts = p; is = refl; day = h }
has_day None n h = cc

-- ---- what a written text is read as

-- the text of a date is read as that date
date_read : (y m d : ℕ) → y < 10000 → m < 100 → d < 100 → date_at (written y m d) ≡ Some (record { year = y; month = m; day = d })
date_read y m d hy hm hd =
    ap (λ (o : Option ℕ). date_parts o (digits_at (two_digits m)) (digits_at (two_digits d))) (four_read y hy)
    ∙ ap (λ (o : Option ℕ). date_parts (Some y) o (digits_at (two_digits d))) (pair_read m hm)
    ∙ ap (λ (o : Option ℕ). date_parts (Some y) (Some m) o) (pair_read d hd)

-- a day number in range is read
day_in_range : (n : ℕ) → 10959 ≤ n → n ≤ 47481 → read_day (pos n) ≡ Ok n
day_in_range n low high = grind (arith, nat_tests)

-- the parts of a day's date
abbrev civil_parts : ℕ → DateParts
civil_parts n = record { year = (civil n).year; month = (civil n).month; day = (civil n).day }

-- what the text of a day is read as
record IsWritten (n : ℕ) : Type 0 where
  parts : date_at (day_text n) ≡ Some (civil_parts n)
  dated : is_date (civil n).year (civil n).month (civil n).day ≡ true
  day : day_of_date (civil n).year (civil n).month (civil n).day ≡ Ok n

-- the text of a day in range is read as that day
day_written : (n : ℕ) → 10959 ≤ n → n ≤ 47481 → IsWritten n
day_written n low high =
    let c = civil_number n (omega arith) in
    let year : (civil n).year < 10000 = let y = c.dated.0 in omega (arith, signed_arith) in
    let days = days_in_month_bounds (pos (civil n).year) (civil n).month in
    let month : (civil n).month < 100 = let m = c.dated.1 in omega arith in
    let day : (civil n).day < 100 = let d = c.dated.2 in omega arith in
    let test : is_date (civil n).year (civil n).month (civil n).day ≡ true = date_test (civil n).month (civil n).day (days_in_month (pos (civil n).year) (civil n).month) c.dated.1 c.dated.2 in
    record {
      parts = date_read (civil n).year (civil n).month (civil n).day year month day;
      dated = test;
      day = ap (λ b. cond b (read_day (days_from_civil (pos (civil n).year) (civil n).month (civil n).day)) (Err NoSuchDate)) test ∙ ap read_day c.number ∙ day_in_range n low high;
    }

-- a day is read from its text, and from no other
pub day_texts : (text : List ℕ) (n : ℕ) → (day_at text ≡ Ok n) ↔ ((10959 ≤ n) × (n ≤ 47481) × (text ≡ day_text n))
day_texts text n = (there, back) where
  there : day_at text ≡ Ok n → (10959 ≤ n) × (n ≤ 47481) × (text ≡ day_text n)
  there h = let has = has_day (date_at text) n h in day_back text has.parts n has.is has.day

  back : (10959 ≤ n) × (n ≤ 47481) × (text ≡ day_text n) → day_at text ≡ Ok n
  back h = let w = day_written n h.0 h.1 in ap day_at h.2 ∙ ap day_of_parts w.parts ∙ w.day

-- ---- minutes

-- the day and the time that make up a minute
record HasTime (date : Option DateParts) (hours minutes : Option ℕ) (n : ℕ) : Type 0 where
  parts : DateParts
  day : ℕ
  hour : ℕ
  minute : ℕ
  date_is : date ≡ Some parts
  hour_is : hours ≡ Some hour
  minute_is : minutes ≡ Some minute
  day_is : day_of_date parts.year parts.month parts.day ≡ Ok day
  early : hour < 24
  within : minute < 60
  number : 1440 * day + 60 * hour + minute ≡ n

-- the day was read, and the minute n is at this time of it
record OfDay (r : Result ℕ TimeFault) (hour minute n : ℕ) : Type 0 where
  day : ℕ
  is : r ≡ Ok day
  number : 1440 * day + 60 * hour + minute ≡ n

-- if a minute was found, the day was read
of_day : (r : Result ℕ TimeFault) (hour minute n : ℕ) → minute_of_day r hour minute ≡ Ok n → OfDay r hour minute n
of_day (Ok day) hour minute n h = record { day = day; is = refl; number = same_ok (1440 * day + 60 * hour + minute) n h }
of_day (Err fault) hour minute n h = cc

-- the test of an hour and a minute
time_is : (dated : Bool) (hour minute : ℕ) → dated && is_time hour minute ≡ true → (hour < 24) × (minute < 60)
time_is true hour minute t = (grind (arith, nat_tests), grind (arith, nat_tests))
time_is false hour minute t = cc

-- if a minute was found, its date and its time are present
has_time : (date : Option DateParts) (hours minutes : Option ℕ) (n : ℕ) → minute_of_parts date hours minutes ≡ Ok n → HasTime date hours minutes n
has_time (Some p) (Some hour) (Some minute) n h =
    let dated = is_date p.year p.month p.day in
    let test = ok_if (dated && is_time hour minute) (minute_of_day (day_of_date p.year p.month p.day) hour minute) NoSuchDate n h in
    let of = of_day (day_of_date p.year p.month p.day) hour minute n test.1 in
    let time = time_is dated hour minute test.0 in
    record { parts = p; day = of.day; hour = hour; minute = minute; date_is = refl; hour_is = refl; minute_is = refl; day_is = of.is; early = time.0; within = time.1; number = of.number }
has_time (Some p) (Some hour) None n h = cc
has_time (Some p) None minutes n h = cc
has_time None hours minutes n h = cc

-- the parts of a minute with the separators between them
abbrev with_time : List ℕ → List ℕ → List ℕ → List ℕ
with_time date hour minute = date ++ 32 ∷ (hour ++ 58 ∷ minute)

-- a text of sixteen bytes consists of its parts and separators
sixteen_parts : (text : List ℕ) → length text ≡ 16 → slice_index text 10 ≡ 32 → slice_index text 13 ≡ 58 → text ≡ with_time (take 10 text) (take 2 (drop 11 text)) (drop 14 text)
sixteen_parts text len blank colon =
    piece text 0 10 32 (omega arith) blank ∙ ap (λ l. take 10 text ++ 32 ∷ l) (piece text 11 2 58 (omega arith) colon)

-- a text that is read as a minute is the text of that minute
minute_back : (text : List ℕ) (n : ℕ) → length text ≡ 16 → slice_index text 10 ≡ 32 → slice_index text 13 ≡ 58 → HasTime (date_at (take 10 text)) (digits_at (take 2 (drop 11 text))) (digits_at (drop 14 text)) n → (15780960 ≤ n) × (n ≤ 68374079) × (text ≡ minute_text n)
minute_back text n len blank colon t =
    let behind = length-drop 11 text in
    let last = length-drop 14 text in
    let date = day_back (take 10 text) t.parts t.day t.date_is t.day_is in
    let hour = pair_spelled (take 2 (drop 11 text)) t.hour (length-take-le 2 (drop 11 text) (omega arith)) t.hour_is in
    let minute = pair_spelled (drop 14 text) t.minute (omega arith) t.minute_is in
    let number = t.number in
    let early = t.early in
    let within = t.within in
    let of_days : t.day ≡ n / 1440 = omega arith in
    let hours : t.hour ≡ n % 1440 / 60 = omega arith in
    let minutes : t.minute ≡ n % 60 = omega arith in (
      omega (arith, date.0),
      omega (arith, date.1),
      sixteen_parts text len blank colon
          ∙ ap (λ l. with_time l (take 2 (drop 11 text)) (drop 14 text)) (date.2 ∙ ap day_text of_days)
          ∙ ap (λ l. with_time (day_text (n / 1440)) l (drop 14 text)) (hour.0 ∙ ap two_digits hours)
          ∙ ap (λ l. with_time (day_text (n / 1440)) (two_digits (n % 1440 / 60)) l) (minute.0 ∙ ap two_digits minutes),
    )

-- an hour below 24 and a minute below 60 pass the test
time_test : (hour minute : ℕ) → hour < 24 → minute < 60 → is_time hour minute ≡ true
time_test hour minute early within = grind (arith, nat_tests)

-- a date that has a day, with a time of day, is read as a minute
parts_read : (p : DateParts) (day hour minute : ℕ) → is_date p.year p.month p.day ≡ true → day_of_date p.year p.month p.day ≡ Ok day → hour < 24 → minute < 60 → minute_of_parts (Some p) (Some hour) (Some minute) ≡ Ok (1440 * day + 60 * hour + minute)
parts_read p day hour minute dated is early within =
    let time = time_test hour minute early within in
    ap (λ b. cond (b && is_time hour minute) (minute_of_day (day_of_date p.year p.month p.day) hour minute) (Err NoSuchDate)) dated
    ∙ ap (λ b. cond b (minute_of_day (day_of_date p.year p.month p.day) hour minute) (Err NoSuchDate)) time
    ∙ ap (λ (r : Result ℕ TimeFault). minute_of_day r hour minute) is

-- the text of a minute in range is read as that minute
minute_written : (n : ℕ) → 15780960 ≤ n → n ≤ 68374079 → minute_at (minute_text n) ≡ Ok n
minute_written n low high =
    let day = n / 1440 in
    let hour = n % 1440 / 60 in
    let minute = n % 60 in
    let w = day_written day (omega arith) (omega arith) in
    ap (λ (o : Option DateParts). minute_of_parts o (digits_at (two_digits hour)) (digits_at (two_digits minute))) w.parts
    ∙ ap (λ (o : Option ℕ). minute_of_parts (Some (civil_parts day)) o (digits_at (two_digits minute))) (pair_read hour (omega arith))
    ∙ ap (λ (o : Option ℕ). minute_of_parts (Some (civil_parts day)) (Some hour) o) (pair_read minute (omega arith))
    ∙ parts_read (civil_parts day) day hour minute w.dated w.day (omega arith) (omega arith)
    ∙ ap (λ (k : ℕ). Ok k) (omega arith)

-- a minute is read from its text, and from no other
pub minute_texts : (text : List ℕ) (n : ℕ) → (minute_at text ≡ Ok n) ↔ ((15780960 ≤ n) × (n ≤ 68374079) × (text ≡ minute_text n))
minute_texts text n = (there, back) where
  there : minute_at text ≡ Ok n → (15780960 ≤ n) × (n ≤ 68374079) × (text ≡ minute_text n)
  there h =
      let read = minute_of_parts (date_at (take 10 text)) (digits_at (take 2 (drop 11 text))) (digits_at (drop 14 text)) in
      let test = ok_if _ read Shape n h in
      let shape = shape_is (length text) 16 (slice_index text 10) 32 (slice_index text 13) 58 test.0 in
      minute_back text n shape.0 shape.1 shape.2 (has_time (date_at (take 10 text)) (digits_at (take 2 (drop 11 text))) (digits_at (drop 14 text)) n test.1)

  back : (15780960 ≤ n) × (n ≤ 68374079) × (text ≡ minute_text n) → minute_at text ≡ Ok n
  back h = ap minute_at h.2 ∙ minute_written n h.0 h.1

-- ---- months

-- the year and the month of the year that make up a month
record HasMonth (years months : Option ℕ) (n : ℕ) : Type 0 where
  year : ℕ
  month : ℕ
  year_is : years ≡ Some year
  month_is : months ≡ Some month
  low : 2000 ≤ year
  high : year ≤ 2099
  first : 1 ≤ month
  last : month ≤ 12
  number : 12 * year + (month - 1) ≡ n

-- the test of a range passes exactly for the numbers in it
between : (low n high : ℕ) → nat_le low n && nat_le n high ≡ true → (low ≤ n) × (n ≤ high)
between low n high t = (grind (arith, nat_tests), grind (arith, nat_tests))

between_test : (low n high : ℕ) → low ≤ n → n ≤ high → nat_le low n && nat_le n high ≡ true
between_test low n high l h = grind (arith, nat_tests)

-- if a month was found, its year and its month of the year are present
has_month : (years months : Option ℕ) (n : ℕ) → month_of_parts years months ≡ Ok n → HasMonth years months n
has_month (Some year) (Some month) n h =
    let dated = ok_if (is_month month) (cond (nat_le 2000 year && nat_le year 2099) (Ok (month_number year month)) (Err OutOfRange)) NoSuchDate n h in
    let ranged = ok_if (nat_le 2000 year && nat_le year 2099) (Ok (month_number year month)) OutOfRange n dated.1 in
    let of_year = between 1 month 12 dated.0 in
    let years = between 2000 year 2099 ranged.0 in
    record { year = year; month = month; year_is = refl; month_is = refl; low = years.0; high = years.1; first = of_year.0; last = of_year.1; number = same_ok (month_number year month) n ranged.1 }
has_month (Some year) None n h = cc
has_month None months n h = cc

-- a text that is read as a month is the text of that month
month_back : (text : List ℕ) (n : ℕ) → length text ≡ 7 → slice_index text 4 ≡ 45 → HasMonth (digits_at (take 4 text)) (digits_at (drop 5 text)) n → (24000 ≤ n) × (n < 25200) × (text ≡ month_text n)
month_back text n len sign t =
    let behind = length-drop 5 text in
    let year = four_spelled (take 4 text) t.year (length-take-le 4 text (omega arith)) t.year_is in
    let month = pair_spelled (drop 5 text) t.month (omega arith) t.month_is in
    let low = t.low in
    let high = t.high in
    let first = t.first in
    let last = t.last in
    let number = t.number in
    let years : t.year ≡ n / 12 = omega arith in
    let months : t.month ≡ n % 12 + 1 = omega arith in (
      omega arith,
      omega arith,
      piece text 0 4 45 (omega arith) sign
          ∙ ap (λ l. l ++ 45 ∷ drop 5 text) (year.0 ∙ ap (λ (y : ℕ). two_digits (y / 100) ++ two_digits (y % 100)) years)
          ∙ ap (λ l. (two_digits (n / 12 / 100) ++ two_digits (n / 12 % 100)) ++ 45 ∷ l) (month.0 ∙ ap two_digits months),
    )

-- the text of a month in range is read as that month
month_written : (n : ℕ) → 24000 ≤ n → n < 25200 → month_at (month_text n) ≡ Ok n
month_written n low high =
    let year = n / 12 in
    let month = n % 12 + 1 in
    let number : month_number year month ≡ n = omega arith in
    ap (λ (o : Option ℕ). month_of_parts o (digits_at (two_digits month))) (four_read year (omega arith))
    ∙ ap (λ (o : Option ℕ). month_of_parts (Some year) o) (pair_read month (omega arith))
    ∙ ap (λ b. cond b (cond (nat_le 2000 year && nat_le year 2099) (Ok (month_number year month)) (Err OutOfRange)) (Err NoSuchDate)) (between_test 1 month 12 (omega arith) (omega arith))
    ∙ ap (λ b. cond b (Ok (month_number year month)) (Err OutOfRange)) (between_test 2000 year 2099 (omega arith) (omega arith))
    ∙ ap (λ (k : ℕ). Ok k) number

-- the test of a length and a separator
month_shape : (len size a x : ℕ) → (len == size) && (a == x) ≡ true → (len ≡ size) × (a ≡ x)
month_shape len size a x t = (grind (arith, nat_tests), grind (arith, nat_tests))

-- a month is read from its text, and from no other
pub month_texts : (text : List ℕ) (n : ℕ) → (month_at text ≡ Ok n) ↔ ((24000 ≤ n) × (n < 25200) × (text ≡ month_text n))
month_texts text n = (there, back) where
  there : month_at text ≡ Ok n → (24000 ≤ n) × (n < 25200) × (text ≡ month_text n)
  there h =
      let test = ok_if _ (month_of_parts (digits_at (take 4 text)) (digits_at (drop 5 text))) Shape n h in
      let shape = month_shape (length text) 7 (slice_index text 4) 45 test.0 in
      month_back text n shape.0 shape.1 (has_month (digits_at (take 4 text)) (digits_at (drop 5 text)) n test.1)

  back : (24000 ≤ n) × (n < 25200) × (text ≡ month_text n) → month_at text ≡ Ok n
  back h = ap month_at h.2 ∙ month_written n h.0 h.1
