-- Reading days with jiff's dates.
use Rattle.std.proofs.Common.{◌≡◌, ◌-◌, ℕ, ◌<◌, ◌&&◌, true, false, cond, nat_le, List, length, take, drop, slice_index, Some, ℤ, pos, negsuc, unsigned_abs, Ok, Err, refl, sym, ap, ◌∙◌, subst, arith, w8, w16, w32, to_z, of_z, FitsSigned}
use Rattle.std.proofs.lemmas.Int.{to_z_pos, to_z-of_z, ints}
use Rattle.std.proofs.lemmas.Bool.Decides.{nat_tests}
use Rattle.std.proofs.lemmas.List.{take_rest}
use Rattle.std.specs.Int.{IsInRange}
use Rattle.std.specs.Int.Signed.{lt_z}
use Rattle.jiff_core.proofs.SignedLemmas.{signed_arith}
use Rattle.jiff_core.specs.declared.civil.date.Date.{Date}
use Rattle.jiff_core.specs.Calendar.{days_in_month, days_from_civil, IsEpochDay}
use Rattle.jiff_core.specs.Date.{IsYmd, epoch_day}
use Rattle.tacho_time.specs.declared.fault.TimeFault.TheVariants.{OutOfRange, NoSuchDate}
use Rattle.tacho_time.specs.declared.read.DateParts.{DateParts}
use Rattle.tacho_time.specs.Reading.{digits_at, date_at, is_date, read_day, day_of_date, minute_of_parts, minute_at}

-- a month and a day that the calendar has pass the test
pub date_test : (m d k : ℕ) → IsInRange 1 12 m → IsInRange 1 k d → nat_le 1 m && nat_le m 12 && nat_le 1 d && nat_le d k ≡ true
date_test m d k hm hd = grind (arith, nat_tests)

-- natural numbers that are equal as integers are equal
pub same_number : (a b : ℕ) → pos a ≡ pos b → a ≡ b
same_number a b h = cc

-- three numbers for which jiff has a date are read as that date's day
pub dated : (y m d : ℕ) (date : Date) (z : ℤ) → y < 10000 → m < 100 → d < 100 → IsYmd (to_z w16 y) (to_z w8 m) (to_z w8 d) date → z ≡ epoch_day date → day_of_date y m d ≡ read_day z
dated y m d date z hy hm hd h number =
    let ey : date.year ≡ pos y = h.0 ∙ to_z_pos w16 y (omega arith) in
    let em : date.month ≡ m = same_number _ _ (h.1 ∙ to_z_pos w8 m (omega arith)) in
    let ed : date.day ≡ d = same_number _ _ (h.2 ∙ to_z_pos w8 d (omega arith)) in
    let month : IsInRange 1 12 m = subst (IsInRange 1 12) em date.month_in in
    let k : date.day ≡ d → IsInRange 1 (days_in_month (pos y) m) d = λ e. subst (λ (x : ℕ). IsInRange 1 (days_in_month (pos y) m) x) e (subst (λ (x : ℕ). IsInRange 1 (days_in_month (pos y) x) date.day) em (subst (λ (x : ℤ). IsInRange 1 (days_in_month x date.month) date.day) ey date.day_in)) in
    let t : is_date y m d ≡ true = date_test m d (days_in_month (pos y) m) month (k ed) in
    let n : days_from_civil (pos y) m d ≡ z = sym (number ∙ ap (λ (x : ℤ). days_from_civil x date.month date.day) ey ∙ ap (λ (x : ℕ). days_from_civil (pos y) x date.day) em ∙ ap (days_from_civil (pos y) m) ed) in
    ap (λ b. cond b (read_day (days_from_civil (pos y) m d)) (Err NoSuchDate)) t ∙ ap read_day n

-- a day before the first one that can be read
pub below_range : (z : ℤ) → lt_z z (pos 10959) ≡ true → read_day z ≡ Err OutOfRange
below_range (pos n) h = grind (arith, ints, nat_tests)
below_range (negsuc n) h = refl

-- a day after the last one that can be read
pub above_range : (z : ℤ) → lt_z (pos 47481) z ≡ true → read_day z ≡ Err OutOfRange
above_range (pos n) h = grind (arith, ints, nat_tests)
above_range (negsuc n) h = refl

-- a day between these two
pub within_range : (z : ℤ) → lt_z z (pos 10959) ≡ false → lt_z (pos 47481) z ≡ false → read_day z ≡ Ok (unsigned_abs z)
within_range (pos n) h g = grind (arith, ints, nat_tests)
within_range (negsuc n) h g = cc

-- a day number fits 32 bits
pub back : (z : ℤ) → IsEpochDay z → to_z w32 (of_z w32 z) ≡ z
back z h = let f : FitsSigned w32 z = omega (arith, signed_arith) in to_z-of_z w32 z f

-- a text that has the shape of a minute is read by its parts
pub minute_parts : (text : List ℕ) (date : DateParts) (hour minute : ℕ) → length text ≡ 16 → slice_index text 10 ≡ 32 → slice_index text 13 ≡ 58 → date_at (take 10 text) ≡ Some date → digits_at (take 2 (drop 11 text)) ≡ Some hour → digits_at (take (length text - 14) (drop 14 text)) ≡ Some minute → minute_at text ≡ minute_of_parts (Some date) (Some hour) (Some minute)
minute_parts text date hour minute len blank colon d h m = rw (len, blank, colon, d, h, ← take_rest text 14, m)
