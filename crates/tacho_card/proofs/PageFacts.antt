-- Values that the page on the card prints, by computation: marks of words, and bytes that have each fault.
use Rattle.std.proofs.Common.{◌≡◌, ℕ, ◌+◌, ◌-◌, ◌*◌, ◌≤◌, inl, inr, cond, nat_lt, List, [], ◌∷◌, ◌++◌, codes, false, Option, None, Some, Result, Ok, Err, refl, ap, arith}
use Rattle.tacho_time.specs.declared.span.Activity.TheVariants.{Rest, Work, Drive}
use Rattle.tacho_time.specs.declared.span.Mark.{Mark}
use Rattle.tacho_time.specs.declared.span.Span.{Span}
use Rattle.tacho_time.specs.Spans.{Gives}
use Rattle.tacho_card.specs.declared.fault.CardFault.{CardFault}
use Rattle.tacho_card.specs.declared.fault.CardFault.TheVariants as fault
use Rattle.tacho_card.specs.declared.file.Part.TheVariants.{Both}
use Rattle.tacho_card.specs.ActivityChangeInfo.{time_of, mark_of}
use Rattle.tacho_card.specs.DriverActivity.{DriverActivity, driver_activity}
use Rattle.tacho_card.specs.DailyRecord.{words_fault, record_at}
use Rattle.tacho_card.specs.Chain.{chain_from, chain, fault_of}
use Rattle.tacho_card.specs.Reading.{IsReading}
use Rattle.tacho_card.specs.RawSpans.{words_spans, prepend_spans, items_spans, activity_spans}
use Rattle.tacho_card.proofs.GivesLemmas.{raw_none, raw_more}
use Rattle.tacho_card.specs.CardFile.{blocks_from, blocks_of, blocks_or_none, card_file, chosen_activity}

-- ---- words

-- 19e0: card in, single, driving, from 08:00 on
in_single : mark_of 0x19e0 ≡ Some (record { activity = Drive; crew = false })
in_single = refl

from_eight : time_of 0x19e0 ≡ 480
from_eight = refl

-- card out, entered by hand; card out, unknown
by_hand : mark_of 0x6000 ≡ Some (record { activity = Rest; crew = false })
by_hand = refl

unknown : mark_of 0x2000 ≡ None
unknown = refl

-- ---- files

-- the bytes that lower-case hexadecimal digits spell
abbrev digit : ℕ → ℕ
digit c = cond (nat_lt c 58) (c - 48) (c - 87)

abbrev bytes : List ℕ → List ℕ
bytes [] = []
bytes (high ∷ []) = []
bytes (high ∷ low ∷ digits) = (16 * digit high + digit low) ∷ bytes digits

-- an identification of kind 00
abbrev identified : List ℕ
identified = codes "05200000110d44313233343536373839303132333030"

c1 : card_file (bytes (identified ++ codes "05040100")) ≡ Err (fault.Truncated 22)
unfolding blocks_from
c1 = refl

c2 : card_file (bytes (identified ++ identified)) ≡ Err (fault.Twice 0x0520 0)
unfolding blocks_from
c2 = refl

c3 : card_file [] ≡ Err fault.NoIdentification
unfolding blocks_from
c3 = refl

c4 : card_file (bytes (codes "05200000100d443132333435363738393031323330")) ≡ Err fault.ShortIdentification
unfolding blocks_from
c4 = refl

c5 : card_file (bytes (identified ++ codes "05200200110d44313233343536373839303132343030")) ≡ Err fault.TwoCards
unfolding blocks_from
c5 = refl

c6 : chosen_activity Both (blocks_or_none (blocks_of (bytes identified))) ≡ Err fault.NoActivity
unfolding blocks_from
c6 = refl

-- ---- activity data

-- the first fault of a value's bytes, except C14
abbrev fault_in : Result DriverActivity CardFault → Option CardFault
fault_in (Err f) = Some f
fault_in (Ok block) = fault_of (chain block)

abbrev fault_of_value : List ℕ → Option CardFault
fault_of_value digits = fault_in (driver_activity (bytes digits))

c7 : fault_of_value (codes "000000000000000000000000000000") ≡ Some fault.ShortActivity
unfolding chain_from record_at words_fault
c7 = refl

c8 : fault_of_value (codes "000c0000000000000000000000000000") ≡ Some fault.Pointer
unfolding chain_from record_at words_fault
c8 = refl

c9 : fault_of_value (codes "000000000000000d0000000000000000") ≡ Some (fault.RecordLength 0)
unfolding chain_from record_at words_fault
c9 = refl

c10 : fault_of_value (codes "000000020000001465e50f0000010064000011e019fe23fc0014001065e6608000020000000011e0") ≡ Some (fault.Chain 0)
unfolding chain_from record_at words_fault
c10 = refl

c11 : fault_of_value (codes "0000000000000010000000000001000000001000") ≡ Some (fault.DayRange 0)
unfolding chain_from record_at words_fault
c11 = refl

c12 : fault_of_value (codes "000000000000001065e50f0000010000000005a0") ≡ Some (fault.WordMinute 14)
unfolding chain_from record_at words_fault
c12 = refl

c13 : fault_of_value (codes "000000000000001265e50f0000010000000011fe19e0") ≡ Some (fault.WordOrder 16)
unfolding chain_from record_at words_fault
c13 = refl

-- ---- C14: two records of the same day, one resting and one driving from its midnight on

abbrev twice : DriverActivity
twice = record { oldest = 0; newest = 16; buffer = bytes (codes "0000001065e50f0000010000000011e00010001065e50f0000020000180011e0") }

its_value : driver_activity (bytes (codes "000000100000001065e50f0000010000000011e00010001065e50f0000020000180011e0")) ≡ Ok twice
its_value = refl

-- midnight, and what the records give
abbrev midnight : ℕ
midnight = 28491840

abbrev rest : Mark
rest = record { activity = Rest; crew = false }

abbrev drive : Mark
drive = record { activity = Drive; crew = false }

abbrev given : List Span
given =
    record { start = midnight; past = 28492320; mark = rest }
    ∷ record { start = 28492320; past = 28493280; mark = record { activity = Work; crew = false } }
    ∷ record { start = midnight; past = 28492320; mark = drive }
    ∷ []

its_spans : prepend_spans [] (activity_spans twice) ≡ Ok given
unfolding chain_from record_at words_fault words_spans items_spans
its_spans = refl

-- nothing is given before midnight
from_midnight : (m : ℕ) (mark : Mark) → Gives given m mark → midnight ≤ m
from_midnight m mark (inl h) = h.0.0
from_midnight m mark (inr (inl h)) = let late = h.0.0 in omega arith
from_midnight m mark (inr (inr (inl h))) = h.0.0
from_midnight m mark (inr (inr (inr h))) = absurd h

two_marks : rest ≡ drive → ⊥
two_marks e = let no : Rest ≡ Drive = ap (λ (mark : Mark). mark.activity) e in cc

c14 : IsReading (twice ∷ []) (Err (fault.SelfContradiction midnight))
c14 =
    let raw = raw_more [] twice [] given raw_none its_spans in
    let same = λ (m : ℕ) (mark : Mark). raw.1 m mark in
    let first : Gives given midnight rest = inl ((omega arith, omega arith), refl) in
    let second : Gives given midnight drive = inr (inr (inl ((omega arith, omega arith), refl))) in
    inr (
      raw.0,
      (
        midnight,
        refl,
        (
          (rest, drive, (same midnight rest).0 first, (same midnight drive).0 second, two_marks),
          λ m early c. let late = from_midnight m c.0 ((same m c.0).1 c.2) in absurd (omega arith),
        ),
      ),
    )
