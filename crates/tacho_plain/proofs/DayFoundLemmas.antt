-- What a loop over duty days finds, with at most one breach for each day: short daily rests, and days of long driving (`days`).
use Rattle.std.proofs.Common.{◌≡◌, ℕ, ◌+◌, ◌<◌, ◌≤◌, inl, inr, List, [], ◌∷◌, ◌++◌}
use Rattle.std.proofs.Common.{length, get_or, take, sym, subst, ◌∙◌, arith, min}
use Rattle.std.specs.List.{AllPairs, Contains}
use Rattle.std.proofs.lemmas.Bool.{cases_lt}
use Rattle.std.proofs.lemmas.List.{take_more, take_all}
use Rattle.tacho_law.specs.declared.days.DutyDay.{DutyDay}
use Rattle.tacho_law.specs.declared.breach.Breach.{Breach}
use Rattle.tacho_law.specs.declared.breach.Kind.{Kind}
use Rattle.tacho_law.specs.declared.breach.Kind.TheVariants.{B2, B4}
use Rattle.tacho_law.specs.Line.{Line}
use Rattle.tacho_law.specs.Days.{IsDuty, EarlierDay}
use Rattle.tacho_periods.specs.DutyDays.{AreDutyDays}
use Rattle.tacho_law.specs.Order.{Earlier, AreBreaches}
use Rattle.tacho_law.specs.Breaches.{IsB2, IsB4}
use Rattle.tacho_law.specs.Exactly.{AreExactly}
use Rattle.tacho_law.proofs.ExactlyLemmas.{OfSeen, seen_none, seen_skip, seen_add, exactly_as}
use Rattle.tacho_periods.proofs.KeptLemmas.{seen_before}
use Rattle.tacho_plain.specs.DayBreaches.{IsInTime}
use Rattle.tacho_plain.specs.DailyRests.{IsShortRest}
use Rattle.tacho_plain.specs.DailyDriving.{IsLongDay}
use Rattle.tacho_law.proofs.LongDrivingLemmas.{too_much_only}
use Rattle.tacho_law.proofs.OrderLemmas.{same_breach}

-- the result of an index past the end of the list
abbrev pub no_day : DutyDay
no_day = record { start = 0; past = 0; rest = record { start = 0; past = 0 } }

-- the breaches of the days that were seen
abbrev pub DayFound : (DutyDay → Breach → Type 0) → List DutyDay → List Breach → Type 0
DayFound P seen found = AreExactly (OfSeen P seen) Earlier found

-- a day has at most one breach, and its moment is within the day or its rest
pub record IsOfDays (P : DutyDay → Breach → Type 0) : Type 0 where
  pub only : (day : DutyDay) (a b : Breach) → P day a → P day b → a ≡ b
  pub from : (day : DutyDay) (b : Breach) → P day b → day.start ≤ b.moment
  pub until : (day : DutyDay) (b : Breach) → P day b → b.moment < day.rest.past

module _ (P : DutyDay → Breach → Type 0) (is : IsOfDays P) where
  -- before the first day
  pub found_none : DayFound P [] []
  found_none = seen_none P Earlier

  module _ (xs : List DutyDay) (i : ℕ) (within : i < length xs) (order : AllPairs EarlierDay xs)
      (found : List Breach) (r : DayFound P (take i xs) found) where
    -- the day at i has a breach
    pub found_add_at : (new : Breach) → P (get_or xs i no_day) new → DayFound P (take (i + 1) xs) (found ++ new ∷ [])
    found_add_at new p =
        rw (take_more xs i no_day within)
        (seen_add P Earlier (take i xs) found (get_or xs i no_day)
        new r p (λ b q. is.only (get_or xs i no_day) new b p q)
        (λ x b in' q.
        (let before : x.rest.past ≤ (get_or xs i no_day).start =
        seen_before DutyDay EarlierDay (λ y. IsInTime y) xs i no_day within order x in' in
        let a : b.moment < x.rest.past = is.until x b q in
        let c : (get_or xs i no_day).start ≤ new.moment = is.from (get_or xs i no_day) new p in
        inl (omega arith))))

    -- the day at i has no breach
    pub found_skip_at : ((b : Breach) → P (get_or xs i no_day) b → ⊥) → DayFound P (take (i + 1) xs) found
    found_skip_at none =
        rw (take_more xs i no_day within) (seen_skip P Earlier (take i xs) found (get_or xs i no_day) r none)

  -- after the last day, these are all breaches
  pub found_exactly : (Q : Breach → Type 0) (xs : List DutyDay) (i : ℕ) (found : List Breach)
      → length xs ≤ i → DayFound P (take i xs) found
      → ((day : DutyDay) (b : Breach) → P day b → Q b)
      → ((b : Breach) → Q b → (day : DutyDay) × Contains xs day × P day b) → AreBreaches Q found
  found_exactly Q xs i found most r to back =
      let all : DayFound P xs found = subst (λ (seen : List DutyDay). DayFound P seen found) (take_all i xs most) r in
      exactly_as (OfSeen P xs) Q Earlier found
      (λ b. (λ h. to h.item b h.of, λ q. let (x, in', h) = back b q in record { item = x; among = in'; of = h }))
      all

-- the breach of a duty day's short rest
abbrev pub ShortOf : Line → DutyDay → Breach → Type 0
ShortOf line day breach = IsDuty line day × IsInTime day × IsShortRest day breach

-- a day has at most one such breach
pub short_is : (line : Line) → IsOfDays (ShortOf line)
short_is line = record {
  only = λ day a b (d, t, p) (d', t', q). same_breach a b (p.kind ∙ sym q.kind)
      (p.moment ∙ sym q.moment) (p.since ∙ sym q.since)
      (
      let e : a.amount + min day.rest.past (day.start + 1440) ≡ 540 + day.past = p.amount in
      let f : b.amount + min day.rest.past (day.start + 1440) ≡ 540 + day.past = q.amount in
      omega arith);
  from = λ day b (d, t, p). (let e : b.moment ≡ day.start + 900 = p.moment in omega arith);
  until = λ day b (d, t, p).
      (let e : b.moment ≡ day.start + 900 = p.moment in
      let r : day.past + 540 ≤ day.rest.past = t.enough in
      elim (cases_lt b.moment day.rest.past) [
        | inl lt ↦ lt
        | inr ge ↦ absurd (p.short (omega arith))
      ]);
}

-- it is a breach of B2
pub short_to : (line : Line) (day : DutyDay) (b : Breach) → ShortOf line day b → (b.kind ≡ B2) × IsB2 line b
short_to line day b (d, t, p) =
    (p.kind, record { day = day; duty = d; short = p.short; moment = p.moment; since = p.since; amount = p.amount })

-- each breach of B2 is that of some duty day
pub short_back : (line : Line) (days : List DutyDay) → AreDutyDays line days
    → ((x : DutyDay) → Contains days x → IsInTime x) → (b : Breach)
    → (b.kind ≡ B2) × IsB2 line b → (day : DutyDay) × Contains days day × ShortOf line day b
short_back line days are times b (k, h) =
    let in' : Contains days h.day = (are.each h.day).1 h.duty in (
      h.day,
      in',
      (
        h.duty,
        times h.day in',
        record { kind = k; short = h.short; moment = h.moment; since = h.since; amount = h.amount },
      ),
    )

-- the breach B4 of a duty day
abbrev pub B4Of : Line → DutyDay → Breach → Type 0
B4Of line day breach = IsDuty line day × IsInTime day × IsLongDay line B4 600 day breach

-- its moment is before the day's rest ends
pub long_before : (line : Line) (kind : Kind) (limit : ℕ) (day : DutyDay) (b : Breach)
    → IsInTime day → IsLongDay line kind limit day b → b.moment < day.rest.past
long_before line kind limit day b t p =
    let m : b.moment < day.past = p.over.moment.below in
    let r : day.past + 540 ≤ day.rest.past = t.enough in
    omega arith

-- a day has at most one such breach
pub b4_is : (line : Line) → IsOfDays (B4Of line)
b4_is line = record {
  only = λ day a b (d, t, p) (d', t', q). too_much_only line B4 600 day.start day.past a b p q;
  from = λ day b (d, t, p). p.over.moment.above;
  until = λ day b (d, t, p). long_before line B4 600 day b t p;
}

-- it is a breach of B4
pub b4_to : (line : Line) (day : DutyDay) (b : Breach) → B4Of line day b → (b.kind ≡ B4) × IsB4 line b
b4_to line day b (d, t, p) = (p.kind_is, record { day = day; duty = d; over = p.over; since = p.since })

-- each breach of B4 is that of some duty day
pub b4_back : (line : Line) (days : List DutyDay) → AreDutyDays line days
    → ((x : DutyDay) → Contains days x → IsInTime x) → (b : Breach)
    → (b.kind ≡ B4) × IsB4 line b → (day : DutyDay) × Contains days day × B4Of line day b
b4_back line days are times b (k, h) =
    let in' : Contains days h.day = (are.each h.day).1 h.duty in
    (h.day, in', (h.duty, times h.day in', record { kind_is = k; over = h.over; since = h.since }))
