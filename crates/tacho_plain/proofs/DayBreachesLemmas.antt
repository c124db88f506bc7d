-- The breaches of daily rests and of a day's driving are together those of the rules on days (`days`).
use Rattle.std.proofs.Common.{◌≡◌, ◌≢◌, ℕ, ◌+◌, ◌-◌, ◌<◌, ◌≤◌, ◌⊎◌, inl, inr, List, ◌++◌}
use Rattle.std.proofs.Common.{length, get_or, length-append, refl, sym, ap, subst, ◌∙◌, arith}
use Rattle.std.specs.Prelude.{◌↔◌}
use Rattle.std.specs.List.{All, AllPairs, Contains}
use Rattle.std.proofs.lemmas.Bool.{cases_lt}
use Rattle.std.proofs.lemmas.List.{get_or_append_left, get_or-append_right}
use Rattle.std.proofs.lemmas.List.Elements.{Contains-append_left, Contains-append_right}
use Rattle.std.proofs.lemmas.List.Elements.{Contains-append_cases, Contains-get_or}
use Rattle.tacho_time.specs.declared.span.Activity.TheVariants.{Rest}
use Rattle.tacho_time.specs.declared.span.Span.{Span}
use Rattle.tacho_law.specs.declared.days.DutyDay.{DutyDay}
use Rattle.tacho_law.specs.declared.breach.Breach.{Breach}
use Rattle.tacho_law.specs.declared.breach.Kind.{Kind}
use Rattle.tacho_law.specs.declared.breach.Kind.TheVariants.{B1, B2, B3, B4, B5, B6, B7, B8, B9, B10}
use Rattle.tacho_law.specs.Line.{line_of, IsExamined, Line}
use Rattle.tacho_law.specs.Runs.{minutes_of}
use Rattle.tacho_law.specs.Days.{IsDuty}
use Rattle.tacho_periods.specs.DutyDays.{AreDutyDays}
use Rattle.tacho_law.specs.Order.{Agree, Earlier, AreBreaches, place_of_kind}
use Rattle.tacho_law.specs.SoFar.{AreCollected}
use Rattle.tacho_law.specs.Breaches.{AreDayBreaches, IsDayBreach, IsB2, IsB3, IsB4, IsB5}
use Rattle.tacho_law.proofs.RunsLemmas.{line_before}
use Rattle.tacho_plain.specs.DayBreaches.{IsInTime, AreTheDays, IsRestKind, IsDriveKind}
use Rattle.tacho_law.proofs.DrivingLemmas.{line_from_past}

-- a breach that is ordered before another has a different place
apart_if : (a b : Breach) → Earlier a b → Agree a b → ⊥
apart_if a b h g =
    let m : a.moment ≡ b.moment = g.moment in
    let k : place_of_kind a.kind ≡ place_of_kind b.kind = ap place_of_kind g.kind in
    let s : a.since ≡ b.since = g.since in
    elim h [
      | inl sooner ↦ omega arith
      | inr same ↦ elim same.1 [
        | inl kind ↦ omega arith
        | inr since ↦ let l : a.since < b.since = since.1 in omega arith
      ]
    ]

-- breaches in order have different places
pub all_of : (P : Breach → Type 0) (found : List Breach) → AreBreaches P found → AreCollected P found
all_of P found h = record {
  each = h.each;
  in_order = λ i j d below within. apart_if (get_or found i d) (get_or found j d) (h.in_order i j d below within);
}

module _ (P Q : Breach → Type 0) (xs ys : List Breach) (p : AreCollected P xs)
    (q : AreCollected Q ys) (differ : (a b : Breach) → P a → Q b → Agree a b → ⊥) where
  -- two breaches of the joined lists have different places
  join_apart : (i j : ℕ) (d : Breach) → i < j → j < length (xs ++ ys)
      → Agree (get_or (xs ++ ys) i d) (get_or (xs ++ ys) j d) → ⊥
  join_apart i j d below within g =
      let l : length (xs ++ ys) ≡ length xs + length ys = length-append xs ys in
      elim (cases_lt j (length xs)) [
        | inl lt ↦
            let e : get_or (xs ++ ys) i d ≡ get_or xs i d = get_or_append_left xs ys d i (omega arith) in
            let f : get_or (xs ++ ys) j d ≡ get_or xs j d = get_or_append_left xs ys d j lt in
            p.in_order i j d below lt
            (subst (λ (x : Breach). Agree x (get_or xs j d)) e
            (subst (λ (x : Breach). Agree (get_or (xs ++ ys) i d) x) f g))
        | inr ge ↦
            let f : get_or (xs ++ ys) j d ≡ get_or ys (j - length xs) d =
            get_or-append_right xs ys (length xs) j d refl ge in
            elim (cases_lt i (length xs)) [
              | inl lt ↦
                  let e : get_or (xs ++ ys) i d ≡ get_or xs i d = get_or_append_left xs ys d i lt in
                  differ (get_or xs i d) (get_or ys (j - length xs) d)
                  ((p.each (get_or xs i d)).0 (Contains-get_or xs i d lt))
                  ((q.each (get_or ys (j - length xs) d)).0 (Contains-get_or ys (j - length xs) d (omega arith)))
                  (subst (λ (x : Breach). Agree x (get_or ys (j - length xs) d)) e
                  (subst (λ (x : Breach). Agree (get_or (xs ++ ys) i d) x) f g))
              | inr ge' ↦
                  let e : get_or (xs ++ ys) i d ≡ get_or ys (i - length xs) d =
                  get_or-append_right xs ys (length xs) i d refl ge' in
                  q.in_order (i - length xs) (j - length xs) d (omega arith) (omega arith)
                  (subst (λ (x : Breach). Agree x (get_or ys (j - length xs) d)) e
                  (subst (λ (x : Breach). Agree (get_or (xs ++ ys) i d) x) f g))
            ]
      ]

  -- the joined lists are the breaches of either kind
  pub all_join : AreCollected (λ b. P b ⊎ Q b) (xs ++ ys)
  all_join = record {
    each = λ b. (
      λ h. elim (Contains-append_cases xs ys b h) [
        | inl left ↦ inl ((p.each b).0 left)
        | inr right ↦ inr ((q.each b).0 right)
      ],
      λ h. elim h [
        | inl left ↦ Contains-append_left xs ys b ((p.each b).1 left)
        | inr right ↦ Contains-append_right xs ys b ((q.each b).1 right)
      ],
    );
    in_order = join_apart;
  }

-- the breaches of the rules on daily rests
pub rests_join : (line : Line) (xs ys : List Breach) → AreBreaches (λ b. (b.kind ≡ B2) × IsB2 line b) xs
    → AreBreaches (λ b. (b.kind ≡ B3) × IsB3 line b) ys → AreCollected (IsRestKind line) (xs ++ ys)
rests_join line xs ys p q =
    all_join (λ b. (b.kind ≡ B2) × IsB2 line b) (λ b. (b.kind ≡ B3) × IsB3 line b) xs ys
    (all_of (λ b. (b.kind ≡ B2) × IsB2 line b) xs p) (all_of (λ b. (b.kind ≡ B3) × IsB3 line b) ys q)
    (λ a b (k, h) (k', h') g. (let e : B2 ≡ B3 = sym k ∙ (g.kind ∙ k') in cc))

-- the breaches of the rules on a day's driving
pub drives_join : (line : Line) (xs ys : List Breach) → AreBreaches (λ b. (b.kind ≡ B4) × IsB4 line b) xs
    → AreBreaches (λ b. (b.kind ≡ B5) × IsB5 line b) ys → AreCollected (IsDriveKind line) (xs ++ ys)
drives_join line xs ys p q =
    all_join (λ b. (b.kind ≡ B4) × IsB4 line b) (λ b. (b.kind ≡ B5) × IsB5 line b) xs ys
    (all_of (λ b. (b.kind ≡ B4) × IsB4 line b) xs p) (all_of (λ b. (b.kind ≡ B5) × IsB5 line b) ys q)
    (λ a b (k, h) (k', h') g. (let e : B4 ≡ B5 = sym k ∙ (g.kind ∙ k') in cc))

-- breaches of daily rests and of a day's driving have different kinds
kinds_differ : (line : Line) (a b : Breach) → IsRestKind line a → IsDriveKind line b → Agree a b → ⊥
kinds_differ line a b p q g = elim p [
  | inl short ↦ elim q [
    | inl long ↦ let e : B2 ≡ B4 = sym short.0 ∙ (g.kind ∙ long.0) in cc
    | inr often ↦ let e : B2 ≡ B5 = sym short.0 ∙ (g.kind ∙ often.0) in cc
  ]
  | inr reduced ↦ elim q [
    | inl long ↦ let e : B3 ≡ B4 = sym reduced.0 ∙ (g.kind ∙ long.0) in cc
    | inr often ↦ let e : B3 ≡ B5 = sym reduced.0 ∙ (g.kind ∙ often.0) in cc
  ]
]

-- all breaches of the rules on days
pub days_join : (line : Line) (xs ys : List Breach) → AreCollected (IsRestKind line) xs
    → AreCollected (IsDriveKind line) ys → AreCollected (λ b. IsRestKind line b ⊎ IsDriveKind line b) (xs ++ ys)
days_join line xs ys p q = all_join (IsRestKind line) (IsDriveKind line) xs ys p q (kinds_differ line)

-- a breach of the rules on days has one of these kinds
of_kind : (line : Line) (kind : Kind) (b : Breach) → IsDayBreach line kind b
    → (((kind ≡ B2) × IsB2 line b) ⊎ ((kind ≡ B3) × IsB3 line b))
    ⊎ (((kind ≡ B4) × IsB4 line b) ⊎ ((kind ≡ B5) × IsB5 line b))
of_kind line B1 b h = absurd h
of_kind line B2 b h = inl (inl (refl, h))
of_kind line B3 b h = inl (inr (refl, h))
of_kind line B4 b h = inr (inl (refl, h))
of_kind line B5 b h = inr (inr (refl, h))
of_kind line B6 b h = absurd h
of_kind line B7 b h = absurd h
of_kind line B8 b h = absurd h
of_kind line B9 b h = absurd h
of_kind line B10 b h = absurd h

-- a breach of one of these kinds is a breach of the rules on days
from_kind : (line : Line) (b : Breach) → IsRestKind line b ⊎ IsDriveKind line b → IsDayBreach line b.kind b
from_kind line b h = elim h [
  | inl rest ↦ elim rest [
    | inl x ↦ subst (λ (kind : Kind). IsDayBreach line kind b) (sym x.0) x.1
    | inr x ↦ subst (λ (kind : Kind). IsDayBreach line kind b) (sym x.0) x.1
  ]
  | inr drive ↦ elim drive [
    | inl x ↦ subst (λ (kind : Kind). IsDayBreach line kind b) (sym x.0) x.1
    | inr x ↦ subst (λ (kind : Kind). IsDayBreach line kind b) (sym x.0) x.1
  ]
]

-- these breaches, put in order, are those of the rules on days
pub days_exactly : (line : Line) (xs ys : List Breach) → AreCollected (λ b. IsRestKind line b ⊎ IsDriveKind line b) xs
    → ((b : Breach) → Contains ys b ↔ Contains xs b) → AllPairs Earlier ys → AreDayBreaches line ys
days_exactly line xs ys all same order = record {
  each = λ b. (
    λ h. from_kind line b ((all.each b).0 ((same b).0 h)),
    λ h. (same b).1 ((all.each b).1 (of_kind line b.kind b h)),
  );
  in_order = order;
}

-- if all duty days are in time, so are those that satisfy `P`
pub times_of : (line : Line) (P : DutyDay → Type 0) (days some : List DutyDay)
    → AreDutyDays line days → ((x : DutyDay) → Contains days x → IsInTime x) → AreTheDays P some
    → ((x : DutyDay) → P x → IsDuty line x) → All (λ (x : DutyDay). IsInTime x) some
times_of line P days some are times those duty k d within =
    times (get_or some k d)
    ((are.each (get_or some k d)).1
    (duty (get_or some k d) ((those.each (get_or some k d)).0 (Contains-get_or some k d within))))

-- minutes that aren't at rest are within the examined spans
module _ (spans : List Span) (base past : ℕ) (x : IsExamined spans base past) where
  -- so they are at or after the start of week 0
  after_base : (m : ℕ) → line_of spans m ≢ Rest → 5760 ≤ m
  after_base m busy = elim (cases_lt m base) [
    | inl lt ↦ absurd (busy (line_before spans base past m x.joined lt))
    | inr ge ↦ let b : 15780960 ≤ base = x.base_is.from in omega arith
  ]

  -- and before the end of 2099
  pub before_past : (m : ℕ) → line_of spans m ≢ Rest → m < 68374080
  before_past m busy = elim (cases_lt m past) [
    | inl lt ↦ let b : past ≤ 68374080 = x.within in omega arith
    | inr ge ↦ absurd (busy (line_from_past spans base past m x.joined ge))
  ]

  -- a duty day is in time
  pub duty_in_time : (day : DutyDay) → IsDuty (line_of spans) day → IsInTime day
  duty_in_time day d =
      let before : d.last.past < day.rest.start = d.neighbours.before in
      let s : day.start ≡ d.last.past = d.start in
      let p : day.past ≡ day.rest.start = d.past in
      let some : day.rest.start < day.rest.past = d.neighbours.second.rests.some in
      let enough : 540 ≤ minutes_of day.rest = d.neighbours.second.enough in
      let ended : day.rest.start ≤ 68374080 = elim d.neighbours.second.rests.from [
        | inl zero' ↦ omega arith
        | inr busy ↦
            let b : day.rest.start - 1 < 68374080 =
            before_past (day.rest.start - 1) (busy (day.rest.start - 1) (omega arith)) in
            omega arith
      ] in
      let from : 5760 ≤ d.last.past = elim d.neighbours.first.rests.until [
        | inl far ↦ absurd (omega arith)
        | inr busy ↦ after_base d.last.past busy
      ] in
      record { from = omega arith; some = omega arith; ended = omega arith; rests = p; enough = omega arith }

  -- so are all duty days
  pub times_all : (days : List DutyDay) → AreDutyDays (line_of spans) days → All (λ (d : DutyDay). IsInTime d) days
  times_all days are k d within =
      duty_in_time (get_or days k d) ((are.each (get_or days k d)).0 (Contains-get_or days k d within))
