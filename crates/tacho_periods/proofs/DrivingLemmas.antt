-- Driving minutes are counted span by span (`driving_minutes`) up to the k-th one (`driving_minute`, `excess_between`), from the first span
-- on that hasn't ended (`ended_by`).
use Rattle.std.proofs.Common.{◌≡◌, ◌≢◌, ℕ, zero, suc, ◌+◌, ◌-◌, ◌<◌, ◌≤◌, inl, inr, List}
use Rattle.std.proofs.Common.{[], ◌∷◌, length, take, drop, get_or, refl, sym, ap, subst}
use Rattle.std.proofs.Common.{◌∙◌, arith, min, max}
use Rattle.std.proofs.lemmas.Bool.{cases_lt}
use Rattle.std.specs.List.{All}
use Rattle.std.proofs.lemmas.List.{drop_more, drop_all, take_all, length-drop}
use Rattle.tacho_time.specs.declared.span.Activity.{Activity}
use Rattle.tacho_time.specs.declared.span.Activity.TheVariants.{Rest, Drive}
use Rattle.tacho_time.specs.declared.span.Span.{Span}
use Rattle.tacho_law.specs.Line.{IsExamined, line_of, Joined}
use Rattle.tacho_law.specs.Driving.{driving, IsDrivingMinute}
use Rattle.tacho_law.proofs.RunsLemmas.{place_of, place_is, line_within, line_past, line_before}
use Rattle.tacho_law.proofs.DrivingLemmas.{driving_all, driving_before, driving_le, driving_none}
use Rattle.tacho_law.proofs.DrivingLemmas.{driving_run, line_from_past}

-- the remaining spans determine the line from their first minute on
pub record Left (spans left : List Span) (past : ℕ) : Type 0 where
  pub joined : Joined left (place_of left past) past
  pub ahead : (m : ℕ) → place_of left past ≤ m → line_of spans m ≡ line_of left m

-- before the first span, all spans remain
pub left_all : (spans : List Span) (base past : ℕ) → Joined spans base past → Left spans spans past
left_all spans base past j = record {
  joined = subst (λ (p : ℕ). Joined spans p past) (sym (place_is spans base past j)) j;
  ahead = λ m above. refl;
}

-- after the next span, one span fewer remains
pub left_next : (spans left : List Span) (s : Span) (past : ℕ) → Left spans (s ∷ left) past → Left spans left past
left_next spans left s past r =
    let e : place_of left past ≡ s.past = place_is left s.past past r.joined.2 in
    let some : s.start < s.past = r.joined.1 in
    record {
      joined = subst (λ (p : ℕ). Joined left p past) (sym e) r.joined.2;
      ahead = λ m above. r.ahead m (omega arith) ∙ line_past s left m (omega arith);
    }

-- in the first remaining span, the line has the span's activity
pub left_at : (spans left : List Span) (s : Span) (past : ℕ) → Left spans (s ∷ left) past
    → (m : ℕ) → s.start ≤ m → m < s.past → line_of spans m ≡ s.mark.activity
left_at spans left s past r m above below = r.ahead m above ∙ line_within s left m above below

-- n is the number of driving minutes so far
pub record Counted (spans left : List Span) (past from to n : ℕ) : Type 0 where
  pub rest : Left spans left past
  pub count : n ≡ driving (line_of spans) from (min to (place_of left past))

-- rest is not driving
not_drive : (a b : Activity) → a ≡ b → b ≡ Rest → a ≢ Drive
not_drive a b e f g = let h : Rest ≡ Drive = sym f ∙ sym e ∙ g in cc

-- before the first span
pub counted_none : (spans : List Span) (base past from to : ℕ)
    → Joined spans base past → Counted spans spans past from to 0
counted_none spans base past from to j =
    let line = line_of spans in
    let e : place_of spans past ≡ base = place_is spans base past j in
    let f : driving line from (min to (place_of spans past)) ≡ driving line from 0 =
    driving_none line from 0 (min to (place_of spans past)) (omega arith)
    (λ i a b. not_drive (line i) Rest (line_before spans base past i j (omega arith)) refl) in
    let g : driving line from 0 ≡ 0 = driving_before line from 0 (omega arith) in
    record { rest = left_all spans base past j; count = omega (arith, f, g) }

module _ (spans left : List Span) (s : Span) (past from to n : ℕ) (r : Counted spans (s ∷ left) past from to n) where
  -- the next span starts where this one ends
  next : place_of left past ≡ s.past
  next = place_is left s.past past r.rest.joined.2

  -- a span that isn't driving adds nothing
  pub counted_idle : s.mark.activity ≢ Drive → Counted spans left past from to n
  counted_idle idle =
      let line = line_of spans in
      let some : s.start < s.past = r.rest.joined.1 in
      let e : driving line from (min to s.past) ≡ driving line from (min to s.start) =
      driving_none line from (min to s.start) (min to s.past) (omega arith)
      (λ i a b d. idle (sym (left_at spans left s past r.rest i (omega arith) (omega arith)) ∙ d)) in
      record { rest = left_next spans left s past r.rest; count = rw next (r.count ∙ sym e) }

  -- a span without a minute in the range adds nothing
  pub counted_outside : min s.past to ≤ max s.start from → Counted spans left past from to n
  counted_outside out =
      let line = line_of spans in
      let some : s.start < s.past = r.rest.joined.1 in
      let e : driving line from (min to s.past) ≡ driving line from (min to s.start) =
      elim (cases_lt s.start to) [
        | inl lt ↦
            let f : driving line from (min to s.past) ≡ 0 = driving_before line from (min to s.past) (omega arith) in
            let g : driving line from (min to s.start) ≡ 0 = driving_before line from (min to s.start) (omega arith) in
            f ∙ sym g
        | inr ge ↦ let h : min to s.past ≡ min to s.start = omega arith in ap (driving line from) h
      ] in
      record { rest = left_next spans left s past r.rest; count = rw next (r.count ∙ sym e) }

  -- n counts the driving minutes up to where the span's part in the range begins
  begun : max s.start from < min s.past to → n ≡ driving (line_of spans) from (max s.start from)
  begun some = elim (cases_lt s.start from) [
    | inl lt ↦
        let f : driving (line_of spans) from (min to s.start) ≡ 0 =
        driving_before (line_of spans) from (min to s.start) (omega arith) in
        let g : driving (line_of spans) from (max s.start from) ≡ 0 =
        driving_before (line_of spans) from (max s.start from) (omega arith) in
        r.count ∙ f ∙ sym g
    | inr ge ↦ let h : min to s.start ≡ max s.start from = omega arith in r.count ∙ ap (driving (line_of spans) from) h
  ]

  -- the part of a driving span is driving
  drive_at : s.mark.activity ≡ Drive → (i : ℕ) → max s.start from ≤ i → i < min s.past to → line_of spans i ≡ Drive
  drive_at d i a b = left_at spans left s past r.rest i (omega arith) (omega arith) ∙ d

  -- the part of a driving span is added to the count
  pub counted_drive : s.mark.activity ≡ Drive → max s.start from < min s.past to
      → Counted spans left past from to (n + (min s.past to - max s.start from))
  counted_drive d some =
      let e : driving (line_of spans) from (min s.past to)
      ≡ driving (line_of spans) from (max s.start from) + (min s.past to - max s.start from) =
      driving_all (line_of spans) from (max s.start from) (min s.past to) (omega arith) (omega arith) (drive_at d) in
      let b : n ≡ driving (line_of spans) from (max s.start from) = begun some in
      let same : min to s.past ≡ min s.past to = omega arith in
      let f : n + (min s.past to - max s.start from) ≡ driving (line_of spans) from (min to s.past) =
      rw same (omega (arith, e, b)) in
      record { rest = left_next spans left s past r.rest; count = rw next f }

  -- the ordinals of the driving minutes in the part
  pub counted_at : s.mark.activity ≡ Drive → max s.start from < min s.past to
      → (j : ℕ) → j < min s.past to - max s.start from
      → IsDrivingMinute (line_of spans) from to (n + j + 1) (max s.start from + j)
  counted_at d some j within =
      let e : driving (line_of spans) from (max s.start from + j)
      ≡ driving (line_of spans) from (max s.start from) + j =
      driving_run (line_of spans) from (max s.start from) j (omega arith) (λ i a b. drive_at d i a (omega arith)) in
      let b : n ≡ driving (line_of spans) from (max s.start from) = begun some in
      record {
        above = omega arith;
        below = omega arith;
        drives = drive_at d (max s.start from + j) (omega arith) (omega arith);
        earlier = omega (arith, e, b);
      }

-- after the last span, all driving minutes are counted
pub counted_end : (spans : List Span) (past from to n : ℕ)
    → Counted spans [] past from to n → n ≡ driving (line_of spans) from to
counted_end spans past from to n r = elim (cases_lt past to) [
  | inl lt ↦
      let h : min to past ≡ past = omega arith in
      let e : driving (line_of spans) from to ≡ driving (line_of spans) from past =
      driving_none (line_of spans) from past to (omega arith)
      (λ i a b. not_drive (line_of spans i) Rest (r.rest.ahead i a) refl) in
      r.count ∙ ap (driving (line_of spans) from) h ∙ sym e
  | inr ge ↦ let h : min to past ≡ to = omega arith in r.count ∙ ap (driving (line_of spans) from) h
]

-- spans that ended before the range add nothing
pub counted_after : (spans left : List Span) (past from to k : ℕ) → Counted spans left past from to 0
    → All (λ (s : Span). s.past ≤ from) (take k left) → Counted spans (drop k left) past from to 0
counted_after spans left past from to zero r ended = r
counted_after spans [] past from to (suc k) r ended = r
counted_after spans (s ∷ left) past from to (suc k) r ended =
    let e : s.past ≤ from = ended 0 s (omega arith) in
    let rest : All (λ (x : Span). x.past ≤ from) (take k left) = λ i d within. ended (suc i) d (omega arith) in
    counted_after spans left past from to k (counted_outside spans left s past from to 0 r (omega arith)) rest

-- where a loop over the spans after the first k begins
pub counted_from : (spans : List Span) (base past from to k : ℕ)
    → Joined spans base past → All (λ (s : Span). s.past ≤ from) (take k spans)
    → Counted spans (take (length spans - k) (drop k spans)) past from to 0
counted_from spans base past from to k j ended =
    let e : length (drop k spans) ≡ length spans - k = length-drop k spans in
    let f : take (length spans - k) (drop k spans) ≡ drop k spans =
    take_all (length spans - k) (drop k spans) (omega arith) in
    rw f (counted_after spans spans past from to k (counted_none spans base past from to j) ended)

-- in a loop at index i, with the span s
pub counted_here : (spans later : List Span) (i : ℕ) (s : Span) (past from to n : ℕ)
    → i < length later → s ≡ get_or later i s → Counted spans (drop i later) past from to n
    → Counted spans (s ∷ drop (i + 1) later) past from to n
counted_here spans later i s past from to n within is r =
    let e : drop i later ≡ s ∷ drop (i + 1) later =
    drop_more later i s within ∙ ap (λ (x : Span). x ∷ drop (i + 1) later) (sym is) in
    subst (λ (left : List Span). Counted spans left past from to n) e r

-- when the loop ends, all driving minutes are counted
pub counted_over : (spans later : List Span) (i past from to n : ℕ) → length later ≤ i
    → Counted spans (drop i later) past from to n → n ≡ driving (line_of spans) from to
counted_over spans later i past from to n over r =
    counted_end spans past from to n
    (subst (λ (left : List Span). Counted spans left past from to n) (drop_all i later over) r)

-- the count is at most `to`
pub counted_le : (spans left : List Span) (past from to n : ℕ) → Counted spans left past from to n → n ≤ to
counted_le spans left past from to n r =
    let e : driving (line_of spans) from (min to (place_of left past)) ≤ min to (place_of left past) =
    driving_le (line_of spans) from (min to (place_of left past)) in
    let f : n ≡ driving (line_of spans) from (min to (place_of left past)) = r.count in
    omega arith

-- each span ends after the start of the first span
later_ends : (spans : List Span) (base past i : ℕ) (d : Span)
    → Joined spans base past → i < length spans → base < (get_or spans i d).past
later_ends [] base past i d j within = absurd (omega arith)
later_ends (s ∷ spans) base past zero d j within = j.1
later_ends (s ∷ spans) base past (suc i) d j within =
    let h : s.past < (get_or spans i d).past = later_ends spans s.past past i d j.2 (omega arith) in
    let b : base < s.past = j.1 in
    omega arith

-- spans that follow one another end in order
pub ends_rise : (spans : List Span) (base past i k : ℕ) (d : Span) → Joined spans base past
    → i ≤ k → k < length spans → (get_or spans i d).past ≤ (get_or spans k d).past
ends_rise [] base past i k d j le within = absurd (omega arith)
ends_rise (s ∷ spans) base past zero zero d j le within = omega arith
ends_rise (s ∷ spans) base past (suc i) zero d j le within = absurd (omega arith)
ends_rise (s ∷ spans) base past zero (suc k) d j le within =
    let h : s.past < (get_or spans k d).past = later_ends spans s.past past k d j.2 (omega arith) in omega arith
ends_rise (s ∷ spans) base past (suc i) (suc k) d j le within =
    ends_rise spans s.past past i k d j.2 (omega arith) (omega arith)

-- a driving minute is before the end of the spans
pub drives_within : (spans : List Span) (base past m from to k : ℕ)
    → IsExamined spans base past → IsDrivingMinute (line_of spans) from to k m → m ≤ 68428800
drives_within spans base past m from to k x h = elim (cases_lt m past) [
  | inl lt ↦ let b : past ≤ 68374080 = x.within in omega arith
  | inr ge ↦ absurd (
      let e : line_of spans m ≡ Rest = line_from_past spans base past m x.joined ge in
      let f : Rest ≡ Drive = sym e ∙ h.drives in
      cc)
]
