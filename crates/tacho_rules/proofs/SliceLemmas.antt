-- What a timeline holds from a base to its horizon is an examined line (`examine`).
use Rattle.std.proofs.Common.{◌≡◌, ℕ, zero, suc, ◌-◌, ◌<◌, ◌≤◌, inl, inr, List, [], ◌∷◌}
use Rattle.std.proofs.Common.{Option, None, Some, false, refl, sym, ap, subst, ◌∙◌, arith}
use Rattle.std.specs.Option.{option_map_or}
use Rattle.std.specs.List.{All}
use Rattle.std.proofs.Math.Path.{fun_ext}
use Rattle.std.proofs.lemmas.Bool.{cases_lt}
use Rattle.std.proofs.lemmas.Bool.Decides.{nat_tests}
use Rattle.tacho_time.specs.declared.span.Activity.TheVariants.{Rest}
use Rattle.tacho_time.specs.declared.span.Mark.{Mark}
use Rattle.tacho_time.specs.declared.span.Span.{Span}
use Rattle.tacho_time.specs.Spans.{Gives, IsCanonical, IsCanonicalOf}
use Rattle.tacho_time.proofs.CanonicalLemmas.{later, canonical_starts}
use Rattle.tacho_line.specs.declared.horizon.Horizon.{Horizon}
use Rattle.tacho_line.specs.Line.{mark_at, IsSingle, HoldsWithin, IsHorizon}
use Rattle.tacho_law.specs.Line.{Line}
use Rattle.tacho_law.specs.Line.{line_of, Joined, IsBase, IsExamined}
use Rattle.tacho_law.proofs.RunsLemmas.{line_before, line_within, line_past}
use Rattle.tacho_rules.specs.Report.{examined_line}
use Rattle.tacho_law.proofs.DrivingLemmas.{line_from_past}

-- a minute after the first span is given by the other spans
given_after : (s : Span) (spans : List Span) (m : ℕ) (mark : Mark)
    → s.past ≤ m → Gives (s ∷ spans) m mark → Gives spans m mark
given_after s spans m mark above (inl covered) = let l : m < s.past = covered.0.1 in absurd (omega arith)
given_after s spans m mark above (inr behind) = behind

-- spans that give exactly the minutes from a base to a past follow one another
joined_from : (spans : List Span) (base past : ℕ) → IsCanonical spans → base ≤ past
    → ((m : ℕ) (mark : Mark) → Gives spans m mark → (base ≤ m) × (m < past))
    → ((m : ℕ) → base ≤ m → m < past → (mark : Mark) × Gives spans m mark)
    → Joined spans base past
joined_from [] base past c le within given = elim (cases_lt base past) [
  | inl lt ↦ absurd (given base (omega arith) lt).1
  | inr ge ↦ omega arith
]
joined_from (s ∷ spans) base past c le within given =
    let some : s.start < s.past = c.0 in
    let first : (base ≤ s.start) × (s.start < past) = within s.start s.mark (inl ((omega arith, some), refl)) in
    let last : (base ≤ s.past - 1) × (s.past - 1 < past) =
    within (s.past - 1) s.mark (inl ((omega arith, omega arith), refl)) in
    let start : s.start ≡ base = elim (cases_lt base s.start) [
      | inl lt ↦
          let (mark, g) = given base (omega arith) (omega arith) in
          absurd (elim g [
            | inl covered ↦ let l : s.start ≤ base = covered.0.0 in omega arith
            | inr behind ↦
                let l : s.past ≤ base = later s.past spans base mark (canonical_starts s spans c) behind in omega arith
          ])
      | inr ge ↦ omega arith
    ] in (
      start,
      omega arith,
      joined_from spans s.past past c.2 (omega arith)
          (λ m mark g. (later s.past spans m mark (canonical_starts s spans c) g, (within m mark (inr g)).1))
          (λ m above below.
          let (mark, g) = given m (omega arith) below in
          (mark, given_after s spans m mark above g)),
    )

-- if no minute is given as crew, no span is crew
single_from : (spans : List Span) → IsCanonical spans
    → ((m : ℕ) (mark : Mark) → Gives spans m mark → mark.crew ≡ false) → All (λ s. s.mark.crew ≡ false) spans
single_from [] c single k d within = absurd (omega arith)
single_from (s ∷ spans) c single zero d within = single s.start s.mark (inl ((omega arith, c.0), refl))
single_from (s ∷ spans) c single (suc k) d within =
    single_from spans c.2 (λ m mark g. single m mark (inr g)) k d (omega arith)

-- a held minute is before the end of a span
pub before_end : (held : List Span) (last m : ℕ)
    → All (λ (s : Span). s.past ≤ last) held → IsSingle (mark_at held m) → m < last
before_end [] last m ended single = absurd single
before_end (s ∷ held) last m ended single = elim (cases_lt m s.past) [
  | inl lt ↦ let e : s.past ≤ last = ended 0 s (omega arith) in omega arith
  | inr ge ↦
      let e : mark_at (s ∷ held) m ≡ mark_at held m = grind (arith, nat_tests) in
      before_end held last m (λ k d within. ended (suc k) d (omega arith)) (subst IsSingle e single)
]

-- the horizon is at most the end of what is held
pub early_horizon : (held : List Span) (base : ℕ) (horizon : Horizon) → IsHorizon held base horizon
    → base ≤ 68374080 → All (λ (s : Span). s.past ≤ 68374080) held → horizon.minute ≤ 68374080
early_horizon held base horizon h early ended = elim (cases_lt base horizon.minute) [
  | inl lt ↦
      let b : horizon.minute - 1 < 68374080 =
      before_end held 68374080 (horizon.minute - 1) ended
      (h.single (horizon.minute - 1) (omega arith, omega arith)) in
      omega arith
  | inr ge ↦ omega arith
]

-- the line of the spans has the activities of the marks that they give
line_given : (spans : List Span) (m : ℕ) (mark : Mark) → IsCanonical spans
    → Gives spans m mark → line_of spans m ≡ mark.activity
line_given [] m mark c g = absurd g
line_given (s ∷ spans) m mark c (inl covered) =
    line_within s spans m covered.0.0 covered.0.1 ∙ ap (λ (x : Mark). x.activity) covered.1
line_given (s ∷ spans) m mark c (inr behind) =
    line_past s spans m (later s.past spans m mark (canonical_starts s spans c) behind)
    ∙ line_given spans m mark c.2 behind

-- a single minute has a mark
marked : (mark : Option Mark) → IsSingle mark → (x : Mark) × (mark ≡ Some x) × (x.crew ≡ false)
marked None single = absurd single
marked (Some x) single = (x, refl, single)

-- the slice of a line from a base to its horizon
module _ {held spans : List Span} {base : ℕ} {horizon : Horizon} (h : IsHorizon held base horizon)
    (slice : IsCanonicalOf (HoldsWithin held base horizon.minute) spans) where
  -- each minute from the base to the horizon has a mark
  given : (m : ℕ) → base ≤ m → m < horizon.minute → (mark : Mark) × Gives spans m mark
  given m above below =
      let (mark, is, single) = marked (mark_at held m) (h.single m (above, below)) in
      (mark, (slice.same m mark).1 ((above, below), is))

  -- there is no gap between the spans
  joined : Joined spans base horizon.minute
  joined = joined_from spans base horizon.minute slice.canonical h.from (λ m mark g. ((slice.same m mark).0 g).0) given

  -- no span is crew
  single : All (λ s. s.mark.crew ≡ false) spans
  single = single_from spans slice.canonical (λ m mark g.
      let here : HoldsWithin held base horizon.minute m mark = (slice.same m mark).0 g in
      subst IsSingle here.1 (h.single m here.0))

  -- the slice is an examined line
  pub slice_examined : {now : List Span} → now ≡ spans → IsBase base → base ≤ 68374080
      → All (λ (s : Span). s.past ≤ 68374080) held → IsExamined now base horizon.minute
  slice_examined same monday early ended =
      let is : IsExamined spans base horizon.minute =
      record {
        base_is = monday;
        joined = joined;
        single = single;
        within =
            early_horizon held base horizon h early ended;
      } in
      subst (λ (xs : List Span). IsExamined xs base horizon.minute) (sym same) is

  -- in each minute, the line of the slice is as examined
  as_examined : (m : ℕ) → line_of spans m ≡ examined_line held base horizon.minute m
  as_examined m = elim (cases_lt m base) [
    | inl before ↦
        let e : line_of spans m ≡ Rest = line_before spans base horizon.minute m joined before in
        grind (arith, nat_tests, e)
    | inr from ↦ elim (cases_lt m horizon.minute) [
      | inl within ↦
          let (mark, is, single) = marked (mark_at held m) (h.single m (from, within)) in
          let e : line_of spans m ≡ mark.activity =
          line_given spans m mark slice.canonical ((slice.same m mark).1 ((from, within), is)) in
          let f : option_map_or (λ (x : Mark). x.activity) (mark_at held m) Rest ≡ mark.activity =
          ap (λ (o : Option Mark). option_map_or (λ (x : Mark). x.activity) o Rest) is in
          grind (arith, nat_tests, e, f)
      | inr behind ↦
          let e : line_of spans m ≡ Rest = line_from_past spans base horizon.minute m joined behind in
          grind (arith, nat_tests, e)
    ]
  ]

  -- the line of the slice is the examined line
  slice_line : line_of spans ≡ examined_line held base horizon.minute
  slice_line = fun_ext as_examined

  -- a property of the slice's line holds for the examined line
  pub as_line : (P : Line → Type 0) {now : List Span} → now ≡ spans
      → P (line_of now) → P (examined_line held base horizon.minute)
  as_line P same p = subst P (ap line_of same ∙ slice_line) p
