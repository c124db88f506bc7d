-- What the functions that list the evidence for a breach B9 do: a rest that contains a range, the lines of weeks and of weekly rests, and
-- the evidence that they make (`choice_lines`).
use Rattle.std.proofs.Common.{◌≡◌, ℕ, zero, suc, ◌+◌, ◌-◌, ◌/◌, ◌<◌, ◌≤◌, inl, inr, List, [], ◌∷◌, ◌++◌, length, get_or, take, true, false}
use Rattle.std.proofs.Common.{refl, sym, ap, subst, ◌∙◌, arith, append_assoc}
use Rattle.std.specs.Prelude.{◌↔◌}
use Rattle.std.specs.List.{AllPairs, Contains}
use Rattle.std.specs.List.Sorted.{IsPartitionPoint}
use Rattle.std.proofs.Math.Dec.{ltb}
use Rattle.std.proofs.lemmas.Bool.{cases_lt, ltb-true, ltb-false}
use Rattle.std.proofs.lemmas.List.{get_or_default, take_more}
use Rattle.std.proofs.lemmas.List.Elements.{Contains-get_or}
use Rattle.tacho_time.specs.declared.span.Span.{Span}
use Rattle.tacho_law.specs.declared.breach.Breach.{Breach}
use Rattle.tacho_law.specs.declared.run.Run.{Run}
use Rattle.tacho_law.specs.Exactly.{AreExactly}
use Rattle.tacho_law.specs.Line.{line_of, IsExamined, Line}
use Rattle.tacho_law.specs.Runs.{minutes_of, AreRestsOf, Before}
use Rattle.tacho_law.specs.Weeks.{week_start, IsWeeklyRest, IsWhollyAtRest, Touches}
use Rattle.tacho_law.proofs.CoveringLemmas.{covered, Covers}
use Rattle.tacho_law.proofs.RunsLemmas.{line_before}
use Rattle.tacho_periods.specs.Rests.{AreInTime}
use Rattle.tacho_periods.proofs.RunsLemmas.{no_run}
use Rattle.tacho_evidence.specs.declared.line.EvidenceLine.{EvidenceLine}
use Rattle.tacho_evidence.specs.declared.line.EvidenceLine.TheVariants.{From}
use Rattle.tacho_evidence.specs.Anew.{IsAnew, IsNextFailure}
use Rattle.tacho_evidence.specs.Evidence.{AreRestLines, AreWeekLines, CanServeBy, IsChoiceEvidence, IsWeekLine, IsWeeklyRestIn}
use Rattle.tacho_evidence.proofs.ChoiceLemmas.{by_all}

-- ---- a rest that contains a range

-- the first n rests end before a minute, and the others don't
abbrev pub EndBefore : List Run → ℕ → ℕ → Type 0
EndBefore rests minute n =
    IsPartitionPoint (λ (s : Run). ltb s.past minute ≡ true) (λ (s : Run). ltb s.past minute ≡ false) rests n

-- a rest with each minute of a range
abbrev pub HasWhole : List Run → ℕ → ℕ → Type 0
HasWhole rests start past = (run : Run) × Contains rests run × (run.start ≤ start) × (past ≤ run.past)

module _ (rests : List Run) (x : AreInTime rests) (start past n : ℕ) (range : start < past)
    (ended : EndBefore rests past n) where
  -- the first rest that doesn't end before the range's end contains the range, if it starts in time
  pub whole_at : n < length rests → (get_or rests n no_run).start ≤ start → HasWhole rests start past
  whole_at within early = (
    get_or rests n no_run,
    Contains-get_or rests n no_run within,
    early,
    ltb-false (get_or rests n no_run).past past (ended.1 n no_run (omega arith) within),
  )

  -- a rest that contains the range is that one
  pub whole_only : HasWhole rests start past → (n < length rests) × ((get_or rests n no_run).start ≤ start)
  whole_only (run, (k, within, is), early, late) =
      let e : get_or rests k no_run ≡ run = get_or_default rests k no_run run within ∙ is in
      let s : (get_or rests k no_run).start ≡ run.start = ap (λ (z : Run). z.start) e in
      let p : (get_or rests k no_run).past ≡ run.past = ap (λ (z : Run). z.past) e in
      let low : n ≤ k = elim (cases_lt k n) [
        | inl lt ↦ absurd (
            let a : (get_or rests k no_run).past < past =
            ltb-true (get_or rests k no_run).past past (ended.0 k no_run (omega arith) lt) in
            omega arith)
        | inr ge ↦ ge
      ] in
      let first : n < length rests = omega arith in
      let same : k ≡ n = elim (cases_lt n k) [
        | inl lt ↦ absurd (
            let a : past ≤ (get_or rests n no_run).past =
            ltb-false (get_or rests n no_run).past past (ended.1 n no_run (omega arith) first) in
            let b : (get_or rests n no_run).past < (get_or rests k no_run).start = x.in_order n k no_run lt within in
            omega arith)
        | inr ge ↦ omega arith
      ] in
      let f : (get_or rests k no_run).start ≡ (get_or rests n no_run).start =
      ap (λ (i : ℕ). (get_or rests i no_run).start) same in
      (first, omega arith)

-- ---- weeks at rest

module _ (line : Line) (weekly : List Run) (are : AreRestsOf line 1440 weekly) (w : ℕ) where
  -- a week in one weekly rest is wholly at rest
  pub whole_week : HasWhole weekly (week_start w) (week_start (w + 1)) → IsWhollyAtRest line w
  whole_week (run, among, early, late) = λ m within.
      let a : week_start w ≤ m = within.0 in
      let b : m < week_start (w + 1) = within.1 in
      ((are.each run).0 among).rests.rest m (omega arith) (omega arith)

  -- the rest run at a week's first minute ends after the week, if the week is wholly at rest
  covers_week : w < 6788 → IsWhollyAtRest line w → (c : Covers line (week_start w)) → week_start (w + 1) ≤ c.run.past
  covers_week in' whole c =
      let after : week_start w < c.run.past = c.to in
      elim (cases_lt c.run.past (week_start (w + 1))) [
        | inl early ↦ elim c.rests.until [
          | inl far ↦ absurd (omega arith)
          | inr busy ↦ absurd (busy (whole c.run.past (omega arith, early)))
        ]
        | inr late ↦ late
      ]

  -- a week wholly at rest is in one weekly rest
  pub week_whole : w < 6788 → IsWhollyAtRest line w → HasWhole weekly (week_start w) (week_start (w + 1))
  week_whole in' whole =
      let c : Covers line (week_start w) = covered line (week_start w) (omega arith) (whole (week_start w) (omega arith, omega arith)) in
      let from : c.run.start ≤ week_start w = c.from in
      let late : week_start (w + 1) ≤ c.run.past = covers_week in' whole c in
      (c.run, (are.each c.run).1 (record { rests = c.rests; enough = omega arith }), from, late)

-- ---- lines

-- one more week
more_weeks : (line : Line) (w n : ℕ) (lines : List EvidenceLine) (one : EvidenceLine) → AreWeekLines line w n lines
    → IsWeekLine line (w + n) one → AreWeekLines line w (suc n) (lines ++ one ∷ [])
more_weeks line w zero lines one are is =
    subst (λ (ls : List EvidenceLine). AreWeekLines line w 1 (ls ++ one ∷ [])) (sym are)
    (one, [], refl, subst (λ (v : ℕ). IsWeekLine line v one) (let e : w + 0 ≡ w = omega arith in e) is, refl)
more_weeks line w (suc n) lines one (first, others, e, this, those) is = (
  first,
  others ++ one ∷ [],
  ap (λ (ls : List EvidenceLine). ls ++ one ∷ []) e,
  this,
  more_weeks line (w + 1) n others one those
      (subst (λ (v : ℕ). IsWeekLine line v one) (let f : w + suc n ≡ (w + 1) + n = omega arith in f) is),
)

-- after some lines there are those of the weeks from one number to before another
pub record HasWeeks (line : Line) (first past : ℕ) (before lines : List EvidenceLine) : Type 0 where
  pub weeks : List EvidenceLine
  pub are : AreWeekLines line first (past - first) weeks
  pub is : lines ≡ before ++ weeks

-- one more week is appended
pub weeks_push : (line : Line) (first n : ℕ) (before lines : List EvidenceLine) (one : EvidenceLine) → first ≤ n
    → HasWeeks line first n before lines → IsWeekLine line n one → HasWeeks line first (n + 1) before (lines ++ one ∷ [])
weeks_push line first n before lines one some have is = record {
  weeks = have.weeks ++ one ∷ [];
  are =
      let e : suc (n - first) ≡ (n + 1) - first = omega arith in
      let f : n ≡ first + (n - first) = omega arith in
      subst (λ (k : ℕ). AreWeekLines line first k (have.weeks ++ one ∷ [])) e
      (more_weeks line first (n - first) have.weeks one have.are (subst (λ (v : ℕ). IsWeekLine line v one) f is));
  is = ap (λ (ls : List EvidenceLine). ls ++ one ∷ []) have.is ∙ append_assoc before have.weeks (one ∷ []);
}

-- the numbers and lines that they are about may be replaced by equal ones
pub weeks_as : (line : Line) (a first b past : ℕ) (start before lines weeks : List EvidenceLine) → a ≡ first → b ≡ past
    → start ≡ before → AreWeekLines line a (b - a) weeks → lines ≡ start ++ weeks → HasWeeks line first past before lines
weeks_as line a first b past start before lines weeks e f g are is = record {
  weeks = weeks;
  are = subst (λ (m : ℕ). AreWeekLines line first (m - first) weeks) f
      (subst (λ (m : ℕ). AreWeekLines line m (b - m) weeks) e are);
  is = is ∙ ap (λ (ls : List EvidenceLine). ls ++ weeks) g;
}

-- one more weekly rest
pub rest_lines_push : (first last : ℕ) (runs : List Run) (run : Run) (lines : List EvidenceLine) (one : EvidenceLine)
    → AreRestLines first last runs lines → AreRestLines first last (run ∷ []) (one ∷ [])
    → AreRestLines first last (runs ++ run ∷ []) (lines ++ one ∷ [])
rest_lines_push first last [] run lines one are is =
    subst (λ (ls : List EvidenceLine). AreRestLines first last (run ∷ []) (ls ++ one ∷ [])) (sym are) is
rest_lines_push first last (r ∷ runs) run lines one (a, b, others, in', e, those) is = (
  a,
  b,
  others ++ one ∷ [],
  in',
  ap (λ (ls : List EvidenceLine). ls ++ one ∷ []) e,
  rest_lines_push first last runs run others one those is,
)

-- after some lines there are those of some weekly rests
pub record HasRests (first last : ℕ) (runs : List Run) (before lines : List EvidenceLine) : Type 0 where
  pub counted : List EvidenceLine
  pub are : AreRestLines first last runs counted
  pub is : lines ≡ before ++ counted

-- one more rest is appended
pub rests_push : (first last : ℕ) (runs : List Run) (i : ℕ) (d : Run) (before lines : List EvidenceLine) (one : EvidenceLine)
    → i < length runs → HasRests first last (take i runs) before lines
    → AreRestLines first last (get_or runs i d ∷ []) (one ∷ [])
    → HasRests first last (take (i + 1) runs) before (lines ++ one ∷ [])
rests_push first last runs i d before lines one within have is = record {
  counted = have.counted ++ one ∷ [];
  are = rw (take_more runs i d within)
      (rest_lines_push first last (take i runs) (get_or runs i d) have.counted one have.are is);
  is = ap (λ (ls : List EvidenceLine). ls ++ one ∷ []) have.is ∙ append_assoc before have.counted (one ∷ []);
}

-- ---- the evidence

-- a weekly rest of an examined line has a minute in some week
pub in_some_week : (spans : List Span) (base past : ℕ) → IsExamined spans base past → (rest : Run)
    → IsWeeklyRest (line_of spans) rest → (week : ℕ) × Touches rest week
in_some_week spans base past x rest is =
    let from : 15780960 ≤ base = x.base_is.from in
    let enough : 1440 ≤ minutes_of rest = is.enough in
    let late : 5760 < rest.past = elim (cases_lt 5760 rest.past) [
      | inl late ↦ late
      | inr early ↦ elim is.rests.until [
        | inl far ↦ absurd (omega arith)
        | inr busy ↦ absurd (busy (line_before spans base past rest.past x.joined (omega arith)))
      ]
    ] in
    ((rest.start - 5760) / 10080, (omega arith, omega arith))

-- the breach's range begins in the earlier of the two weeks
pub since_week : (line : Line) (horizon first : ℕ) (breach : Breach) (next : IsNextFailure line horizon first breach)
    (w : ℕ) → week_start w ≤ breach.since → breach.since < week_start (w + 1) → w ≡ next.week
since_week line horizon first breach next w from before =
    let since : breach.since ≡ week_start next.week = next.since in
    omega (arith, from, before, since)

module _ (spans : List Span) (base horizon : ℕ) (x : IsExamined spans base horizon) (breach : Breach) (first : ℕ)
    (anew : IsAnew (line_of spans) base horizon first) (next : IsNextFailure (line_of spans) horizon first breach)
    (weekly rests : List Run) (are : AreRestsOf (line_of spans) 1440 weekly) (order : AllPairs Before rests)
    (last past : ℕ) (each : (run : Run) → Contains rests run
    ↔ (Contains weekly run × (run.start < week_start past) × (week_start first < run.past)))
    (is_last : last ≡ next.week + 1) (is_past : past ≡ next.week + 2) where
  -- the rests with a minute from the first week to the later of the two are the weekly rests of these weeks
  weekly_are : AreExactly (IsWeeklyRestIn (line_of spans) first (next.week + 1)) Before rests
  weekly_are = record {
    each = λ run. (
      λ h.
          let (among, before, after) = (each run).0 h in
          record { rest = (are.each run).0 among; after = after; before = omega (arith, before, is_past) },
      λ h.
          let before : run.start < week_start ((next.week + 1) + 1) = h.before in
          (each run).1 ((are.each run).1 h.rest, omega (arith, before, is_past), h.after),
    );
    in_order = order;
  }

  -- no choice for these serves, since none for all weekly rests does
  none_serves : ¬ (CanServeBy (line_of spans) rests first (next.week + 1))
  none_serves h =
      let later : first < next.week + 1 = next.fails.later in
      next.fails.none (by_all (line_of spans) rests first (next.week + 1) (omega arith) weekly_are
      (in_some_week spans base horizon x) h)

  -- with the lines of the weeks and of these rests they are the evidence
  pub choice_evidence_of : (middle lines : List EvidenceLine)
      → HasWeeks (line_of spans) first past (From (week_start first) ∷ []) middle
      → HasRests first last rests middle lines → IsChoiceEvidence (line_of spans) base horizon breach lines
  choice_evidence_of middle lines weeks counted = record {
    begin = anew.begin;
    monday = anew.monday;
    first = first;
    anew = anew.anew;
    week = next.week;
    later = next.fails.later;
    ended = next.fails.ended;
    rests = rests;
    rested = weekly_are;
    none = none_serves;
    served = next.fails.before;
    moment = next.moment;
    since = next.since;
    amount = next.amount;
    weeks = weeks.weeks;
    week_lines = subst (λ (p : ℕ). AreWeekLines (line_of spans) first (p - first) weeks.weeks) is_past weeks.are;
    counted = counted.counted;
    rest_lines = subst (λ (l : ℕ). AreRestLines first l rests counted.counted) is_last counted.are;
    lines_are = counted.is ∙ ap (λ (ls : List EvidenceLine). ls ++ counted.counted) weeks.is;
  }
