-- What a rest run keeps for itself: one number, at least nine hours. Over a line's rest runs it is decided whether a run is a main rest, and
-- so there is such a number. A week that owes has one main rest.
use Rattle.std.proofs.Common.{◌≡◌, ℕ, ◌+◌, ◌-◌, ◌/◌, ◌<◌, ◌≤◌, ◌⊎◌, inl, inr, List, [], ◌∷◌, refl, sym, ap, subst, ◌∙◌, arith}
use Rattle.std.specs.List.{Contains}
use Rattle.std.proofs.lemmas.Bool.{cases_lt}
use Rattle.tacho_law.specs.declared.run.Run.{Run}
use Rattle.tacho_law.specs.declared.run.TheConstants.{FAR}
use Rattle.tacho_law.specs.Debts.{minutes_before, IsCandidate, IsMainRest, Keeps, Owes}
use Rattle.tacho_law.specs.Line.{Line}
use Rattle.tacho_law.specs.Runs.{AreRestRuns, IsRestRun}
use Rattle.tacho_law.specs.Weeks.{week_start, IsInWeek}
use Rattle.tacho_law.proofs.DebtsLemmas.{separate}
use Rattle.tacho_law.proofs.ExactlyLemmas.{contains_head, contains_tail, contains_cases}
use Rattle.tacho_law.proofs.MainRestLemmas.{one_week}

-- ---- the main rest of a week that owes

-- runs with the same start and end are equal
same_run : (a b : Run) → a.start ≡ b.start → a.past ≡ b.past → a ≡ b
same_run a b e f =
    let one : ℕ → Run = λ x. record { start = x; past = a.past } in
    let two : ℕ → Run = λ x. record { start = b.start; past = x } in
    ap one e ∙ ap two f

-- a rest run that starts before one that has no end, ends
ends : (line : Line) (run last : Run) → IsRestRun line run → IsRestRun line last → last.past ≡ FAR → run.start < last.start
    → run.past < FAR
ends line run last p q no_end earlier =
    let before : run.past < last.start = separate line run last p q earlier in
    let some : last.start < last.past = q.some in
    omega arith

-- of rest runs with the same start, one that ends isn't shorter
not_shorter : (line : Line) (a b : Run) → IsRestRun line a → IsRestRun line b → a.start ≡ b.start → a.past < FAR
    → b.past ≤ a.past
not_shorter line a b p q same ends' = elim (cases_lt a.past b.past) [
  | inl shorter ↦
      let some : a.start < a.past = p.some in
      absurd (elim p.until [
        | inl no_end ↦ omega arith
        | inr busy ↦ busy (q.rest a.past (omega arith) shorter)
      ])
  | inr enough ↦ enough
]

-- a week that owes has one main rest
pub main_of_owing : (line : Line) (horizon w amount : ℕ) (a b : Run) → Owes line horizon w amount
    → IsMainRest line horizon w a → IsMainRest line horizon w b → a ≡ b
main_of_owing line horizon w amount a b owes p q =
    let r : IsRestRun line a = p.candidate.rests in
    let s : IsRestRun line b = q.candidate.rests in
    let in_week : a.start < week_start (w + 1) = p.candidate.week.1 in
    let in_week' : b.start < week_start (w + 1) = q.candidate.week.1 in
    let later : week_start (w + 1) ≤ owes.last.start = owes.ended in
    elim (cases_lt a.start b.start) [
      | inl lt ↦ absurd (
          let x : minutes_before horizon a < minutes_before horizon b = q.best a p.candidate lt in
          let y : minutes_before horizon b ≤ minutes_before horizon a = p.first b q.candidate lt in
          omega (arith, x, y))
      | inr ge ↦ elim (cases_lt b.start a.start) [
        | inl lt ↦ absurd (
            let x : minutes_before horizon b < minutes_before horizon a = p.best b q.candidate lt in
            let y : minutes_before horizon a ≤ minutes_before horizon b = q.first a p.candidate lt in
            omega (arith, x, y))
        | inr le ↦
            let same : a.start ≡ b.start = omega (arith, ge, le) in
            let x : b.past ≤ a.past = not_shorter line a b r s same
            (ends line a owes.last r owes.last_run owes.no_end (omega (arith, in_week, later))) in
            let y : a.past ≤ b.past = not_shorter line b a s r (sym same)
            (ends line b owes.last s owes.last_run owes.no_end (omega (arith, in_week', later))) in
            same_run a b same (omega (arith, x, y))
      ]
    ]

-- ---- what a run keeps

-- numbers that a run keeps don't differ
not_apart : (line : Line) (horizon : ℕ) (run : Run) (a b : ℕ) → Keeps line horizon run a → Keeps line horizon run b
    → (a ≡ b → ⊥) → ⊥
not_apart line horizon run a b p q apart =
    let none : (w : ℕ) → IsMainRest line horizon w run → ⊥ = λ w m. apart (p.main w m ∙ sym (q.main w m)) in
    apart (p.other none ∙ sym (q.other none))

-- a run keeps one number for itself
pub kept_only : (line : Line) (horizon : ℕ) (run : Run) (a b : ℕ) → Keeps line horizon run a → Keeps line horizon run b
    → a ≡ b
kept_only line horizon run a b p q = elim (cases_lt a b) [
  | inl lt ↦ absurd (not_apart line horizon run a b p q (λ e. omega (arith, lt, e)))
  | inr ge ↦ elim (cases_lt b a) [
    | inl lt ↦ absurd (not_apart line horizon run a b p q (λ e. omega (arith, lt, e)))
    | inr le ↦ omega (arith, ge, le)
  ]
]

-- and at least nine hours
pub kept_least : (line : Line) (horizon : ℕ) (run : Run) (kept : ℕ) → Keeps line horizon run kept → 540 ≤ kept
kept_least line horizon run kept keeps = elim (cases_lt kept 540) [
  | inl fewer ↦ absurd (
      let e : kept ≡ 540 = keeps.other (λ w main. let f : kept ≡ 2700 = keeps.main w main in omega (arith, fewer, f)) in
      omega (arith, fewer, e))
  | inr enough ↦ enough
]

-- ---- whether a run is a main rest

-- some member of a list has a decided property, or none has
some_or_none : {A : Type 0} (Q : A → Type 0) → ((x : A) → Q x ⊎ (Q x → ⊥)) → (xs : List A)
    → ((x : A) × Contains xs x × Q x) ⊎ ((x : A) → Contains xs x → Q x → ⊥)
some_or_none Q decided [] = inr (λ x h q. let k : h.0 < 0 = h.1 in omega arith)
some_or_none Q decided (x ∷ xs) = elim (decided x) [
  | inl holds ↦ inl (x, contains_head x xs, holds)
  | inr fails ↦ elim (some_or_none Q decided xs) [
    | inl found ↦ inl (found.0, contains_tail x xs found.0 found.1, found.2)
    | inr none ↦ inr (λ y h q. elim (contains_cases x xs y h) [
      | inl same ↦ fails (subst Q (sym same) q)
      | inr later ↦ none y later q
    ])
  ]
]

-- of two rests that start at s and t, with m and n minutes, the second is the longer, or as long and earlier
record IsPreferred (s t m n : ℕ) : Type 0 where
  pub earlier : t < s → m ≤ n
  pub later : s ≤ t → (s < t) × (m < n)

-- this can be decided
preferred_or : (s t m n : ℕ) → IsPreferred s t m n ⊎ (IsPreferred s t m n → ⊥)
preferred_or s t m n = elim (cases_lt t s) [
  | inl earlier ↦ elim (cases_lt n m) [
    | inl fewer ↦ inr (λ h. let e : m ≤ n = h.earlier earlier in omega (arith, fewer, e))
    | inr enough ↦ inl (record { earlier = λ l. enough; later = λ l. absurd (omega (arith, earlier, l)) })
  ]
  | inr not_earlier ↦ elim (cases_lt s t) [
    | inl later ↦ elim (cases_lt m n) [
      | inl more ↦ inl (record { earlier = λ l. omega (arith, more); later = λ l. (later, more) })
      | inr few ↦ inr (λ h. let e : m < n = (h.later not_earlier).1 in omega (arith, few, e))
    ]
    | inr same ↦ inr (λ h. let e : s < t = (h.later not_earlier).0 in omega (arith, same, e))
  ]
]

-- another run with 24 hours in the week is preferred to a run
record IsBetter (horizon w : ℕ) (run other : Run) : Type 0 where
  pub from : week_start w ≤ other.start
  pub until : other.start < week_start (w + 1)
  pub enough : 1440 ≤ minutes_before horizon other
  pub preferred : IsPreferred run.start other.start (minutes_before horizon run) (minutes_before horizon other)

-- this can be decided
better_or : (horizon w : ℕ) (run other : Run) → IsBetter horizon w run other ⊎ (IsBetter horizon w run other → ⊥)
better_or horizon w run other = elim (cases_lt other.start (week_start w)) [
  | inl before ↦ inr (λ h. let e : week_start w ≤ other.start = h.from in omega (arith, before, e))
  | inr from ↦ elim (cases_lt other.start (week_start (w + 1))) [
    | inr after ↦ inr (λ h. let e : other.start < week_start (w + 1) = h.until in omega (arith, after, e))
    | inl until ↦ elim (cases_lt (minutes_before horizon other) 1440) [
      | inl few ↦ inr (λ h. let e : 1440 ≤ minutes_before horizon other = h.enough in omega (arith, few, e))
      | inr enough ↦ elim (preferred_or run.start other.start (minutes_before horizon run) (minutes_before horizon other)) [
        | inl preferred ↦ inl (record { from = from; until = until; enough = enough; preferred = preferred })
        | inr not_preferred ↦ inr (λ h. not_preferred h.preferred)
      ]
    ]
  ]
]

-- a minute is before all weeks, or in one
week_or : (m : ℕ) → ((w : ℕ) → IsInWeek w m → ⊥) ⊎ ((w : ℕ) × IsInWeek w m)
week_or m = elim (cases_lt m 5760) [
  | inl before ↦ inl (λ w h. let e : week_start w ≤ m = h.0 in omega (arith, before, e))
  | inr after ↦ inr ((m - 5760) / 10080, (omega (arith, after), omega (arith, after)))
]

-- over the rest runs of a line
module _ (line : Line) (runs : List Run) (all : AreRestRuns line runs) (horizon : ℕ) where
  -- it is decided whether a run is the main rest of the week in which it starts
  main_or : (w : ℕ) (run : Run) → IsRestRun line run → IsInWeek w run.start
      → IsMainRest line horizon w run ⊎ (IsMainRest line horizon w run → ⊥)
  main_or w run is week = elim (cases_lt (minutes_before horizon run) 1440) [
    | inl few ↦ inr (λ m. let e : 1440 ≤ minutes_before horizon run = m.candidate.enough in omega (arith, few, e))
    | inr enough ↦ elim (some_or_none (IsBetter horizon w run) (better_or horizon w run) runs) [
      | inl (other, among, better) ↦ inr (λ m.
          let c : IsCandidate line horizon w other =
          record { rests = (all.each other).0 among; week = (better.from, better.until); enough = better.enough } in
          elim (cases_lt other.start run.start) [
            | inl earlier ↦
                let x : minutes_before horizon other < minutes_before horizon run = m.best other c earlier in
                let y : minutes_before horizon run ≤ minutes_before horizon other = better.preferred.earlier earlier in
                omega (arith, x, y)
            | inr not_earlier ↦
                let l : (run.start < other.start) × (minutes_before horizon run < minutes_before horizon other) =
                better.preferred.later not_earlier in
                let x : minutes_before horizon other ≤ minutes_before horizon run = m.first other c l.0 in
                omega (arith, x, l.1)
          ])
      | inr none ↦ inl (record {
        candidate = record { rests = is; week = week; enough = enough };
        best = λ other c earlier. elim (cases_lt (minutes_before horizon other) (minutes_before horizon run)) [
          | inl fewer ↦ fewer
          | inr many ↦ absurd (none other ((all.each other).1 c.rests) (record {
            from = c.week.0;
            until = c.week.1;
            enough = c.enough;
            preferred = record { earlier = λ l. many; later = λ l. absurd (omega (arith, earlier, l)) };
          }))
        ];
        first = λ other c later. elim (cases_lt (minutes_before horizon run) (minutes_before horizon other)) [
          | inl more ↦ absurd (none other ((all.each other).1 c.rests) (record {
            from = c.week.0;
            until = c.week.1;
            enough = c.enough;
            preferred = record { earlier = λ l. omega (arith, more); later = λ l. (later, more) };
          }))
          | inr most ↦ most
        ];
      })
    ]
  ]

  -- a run is the main rest of some week, or of none
  main_of_some : (run : Run) → IsRestRun line run
      → ((w : ℕ) × IsMainRest line horizon w run) ⊎ ((w : ℕ) → IsMainRest line horizon w run → ⊥)
  main_of_some run is = elim (week_or run.start) [
    | inl none ↦ inr (λ w m. none w m.candidate.week)
    | inr (w, in_week) ↦ elim (main_or w run is in_week) [
      | inl main ↦ inl (w, main)
      | inr not_main ↦ inr (λ v m.
          not_main (subst (λ (u : ℕ). IsMainRest line horizon u run) (one_week v w run.start m.candidate.week in_week) m))
    ]
  ]

  -- a rest run keeps a number for itself
  pub kept_some : (run : Run) → IsRestRun line run → (kept : ℕ) × Keeps line horizon run kept
  kept_some run is = elim (main_of_some run is) [
    | inl (v, main) ↦ (2700, record { main = λ w m. refl; other = λ none. absurd (none v main) })
    | inr none ↦ (540, record { main = λ w m. absurd (none w m); other = λ others. refl })
  ]
