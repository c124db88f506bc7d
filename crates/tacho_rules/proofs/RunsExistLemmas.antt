-- A line that is at rest before a base and from a horizon on has a list of rest runs, and of complete breaks.
use Rattle.std.proofs.Common.{◌≡◌, ◌≢◌, ℕ, zero, suc, ◌+◌, ◌<◌, ◌≤◌, ◌⊎◌, inl, inr, List, [], ◌∷◌, ◌++◌, Bool, true}
use Rattle.std.proofs.Common.{false, refl, sym, ap, subst, ◌∙◌, arith}
use Rattle.std.specs.Prelude.{IsTrue}
use Rattle.std.specs.List.{AllPairs, Contains}
use Rattle.std.proofs.lemmas.Bool.{cases_lt}
use Rattle.std.proofs.lemmas.List.{append-nil, append_assoc}
use Rattle.tacho_time.specs.declared.span.Activity.TheVariants.{Rest}
use Rattle.tacho_law.specs.declared.run.Run.{Run}
use Rattle.tacho_law.specs.declared.run.TheConstants.{FAR}
use Rattle.tacho_law.specs.Line.{Line}
use Rattle.tacho_law.specs.Runs.{IsRestRun, AreRestRuns, IsRestOf, AreNeighbours, Before, minutes_of}
use Rattle.tacho_law.specs.Breaks.{AreCompleteBreaks}
use Rattle.tacho_law.specs.SoFar.{Breaking}
use Rattle.tacho_law.proofs.BreaksLemmas.{breaking_none, breaking_add, breaking_short, breaking_stay}
use Rattle.tacho_law.proofs.CoveringLemmas.{rest_or}
use Rattle.tacho_law.proofs.DebtsLemmas.{separate}
use Rattle.tacho_law.proofs.ExactlyLemmas.{contains_head, contains_cases, head_first, tail_order}
use Rattle.tacho_rules.proofs.FiniteLemmas.{Decided, decide_both, decide_either, decide_not, decide_if, decide_as}
use Rattle.tacho_rules.proofs.FiniteLemmas.{decide_lt, decide_le, decide_eq, decide_all, IsFinite, no_member}
use Rattle.tacho_rules.proofs.FiniteLemmas.{append_left, append_right, finite_one, finite_as, finite_of, finite_where}
use Rattle.tacho_rules.proofs.FiniteLemmas.{finite_below, listed}

-- the line is at rest before a base and from a horizon on
pub record IsQuiet (line : Line) (base horizon : ℕ) : Type 0 where
  pub before : (m : ℕ) → m < base → line m ≡ Rest
  pub after : (m : ℕ) → horizon ≤ m → line m ≡ Rest
  pub from : 15780960 ≤ base
  pub order : base ≤ horizon
  pub until : horizon ≤ 68374080

-- a run from its two ends
abbrev run_of : ℕ → ℕ → Run
run_of start past = record { start = start; past = past }

pub same_run : (a b : Run) → a.start ≡ b.start → a.past ≡ b.past → a ≡ b
same_run a b e f = ap (λ (x : ℕ). run_of x a.past) e ∙ ap (λ (x : ℕ). run_of b.start x) f

-- ---- rest runs

module _ (line : Line) where
  decide_from : (s : ℕ) → Decided ((s ≡ 0) ⊎ ((m : ℕ) → m + 1 ≡ s → line m ≢ Rest))
  decide_from zero = inl (inl refl)
  decide_from (suc s) = elim (rest_or (line s)) [
    | inl rest ↦ inr (λ h. elim h [ inl e ↦ omega (arith, e) | inr busy ↦ busy s (omega arith) rest ])
    | inr busy ↦ inl (inr (λ m e. subst (λ (x : ℕ). line x ≢ Rest) (let f : s ≡ m = omega (arith, e) in f) busy))
  ]

  decide_run : (run : Run) → Decided (IsRestRun line run)
  decide_run run = decide_as
      (λ h. record { some = h.0; rest = λ m above below. h.1.0 m below above; from = h.1.1.0; until = h.1.1.1 })
      (λ is. (is.some, (λ m below above. is.rest m above below, (is.from, is.until))))
      (decide_both (decide_lt run.start run.past)
      (decide_both
      (decide_all (λ (m : ℕ). m < run.past) (λ m. run.start ≤ m → line m ≡ Rest) (finite_below run.past)
      (λ m l. decide_if (decide_le run.start m) (rest_or (line m))))
      (decide_both (decide_from run.start)
      (decide_either (decide_eq run.past FAR) (decide_not (rest_or (line run.past)))))))

module _ (line : Line) (base horizon : ℕ) (quiet : IsQuiet line base horizon) where
  pub run_ends : (run : Run) → IsRestRun line run → run.past ≤ FAR
  run_ends run is = elim (cases_lt FAR run.past) [
    | inl over ↦ elim is.until [
      | inl e ↦ omega (arith, e)
      | inr busy ↦ absurd (busy (quiet.after run.past (let u = quiet.until in omega (arith, u, over))))
    ]
    | inr le ↦ le
  ]

  finite_by : (n : ℕ) → ((run : Run) → IsRestRun line run → run.past < n) → IsFinite (IsRestRun line)
  finite_by n below =
      finite_as
      (λ run. ((s : ℕ) × (s < n) × ((p : ℕ) × (p < n) × (run_of s p ≡ run))) × IsRestRun line run) (IsRestRun line)
      (λ run. (
        λ h. h.1,
        λ is.
            let l : run.past < n = below run is in
            let k : run.start < run.past = is.some in
            ((run.start, omega (arith, l, k), (run.past, l, refl)), is),
      ))
      (finite_where (λ run. (s : ℕ) × (s < n) × ((p : ℕ) × (p < n) × (run_of s p ≡ run))) (IsRestRun line)
      (finite_of (λ (s : ℕ). s < n) (λ s run. (p : ℕ) × (p < n) × (run_of s p ≡ run)) (finite_below n)
      (λ s l. finite_of (λ (p : ℕ). p < n) (λ p run. run_of s p ≡ run) (finite_below n)
      (λ p k. finite_one (λ run. run_of s p ≡ run) (run_of s p) refl (λ run e. e))))
      (λ run h. decide_run line run))

  pub finite_runs : IsFinite (IsRestRun line)
  finite_runs = finite_by (FAR + 1) (λ run is. (let l = run_ends run is in omega (arith, l)))

  ends_by : (a b : Run) → IsRestRun line a → IsRestRun line b → a.start ≡ b.start → b.past ≤ a.past
  ends_by a b r s e = elim (cases_lt a.past b.past) [
    | inl l ↦ elim r.until [
      | inl far ↦ let k = run_ends b s in omega (arith, k, far)
      | inr busy ↦ let k = r.some in absurd (busy (s.rest a.past (omega (arith, k, e)) l))
    ]
    | inr l ↦ l
  ]

  pub one_start : (a b : Run) → IsRestRun line a → IsRestRun line b → a.start ≡ b.start → a ≡ b
  one_start a b r s e =
      let f = ends_by a b r s e in
      let g = ends_by b a s r (sym e) in
      same_run a b e (omega (arith, f, g))

  pub runs_order : (a b : Run) → IsRestRun line a → IsRestRun line b → (a ≡ b) ⊎ (Before a b ⊎ Before b a)
  runs_order a b r s = elim (cases_lt a.start b.start) [
    | inl l ↦ inr (inl (separate line a b r s l))
    | inr l ↦ elim (cases_lt b.start a.start) [
      | inl k ↦ inr (inr (separate line b a s r k))
      | inr k ↦ inl (one_start a b r s (omega (arith, l, k)))
    ]
  ]

  pub rest_runs : (runs : List Run) × AreRestRuns line runs
  rest_runs = listed (IsRestRun line) Before runs_order
      (λ x y z p q r e f. (let k = q.some in omega (arith, e, f, k))) finite_runs

  -- there is a list of the rest runs of at least `least` minutes
  pub finite_rests : (least : ℕ) → IsFinite (IsRestOf line least)
  finite_rests least = finite_as (λ run. IsRestRun line run × (least ≤ minutes_of run)) (IsRestOf line least)
      (λ run. (λ h. record { rests = h.0; enough = h.1 }, λ is. (is.rests, is.enough)))
      (finite_where (IsRestRun line) (λ run. least ≤ minutes_of run) finite_runs (λ run is. decide_le least (minutes_of run)))

  -- there is a list of the pairs of neighbours among them
  pub finite_neighbours : (least : ℕ) → IsFinite (λ (p : Run × Run). AreNeighbours line least p.0 p.1)
  finite_neighbours least =
      finite_as
      (λ (p : Run × Run). ((a : Run) × IsRestOf line least a × ((b : Run) × IsRestOf line least b × ((a, b) ≡ p)))
      × (Before p.0 p.1 × ((c : Run) → IsRestOf line least c → (Before p.0 c × Before c p.1) → ⊥)))
      (λ (p : Run × Run). AreNeighbours line least p.0 p.1)
      (λ p. (
        λ h. record {
          first = subst (λ (q : Run × Run). IsRestOf line least q.0) h.0.2.2 h.0.1;
          second = subst (λ (q : Run × Run). IsRestOf line least q.1) h.0.2.2 h.0.2.1;
          before = h.1.0;
          between = λ c is e f. h.1.1 c is (e, f);
        },
        λ is. ((p.0, is.first, (p.1, is.second, refl)), (is.before, λ c r e. is.between c r e.0 e.1)),
      ))
      (finite_where
      (λ (p : Run × Run). (a : Run) × IsRestOf line least a × ((b : Run) × IsRestOf line least b × ((a, b) ≡ p)))
      (λ (p : Run × Run). Before p.0 p.1 × ((c : Run) → IsRestOf line least c → (Before p.0 c × Before c p.1) → ⊥))
      (finite_of (IsRestOf line least) (λ a p. (b : Run) × IsRestOf line least b × ((a, b) ≡ p)) (finite_rests least)
      (λ a r. finite_of (IsRestOf line least) (λ b p. (a, b) ≡ p) (finite_rests least)
      (λ b s. finite_one (λ (p : Run × Run). (a, b) ≡ p) (a, b) refl (λ p e. e))))
      (λ p h. decide_both (decide_lt p.0.past p.1.start)
      (decide_all (IsRestOf line least) (λ c. (Before p.0 c × Before c p.1) → ⊥) (finite_rests least)
      (λ c is. decide_not (decide_both (decide_lt p.0.past c.start) (decide_lt c.past p.1.start))))))

-- ---- complete breaks

-- in an ordered list, every element before `x` is ordered before it
front : {A : Type 0} (R : A → A → Type 0) (seen : List A) (x : A) (left : List A) → AllPairs R (seen ++ x ∷ left)
    → (y : A) → Contains seen y → R y x
front R [] x left order y h = absurd (no_member y h)
front R (z ∷ seen) x left order y h = elim (contains_cases z seen y h) [
  | inl same ↦ subst (λ u. R u x) same
      (head_first R z (seen ++ x ∷ left) x order (append_right seen (x ∷ left) x (contains_head x left)))
  | inr later ↦ front R seen x left (tail_order R z (seen ++ x ∷ left) order) y later
]

pub decide_true : (b : Bool) → Decided (IsTrue b)
decide_true true = inl refl
decide_true false = inr (λ e. cc)

breaks_from : (left seen breaks : List Run) (short : Bool) → AllPairs Before (seen ++ left)
    → ((x : Run) → Contains (seen ++ left) x → x.start < x.past) → Breaking seen breaks short
    → (all : List Run) × AreCompleteBreaks (seen ++ left) all
breaks_from [] seen breaks short order some r =
    (breaks, subst (λ (xs : List Run). AreCompleteBreaks xs breaks) (sym (append-nil seen)) r.whole)
breaks_from (run ∷ left) seen breaks short order some r =
    let e : (seen ++ run ∷ []) ++ left ≡ seen ++ run ∷ left = append_assoc seen (run ∷ []) left in
    let later : (x : Run) → Contains seen x → Before x run = front Before seen run left order in
    let mine : run.start < run.past = some run (append_right seen (run ∷ left) run (contains_head run left)) in
    let each : (x : Run) → Contains seen x → x.start < x.past = λ x h. some x (append_left seen (run ∷ left) x h) in
    let next : (more : List Run) (b : Bool) → Breaking (seen ++ run ∷ []) more b
    → (all : List Run) × AreCompleteBreaks (seen ++ run ∷ left) all =
    λ more b is.
    subst (λ (xs : List Run). (all : List Run) × AreCompleteBreaks xs all) e
    (breaks_from left (seen ++ run ∷ []) more b (subst (λ (xs : List Run). AllPairs Before xs) (sym e) order)
    (subst (λ (xs : List Run). (x : Run) → Contains xs x → x.start < x.past) (sym e) some) is) in
    elim (decide_either (decide_le 45 (minutes_of run)) (decide_both (decide_le 30 (minutes_of run)) (decide_true short))) [
      | inl c ↦ next (breaks ++ run ∷ []) false (breaking_add seen breaks short run r later mine each c)
      | inr fails ↦ elim (cases_lt (minutes_of run) 15) [
        | inl few ↦ next breaks short (breaking_stay seen breaks short run r later mine each fails few)
        | inr enough ↦ next breaks true (breaking_short seen breaks short run r later mine each fails enough)
      ]
    ]

pub complete_breaks : (line : Line) (runs : List Run) → AreRestRuns line runs → (breaks : List Run) × AreCompleteBreaks runs breaks
complete_breaks line runs are =
    breaks_from runs [] [] false are.in_order (λ x h. ((are.each x).0 h).some) breaking_none
