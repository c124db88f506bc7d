-- Facts about rest runs stay when a line continues after its horizon (`laws::breaches_stay`).
use Rattle.std.proofs.Common.{◌≡◌, ◌≢◌, ℕ, suc, ◌-◌, ◌<◌, ◌≤◌, ◌⊎◌, ◌↔◌, inl, inr, List, [], ◌∷◌}
use Rattle.std.proofs.Common.{refl, sym, ap, subst, ◌∙◌, arith}
use Rattle.std.specs.List.{All, AllPairs, Contains}
use Rattle.std.proofs.lemmas.Bool.{cases_lt}
use Rattle.tacho_time.specs.declared.span.Activity.TheVariants.{Rest}
use Rattle.tacho_law.specs.declared.run.Run.{Run}
use Rattle.tacho_law.specs.declared.run.TheConstants.{FAR}
use Rattle.tacho_law.specs.Line.{Line}
use Rattle.tacho_law.specs.Limits.{latest}
use Rattle.tacho_law.specs.Runs.{IsRestRun, AreRuns, Before, minutes_of}
use Rattle.tacho_law.proofs.ExactlyLemmas.{head_first, tail_order, contains_head, contains_tail, contains_cases}
use Rattle.tacho_law.proofs.DebtsLemmas.{separate}
use Rattle.tacho_law.proofs.CoveringLemmas.{Covers, covered}

-- `line` is at rest from its horizon `h` on; `other` is at rest from `k` on, and agrees with `line` before `h`
pub record GoesOn (line other : Line) (h k : ℕ) : Type 0 where
  pub agree : (m : ℕ) → m < h → line m ≡ other m
  pub rest : (m : ℕ) → h ≤ m → line m ≡ Rest
  pub other_rest : (m : ℕ) → k ≤ m → other m ≡ Rest
  pub later : h ≤ k
  pub early : k ≤ latest

-- the first run after `a` that has at least `least` minutes
pub record IsFirstAfter (xs : List Run) (least : ℕ) (a first : Run) : Type 0 where
  pub among : Contains xs first
  pub enough : least ≤ minutes_of first
  pub behind : Before a first
  pub none : (c : Run) → Contains xs c → least ≤ minutes_of c → Before a c → Before c first → ⊥

-- there is no such run
pub NoneAfter : List Run → ℕ → Run → Type 0
NoneAfter xs least a = (c : Run) → Contains xs c → least ≤ minutes_of c → Before a c → ⊥

module _ (least : ℕ) (a : Run) where
  -- if `x` is not such a run, the first one is among the later runs
  later_first : (x : Run) (xs : List Run) → AllPairs Before (x ∷ xs) → (least ≤ minutes_of x → Before a x → ⊥)
      → ((first : Run) × IsFirstAfter xs least a first) ⊎ NoneAfter xs least a
      → ((first : Run) × IsFirstAfter (x ∷ xs) least a first) ⊎ NoneAfter (x ∷ xs) least a
  unfolding NoneAfter
  later_first x xs order not_x found = elim found [
    | inl (first, is) ↦ inl (
      first,
      record {
        among = contains_tail x xs first is.among;
        enough = is.enough;
        behind = is.behind;
        none = λ c in' enough after before. elim (contains_cases x xs c in') [
          | inl same ↦
              not_x (subst (λ (y : Run). least ≤ minutes_of y) (sym same) enough)
              (subst (λ (y : Run). Before a y) (sym same) after)
          | inr among ↦ is.none c among enough after before
        ];
      },
    )
    | inr none ↦ inr (λ c in' enough after. elim (contains_cases x xs c in') [
      | inl same ↦
          not_x (subst (λ (y : Run). least ≤ minutes_of y) (sym same) enough)
          (subst (λ (y : Run). Before a y) (sym same) after)
      | inr among ↦ none c among enough after
    ])
  ]

  here_first : (x : Run) (xs : List Run) → x.start < x.past → AllPairs Before (x ∷ xs)
      → All (λ (run : Run). run.start < run.past) xs
      → least ≤ minutes_of x → Before a x → IsFirstAfter (x ∷ xs) least a x
  here_first x xs some order others enough behind = record {
    among = contains_head x xs;
    enough = enough;
    behind = behind;
    none = λ c in' long after before. elim (contains_cases x xs c in') [
      | inl same ↦ (let e : x.start ≡ c.start = ap (λ (y : Run). y.start) same in
          let f : x.past ≡ c.past = ap (λ (y : Run). y.past) same in omega arith)
      | inr (i, within, is) ↦
          (let one : x.past < c.start = head_first Before x xs c order (i, within, is) in
          let two : c.start < c.past =
          subst (λ (y : Run). y.start < y.past) is (others i c within) in
          omega arith)
    ];
  }

  -- there is a first such run, or none
  pub first_after : (xs : List Run) → All (λ (run : Run). run.start < run.past) xs → AllPairs Before xs
      → ((first : Run) × IsFirstAfter xs least a first) ⊎ NoneAfter xs least a
  unfolding NoneAfter
  first_after [] some order = inr (λ c in' enough after. let (i, within, is) = in' in omega arith)
  first_after (x ∷ xs) some order =
      let tail : AllPairs Before xs = tail_order Before x xs order in
      let others : All (λ (run : Run). run.start < run.past) xs = λ i d within. some (suc i) d (omega arith) in
      let rest : ((first : Run) × IsFirstAfter xs least a first) ⊎ NoneAfter xs least a =
      first_after xs others tail in
      elim (cases_lt a.past x.start) [
        | inl behind ↦ elim (cases_lt (minutes_of x) least) [
          | inl short ↦ later_first x xs order (λ enough after. omega arith) rest
          | inr enough ↦ inl (x, here_first x xs (some 0 x (omega arith)) order others enough behind)
        ]
        | inr not ↦ later_first x xs order (λ enough after. omega arith) rest
      ]

module _ (line other : Line) (h k : ℕ) (g : GoesOn line other h k) where
  -- a run of `line` ends before the horizon, or has no end
  pub ending : (run : Run) → IsRestRun line run → (run.past ≡ FAR) ⊎ (run.past < h)
  ending run is = elim is.until [
    | inl far ↦ inl far
    | inr busy ↦ elim (cases_lt run.past h) [
      | inl before ↦ inr before
      | inr after ↦ absurd (busy (g.rest run.past after))
    ]
  ]

  -- a run of `line` that ends before the horizon is a run of `other`
  pub run_stays : (run : Run) → IsRestRun line run → run.past < h → IsRestRun other run
  run_stays run is below =
      let some : run.start < run.past = is.some in
      let one : h ≤ k = g.later in
      let two : k ≤ latest = g.early in
      record {
        some = is.some;
        rest = λ m a b. sym (g.agree m (omega arith)) ∙ is.rest m a b;
        from = elim is.from [
          | inl none ↦ inl none
          | inr busy ↦ inr (λ m e f. busy m e (g.agree m (omega arith) ∙ f))
        ];
        until = elim is.until [
          | inl far ↦ absurd (omega arith)
          | inr busy ↦ inr (λ f. busy (g.agree run.past below ∙ f))
        ];
      }

  -- a run of `other` that ends before the horizon is a run of `line`
  pub run_was : (run : Run) → IsRestRun other run → run.past < h → IsRestRun line run
  run_was run is below =
      let some : run.start < run.past = is.some in
      let one : h ≤ k = g.later in
      let two : k ≤ latest = g.early in
      record {
        some = is.some;
        rest = λ m a b. g.agree m (omega arith) ∙ is.rest m a b;
        from = elim is.from [
          | inl none ↦ inl none
          | inr busy ↦ inr (λ m e f. busy m e (sym (g.agree m (omega arith)) ∙ f))
        ];
        until = elim is.until [
          | inl far ↦ absurd (omega arith)
          | inr busy ↦ inr (λ f. busy (sym (g.agree run.past below) ∙ f))
        ];
      }

  -- `other` has a last run, which has no end
  pub last_run : (last : Run) × IsRestRun other last × (last.past ≡ FAR) × (last.start ≤ k)
  last_run =
      let early : k ≤ latest = g.early in
      let c : Covers other k = covered other k (omega arith) (g.other_rest k (omega arith)) in
      let far : c.run.past ≡ FAR = elim c.rests.until [
        | inl end ↦ end
        | inr busy ↦ absurd (busy (g.other_rest c.run.past (let t : k < c.run.past = c.to in omega arith)))
      ] in
      (c.run, c.rests, far, c.from)

  -- it comes after each run of `line` that has an end
  pub last_after : (a last : Run) → IsRestRun line a → a.past < h → IsRestRun other last → last.past ≡ FAR
      → Before a last
  last_after a last is below is_last far =
      let early : k ≤ latest = g.early in
      let later : h ≤ k = g.later in
      let stays : IsRestRun other a = run_stays a is below in
      elim (cases_lt a.start last.start) [
        | inl sooner ↦ separate other a last stays is_last sooner
        | inr not ↦ absurd (elim stays.until [
          | inl end ↦ omega arith
          | inr busy ↦ (let some : a.start < a.past = is.some in
              busy (is_last.rest a.past (omega arith) (omega arith)))
        ])
      ]

  -- a run of `other` that starts before a run of `line` ends before the horizon, and is ordered before that run
  pub sooner_was : (b c : Run) → IsRestRun line b → IsRestRun other c → c.start < b.start
      → (c.past < h) × Before c b
  sooner_was b c is is_c sooner = elim is.from [
    | inl none ↦ absurd (omega arith)
    | inr busy ↦
        let last : ℕ = b.start - 1 in
        let not_rest : other last ≢ Rest = λ e. busy last (omega arith) (elim (cases_lt last h) [
          | inl below ↦ g.agree last below ∙ e
          | inr above ↦ g.rest last above
        ]) in
        let below : last < h = elim (cases_lt last h) [
          | inl lt ↦ lt
          | inr ge ↦ absurd (busy last (omega arith) (g.rest last ge))
        ] in
        elim (cases_lt last c.past) [
          | inl within ↦ absurd (not_rest (is_c.rest last (omega arith) within))
          | inr ended ↦ (omega arith, omega arith)
        ]
  ]

  -- runs of one sort: `S` in `line`, `T` in `other`
  module _ (S T : Run → Type 0) (s_rests : (r : Run) → S r → IsRestRun line r) (t_rests : (r : Run) → T r
      → IsRestRun other r)
      (stays : (r : Run) → S r → r.past < h → T r) (was : (r : Run) → T r → r.past < h → S r)
      (xs : List Run) (are : AreRuns xs) (least : ℕ)
      (all : (r : Run) → T r ↔ (Contains xs r × (least ≤ minutes_of r)))
      (last : Run) (is_last : T last) (far : last.past ≡ FAR) where
    -- the next run in `other`: it comes no earlier than `b`, and is `b` if that ends before the horizon
    pub record IsNextThere (a b next : Run) : Type 0 where
      pub is : T next
      pub before : Before a next
      pub between : (c : Run) → T c → Before a c → Before c next → ⊥
      pub later : b.start ≤ next.start
      pub same : b.past < h → next ≡ b

    next_ended : (a b : Run) → S b → Before a b → ((c : Run) → S c → Before a c → Before c b → ⊥)
        → b.past < h → IsNextThere a b b
    next_ended a b is before between ended = record {
      is = stays b is ended;
      before = before;
      between = λ c t after sooner. between c (was c t (let n : b.start < b.past = (s_rests b is).some in omega arith))
          after sooner;
      later = omega arith;
      same = λ e. refl;
    }

    next_found : (a b first : Run) → S b → ((c : Run) → S c → Before a c → Before c b → ⊥) → b.past ≡ FAR
        → IsFirstAfter xs least a first → IsNextThere a b first
    next_found a b first is between end f =
        let t : T first = (all first).1 (f.among, f.enough) in
        record {
          is = t;
          before = f.behind;
          between = λ c u after sooner. f.none c ((all c).0 u).0 ((all c).0 u).1 after sooner;
          later = elim (cases_lt first.start b.start) [
            | inl sooner ↦
                let (ended, ahead) = sooner_was b first (s_rests b is) (t_rests first t) sooner in
                absurd (between first (was first t ended) f.behind ahead)
            | inr not ↦ not
          ];
          same = λ e. absurd (let one : h ≤ k = g.later in let two : k ≤ latest = g.early in omega arith);
        }

    pub next_there : (a b : Run) → S a → S b → Before a b → ((c : Run) → S c → Before a c → Before c b → ⊥)
        → (next : Run) × T a × IsNextThere a b next
    unfolding NoneAfter
    next_there a b is_a is_b before between =
        let one : h ≤ k = g.later in
        let two : k ≤ latest = g.early in
        let a_ended : a.past < h = elim (ending a (s_rests a is_a)) [
          | inl end ↦ absurd (let some : b.start < b.past = (s_rests b is_b).some in elim (ending b (s_rests b is_b)) [
            | inl end' ↦ omega arith
            | inr below ↦ omega arith
          ])
          | inr below ↦ below
        ] in
        elim (ending b (s_rests b is_b)) [
          | inr ended ↦ (b, stays a is_a a_ended, next_ended a b is_b before between ended)
          | inl end ↦ elim (first_after least a xs are.some are.in_order) [
            | inl (first, f) ↦ (first, stays a is_a a_ended, next_found a b first is_b between end f)
            | inr none ↦ absurd (none last ((all last).0 is_last).0 ((all last).0 is_last).1
                (last_after a last (s_rests a is_a) a_ended (t_rests last is_last) far))
          ]
        ]
