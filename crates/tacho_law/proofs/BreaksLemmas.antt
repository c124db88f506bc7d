-- Complete breaks are found by going over the rest runs in order, and there is one list of them (`laws::one_list_of_complete_breaks`).
use Rattle.std.proofs.Common.{◌≡◌, ℕ, zero, suc, ◌<◌, ◌≤◌, ◌⊎◌, inl, inr, List, [], ◌∷◌, ◌++◌}
use Rattle.std.proofs.Common.{get_or, refl, sym, ap, subst, arith, Bool, true, false}
use Rattle.std.specs.Prelude.{IsTrue}
use Rattle.std.specs.List.{All, Contains}
use Rattle.std.proofs.lemmas.List.Elements.{Contains-push, Contains-append_left, Contains-push_cases}
use Rattle.std.proofs.lemmas.List.Elements.{Contains-get_or, All-contains}
use Rattle.std.proofs.lemmas.List.Quantifiers.{all_pairs_push}
use Rattle.tacho_law.specs.declared.run.Run.{Run}
use Rattle.tacho_law.specs.Runs.{Before, minutes_of}
use Rattle.tacho_law.specs.Breaks.{Completes, AreCompleteBreaks}
use Rattle.tacho_law.specs.SoFar.{HasShort, Breaking}
use Rattle.tacho_law.proofs.RunsLemmas.{same_runs}

-- an empty list has no run
nothing : (x : Run) → Contains [] x → ⊥
nothing x (k, within, is) = omega arith

-- before the first run
pub breaking_none : Breaking [] [] false
breaking_none = record {
  whole = record {
    each = λ run. (λ h. absurd (nothing run h), λ h. absurd (nothing run h.0));
    in_order = λ i j d below within. absurd (omega arith);
  };
  set = λ h. cc;
  has = λ h. absurd (nothing h.part h.among);
}

-- the step for a run after all runs seen
module _ (seen breaks : List Run) (short : Bool) (run : Run) (r : Breaking seen breaks short)
    (later : (x : Run) → Contains seen x → Before x run) (some : run.start < run.past)
    (each : (x : Run) → Contains seen x → x.start < x.past) where
  -- a break is one of the runs seen
  held : (b : Run) → Contains breaks b → Contains seen b
  held b h = ((r.whole.each b).0 h).0

  -- no run is before itself
  not_itself : Before run run → ⊥
  not_itself h = omega arith

  -- the new run isn't before a run that was seen
  not_before : (x : Run) → Contains seen x → Before run x → ⊥
  not_before x h b = let l : x.past < run.start = later x h in let e : x.start < x.past = each x h in omega arith

  -- a run that is before a run seen, or before the new run, was seen
  seen_if : (x : Run) → Contains (seen ++ run ∷ []) x → (y : Run)
      → Contains seen y ⊎ (run ≡ y) → Before x y → Contains seen x
  seen_if x h y at b = elim (Contains-push_cases seen run x h) [
    | inl old ↦ old
    | inr same ↦ absurd (elim at [
      | inl in' ↦ not_before y in' (subst (λ (z : Run). Before z y) (sym same) b)
      | inr e ↦ not_itself (subst (λ (z : Run). Before run z) (sym e) (subst (λ (z : Run). Before z y) (sym same) b))
    ])
  ]

  module _ (more : List Run) (old : (b : Run) → Contains breaks b → Contains more b)
      (new : (b : Run) → Contains more b → Contains breaks b ⊎ (run ≡ b)) where
    -- a run seen that completed a break still does
    keeps : (x : Run) → Contains seen x → Completes seen breaks x → Completes (seen ++ run ∷ []) more x
    keeps x in' c = elim c [
      | inl long ↦ inl long
      | inr two ↦ inr (
        two.0,
        record {
          part = two.1.part;
          among = Contains-append_left seen (run ∷ []) two.1.part two.1.among;
          enough = two.1.enough;
          before = two.1.before;
          after = λ b h before. elim (new b h) [
            | inl was ↦ two.1.after b was before
            | inr same ↦ absurd (not_before x in' (subst (λ (y : Run). Before y x) (sym same) before))
          ];
        },
      )
    ]

    -- a run seen that completes a break now did so before
    kept : (x : Run) → Contains seen x → Completes (seen ++ run ∷ []) more x → Completes seen breaks x
    kept x in' c = elim c [
      | inl long ↦ inl long
      | inr two ↦ inr (
        two.0,
        record {
          part = two.1.part;
          among = seen_if two.1.part two.1.among x (inl in') two.1.before;
          enough = two.1.enough;
          before = two.1.before;
          after = λ b h before. two.1.after b (old b h) before;
        },
      )
    ]

    -- the new run completes a break if it is long enough, or if it is the last part and a first part is open
    here : (45 ≤ minutes_of run) ⊎ ((30 ≤ minutes_of run) × IsTrue short) → Completes (seen ++ run ∷ []) more run
    here c = elim c [
      | inl long ↦ inl long
      | inr two ↦
          let h : HasShort seen breaks = r.set two.1 in
          inr (
            two.0,
            record {
              part = h.part;
              among = Contains-append_left seen (run ∷ []) h.part h.among;
              enough = h.enough;
              before = later h.part h.among;
              after = λ b in' before. elim (new b in') [
                | inl was ↦ h.after b was
                | inr same ↦ absurd (not_itself (subst (λ (y : Run). Before y run) (sym same) before))
              ];
            },
          )
    ]

    -- conversely, if the new run completes a break, it is long enough, or the last part after an open first part
    there : Completes (seen ++ run ∷ []) more run → (45 ≤ minutes_of run) ⊎ ((30 ≤ minutes_of run) × IsTrue short)
    there c = elim c [
      | inl long ↦ inl long
      | inr two ↦ inr (
        two.0,
        r.has (record {
          part = two.1.part;
          among = seen_if two.1.part two.1.among run (inr refl) two.1.before;
          enough = two.1.enough;
          after = λ b in'. two.1.after b (old b in') (later b (held b in'));
        }),
      )
    ]

  -- a run that completes a break is added, and no first part is open after it
  pub breaking_add : (45 ≤ minutes_of run) ⊎ ((30 ≤ minutes_of run) × IsTrue short)
      → Breaking (seen ++ run ∷ []) (breaks ++ run ∷ []) false
  breaking_add c =
      let more : List Run = breaks ++ run ∷ [] in
      let old : (b : Run) → Contains breaks b → Contains more b = λ b h. Contains-append_left breaks (run ∷ []) b h in
      let new : (b : Run) → Contains more b → Contains breaks b ⊎ (run ≡ b) = λ b h.
      Contains-push_cases breaks run b h in
      let mine : Completes (seen ++ run ∷ []) more run = here more old new c in
      record {
        whole = record {
          each = λ x. (
            λ h. elim (new x h) [
              | inl was ↦ (
                Contains-append_left seen (run ∷ []) x (held x was),
                keeps more old new x (held x was) ((r.whole.each x).0 was).1,
              )
              | inr same ↦
                  subst (λ (y : Run). Contains (seen ++ run ∷ []) y × Completes (seen ++ run ∷ []) more y)
                  same (Contains-push seen run, mine)
            ],
            λ h. elim (Contains-push_cases seen run x h.0) [
              | inl was ↦ old x ((r.whole.each x).1 (was, kept more old new x was h.1))
              | inr same ↦ subst (λ (y : Run). Contains more y) same (Contains-push breaks run)
            ],
          );
          in_order = all_pairs_push Before breaks run r.whole.in_order (λ k d within.
              later (get_or breaks k d) (held (get_or breaks k d) (Contains-get_or breaks k d within)));
        };
        set = λ h. cc;
        has = λ h. absurd (elim (Contains-push_cases seen run h.part h.among) [
          | inl was ↦ not_before h.part was (h.after run (Contains-push breaks run))
          | inr same ↦
              not_itself (subst (λ (y : Run). Before run y) (sym same) (h.after run (Contains-push breaks run)))
        ]);
      }

  -- if the run doesn't complete a break, the breaks stay the same
  stay : ((45 ≤ minutes_of run) ⊎ ((30 ≤ minutes_of run) × IsTrue short) → ⊥)
      → AreCompleteBreaks (seen ++ run ∷ []) breaks
  stay fails =
      let old : (b : Run) → Contains breaks b → Contains breaks b = λ b h. h in
      let new : (b : Run) → Contains breaks b → Contains breaks b ⊎ (run ≡ b) = λ b h. inl h in
      record {
        each = λ x. (
          λ h. (
            Contains-append_left seen (run ∷ []) x (held x h),
            keeps breaks old new x (held x h) ((r.whole.each x).0 h).1,
          ),
          λ h. elim (Contains-push_cases seen run x h.0) [
            | inl was ↦ (r.whole.each x).1 (was, kept breaks old new x was h.1)
            | inr same ↦
                absurd (fails
                (there breaks old new (subst (λ (y : Run). Completes (seen ++ run ∷ []) breaks y) (sym same) h.1)))
          ],
        );
        in_order = r.whole.in_order;
      }

  -- a run of 15 minutes that completes no break is an open first part
  pub breaking_short : ((45 ≤ minutes_of run) ⊎ ((30 ≤ minutes_of run) × IsTrue short) → ⊥)
      → 15 ≤ minutes_of run → Breaking (seen ++ run ∷ []) breaks true
  breaking_short fails enough = record {
    whole = stay fails;
    set = λ h.
        record { part = run; among = Contains-push seen run; enough = enough; after = λ b in'. later b (held b in') };
    has = λ h. refl;
  }

  -- a shorter one changes nothing
  pub breaking_stay : ((45 ≤ minutes_of run) ⊎ ((30 ≤ minutes_of run) × IsTrue short) → ⊥)
      → minutes_of run < 15 → Breaking (seen ++ run ∷ []) breaks short
  breaking_stay fails few = record {
    whole = stay fails;
    set = λ h.
        let was : HasShort seen breaks = r.set h in
        record {
          part = was.part;
          among = Contains-append_left seen (run ∷ []) was.part was.among;
          enough = was.enough;
          after = was.after;
        };
    has = λ h. elim (Contains-push_cases seen run h.part h.among) [
      | inl was ↦ r.has (record { part = h.part; among = was; enough = h.enough; after = h.after })
      | inr same ↦ absurd (
          let e : minutes_of run ≡ minutes_of h.part = ap minutes_of same in
          let f : 15 ≤ minutes_of h.part = h.enough in
          omega (arith, e, f))
    ];
  }

-- complete breaks aren't empty, since rest runs aren't
pub breaks_last : (runs breaks : List Run) → AreCompleteBreaks runs breaks
    → All (λ (x : Run). x.start < x.past) runs → All (λ (x : Run). x.start < x.past) breaks
breaks_last runs breaks are all k d within =
    All-contains (λ (x : Run). x.start < x.past) runs (get_or breaks k d) all
    ((are.each (get_or breaks k d)).0 (Contains-get_or breaks k d within)).0

-- breaks of one list are in the other: whether a run completes a break depends only on the breaks before it
same_breaks : (runs breaks others : List Run) → All (λ (run : Run). run.start < run.past) runs
    → AreCompleteBreaks runs breaks → AreCompleteBreaks runs others
    → (n : ℕ) (run : Run) → run.start < n → Contains breaks run → Contains others run
same_breaks runs breaks others some a b zero run below h = absurd (omega arith)
same_breaks runs breaks others some a b (suc n) run below h =
    let is : Contains runs run × Completes runs breaks run = (a.each run).0 h in
    let completes : Completes runs others run = elim is.1 [
      | inl long ↦ inl long
      | inr two ↦ inr (
        two.0,
        record {
          part = two.1.part;
          among = two.1.among;
          enough = two.1.enough;
          before = two.1.before;
          after = λ x in' before.
              (let lasts : x.start < x.past =
              All-contains (λ (y : Run). y.start < y.past) runs x some ((b.each x).0 in').0 in
              let early : x.past < run.start = before in
              two.1.after x (same_breaks runs others breaks some b a n x (omega arith) in') before);
        },
      )
    ] in
    (b.each run).1 (is.0, completes)

-- runs have one list of complete breaks
pub one_complete_breaks : (runs breaks others : List Run) → All (λ (run : Run). run.start < run.past) runs
    → AreCompleteBreaks runs breaks → AreCompleteBreaks runs others → breaks ≡ others
one_complete_breaks runs breaks others some a b =
    same_runs breaks others (breaks_last runs breaks a some) (breaks_last runs others b some) a.in_order b.in_order
    (λ run h. same_breaks runs breaks others some a b (suc run.start) run (omega arith) h)
    (λ run h. same_breaks runs others breaks some b a (suc run.start) run (omega arith) h)
