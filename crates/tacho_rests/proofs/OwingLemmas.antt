-- A ledger of debts represents the spans, span by span (specs/Owing).
use Rattle.std.proofs.Common.{◌≡◌, ◌≢◌, ℕ, ◌+◌, ◌-◌, ◌<◌, ◌≤◌, inl, inr, Bool, true, false, None, Some, List, [], ◌∷◌}
use Rattle.std.proofs.Common.{◌++◌, refl, sym, ap, subst, ◌∙◌, arith, nat_lt, if◌then◌else◌}
use Rattle.std.specs.List.{Contains}
use Rattle.std.proofs.lemmas.Bool.{cases_lt}
use Rattle.tacho_time.specs.declared.span.Activity.TheVariants.{Rest}
use Rattle.tacho_time.specs.declared.span.Span.{Span}
use Rattle.tacho_law.specs.declared.run.Run.{Run}
use Rattle.tacho_law.specs.declared.run.TheConstants.{FAR}
use Rattle.tacho_law.specs.declared.breach.Breach.{Breach}
use Rattle.tacho_law.specs.declared.debt.Debt.{Debt}
use Rattle.tacho_law.specs.Line.{line_of, Joined, IsExamined, IsBase, Line}
use Rattle.tacho_law.specs.Weeks.{week_start}
use Rattle.tacho_law.specs.Debts.{AreDebts}
use Rattle.tacho_law.specs.SoFar.{AreCollected}
use Rattle.tacho_law.specs.Breaches.{IsOverdue}
use Rattle.tacho_law.proofs.RunsLemmas.{run_of}
use Rattle.tacho_pass.specs.Heard.{is_rest, start_after, run_before, Continues, IsNext, IsLineTo}
use Rattle.tacho_pass.proofs.HearingLemmas.{line_append, line_at_end, joined_append, rests_yes, rests_no, heard_rest}
use Rattle.tacho_pass.proofs.HearingLemmas.{heard_busy, heard_next, heard_gap, line_to, last_next}
use Rattle.tacho_rests.specs.declared.compensation.Ledger.{Ledger}
use Rattle.tacho_rests.specs.Few.{debts_in, rests_in}
use Rattle.tacho_rests.specs.Turns.{OwesBefore, AreDebtsBefore, IsLedger, IsOwed}
use Rattle.tacho_rests.specs.Owing.{IsOwing, OwingStands, OwingDefined}
use Rattle.tacho_rests.proofs.TurnsLemmas.{kept_all}
use Rattle.tacho_rests.proofs.SoFarLemmas.{so_far_none}
use Rattle.tacho_rests.proofs.OverdueOfLemmas.{overdue_are}
use Rattle.tacho_rests.proofs.HeardLemmas.{run_some, none_if}

-- one more span
module _ (spans : List Span) (s : Span) (base start : ℕ) (books : Ledger) (own : List Breach) (owed : List Debt)
    (r : OwingStands books start s.start own owed base spans) (some : s.start < s.past) where
  joined : Joined (spans ++ s ∷ []) base s.past
  joined = joined_append spans s base r.joined some

  module _ (line : Line) (c : Continues line (spans ++ s ∷ []) s.past) where
    at : (m : ℕ) → s.start ≤ m → m < s.past → line m ≡ s.mark.activity
    at m above below = c m below ∙ line_at_end spans s base m r.joined above below

    before : IsOwing line start s.start books own owed
    before = r.kept line (λ m below. c m (omega arith) ∙ line_append spans s m below)

    busy : is_rest s.mark.activity ≡ false → (m : ℕ) → s.start ≤ m → m < s.past → line m ≢ Rest
    busy e m above below f = rests_no s.mark.activity e (sym (at m above below) ∙ f)

    quiet : s.mark.activity ≡ Rest → IsOwing line start s.past books own owed
    quiet e = record {
      e = before.e;
      low = before.low;
      heard = heard_rest line start before.e s before.heard some (λ m above below. at m above below ∙ e);
      ledger = before.ledger;
    }

    skip : is_rest s.mark.activity ≡ false → (start < s.start → start ≡ 0)
        → IsOwing line s.past s.past books own owed
    skip e first =
        record {
          e = before.e;
          low = before.low;
          heard = heard_busy line start before.e s before.heard some (busy e) first;
          ledger = before.ledger;
        }

    -- a run that starts before week 0 has no start
    first_run : start < 5760 → start ≡ 0
    first_run early = elim before.heard.since [
      | inl none ↦ none
      | inr from ↦ absurd (let low : 5760 ≤ before.e = before.low in omega arith)
    ]

    later : 5760 ≤ start → before.e ≤ start
    later late = elim before.heard.since [
      | inl none ↦ absurd (omega arith)
      | inr from ↦ from
    ]

  none_by : (b : Bool) → is_rest s.mark.activity ≡ b
      → (if b then None else (if nat_lt start s.start then Some (run_of start s.start) else None)) ≡ None
      → OwingStands books (if b then start else s.past) s.past own owed base (spans ++ s ∷ [])
  none_by true e is =
      record { joined = joined; kept = λ line c. quiet line c (rests_yes s.mark.activity e) }
  none_by false e is =
      let none : s.start ≤ start = none_if start s (nat_lt start s.start) refl is in
      record { joined = joined; kept = λ line c. skip line c e (λ gap. absurd (omega arith)) }

  -- no rest run ends at the span
  pub fed_none : run_before start s ≡ None
      → OwingStands books (start_after start s) s.past own owed base (spans ++ s ∷ [])
  fed_none is = none_by (is_rest s.mark.activity) refl is

  after_busy : is_rest s.mark.activity ≡ false → start_after start s ≡ s.past
  after_busy e = rw e refl

  -- the first rest run ends at the span
  pub fed_first : (run : Run) → run_before start s ≡ Some run → run.start < 5760
      → OwingStands books (start_after start s) s.past own owed base (spans ++ s ∷ [])
  fed_first run is early =
      let of = run_some start s run is in
      let same : start ≡ run.start = ap (λ (x : Run). x.start) of.2 in
      subst (λ (n : ℕ). OwingStands books n s.past own owed base (spans ++ s ∷ [])) (sym (after_busy of.0))
      (record {
        joined = joined;
        kept = λ line c. skip line c of.0 (λ gap. first_run line c (omega arith));
      })

  -- another rest run ends at the span
  pub fed_next : (run : Run) → run_before start s ≡ Some run → 5760 ≤ run.start
      → (after : Ledger) (own' : List Breach) (owed' : List Debt)
      → ((line : Line) (horizon : ℕ) (last : Run) (e : ℕ) → IsLineTo line horizon last → IsNext line e run
      → IsLedger line horizon e books.week (rests_in books.rests) (debts_in books.debts) own owed
      → IsLedger line horizon (run.start + 1) after.week (rests_in after.rests) (debts_in after.debts) own' owed')
      → OwingStands after (start_after start s) s.past own' owed' base (spans ++ s ∷ [])
  fed_next run is late after own' owed' law =
      let of = run_some start s run is in
      let same : start ≡ run.start = ap (λ (x : Run). x.start) of.2 in
      subst (λ (n : ℕ). OwingStands after n s.past own' owed' base (spans ++ s ∷ [])) (sym (after_busy of.0))
      (record {
        joined = joined;
        kept = λ line c.
            (let b : IsOwing line start s.start books own owed = before line c in
            let from : b.e ≤ start = later line c (omega arith) in
            let n : IsNext line b.e run =
            subst (λ (x : Run). IsNext line b.e x) of.2
            (heard_next line start b.e s b.heard some (busy line c of.0) of.1 from) in
            record {
              e = start + 1;
              low = omega arith;
              heard = heard_gap line start b.e s b.heard some (busy line c of.0) of.1 from;
              ledger = λ horizon last l. subst (λ (m : ℕ). IsLedger line horizon (m + 1) after.week
                  (rests_in after.rests) (debts_in after.debts) own' owed')
                  (sym same) (law line horizon last b.e l n (b.ledger horizon last l));
            });
      })

-- before the first span
pub stands_none : (base : ℕ) (books : Ledger) → IsBase base → base ≡ week_start books.week
    → rests_in books.rests ≡ [] → debts_in books.debts ≡ [] → OwingStands books 0 base [] [] base []
stands_none base books is week rests debts = record {
  joined = refl;
  kept = λ line c.
      (let from : 15780960 ≤ base = is.from in
      record {
        e = base;
        low = omega arith;
        heard = record {
          resting = λ m above below. c m below;
          from = inl refl;
          below = omega arith;
          none = λ run r below. absurd (omega arith);
          since = inl refl;
          within = omega arith;
          some = omega arith;
        };
        ledger = λ horizon last l. record {
          so_far = rw (rests, debts)
              (so_far_none line horizon last l base books.week week (λ run r below. elim (cases_lt 0 run.start) [
                | inl late ↦ absurd (elim r.from [
                  | inl none ↦ omega arith
                  | inr stops ↦ stops (run.start - 1) (omega arith) (c (run.start - 1) (omega arith))
                ])
                | inr none ↦ omega arith
              ]));
          own_is = refl;
        };
      });
}

no_debts : (debts : List Debt) → ((debt : Debt) → Contains debts debt → ⊥) → debts ≡ []
no_debts [] none = refl
no_debts (x ∷ xs) none = absurd (none x (0, omega arith, refl))

first_none : (xs ys : List Debt) → xs ++ ys ≡ [] → xs ≡ []
first_none [] ys e = refl
first_none (x ∷ xs) ys e = absurd (let f : x ∷ (xs ++ ys) ≡ [] = e in cc)

-- the end of the line
module _ (spans : List Span) (base past start : ℕ) (books : Ledger) (own : List Breach) (owed : List Debt)
    (r : OwingStands books start past own owed base spans) (x : IsExamined spans base past) where
  at_end : IsOwing (line_of spans) start past books own owed
  at_end = r.kept (line_of spans) (λ m below. refl)

  line_is : IsLineTo (line_of spans) past (run_of start FAR)
  line_is = line_to spans base past x start at_end.e at_end.heard

  last_ledger : IsLedger (line_of spans) past at_end.e books.week (rests_in books.rests) (debts_in books.debts) own owed
  last_ledger = at_end.ledger past (run_of start FAR) line_is

  defined_by : (own' : List Breach) (owed' : List Debt) → IsOwed (line_of spans) past own' owed'
      → OwingDefined own' owed' base past spans
  defined_by own' owed' is = record {
    are_debts = is.are_debts;
    breaches = subst (λ (xs : List Breach). AreCollected (IsOverdue past owed') xs) (sym is.own_is)
        (overdue_are past owed' is.are_debts.are_owed.in_order);
  }

  -- after the last run
  pub ends_at : (own' : List Breach) (owed' : List Debt) → 5760 ≤ start
      → ((line : Line) (last : Run) (e : ℕ) → IsLineTo line past last → last.start ≡ start → IsNext line e last
      → IsLedger line past e books.week (rests_in books.rests) (debts_in books.debts) own owed
      → IsOwed line past own' owed')
      → OwingDefined own' owed' base past spans
  ends_at own' owed' late law =
      let from : at_end.e ≤ start = elim at_end.heard.since [
        | inl none ↦ absurd (omega arith)
        | inr since ↦ since
      ] in
      defined_by own' owed'
      (law (line_of spans) (run_of start FAR) at_end.e line_is refl
      (last_next spans base past x start at_end.e at_end.heard from) last_ledger)

  -- the line is only rest
  pub ends_none : start < 5760 → OwingDefined own owed base past spans
  ends_none early =
      let first : start ≡ 0 = elim at_end.heard.since [
        | inl none ↦ none
        | inr since ↦ absurd (let low : 5760 ≤ at_end.e = at_end.low in omega arith)
      ] in
      let k : AreDebtsBefore (line_of spans) past (week_start books.week) (owed ++ debts_in books.debts) =
      last_ledger.so_far.turns.kept in
      let none : owed ++ debts_in books.debts ≡ [] = no_debts (owed ++ debts_in books.debts) (λ debt in'.
      (let o : OwesBefore (line_of spans) past (week_start books.week) debt.week debt.amount =
      (k.owed debt.week debt.amount).1 (debt, in', refl, refl) in
      let most : o.main.start ≤ start = line_is.all o.main o.is.candidate.rests in
      let low : week_start debt.week ≤ o.main.start = o.is.candidate.week.0 in
      omega arith)) in
      let empty : owed ≡ [] = first_none owed (debts_in books.debts) none in
      defined_by own owed (record {
        are_debts = subst (λ (ds : List Debt). AreDebts (line_of spans) past ds) (none ∙ sym empty)
            (kept_all (line_of spans) past (week_start books.week) (owed ++ debts_in books.debts)
            (λ run is. (let most : run.start ≤ start = line_is.all run is in omega arith)) k);
        own_is = last_ledger.own_is;
      })
