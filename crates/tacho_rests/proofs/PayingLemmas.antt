-- What a rest pays of open debts is its turn (specs/Paying, pay_all).
use Rattle.std.proofs.Common.{◌≡◌, ℕ, zero, suc, ◌+◌, ◌-◌, ◌<◌, ◌≤◌, inl, inr, Bool, true, false, Option, None, Some}
use Rattle.std.proofs.Common.{List, [], ◌∷◌, ◌++◌, refl, sym, ap, subst, ◌∙◌, arith, min, nat_le, if◌then◌else◌, ◌&&◌}
use Rattle.std.specs.Option.{option_map_or}
use Rattle.std.specs.List.{Contains}
use Rattle.std.proofs.lemmas.Bool.Decides.{nat_tests}
use Rattle.std.proofs.lemmas.List.{append-nil, append_assoc}
use Rattle.std.proofs.lemmas.List.Sums.{sum_by_push}
use Rattle.tacho_law.specs.declared.run.Run.{Run}
use Rattle.tacho_law.specs.declared.debt.Debt.{Debt}
use Rattle.tacho_law.specs.Runs.{IsRestRun, Before}
use Rattle.tacho_law.specs.Line.{Line}
use Rattle.tacho_law.specs.Debts.{minutes_before, share, paid_from, IsMainRest, Keeps, CanPay}
use Rattle.tacho_law.specs.ByRuns.{CanTake, AfterRun, IsDone, AreDone}
use Rattle.tacho_law.specs.MainRests.{IsKept}
use Rattle.tacho_rests.specs.Paying.{takes, pay_all, turn, turns, is_main}
use Rattle.tacho_rests.proofs.TurnsLemmas.{kept_least}

same_branches : (b : Bool) (debts : List Debt) → (if b then debts else debts) ≡ debts
same_branches true debts = refl
same_branches false debts = refl

-- if there is no debt, the turns of rests pay nothing
pub turns_none : (end : ℕ) (main : Option Run) (rests : List Run) → turns end main None rests [] ≡ []
turns_none end main [] = refl
turns_none end main (rest ∷ rests) =
    ap (turns end main None rests) (same_branches (is_main main rest) []) ∙ turns_none end main rests

-- a debt that a rest may pay: the debt's main rest is before it, and the rest hasn't had its turn yet
pub record IsOpen (line : Line) (horizon : ℕ) (rest : Run) (debt : Debt) : Type 0 where
  pub some : 0 < debt.amount
  pub main : Run
  pub is : IsMainRest line horizon debt.week main
  pub before : Before main rest
  pub untouched : share rest debt ≡ 0

-- a rest pays nothing of a debt that was paid before the rest's turn
pub share_none : (line : Line) (horizon b : ℕ) (earlier : List Debt) (debt : Debt) (rest : Run) (p : Option ℕ)
    → b ≤ rest.start → IsDone line horizon b earlier debt p → share rest (record debt { paid_by = p }) ≡ 0
share_none line horizon b earlier debt rest None from done = refl
share_none line horizon b earlier debt rest (Some s) from (early, pays) = grind (arith, nat_tests)

-- likewise for all debts
pub shares_none : (line : Line) (horizon b : ℕ) (earlier debts : List Debt) (rest : Run) → b ≤ rest.start
    → AreDone line horizon b earlier debts → (debt : Debt) → Contains debts debt → share rest debt ≡ 0
shares_none line horizon b earlier [] rest from done debt (k, within, is) = absurd (omega arith)
shares_none line horizon b earlier (x ∷ xs) rest from (one, others) debt (zero, within, is) =
    subst (λ (d : Debt). share rest d ≡ 0) is (share_none line horizon b earlier x rest x.paid_by from one)
shares_none line horizon b earlier (x ∷ xs) rest from (one, others) debt (suc k, within, is) =
    shares_none line horizon b (earlier ++ x ∷ []) xs rest from others debt (k, omega arith, is)

-- a rest doesn't pay a debt whose deadline has been reached
pub due_pays_none : (line : Line) (horizon : ℕ) (earlier : List Debt) (debt : Debt) (rest : Run)
    → debt.deadline ≤ rest.start → CanPay line horizon earlier debt rest → ⊥
due_pays_none line horizon earlier debt rest due can =
    let least : 540 ≤ can.room.kept = kept_least line horizon rest can.room.kept can.room.keeps in
    let fits : can.room.kept + paid_from rest earlier + debt.amount
    ≤ minutes_before (min horizon debt.deadline) rest = can.room.room in
    omega arith

unpaid_yes : (p : Option ℕ) → option_map_or (λ start. false) p true ≡ true → p ≡ None
unpaid_yes None e = refl
unpaid_yes (Some s) e = absurd (let f : false ≡ true = e in cc)

both : (a b : Bool) → (a && b) ≡ true → (a ≡ true) × (b ≡ true)
both true true e = (refl, refl)
both true false e = absurd (let f : false ≡ true = e in cc)
both false b e = absurd (let f : false ≡ true = e in cc)

fits_yes : (amount minutes kept paid : ℕ) → 0 < amount → nat_le amount (minutes - (kept + paid)) ≡ true
    → kept + paid + amount ≤ minutes
fits_yes amount minutes kept paid some e =
    let f : amount ≤ minutes - (kept + paid) = grind (arith, nat_tests) in omega arith

fits_back : (amount minutes kept paid : ℕ) → kept + paid + amount ≤ minutes
    → nat_le amount (minutes - (kept + paid)) ≡ true
fits_back amount minutes kept paid fits =
    let f : amount ≤ minutes - (kept + paid) = omega arith in grind (arith, nat_tests)

-- a rest that has the same minutes before `end` as before the horizon
module _ (line : Line) (horizon end : ℕ) (rest : Run) (rests : IsRestRun line rest) (kept : ℕ)
    (k : IsKept line horizon rest kept) (known : min rest.past end ≡ min rest.past horizon) where
  room_same : (d : ℕ) → minutes_before (min end d) rest ≡ minutes_before (min horizon d) rest
  room_same d = let e : min rest.past (min end d) ≡ min rest.past (min horizon d) = omega arith in omega arith

  keeps : Keeps line horizon rest kept
  keeps = record {
    main = λ w m. elim k [ inl as_main ↦ as_main.0 | inr as_other ↦ absurd (as_other.1 w m) ];
    other = λ none. elim k [ inl as_main ↦ absurd (none as_main.1.0 as_main.1.1) | inr as_other ↦ as_other.0 ];
  }

  kept_only : (other : ℕ) → Keeps line horizon rest other → kept ≡ other
  kept_only other o = elim k [
    | inl as_main ↦ as_main.0 ∙ sym (o.main as_main.1.0 as_main.1.1)
    | inr as_other ↦ as_other.0 ∙ sym (o.other as_other.1)
  ]

  takes_can : (earlier : List Debt) (debt : Debt) → IsOpen line horizon rest debt
      → takes rest end (kept + paid_from rest earlier) debt ≡ true → CanTake line horizon rest earlier debt
  takes_can earlier debt is e =
      let f = both (option_map_or (λ start. false) debt.paid_by true)
      (nat_le debt.amount (minutes_before (min end debt.deadline) rest - (kept + paid_from rest earlier))) e in
      record {
        unpaid = unpaid_yes debt.paid_by f.0;
        can = record {
          main = is.main;
          is = is.is;
          rests = rests;
          after = is.before;
          room = record {
            kept = kept;
            keeps = keeps;
            room =
                let fits : kept + paid_from rest earlier + debt.amount ≤ minutes_before (min end debt.deadline) rest =
                fits_yes debt.amount (minutes_before (min end debt.deadline) rest) kept (paid_from rest earlier)
                is.some f.1 in
                let same : minutes_before (min end debt.deadline) rest ≡ minutes_before (min horizon debt.deadline)
                rest = room_same debt.deadline in
                rw same at fits;
          };
        };
      }

  takes_yes : (earlier : List Debt) (debt : Debt) (p : Option ℕ) → p ≡ None
      → kept + paid_from rest earlier + debt.amount ≤ minutes_before (min end debt.deadline) rest
      → (option_map_or (λ start. false) p true && nat_le debt.amount
      (minutes_before (min end debt.deadline) rest - (kept + paid_from rest earlier))) ≡ true
  takes_yes earlier debt None e fits =
      fits_back debt.amount (minutes_before (min end debt.deadline) rest) kept (paid_from rest earlier) fits
  takes_yes earlier debt (Some s) e fits = absurd (let f : Some s ≡ None = e in cc)

  can_takes : (earlier : List Debt) (debt : Debt) → takes rest end (kept + paid_from rest earlier) debt ≡ false
      → CanTake line horizon rest earlier debt → ⊥
  can_takes earlier debt e c =
      let same : minutes_before (min end debt.deadline) rest ≡ minutes_before (min horizon debt.deadline) rest =
      room_same debt.deadline in
      let one : kept ≡ c.can.room.kept = kept_only c.can.room.kept c.can.room.keeps in
      let fits : c.can.room.kept + paid_from rest earlier + debt.amount ≤ minutes_before (min horizon debt.deadline)
      rest = c.can.room.room in
      let fits' : kept + paid_from rest earlier + debt.amount ≤ minutes_before (min end debt.deadline) rest =
      omega arith in
      let yes' : takes rest end (kept + paid_from rest earlier) debt ≡ true =
      takes_yes earlier debt debt.paid_by c.unpaid fits' in
      (let f : true ≡ false = sym yes' ∙ e in cc)

  paid_share : (debt : Debt) → share rest (record debt { paid_by = Some rest.start }) ≡ debt.amount
  paid_share debt = grind (arith, nat_tests)

  -- the step for one debt
  pay_turn : (earlier : List Debt) (debt : Debt) (debts : List Debt) (b : Bool)
      → takes rest end (kept + paid_from rest earlier) debt ≡ b → IsOpen line horizon rest debt
      → ((after : Debt)
      → AfterRun line horizon rest (earlier ++ after ∷ []) debts
      (pay_all rest end (kept + paid_from rest (earlier ++ after ∷ [])) debts))
      → AfterRun line horizon rest earlier (debt ∷ debts)
      (if b then record debt { paid_by = Some rest.start } ∷ pay_all rest end
      (kept + paid_from rest earlier + debt.amount) debts
      else debt ∷ pay_all rest end (kept + paid_from rest earlier) debts)
  pay_turn earlier debt debts true e is others =
      let after : Debt = record debt { paid_by = Some rest.start } in
      let more : paid_from rest (earlier ++ after ∷ []) ≡ paid_from rest earlier + share rest after =
      sum_by_push (share rest) earlier after in
      let much : share rest after ≡ debt.amount = paid_share debt in
      let same : kept + paid_from rest (earlier ++ after ∷ []) ≡ kept + paid_from rest earlier + debt.amount =
      omega arith in (
        inl (takes_can earlier debt is e, refl),
        subst (λ (n : ℕ). AfterRun line horizon rest (earlier ++ after ∷ []) debts (pay_all rest end n debts)) same
            (others after),
      )
  pay_turn earlier debt debts false e is others =
      let more : paid_from rest (earlier ++ debt ∷ []) ≡ paid_from rest earlier + share rest debt =
      sum_by_push (share rest) earlier debt in
      let none : share rest debt ≡ 0 = is.untouched in
      let same : kept + paid_from rest (earlier ++ debt ∷ []) ≡ kept + paid_from rest earlier = omega arith in (
        inr (can_takes earlier debt e, refl),
        subst (λ (n : ℕ). AfterRun line horizon rest (earlier ++ debt ∷ []) debts (pay_all rest end n debts)) same
            (others debt),
      )

  -- the turn of the rest over all debts
  pub pay_turns : (earlier debts : List Debt) → ((debt : Debt) → Contains debts debt → IsOpen line horizon rest debt)
      → AfterRun line horizon rest earlier debts (pay_all rest end (kept + paid_from rest earlier) debts)
  pay_turns earlier [] all = tt
  pay_turns earlier (debt ∷ debts) all =
      subst (λ (b : Bool). AfterRun line horizon rest earlier (debt ∷ debts)
      (if b then record debt { paid_by = Some rest.start } ∷ pay_all rest end
      (kept + paid_from rest earlier + debt.amount) debts
      else debt ∷ pay_all rest end (kept + paid_from rest earlier) debts))
      refl (pay_turn earlier debt debts (takes rest end (kept + paid_from rest earlier) debt) refl
      (all debt (0, omega arith, refl))
      (λ after. pay_turns (earlier ++ after ∷ []) debts (λ d in'. all d (suc in'.0, omega arith, in'.2))))

  -- debts that are due stay as they are
  pub skip_turns : (earlier due debts after : List Debt)
      → ((debt : Debt) → Contains due debt → debt.deadline ≤ rest.start)
      → AfterRun line horizon rest (earlier ++ due) debts after
      → AfterRun line horizon rest earlier (due ++ debts) (due ++ after)
  skip_turns earlier [] debts after all turn' =
      subst (λ (ds : List Debt). AfterRun line horizon rest ds debts after) (append-nil earlier) turn'
  skip_turns earlier (x ∷ xs) debts after all turn' = (
    inr (λ takes'. due_pays_none line horizon earlier x rest (all x (0, omega arith, refl)) takes'.can, refl),
    skip_turns (earlier ++ x ∷ []) xs debts after (λ d in'. all d (suc in'.0, omega arith, in'.2))
        (subst (λ (ds : List Debt). AfterRun line horizon rest ds debts after) (sym (append_assoc earlier (x ∷ []) xs))
        turn'),
  )
