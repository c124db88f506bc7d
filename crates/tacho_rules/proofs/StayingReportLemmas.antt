-- The breaches of a report stay when the line continues after its horizon (`laws::breaches_stay`).
use Rattle.std.proofs.Common.{◌≡◌, ◌≢◌, ℕ, ◌<◌, ◌≤◌, inl, inr, List}
use Rattle.std.proofs.Common.{refl, sym, ap, subst, ◌∙◌, arith, Option}
use Rattle.std.specs.Option.{option_map_or}
use Rattle.std.specs.List.{All, Contains}
use Rattle.std.proofs.lemmas.Bool.{cases_lt}
use Rattle.std.proofs.lemmas.Bool.Decides.{nat_tests}
use Rattle.tacho_time.specs.declared.span.Activity.TheVariants.{Rest}
use Rattle.tacho_time.specs.declared.span.Mark.{Mark}
use Rattle.tacho_time.specs.declared.span.Span.{Span}
use Rattle.tacho_line.specs.declared.horizon.Horizon.{Horizon}
use Rattle.tacho_line.specs.Line.{mark_at}
use Rattle.tacho_law.specs.declared.run.Run.{Run}
use Rattle.tacho_law.specs.declared.breach.Breach.{Breach}
use Rattle.tacho_law.specs.declared.breach.Kind.{Kind}
use Rattle.tacho_law.specs.declared.breach.Kind.TheVariants.{B1, B2, B3, B4, B5, B6, B7, B8, B9, B10}
use Rattle.tacho_law.specs.declared.debt.Debt.{Debt}
use Rattle.tacho_law.specs.Line.{Line}
use Rattle.tacho_law.specs.Limits.{latest}
use Rattle.tacho_law.specs.Runs.{AreRestRuns}
use Rattle.tacho_law.specs.Breaks.{AreCompleteBreaks}
use Rattle.tacho_law.specs.Breaches.{IsBreach}
use Rattle.tacho_law.specs.Order.{Agree}
use Rattle.tacho_rules.specs.Report.{examined_line, IsReport}
use Rattle.tacho_rules.proofs.SliceLemmas.{early_horizon}
use Rattle.tacho_rules.proofs.StayingLemmas.{GoesOn}
use Rattle.tacho_rules.proofs.StayingHoursLemmas.{HasSame}
use Rattle.tacho_rules.proofs.StayingBreaksLemmas.{b1_stays}
use Rattle.tacho_rules.proofs.StayingDaysLemmas.{b2_stays, b3_stays, b4_stays, b5_stays}
use Rattle.tacho_rules.proofs.StayingWeeksLemmas.{b6_stays, b7_stays, b8_stays}
use Rattle.tacho_rules.proofs.StayingChoiceLemmas.{b9_stays}

-- from its horizon on, an examined line is at rest
rests_after : (held : List Span) (base h m : ℕ) → h ≤ m → examined_line held base h m ≡ Rest
rests_after held base h m behind = grind (arith, nat_tests)

-- if two lists of spans hold the same marks before the horizon of the first, the examined lines agree there
agree_before : (held more : List Span) (base h k : ℕ) → h ≤ k
    → ((m : ℕ) → base ≤ m → m < h → mark_at held m ≡ mark_at more m)
    → (m : ℕ) → m < h → examined_line held base h m ≡ examined_line more base k m
agree_before held more base h k le same m below = elim (cases_lt m base) [
  | inl before ↦ grind (arith, nat_tests)
  | inr from ↦
      let e : option_map_or (λ (mark : Mark). mark.activity) (mark_at held m) Rest
      ≡ option_map_or (λ (mark : Mark). mark.activity) (mark_at more m) Rest =
      ap (λ (o : Option Mark). option_map_or (λ (mark : Mark). mark.activity) o Rest) (same m from below) in
      grind (arith, nat_tests, e)
]

module _ (line other : Line) (base h k : ℕ) (g : GoesOn line other h k)
    (runs theirs breaks others : List Run) (debts owed : List Debt)
    (are : AreRestRuns line runs) (are_there : AreRestRuns other theirs)
    (complete : AreCompleteBreaks runs breaks) (complete_there : AreCompleteBreaks theirs others) where
  -- `other` has such a breach at the same place
  Stays : Breach → Type 0
  Stays breach = HasSame (λ b. IsBreach other base k others owed b.kind b) breach

  -- a property of a breach's kind, for an equal kind
  said : (breach : Breach) (kind : Kind) → breach.kind ≡ kind → (P : Breach → Type 0)
      → ((b : Breach) → (b.kind ≡ kind) → P b → IsBreach other base k others owed kind b)
      → HasSame (λ b. (b.kind ≡ kind) × P b) (record breach { kind = kind }) → Stays breach
  unfolding Stays
  said breach kind e P is (same, (k', p), agree) = (
    same,
    subst (λ (x : Kind). IsBreach other base k others owed x same) (sym k') (is same k' p),
    record { moment = agree.moment; kind = e ∙ agree.kind; since = agree.since },
  )

  stays_by : (breach : Breach) (kind : Kind) → breach.kind ≡ kind → kind ≢ B10
      → IsBreach line base h breaks debts kind breach → Stays breach
  stays_by breach B1 e not is =
      said breach B1 e _ (λ b k' p. p)
      (b1_stays line other h k g runs theirs breaks others are are_there complete complete_there breach is)
  stays_by breach B2 e not is =
      said breach B2 e _ (λ b k' p. p) (b2_stays line other h k g runs theirs are are_there breach is)
  stays_by breach B3 e not is =
      said breach B3 e _ (λ b k' p. p) (b3_stays line other h k g runs theirs are are_there breach is)
  stays_by breach B4 e not is =
      said breach B4 e _ (λ b k' p. p) (b4_stays line other h k g runs theirs are are_there breach is)
  stays_by breach B5 e not is =
      said breach B5 e _ (λ b k' p. p) (b5_stays line other h k g runs theirs are are_there breach is)
  stays_by breach B6 e not is = said breach B6 e _ (λ b k' p. p) (b6_stays line other h k g breach is)
  stays_by breach B7 e not is = said breach B7 e _ (λ b k' p. p) (b7_stays line other h k g breach is)
  stays_by breach B8 e not is = said breach B8 e _ (λ b k' p. p) (b8_stays line other h k g theirs are_there breach is)
  stays_by breach B9 e not is = said breach B9 e _ (λ b k' p. p) (b9_stays line other h k g base breach is)
  stays_by breach B10 e not is = absurd (not refl)

  pub stays : (breach : Breach) → breach.kind ≢ B10 → IsBreach line base h breaks debts breach.kind breach
      → HasSame (λ b. IsBreach other base k others owed b.kind b) breach
  unfolding Stays
  stays breach not is = stays_by breach breach.kind refl not is

-- each breach of a report, except those of debts, is in the report of a line that continues
pub breaches_stay : (held more : List Span) (base : ℕ) (horizon later : Horizon) (found others : List Breach)
    (debts owed : List Debt)
    → IsReport held base horizon found debts → IsReport more base later others owed
    → ((m : ℕ) → base ≤ m → m < horizon.minute → mark_at held m ≡ mark_at more m)
    → horizon.minute ≤ later.minute → base ≤ latest → All (λ (span : Span). span.past ≤ latest) more
    → (breach : Breach) → Contains found breach → breach.kind ≢ B10
    → (same : Breach) × Contains others same × Agree breach same
breaches_stay held more base horizon later found others debts owed r s marks le early ended breach in' not =
    let g : GoesOn (examined_line held base horizon.minute) (examined_line more base later.minute) horizon.minute later.minute =
    record {
      agree = agree_before held more base horizon.minute later.minute le marks;
      rest = λ m behind. rests_after held base horizon.minute m behind;
      other_rest = λ m behind. rests_after more base later.minute m behind;
      later = le;
      early = early_horizon more base later s.is_horizon early ended;
    } in
    let (same, is, agree) =
    stays (examined_line held base horizon.minute) (examined_line more base later.minute) base horizon.minute later.minute g
    r.runs s.runs r.breaks s.breaks debts owed r.are_runs s.are_runs r.are_breaks s.are_breaks breach not
    ((r.exactly.each breach).0 in') in
    (same, (s.exactly.each same).1 is, agree)
