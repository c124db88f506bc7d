-- Why a refusal changes nothing, and why a driver's own tasks depend on their rows alone.
use Rattle.std.proofs.Common.{◌≡◌, ◌≢◌, ◌⊎◌, ◌∙◌, ◌*◌, ℕ, List, Option, None, Some, Result, Ok, Err}
use Rattle.std.proofs.Common.{inl, inr, false, refl, sym, ap, subst, arith}
use Rattle.tacho_card.specs.declared.fault.CardFault.{CardFault}
use Rattle.tacho_card.specs.declared.file.Part.{Part}
use Rattle.tacho_state.specs.Content.{FileTells}
use Rattle.tacho_state.specs.Numbers.{part_number}
use Rattle.tacho_state.specs.State.{Driver, State, driver_of, held_spans}
use Rattle.tacho_state.specs.Steps.{Content, Own, own_turn, import_by_driver, import_step}
use Rattle.tacho_state.specs.declared.caller.Caller.TheVariants as caller
use Rattle.tacho_handover.specs.Handover.{IsHandover}
use Rattle.tacho_desk.specs.Doing.{IsFileOf, IsTextOf, in_words}
use Rattle.tacho_desk.specs.Version.{program_line}
use Rattle.tacho_line.specs.declared.horizon.Horizon.{Horizon}
use Rattle.tacho_law.specs.declared.breach.Breach.{Breach}
use Rattle.tacho_law.specs.declared.debt.Debt.{Debt}
use Rattle.tacho_time.specs.declared.span.Span.{Span}
use Rattle.tacho_rules.specs.Report.{IsReport}
use Rattle.tacho_stretches.specs.Stretches.{AreAll, AreStretches, Judged}
use Rattle.tacho_stretches.proofs.LawLemmas.{one_end}
use Rattle.tacho_sheet.specs.Form.{IsForm}
use Rattle.tacho_sheet.specs.Stretches.{debt_text, stretch_text}
use Rattle.tacho_sheet.specs.Chart.{IsMonthChart}
use Rattle.tacho_sheet.specs.Reports.{IsGapText, IsMonthSheet, IsSpanCsv, breach_text, owed_text}
use Rattle.tacho_sheet.specs.Ahead.{IsAheadText, IsTooLate}
use Rattle.tacho_sheet.specs.Why.{IsMonthWhy}
use Rattle.tacho_desk.specs.declared.want.MonthReading.{MonthReading}
use Rattle.tacho_desk.specs.declared.want.MonthReading.TheVariants as month
use Rattle.tacho_desk.specs.declared.want.Reading.{Reading}
use Rattle.tacho_desk.specs.declared.want.Reading.TheVariants as reading
use Rattle.tacho_desk.specs.Own.{IsOwnTask, OneAnswer, OthersStay, SameAnswers}
use Rattle.tacho_desk.specs.Tasks.{Does, IsAheadOf, IsForecastOf, IsFormOf, OfReport, OfStretches, ShowsForm, ShowsMonth, ShowsReading, cut_at, imported_told, want_of}
use Rattle.tacho_state.proofs.PutLemmas.{found_number, put_found, put_other}
use Rattle.tacho_desk.specs.Wants.{is_command}
use Rattle.tacho_desk.specs.Told.{Answer, File, Long}
use Rattle.tacho_desk.specs.declared.task.Task.{Task}
use Rattle.tacho_desk.specs.declared.task.Task.TheVariants as task

-- a driver's own task reads, or it is the import of their card
own_or_import : (n : ℕ) (t : Task) → IsOwnTask n t → (is_command (want_of t) ≡ false) ⊎ ((p : Part) × (t ≡ task.Import (caller.Driver n) p))
own_or_import n t is = grind arith

-- a reading changes nothing, and is the same in a state with the same rows of the driver
reads_same : (n : ℕ) (t : Task) → IsOwnTask n t → is_command (want_of t) ≡ false → (input : List ℕ) (s other : State)
    → driver_of n s ≡ driver_of n other → (answer : Answer) (after : State) → Does t input s answer after
    → (after ≡ s) × Does t input other answer other
reads_same n t is reads input s other e answer after h = grind arith

-- an import changes neither the driver's number
import_number : (part : ℕ) (file : List ℕ) (content : Content) (d : Driver) (told : _)
    → import_by_driver part file content d ≡ Ok told → told.1.number ≡ d.number
import_number part file content d told e = grind arith

import_others : (n m part : ℕ) (file : List ℕ) (content : Result Content CardFault) (s : State) → m ≢ n
    → driver_of m (import_step (Some n) part file content s).after ≡ driver_of m s
import_others n m part file content s other = grind (arith, put_other, found_number, import_number)

own_same : {A : Type 0} (own : Own A) (n : ℕ) (s other : State) → driver_of n s ≡ driver_of n other
    → ((d : Driver) (told : A × Driver) → own d ≡ Ok told → told.1.number ≡ d.number)
    → ((own_turn own s (driver_of n s)).answer ≡ (own_turn own other (driver_of n other)).answer)
    × (driver_of n (own_turn own s (driver_of n s)).after ≡ driver_of n (own_turn own other (driver_of n other)).after)
own_same own n s other e stays = grind (arith, put_found, found_number)

import_same : (n part : ℕ) (file : List ℕ) (content : Result Content CardFault) (s other : State) → driver_of n s ≡ driver_of n other
    → ((import_step (Some n) part file content s).answer ≡ (import_step (Some n) part file content other).answer)
    × (driver_of n (import_step (Some n) part file content s).after ≡ driver_of n (import_step (Some n) part file content other).after)
import_same n part file (Err f) s other e = (refl, e)
import_same n part file (Ok content) s other e = own_same (import_by_driver part file content) n s other e (import_number part file content)

-- each of a driver's own tasks answers by the driver's rows alone
pub same_answers : SameAnswers
same_answers n t theirs input s other e answer after = by (own_or_import n t theirs)
  where
    Stays : Task → Type 0
    Stays t = Does t input s answer after → (left : State) × Does t input other answer left × (driver_of n after ≡ driver_of n left)

    by : (is_command (want_of t) ≡ false) ⊎ ((p : Part) × (t ≡ task.Import (caller.Driver n) p)) → Stays t
    by (inl reads) = λ h.
        let same = reads_same n t theirs reads input s other e answer after h in
        (other, same.1, ap (driver_of n) same.0 ∙ e)
    by (inr (p, is)) = subst Stays (sym is) (λ h.
        let same = import_same n (part_number p) input h.0 s other e in
        (_, (h.0, h.1, (h.2.0 ∙ ap (in_words imported_told) same.0, refl)), ap (driver_of n) h.2.1 ∙ same.1))

-- and no other driver's rows change
pub others_stay : OthersStay
others_stay n t theirs input s answer after h m other =
    let imports = λ (part : ℕ) (content : Result Content CardFault). import_others n m part input content s other in
    grind arith

-- at most one text has the property; below, for each driver
abbrev IsOneText : (List ℕ → Type 0) → Type 0
IsOneText Is = (a b : List ℕ) → Is a → Is b → a ≡ b

abbrev IsOne : (Driver → List ℕ → Type 0) → Type 0
IsOne Is = (d : Driver) → IsOneText (Is d)

-- likewise if the driver may not exist
one_text_of : (Is : Driver → List ℕ → Type 0) → IsOne Is → (o : Option Driver) (a b : Answer) → IsTextOf Is o a → IsTextOf Is o b → a ≡ b
one_text_of Is one o a b h k = grind arith

-- likewise of the bytes of a file
one_file_of : (Is : Driver → List ℕ → Type 0) → IsOne Is → (o : Option Driver) (a b : Answer) → IsFileOf Is o a → IsFileOf Is o b → a ≡ b
one_file_of Is one None a b h k = h ∙ sym k
one_file_of Is one (Some d) (Ok (File a)) (Ok (File b)) h k = ap (λ (bytes : List ℕ). Ok (File bytes)) (one d a b h k)
one_file_of Is one (Some d) a b h k = grind arith

-- assuming what the laws below say
module _ (one_content : (p : Part) (bytes : List ℕ) (a b : Result Content CardFault) → FileTells p bytes a → FileTells p bytes b → a ≡ b)
    (one_report : (held : List Span) (base : ℕ) (horizon other : Horizon) (found others : List Breach) (debts owed : List Debt)
    → IsReport held base horizon found debts → IsReport held base other others owed → (horizon ≡ other) × (found ≡ others) × (debts ≡ owed))
    (one_gaps : (line : List Span) (month : ℕ) (a b : List ℕ) → IsGapText line month a → IsGapText line month b → a ≡ b)
    (one_spans : (line : List Span) (month : ℕ) (a b : List ℕ) → IsSpanCsv line month a → IsSpanCsv line month b → a ≡ b)
    (one_sheet : (number : ℕ) (name : List ℕ) (line : List Span) (breaches : List Breach) (horizon : Horizon) (month : ℕ) (a b : List ℕ)
    → IsMonthSheet number name line breaches horizon month a → IsMonthSheet number name line breaches horizon month b → a ≡ b)
    (one_stretches : (line : List Span) (base : ℕ) (stretches others : List Judged) → AreStretches line base stretches
    → AreStretches line base others → stretches ≡ others)
    (one_form : (line : List Span) (base end : ℕ) (a b : List ℕ) → IsForm line base end a → IsForm line base end b → a ≡ b)
    (one_chart : (number : ℕ) (name : List ℕ) (line : List Span) (stretches : List Judged) (month : ℕ) (a b : List ℕ)
    → IsMonthChart number name line stretches month a → IsMonthChart number name line stretches month b → a ≡ b)
    (one_why : (held : List Span) (end month : ℕ) (stretches : List Judged) (a b : List ℕ) → AreAll held end stretches
    → IsMonthWhy held stretches month a → IsMonthWhy held stretches month b → a ≡ b)
    (one_ahead : (held : List Span) (stretches : List Judged) (minute : ℕ) (a b : List ℕ) → IsAheadText held stretches minute a
    → IsAheadText held stretches minute b → a ≡ b)
    (in_time : (held : List Span) (stretches : List Judged) (minute : ℕ) (text : List ℕ) → IsAheadText held stretches minute text
    → ¬ (IsTooLate stretches minute))
    (one_handover : (program : List ℕ) (from past : ℕ) (d : Driver) (a b : List ℕ) → IsHandover program from past d a
    → IsHandover program from past d b → a ≡ b) where
  -- a text of a report is unique, since the report is
  one_of_report : (Is : Driver → List Breach → List Debt → Horizon → List ℕ → Type 0)
      → ((d : Driver) (breaches : List Breach) (debts : List Debt) (horizon : Horizon) → IsOneText (Is d breaches debts horizon))
      → IsOne (λ d. OfReport (Is d) d)
  one_of_report Is one d a b h k =
      let same = one_report (held_spans d) (1440 * d.base) h.0 k.0 h.1 k.1 h.2 k.2 h.3 k.3 in
      grind (arith, one d h.1 h.2 h.0 a b h.4)

  -- a text of stretches is unique, since the stretches are
  one_of_stretches : (Is : Driver → List Judged → List ℕ → Type 0) → ((d : Driver) (stretches : List Judged) → IsOneText (Is d stretches))
      → IsOne (λ d. OfStretches (Is d) d)
  one_of_stretches Is one d a b h k =
      let same = one_stretches (held_spans d) (1440 * d.base) k.0 h.0 k.1 h.1 in
      grind (arith, one d h.0 a b h.2)

  -- the form is unique, since the end of what is held is
  one_form_of : (before : Option ℕ) → IsOne (IsFormOf before)
  one_form_of before d a b h k =
      let end : k.0 ≡ h.0 = one_end (held_spans d) (1440 * d.base) k.0 h.0 k.1 h.1 in
      one_form (held_spans d) (1440 * d.base) (cut_at before h.0) a b h.2
      (subst (λ (e : ℕ). IsForm (held_spans d) (1440 * d.base) (cut_at before e) b) end k.2)

  one_form_answer : (before : Option ℕ) (n : ℕ) (s : State) (a b : Answer) (after left : State)
      → ShowsForm before n s a after → ShowsForm before n s b left → a ≡ b
  one_form_answer before n s a b after left h k = one_text_of _ (one_form_of before) _ a b h.0 k.0

  -- the text of the evidence for a month's breaches is unique
  one_why_of : (month : ℕ) → IsOne (λ d. OfStretches (λ stretches. IsMonthWhy (held_spans d) stretches month) d)
  one_why_of month d a b h k =
      let same = one_stretches (held_spans d) (1440 * d.base) k.0 h.0 k.1 h.1 in
      grind (arith, one_why (held_spans d) h.1.end month h.0 a b h.1.all h.2)

  -- each text of a driver is unique
  one_reading : (text : Reading) (n : ℕ) (s : State) (a b : Answer) (after left : State)
      → ShowsReading text n s a after → ShowsReading text n s b left → a ≡ b
  one_reading reading.Breaches n s a b after left h k =
      one_text_of _ (one_of_report (λ d breaches debts horizon text. text ≡ breach_text breaches horizon)
      (λ d breaches debts horizon x y i j. i ∙ sym j)) _ a b h.0 k.0
  one_reading reading.Owed n s a b after left h k =
      one_text_of _ (one_of_report (λ d breaches debts horizon text. text ≡ owed_text debts horizon)
      (λ d breaches debts horizon x y i j. i ∙ sym j)) _ a b h.0 k.0
  one_reading reading.Entries n s a b after left h k = h.0 ∙ sym k.0
  one_reading reading.Stretches n s a b after left h k =
      one_text_of _ (one_of_stretches (λ d stretches text. text ≡ stretch_text stretches) (λ d stretches x y i j. i ∙ sym j)) _ a b h.0 k.0
  one_reading reading.Debts n s a b after left h k =
      one_text_of _ (one_of_stretches (λ d stretches text. text ≡ debt_text stretches) (λ d stretches x y i j. i ∙ sym j)) _ a b h.0 k.0
  one_reading reading.Files n s a b after left h k = h.0 ∙ sym k.0

  -- each text of a driver's month is unique
  one_month : (text : MonthReading) (month n : ℕ) (s : State) (a b : Answer) (after left : State)
      → ShowsMonth text month n s a after → ShowsMonth text month n s b left → a ≡ b
  one_month month.Spans m n s a b after left h k = one_text_of _ (λ d. one_spans (held_spans d) m) _ a b h.0 k.0
  one_month month.Gaps m n s a b after left h k = one_text_of _ (λ d. one_gaps (held_spans d) m) _ a b h.0 k.0
  one_month month.Sheet m n s a b after left h k =
      one_text_of _ (one_of_report (λ d breaches debts horizon. IsMonthSheet n d.name (held_spans d) breaches horizon m)
      (λ d breaches debts horizon. one_sheet n d.name (held_spans d) breaches horizon m)) _ a b h.0 k.0
  one_month month.Chart m n s a b after left h k =
      one_text_of _ (one_of_stretches (λ d stretches. IsMonthChart n d.name (held_spans d) stretches m)
      (λ d stretches. one_chart n d.name (held_spans d) stretches m)) _ a b h.0 k.0
  one_month month.Why m n s a b after left h k = one_text_of _ (one_why_of m) _ a b h.0 k.0

  -- the forecast of stretches is unique, and there is none that would go past 2099
  one_forecast : (minute : ℕ) (d : Driver) (stretches : List Judged) (a b : Answer) → IsForecastOf minute d stretches a
      → IsForecastOf minute d stretches b → a ≡ b
  one_forecast minute d stretches (Ok (Long a)) (Ok (Long b)) h k =
      ap (λ text. Ok (Long text)) (one_ahead (held_spans d) stretches minute a b h k)
  one_forecast minute d stretches (Ok (Long a)) (Err f) h k = absurd (in_time (held_spans d) stretches minute a h k.1)
  one_forecast minute d stretches (Err e) (Ok (Long b)) h k = absurd (in_time (held_spans d) stretches minute b k h.1)
  one_forecast minute d stretches a b h k = grind arith

  -- so is that for a driver, since the stretches are
  one_ahead_of : (minute : ℕ) (o : Option Driver) (a b : Answer) → IsAheadOf minute o a → IsAheadOf minute o b → a ≡ b
  one_ahead_of minute None a b h k = h ∙ sym k
  one_ahead_of minute (Some d) a b h k =
      let same : k.0 ≡ h.0 = one_stretches (held_spans d) (1440 * d.base) k.0 h.0 k.1 h.1 in
      one_forecast minute d h.0 a b h.2 (rw (← same) k.2)

  -- an import has one answer, and one state after it
  one_import : (n : ℕ) (p : Part) (input : List ℕ) (s : State) (a b : Answer) (after left : State)
      → Does (task.Import (caller.Driver n) p) input s a after → Does (task.Import (caller.Driver n) p) input s b left → (a ≡ b) × (after ≡ left)
  one_import n p input s a b after left h k = (let content = one_content p input in grind arith)

  -- each of a driver's own tasks that reads has one answer
  one_told : (n : ℕ) (t : Task) → IsOwnTask n t → is_command (want_of t) ≡ false → (input : List ℕ) (s : State) (a b : Answer)
      (after left : State) → Does t input s a after → Does t input s b left → a ≡ b
  one_told n (task.Reading m text) theirs reads input s a b after left h k = one_reading text m s a b after left h k
  one_told n (task.MonthReading m month text) theirs reads input s a b after left h k = one_month text month m s a b after left h k
  one_told n (task.Form m before) theirs reads input s a b after left h k = one_form_answer before m s a b after left h k
  one_told n (task.File m number) theirs reads input s a b after left h k = h.0 ∙ sym k.0
  one_told n (task.Handover m period) theirs reads input s a b after left h k =
      one_file_of _ (one_handover program_line period.from period.past) (driver_of m s) a b h.0 k.0
  one_told n (task.Driver m) theirs reads input s a b after left h k = h.0 ∙ sym k.0
  one_told n (task.Ahead m minute) theirs reads input s a b after left h k = one_ahead_of minute (driver_of m s) a b h.0 k.0
  one_told n task.Version theirs reads input s a b after left h k = h.0 ∙ sym k.0
  one_told n t theirs reads input s a b after left h k = grind arith

  -- so each of them has one answer, and one state after it
  pub one_answer : OneAnswer
  one_answer n t theirs input s a b after left = by (own_or_import n t theirs)
    where
      Once : Task → Type 0
      Once t = Does t input s a after → Does t input s b left → (a ≡ b) × (after ≡ left)

      by : (is_command (want_of t) ≡ false) ⊎ ((p : Part) × (t ≡ task.Import (caller.Driver n) p)) → Once t
      by (inl reads) = λ h k. (
        one_told n t theirs reads input s a b after left h k,
        (reads_same n t theirs reads input s s refl a after h).0 ∙ sym (reads_same n t theirs reads input s s refl b left k).0,
      )
      by (inr (p, is)) = subst Once (sym is) (one_import n p input s a b after left)
