-- The arguments of a task are read as the kinds that the table of commands names.
use Rattle.std.proofs.Common.{◌≡◌, ◌≢◌, ◌↔◌, ◌⊎◌, ◌∷◌, ◌∙◌, sym, ℕ, nat_lt, Bool, true, false, cond, List, [], Option, None, Some, Result, Ok, Err, ap, arith, inl, inr, map, refl}
use Rattle.tacho_time.specs.Reading.{day_at, minute_at, month_at}
use Rattle.tacho_time.specs.declared.fault.TimeFault.{TimeFault}
use Rattle.std.specs.List.{AllByRecursion}
use Rattle.std.proofs.lemmas.Bool.Decides.{nat_tests}
use Rattle.tacho_card.specs.declared.file.Part.{Part}
use Rattle.tacho_state.specs.declared.caller.Caller.{Caller}
use Rattle.tacho_state.specs.declared.caller.Caller.TheVariants as caller
use Rattle.tacho_sheet.specs.Fault.{time_fault}
use Rattle.tacho_sheet.specs.Number.{HasNoNumber, IsNumberText}
use Rattle.tacho_sheet.specs.declared.fault.Fault.{Fault}
use Rattle.tacho_sheet.specs.declared.fault.Fault.TheVariants as fault
use Rattle.tacho_desk.specs.Arguments.{AreReadAsListed, IsBackward, IsFirstFault, IsNoPeriod, IsReadAsListed}
use Rattle.tacho_desk.specs.Commands.{Row, all_commands}
use Rattle.tacho_desk.specs.Words.{ByDriver, ByNumber, HasNoDriver, IsDriver, IsTask, IsWithdrawal, Wanted, by_part, by_time, day_if_named, minute_text_of, most_number, part_of, period_task}
use Rattle.tacho_desk.specs.Range.{is_period}
use Rattle.tacho_desk.specs.declared.argument.Argument.{Argument}
use Rattle.tacho_desk.specs.declared.argument.Argument.TheVariants as argument
use Rattle.tacho_desk.specs.declared.argument.Argument.TheVariants.{AnyDate, AnyDriver, AnyLast, Archive, Date, DateOfTime, Driver, From, Month, Number, Past, Time}
use Rattle.tacho_desk.specs.declared.table.Act.{Act}
use Rattle.tacho_desk.specs.declared.table.Act.TheVariants.{AtDesk}
use Rattle.tacho_desk.specs.declared.task.Task.{Task}
use Rattle.tacho_desk.specs.declared.task.Task.TheVariants as task
use Rattle.tacho_desk.specs.declared.want.Want.{Want}
use Rattle.tacho_desk.specs.declared.want.Want.TheVariants as want

-- the kinds of a task's arguments
abbrev kinds_of : Want → List Argument
kinds_of want.Register = []
kinds_of want.Import = argument.Part ∷ []
kinds_of want.Enter = Driver ∷ []
kinds_of want.Withdraw = Driver ∷ Number ∷ AnyLast ∷ []
kinds_of want.Base = Driver ∷ Date ∷ []
kinds_of want.Key = Driver ∷ []
kinds_of want.Name = Driver ∷ []
kinds_of want.Form = Driver ∷ AnyDate ∷ []
kinds_of (want.Reading text) = Driver ∷ []
kinds_of (want.MonthReading text) = Driver ∷ Month ∷ []
kinds_of want.File = Driver ∷ Number ∷ []
kinds_of want.Handover = Driver ∷ From ∷ Past ∷ []
kinds_of want.Drivers = AnyDriver ∷ []
kinds_of want.Version = []
kinds_of want.Ahead = Driver ∷ DateOfTime ∷ Time ∷ []
kinds_of want.Forecast = DateOfTime ∷ Time ∷ []
kinds_of (want.MonthOfAll text) = Month ∷ []

-- ---- one argument

-- what comes after the archive
after_archive : {A Rest : Type 0} → A ↔ Rest → A ↔ (⊥ ⊎ (Unit {0} × Rest))
after_archive both = (λ a. inr (tt, both.0 a), λ x. elim x [ inl none ↦ absurd none | inr more ↦ both.1 more.1 ])

-- a driver's number, and then others
driver_first : (Is : ℕ → Wanted → Type 0) {Rest : Type 0} (c : Caller) (driver : List ℕ) (f : Fault) → ((n : ℕ) → Is n (Err f) ↔ Rest)
    → ByDriver c driver Is (Err f) ↔ ((HasNoDriver c driver × (f ≡ fault.Number)) ⊎ (((n : ℕ) × IsDriver c driver n) × Rest))
driver_first Is {Rest} c driver f both = (to, from)
  where
    to : ByDriver c driver Is (Err f) → (HasNoDriver c driver × (f ≡ fault.Number)) ⊎ (((n : ℕ) × IsDriver c driver n) × Rest)
    to (inl (none, e)) = inl (none, cc)
    to (inr (n, is, h)) = inr ((n, is), (both n).0 h)

    from : (HasNoDriver c driver × (f ≡ fault.Number)) ⊎ (((n : ℕ) × IsDriver c driver n) × Rest) → ByDriver c driver Is (Err f)
    from (inl (none, e)) = inl (none, ap Err e)
    from (inr ((n, is), rest)) = inr (n, is, (both n).1 rest)

-- no argument more
no_more : (t : Task) (f : Fault) → (Err f ≡ Ok t) ↔ ⊥
no_more t f = (λ e. cc, λ none. absurd none)

-- the last one: a number, a part, or a day, a month or a time
number_last : (make : ℕ → Task) (word : List ℕ) (f : Fault) → ByNumber most_number word (λ k w. w ≡ Ok (make k)) (Err f)
    ↔ ((HasNoNumber most_number word × (f ≡ fault.Number)) ⊎ (((k : ℕ) × IsNumberText most_number word k) × ⊥))
number_last make word f = grind arith

part_last : (make : Part → Task) (read : Option Part) (f : Fault) → (Err f ≡ by_part read make)
    ↔ (((read ≡ None) × (f ≡ fault.Part)) ⊎ (((p : Part) × (read ≡ Some p)) × ⊥))
part_last make None f = grind arith
part_last make (Some p) f = grind arith

time_last : {A : Type 0} (make : A → Task) (read : Result A TimeFault) (f : Fault) → (Err f ≡ by_time read (λ n. Ok (make n)))
    ↔ (((e : TimeFault) × (read ≡ Err e) × (f ≡ time_fault e)) ⊎ (((n : A) × (read ≡ Ok n)) × ⊥))
time_last make (Ok n) f = grind arith
time_last make (Err e) f = grind arith

-- the last two: a number, and another one that isn't less, or none
abbrev IsBadLast : List ℕ → List ℕ → Fault → Type 0
IsBadLast word next f =
    ((next ≢ []) × ((HasNoNumber most_number next × (f ≡ fault.Number)) ⊎ (IsBackward word next × (f ≡ fault.Order))))
    ⊎ (((next ≡ []) ⊎ (((l : ℕ) × IsNumberText most_number next l) × ¬ IsBackward word next)) × ⊥)

abbrev IsBadRange : List ℕ → List ℕ → Fault → Type 0
IsBadRange word next f =
    (HasNoNumber most_number word × (f ≡ fault.Number)) ⊎ (((k : ℕ) × IsNumberText most_number word k) × IsBadLast word next f)

range_last : (n : ℕ) (word next : List ℕ) (f : Fault) → IsWithdrawal n word next (Err f) ↔ IsBadRange word next f
range_last n word [] f = (to, from) where
  to : IsWithdrawal n word [] (Err f) → IsBadRange word [] f
  to (inl (none, e)) = inl (none, cc)
  to (inr (k, is, e)) = cc

  from : IsBadRange word [] f → IsWithdrawal n word [] (Err f)
  from (inl (none, e)) = inl (none, ap Err e)
  from (inr (number, inl (other, bad))) = absurd (other refl)
  from (inr (number, inr (good, none))) = absurd none
range_last n word (digit ∷ next) f = (to, from) where
  to : IsWithdrawal n word (digit ∷ next) (Err f) → IsBadRange word (digit ∷ next) f
  to (inl (none, e)) = inl (none, cc)
  to (inr (k, is, inl (none, e))) = inr ((k, is), inl ((λ f. cc), inl (none, cc)))
  to (inr (k, is, inr (l, also, e))) = inr ((k, is), inl ((λ f. cc), inr (go (nat_lt l k) refl e))) where
    go : (b : Bool) → nat_lt l k ≡ b → Err f ≡ cond {A = Wanted} b (Err fault.Order) (Ok (task.WithdrawRange n (record { first = k; last = l })))
        → IsBackward word (digit ∷ next) × (f ≡ fault.Order)
    go true less e = ((k, l, is, also, grind (arith, nat_tests)), cc)
    go false less e = cc

  from : IsBadRange word (digit ∷ next) f → IsWithdrawal n word (digit ∷ next) (Err f)
  from (inl (none, e)) = inl (none, ap Err e)
  from (inr ((k, is), inl (other, inl (none, e)))) = inr (k, is, inl (none, ap Err e))
  from (inr ((k, is), inl (other, inr ((first, last, a, b, less), e)))) =
      let test : nat_lt last first ≡ true = grind (arith, nat_tests) in
      inr (first, a, inr (last, b, ap Err e ∙ sym (ap (λ c. cond {A = Wanted} c (Err fault.Order) (Ok (task.WithdrawRange n (record { first = first; last = last })))) test)))
  from (inr (number, inr (good, none))) = absurd none

-- the last two: a day, and one to which a period goes from it
abbrev IsBadPast : List ℕ → List ℕ → Fault → Type 0
IsBadPast word next f =
    (((e : TimeFault) × (day_at next ≡ Err e) × (f ≡ time_fault e)) ⊎ (IsNoPeriod word next × (f ≡ fault.Period)))
    ⊎ ((((day : ℕ) × (day_at next ≡ Ok day)) × ¬ IsNoPeriod word next) × ⊥)

abbrev IsBadPeriod : List ℕ → List ℕ → Fault → Type 0
IsBadPeriod word next f =
    ((e : TimeFault) × (day_at word ≡ Err e) × (f ≡ time_fault e)) ⊎ (((day : ℕ) × (day_at word ≡ Ok day)) × IsBadPast word next f)

-- the one task, or fault, is the other
abbrev Is : Wanted → Wanted → Type 0
Is a b = a ≡ b

period_last : (n : ℕ) (word next : List ℕ) (f : Fault)
    → (Err f ≡ by_time (day_at word) (λ from. by_time (day_at next) (λ past. period_task n from past))) ↔ IsBadPeriod word next f
period_last n word next f = by (day_at word) refl (day_at next) refl where
  by : (a : Result ℕ TimeFault) → day_at word ≡ a → (b : Result ℕ TimeFault) → day_at next ≡ b
      → (Err f ≡ by_time a (λ from. by_time b (λ past. period_task n from past))) ↔ IsBadPeriod word next f
  by (Err e) is b also = (to, from) where
    to : Is (Err f) (Err (time_fault e)) → IsBadPeriod word next f
    to same = inl (e, is, cc)

    from : IsBadPeriod word next f → Is (Err f) (Err (time_fault e))
    from (inl (other, it, same)) = (let one : other ≡ e = cc in ap Err (same ∙ ap time_fault one))
    from (inr ((day, it), bad)) = absurd (let wrong : Ok day ≡ Err e = sym it ∙ is in cc)
  by (Ok first) is (Err e) also = (to, from) where
    to : Is (Err f) (Err (time_fault e)) → IsBadPeriod word next f
    to same = inr ((first, is), inl (inl (e, also, cc)))

    from : IsBadPeriod word next f → Is (Err f) (Err (time_fault e))
    from (inl (other, it, same)) = absurd (let wrong : Ok first ≡ Err other = sym is ∙ it in cc)
    from (inr (day, inl (inl (other, it, same)))) = (let one : other ≡ e = cc in ap Err (same ∙ ap time_fault one))
    from (inr (day, inl (inr ((early, late, a, b, none), same)))) = absurd (let wrong : Ok late ≡ Err e = sym b ∙ also in cc)
    from (inr (day, inr (good, none))) = absurd none
  by (Ok first) is (Ok past) also = go (is_period first past) refl where
    go : (t : Bool) → is_period first past ≡ t
        → (Err f ≡ cond {A = Wanted} t (Ok (task.Handover n (record { from = first; past = past }))) (Err fault.Period)) ↔ IsBadPeriod word next f
    go true e = (λ same. cc, from) where
      from : IsBadPeriod word next f → Is (Err f) (Ok (task.Handover n (record { from = first; past = past })))
      from (inl (other, it, same)) = absurd (let wrong : Ok first ≡ Err other = sym is ∙ it in cc)
      from (inr (day, inl (inl (other, it, same)))) = absurd (let wrong : Ok past ≡ Err other = sym also ∙ it in cc)
      from (inr (day, inl (inr ((a, b, one, two, none), same)))) =
          absurd (let first_is : a ≡ first = cc in let past_is : b ≡ past = cc in let wrong : true ≡ false = sym e ∙ rw (first_is, past_is) at none in cc)
      from (inr (day, inr (good, none))) = absurd none
    go false e = (to, from) where
      to : Is (Err f) (Err fault.Period) → IsBadPeriod word next f
      to same = inr ((first, is), inl (inr ((first, past, is, also, e), cc)))

      from : IsBadPeriod word next f → Is (Err f) (Err fault.Period)
      from (inl (other, it, same)) = absurd (let wrong : Ok first ≡ Err other = sym is ∙ it in cc)
      from (inr (day, inl (inl (other, it, same)))) = absurd (let wrong : Ok past ≡ Err other = sym also ∙ it in cc)
      from (inr (day, inl (inr (none, same)))) = ap Err same
      from (inr (day, inr (good, none))) = absurd none

-- ---- all arguments

-- a task is refused with the fault of the first bad one
refused_first : (w : Want) (driver word next : List ℕ) (c : Caller) (f : Fault) → IsTask w c driver word next (Err f)
    ↔ IsFirstFault (Archive ∷ kinds_of w) c (record { want = w; driver = driver; word = word; next = next }) f
refused_first want.Register driver word next c f = after_archive (no_more task.Register f)
refused_first want.Import driver word next c f = after_archive (part_last (λ p. task.Import c p) (part_of word) f)
refused_first want.Enter driver word next c f =
    after_archive (driver_first (λ n w. w ≡ Ok (task.Enter n)) c driver f (λ n. no_more (task.Enter n) f))
refused_first want.Withdraw driver word next c f =
    after_archive (driver_first (λ n. IsWithdrawal n word next) c driver f (λ n. range_last n word next f))
refused_first want.Base driver word next c f =
    after_archive (driver_first (λ n w. w ≡ by_time (day_at word) (λ d. Ok (task.Base n d))) c driver f
    (λ n. time_last (λ d. task.Base n d) (day_at word) f))
refused_first want.Key driver word next c f =
    after_archive (driver_first (λ n w. w ≡ Ok (task.Key n)) c driver f (λ n. no_more (task.Key n) f))
refused_first want.Name driver word next c f =
    after_archive (driver_first (λ n w. w ≡ Ok (task.Name n)) c driver f (λ n. no_more (task.Name n) f))
refused_first want.Form driver word next c f =
    after_archive (driver_first (λ n w. w ≡ by_time (day_if_named word) (λ day. Ok (task.Form n day))) c driver f
    (λ n. time_last (λ day. task.Form n day) (day_if_named word) f))
refused_first (want.Reading text) driver word next c f =
    after_archive (driver_first (λ n w. w ≡ Ok (task.Reading n text)) c driver f (λ n. no_more (task.Reading n text) f))
refused_first (want.MonthReading text) driver word next c f =
    after_archive (driver_first (λ n w. w ≡ by_time (month_at word) (λ m. Ok (task.MonthReading n m text))) c driver f
    (λ n. time_last (λ m. task.MonthReading n m text) (month_at word) f))
refused_first want.File driver word next c f =
    after_archive (driver_first (λ n. ByNumber most_number word (λ k w. w ≡ Ok (task.File n k))) c driver f
    (λ n. number_last (λ k. task.File n k) word f))
refused_first want.Handover driver word next c f =
    after_archive (driver_first (λ n w. w ≡ by_time (day_at word) (λ from. by_time (day_at next) (λ past. period_task n from past))) c driver f
    (λ n. period_last n word next f))
refused_first want.Drivers [] word next caller.Office f = grind arith
refused_first want.Drivers driver word next c f = grind arith
refused_first want.Version driver word next c f = after_archive (no_more task.Version f)
refused_first (want.MonthOfAll text) driver word next c f = after_archive (time_last (λ m. task.MonthOfAll m text) (month_at word) f)
refused_first want.Forecast driver word next c f =
    after_archive (after_archive (time_last (λ m. task.Forecast m) (minute_at (minute_text_of word next)) f))
refused_first want.Ahead driver word next c f =
    after_archive (driver_first (λ n w. w ≡ by_time (minute_at (minute_text_of word next)) (λ m. Ok (task.Ahead n m))) c driver f
    (λ n. after_archive (time_last (λ m. task.Ahead n m) (minute_at (minute_text_of word next)) f)))

-- ---- the table

-- the arguments of a row, and the kinds of its task's
abbrev listed : Act → List Argument → List Argument
listed (AtDesk w) arguments = arguments
listed act arguments = []

abbrev kinds : Act → List Argument
kinds (AtDesk w) = Archive ∷ kinds_of w
kinds act = []

of_row : (row : Row) → listed row.act row.arguments ≡ kinds row.act → IsReadAsListed row
of_row row same w is c f = (let here = rw is at same in rw here (refused_first w.want w.driver w.word w.next c f))

of_rows : (rows : List Row) → map (λ row. listed row.act row.arguments) rows ≡ map (λ row. kinds row.act) rows
    → AllByRecursion IsReadAsListed rows
of_rows [] same = tt
of_rows (row ∷ rows) same = (of_row row cc, of_rows rows cc)

pub as_listed : AreReadAsListed
as_listed = of_rows all_commands refl
