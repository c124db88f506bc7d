-- Trusted: The arguments of a task: numbers, dates, months and parts, as they are on a command line or in a path.
use Rattle.std.specs.Prelude.{◌≡◌, ◌⊎◌, ◌++◌, ℕ, List, [], Option, Some, None, Result, Ok, Err, nat_lt, bytes_eq, codes, if◌then◌else◌}
use Rattle.tacho_time.specs.Reading.{day_at, minute_at, month_at}
use Rattle.tacho_time.specs.declared.fault.TimeFault.{TimeFault}
use Rattle.tacho_card.specs.declared.file.Part.{Part}
use Rattle.tacho_card.specs.declared.file.Part.TheVariants as part
use Rattle.tacho_state.specs.declared.caller.Caller.{Caller}
use Rattle.tacho_state.specs.declared.caller.Caller.TheVariants as caller
use Rattle.tacho_sheet.specs.Number.{HasNoNumber, IsNumberText}
use Rattle.tacho_sheet.specs.Fault.{time_fault}
use Rattle.tacho_sheet.specs.declared.fault.Fault.{Fault}
use Rattle.tacho_sheet.specs.declared.fault.Fault.TheVariants as fault
use Rattle.tacho_desk.specs.Range.{is_period}
use Rattle.tacho_desk.specs.declared.task.Task.{Task}
use Rattle.tacho_desk.specs.declared.task.Task.TheVariants as task
use Rattle.tacho_desk.specs.declared.want.Want.{Want}
use Rattle.tacho_desk.specs.declared.want.Want.TheVariants as want
use Rattle.tacho_desk.specs.declared.want.Wish.{Wish as WishValue}

-- what is asked for, with the texts of its arguments: the driver's number; a part of a card file, a number, a day or a month; and the one
-- after it: the time of a minute on that day, the last number of a range, or the past of a period. An argument that isn't there is an empty
-- text
pub record Wish : Type 0 where
  pub want : Want
  pub driver : List ℕ
  pub word : List ℕ
  pub next : List ℕ

-- the same of a value of the code
abbrev pub wish_in : WishValue → Wish
wish_in w = record { want = w.want; driver = w.driver.now; word = w.word.now; next = w.next.now }

-- the greatest number of a driver; below, that of an entry or a download
abbrev pub most_driver : ℕ
most_driver = 999999

abbrev pub most_number : ℕ
most_number = 1000000

-- the task that the arguments make, or the fault of the first bad one
abbrev pub Wanted : Type 0
Wanted = Result Task Fault

-- the number is valid and `Is` holds for it, or N1
abbrev pub ByNumber : ℕ → List ℕ → (ℕ → Wanted → Type 0) → Wanted → Type 0
ByNumber most text Is wanted =
    (HasNoNumber most text × (wanted ≡ Err fault.Number)) ⊎ ((n : ℕ) × IsNumberText most text n × Is n wanted)

-- the task of the day, of the day if there is one, of the month or the minute; or Z1, Z2 or Z3
abbrev pub by_time : {A : Type 0} → Result A TimeFault → (A → Wanted) → Wanted
by_time (Err f) task = Err (time_fault f)
by_time (Ok n) task = task n

-- a minute's day and time in one text
abbrev pub minute_text_of : List ℕ → List ℕ → List ℕ
minute_text_of day time = day ++ (codes " " ++ time)

-- the activity data of both generations, of the first, or of the second
abbrev pub part_of : List ℕ → Option Part
part_of text =
    if bytes_eq text (codes "both") then Some part.Both
    else (if bytes_eq text (codes "first") then Some part.First
    else (if bytes_eq text (codes "second") then Some part.Second else None))

-- the task of the part, or P1
abbrev pub by_part : Option Part → (Part → Task) → Wanted
by_part None task = Err fault.Part
by_part (Some p) task = Ok (task p)

-- the driver whom a task is about: for the office, the driver with the number in the argument; for a driver, that driver
abbrev pub IsDriver : Caller → List ℕ → ℕ → Type 0
IsDriver caller.Office word n = IsNumberText most_driver word n
IsDriver (caller.Driver m) word n = n ≡ m

-- the office's argument is no driver's number
abbrev pub HasNoDriver : Caller → List ℕ → Type 0
HasNoDriver caller.Office word = HasNoNumber most_driver word
HasNoDriver (caller.Driver m) word = ⊥

-- the driver is named and `Is` holds for them, or N1
abbrev pub ByDriver : Caller → List ℕ → (ℕ → Wanted → Type 0) → Wanted → Type 0
ByDriver c word Is wanted =
    (HasNoDriver c word × (wanted ≡ Err fault.Number)) ⊎ ((n : ℕ) × IsDriver c word n × Is n wanted)

-- the withdrawal of the entries from one number to another; N2 if the second is less
abbrev pub range_task : ℕ → ℕ → ℕ → Wanted
range_task n first last = if nat_lt last first then Err fault.Order else Ok (task.WithdrawRange n (record { first = first; last = last }))

-- the withdrawal of one entry of a driver, or of a range if there is a second number
abbrev pub IsWithdrawal : ℕ → List ℕ → List ℕ → Wanted → Type 0
IsWithdrawal n first [] wanted = ByNumber most_number first (λ k w. w ≡ Ok (task.Withdraw n k)) wanted
IsWithdrawal n first last wanted =
    ByNumber most_number first (λ k. ByNumber most_number last (λ l w. w ≡ range_task n k l)) wanted

-- a day that was read, as one that needn't be there
abbrev pub some_day : Result ℕ TimeFault → Result (Option ℕ) TimeFault
some_day (Err f) = Err f
some_day (Ok day) = Ok (Some day)

-- the day with this text, or none if the text is empty
abbrev pub day_if_named : List ℕ → Result (Option ℕ) TimeFault
day_if_named [] = Ok None
day_if_named text = some_day (day_at text)

-- the handover of a driver and a period; Z4 if it has no day, or more than 366 of them
abbrev pub period_task : ℕ → ℕ → ℕ → Wanted
period_task n from past = if is_period from past then Ok (task.Handover n (record { from = from; past = past })) else Err fault.Period

-- the list of all drivers, if the office names none; otherwise what is listed of one driver
abbrev pub IsDriversTask : Caller → List ℕ → Wanted → Type 0
IsDriversTask caller.Office [] wanted = wanted ≡ Ok task.Drivers
IsDriversTask c driver wanted = ByDriver c driver (λ n w. w ≡ Ok (task.Driver n)) wanted

-- the task that the arguments make for a caller, read from left to right, or the fault of the first bad argument
abbrev pub IsTask : Want → Caller → List ℕ → List ℕ → List ℕ → Wanted → Type 0
IsTask want.Register c driver word next wanted = wanted ≡ Ok task.Register
IsTask want.Import c driver word next wanted = wanted ≡ by_part (part_of word) (λ p. task.Import c p)
IsTask want.Enter c driver word next wanted = ByDriver c driver (λ n w. w ≡ Ok (task.Enter n)) wanted
IsTask want.Withdraw c driver word next wanted = ByDriver c driver (λ n. IsWithdrawal n word next) wanted
IsTask want.Base c driver word next wanted = ByDriver c driver (λ n w. w ≡ by_time (day_at word) (λ day. Ok (task.Base n day))) wanted
IsTask want.Key c driver word next wanted = ByDriver c driver (λ n w. w ≡ Ok (task.Key n)) wanted
IsTask want.Name c driver word next wanted = ByDriver c driver (λ n w. w ≡ Ok (task.Name n)) wanted
IsTask want.Form c driver word next wanted = ByDriver c driver (λ n w. w ≡ by_time (day_if_named word) (λ day. Ok (task.Form n day))) wanted
IsTask (want.Reading text) c driver word next wanted = ByDriver c driver (λ n w. w ≡ Ok (task.Reading n text)) wanted
IsTask (want.MonthReading text) c driver word next wanted =
    ByDriver c driver (λ n w. w ≡ by_time (month_at word) (λ month. Ok (task.MonthReading n month text))) wanted
IsTask want.File c driver word next wanted =
    ByDriver c driver (λ n. ByNumber most_number word (λ k w. w ≡ Ok (task.File n k))) wanted
IsTask want.Handover c driver word next wanted =
    ByDriver c driver (λ n w. w ≡ by_time (day_at word) (λ from. by_time (day_at next) (λ past. period_task n from past))) wanted
IsTask want.Drivers c driver word next wanted = IsDriversTask c driver wanted
IsTask want.Version c driver word next wanted = wanted ≡ Ok task.Version
IsTask (want.MonthOfAll text) c driver word next wanted = wanted ≡ by_time (month_at word) (λ month. Ok (task.MonthOfAll month text))
IsTask want.Forecast c driver word next wanted =
    wanted ≡ by_time (minute_at (minute_text_of word next)) (λ minute. Ok (task.Forecast minute))
IsTask want.Ahead c driver word next wanted =
    ByDriver c driver (λ n w. w ≡ by_time (minute_at (minute_text_of word next)) (λ minute. Ok (task.Ahead n minute))) wanted
