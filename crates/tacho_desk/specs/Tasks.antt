-- Trusted: What each task answers, and the state of the archive after it.
use Rattle.std.specs.Prelude.{◌≡◌, ◌⊎◌, ℕ, ◌*◌, ◌==◌, min, List, [], ◌∷◌, ◌++◌, Some, Option, None, Result, Ok, Err, codes, flat_map, if◌then◌else◌, length}
use Rattle.tacho_time.specs.declared.fault.TimeFault.TheVariants as time
use Rattle.tacho_line.specs.declared.horizon.Horizon.{Horizon}
use Rattle.tacho_card.specs.declared.fault.CardFault.{CardFault}
use Rattle.tacho_card.specs.declared.file.Part.{Part}
use Rattle.tacho_law.specs.declared.breach.Breach.{Breach}
use Rattle.tacho_law.specs.declared.debt.Debt.{Debt}
use Rattle.tacho_rules.specs.Report.{IsReport}
use Rattle.tacho_stretches.specs.Start.{IsEndOfHeld}
use Rattle.tacho_stretches.specs.Stretches.{Judged, AreStretches}
use Rattle.tacho_state.specs.Acts.{caller_number}
use Rattle.tacho_state.specs.Batch.{batch_of}
use Rattle.tacho_state.specs.Content.{FileTells}
use Rattle.tacho_state.specs.Numbers.{part_number}
use Rattle.tacho_state.specs.Files.{files_reading}
use Rattle.tacho_state.specs.Registration.{Registration}
use Rattle.tacho_state.specs.State.{Driver, State, driver_of, held_spans}
use Rattle.tacho_state.specs.Steps.{Content, register_step, import_step, enter_step, withdraw_range_step, rebase_step, rekey_step, rename_step, entries_reading, file_reading}
use Rattle.tacho_state.specs.Summaries.{AreSummaries, Summary, driver_reading}
use Rattle.tacho_state.specs.declared.caller.Caller.{Caller}
use Rattle.tacho_state.specs.declared.entry.EntryLine.{EntryLine}
use Rattle.tacho_state.specs.declared.fault.StoreFault.TheVariants as store
use Rattle.tacho_state.specs.declared.imported.Imported.{Imported}
use Rattle.tacho_state.specs.declared.imported.Imported.TheVariants as imported
use Rattle.tacho_sheet.specs.declared.fault.SheetFault.{SheetFault}
use Rattle.tacho_sheet.specs.declared.fault.SheetFault.TheVariants as sheet
use Rattle.tacho_sheet.specs.Done.{base_line, entered_text, imported_text, number_line, withdrawn_text}
use Rattle.tacho_sheet.specs.Driver.{IsDriverRead}
use Rattle.tacho_sheet.specs.Entries.{IsRead, Lines}
use Rattle.tacho_sheet.specs.Form.{IsForm}
use Rattle.tacho_sheet.specs.Value.{IsKeyLine, IsKeyRead, IsNameLine, IsNameRead}
use Rattle.tacho_sheet.specs.Months.{overview_head, IsOverviewRow, incident_head, AreIncidentRows}
use Rattle.tacho_sheet.specs.Forecast.{forecast_head, IsForecastRow}
use Rattle.tacho_sheet.specs.Standing.{standing_head, IsStandingRow}
use Rattle.tacho_sheet.specs.Stretches.{stretch_text, debt_text}
use Rattle.tacho_sheet.specs.Chart.{IsMonthChart}
use Rattle.tacho_sheet.specs.Reports.{breach_text, owed_text, IsGapText, IsMonthSheet, IsSpanCsv}
use Rattle.tacho_sheet.specs.Text.{entry_line, file_line, summary_line}
use Rattle.tacho_sheet.specs.Ahead.{IsAheadText, IsTooLate}
use Rattle.tacho_sheet.specs.Why.{IsMonthWhy}
use Rattle.tacho_handover.specs.Handover.{IsHandover}
use Rattle.tacho_desk.specs.Doing.{Doing, IsFileOf, IsText, Lists, Refuses, Shows, Steps}
use Rattle.tacho_sheet.specs.Fault.{card_fault, fault_of_store, sheet_fault, time_fault}
use Rattle.tacho_desk.specs.Range.{Days, Numbers}
use Rattle.tacho_desk.specs.Version.{program_line, version_text}
use Rattle.tacho_desk.specs.Told.{Answer, Told, Added, Line, Long, File}
use Rattle.tacho_sheet.specs.declared.fault.Fault.{Fault}
use Rattle.tacho_desk.specs.declared.task.Task.{Task}
use Rattle.tacho_desk.specs.declared.task.Task.TheVariants as task
use Rattle.tacho_desk.specs.declared.want.MonthOfAll.{MonthOfAll}
use Rattle.tacho_desk.specs.declared.want.MonthOfAll.TheVariants as all
use Rattle.tacho_desk.specs.declared.want.MonthReading.{MonthReading}
use Rattle.tacho_desk.specs.declared.want.MonthReading.TheVariants as month
use Rattle.tacho_desk.specs.declared.want.Reading.{Reading}
use Rattle.tacho_desk.specs.declared.want.Reading.TheVariants as reading
use Rattle.tacho_desk.specs.declared.want.Want.{Want}
use Rattle.tacho_desk.specs.declared.want.Want.TheVariants as want

-- ---- commands

-- a text of CSV is read as defined; or the fault is E8, since it isn't promised of the reader of CSV that it never fails
abbrev pub OrCsv : {A : Type 0} → (Result A SheetFault → Type 0) → Result A SheetFault → Type 0
OrCsv Is read = Is read ⊎ (read ≡ Err sheet.Csv)

-- the fault E1, E2, E8 or E9; or the step of the registration
abbrev pub RegistersRead : State → Result Registration SheetFault → Doing
RegistersRead s (Err f) = Refuses (sheet_fault f) s
RegistersRead s (Ok r) = Steps (λ _. Added (number_line (codes "registered ") r.number)) (register_step r.number r.holder r.key r.base r.name s)

abbrev pub Registers : List ℕ → State → Doing
Registers input s answer after = (read : Result Registration SheetFault) × OrCsv (IsDriverRead input) read × RegistersRead s read answer after

-- the answer for a file that was added, or one that was there already
abbrev pub imported_told : Imported → Told
imported_told (imported.Added driver number) = Added (imported_text (imported.Added driver number))
imported_told (imported.Repeated driver) = Line (imported_text (imported.Repeated driver))

-- the step of an import for a caller
abbrev pub Imports : Caller → Part → List ℕ → State → Doing
Imports caller p input s answer after =
    (content : Result Content CardFault) × FileTells p input content
    × Steps imported_told (import_step (caller_number caller) (part_number p) input content s) answer after

-- the answer for the entries of a batch, or for an empty batch
abbrev pub entered_told : ℕ → ℕ → Told
entered_told first count = if count == 0 then Line (entered_text first count) else Added (entered_text first count)

-- the fault, one of E1 to E8 or E10; or the step of the batch
abbrev pub EntersRead : ℕ → State → Lines → Doing
EntersRead n s (Err f) = Refuses (sheet_fault f) s
EntersRead n s (Ok lines) = Steps (λ first. entered_told first (length lines)) (enter_step n (batch_of lines) s)

abbrev pub Enters : ℕ → List ℕ → State → Doing
Enters n input s answer after = (read : Lines) × OrCsv (IsRead input) read × EntersRead n s read answer after

abbrev pub Withdraws : ℕ → ℕ → State → Doing
Withdraws n number s = Steps (λ _. Line (number_line (codes "withdrawn ") number)) (withdraw_range_step n number number s)

abbrev pub WithdrawsRange : ℕ → Numbers → State → Doing
WithdrawsRange n range s = Steps (λ _. Line (withdrawn_text range.first range.last)) (withdraw_range_step n range.first range.last s)

abbrev pub Rebases : ℕ → ℕ → State → Doing
Rebases n day s = Steps (λ _. Line (base_line day)) (rebase_step n day s)

-- the fault E9; or the step that sets the key
abbrev pub RekeysRead : ℕ → State → Result (List ℕ) SheetFault → Doing
RekeysRead n s (Err f) = Refuses (sheet_fault f) s
RekeysRead n s (Ok key) = Steps (λ _. Line (number_line (codes "key ") n)) (rekey_step n key s)

abbrev pub Rekeys : ℕ → List ℕ → State → Doing
Rekeys n input s answer after = (read : Result (List ℕ) SheetFault) × IsKeyRead input read × RekeysRead n s read answer after

-- the fault E9; or the step that sets the name
abbrev pub RenamesRead : ℕ → State → Result (List ℕ) SheetFault → Doing
RenamesRead n s (Err f) = Refuses (sheet_fault f) s
RenamesRead n s (Ok name) = Steps (λ _. Line (number_line (codes "name ") n)) (rename_step n name s)

abbrev pub Renames : ℕ → List ℕ → State → Doing
Renames n input s answer after = (read : Result (List ℕ) SheetFault) × IsNameRead input read × RenamesRead n s read answer after

-- ---- readings

-- a text of the report of what the driver holds, from the base on
abbrev pub OfReport : (List Breach → List Debt → Horizon → List ℕ → Type 0) → Driver → List ℕ → Type 0
OfReport Is d text =
    (horizon : Horizon) × (breaches : List Breach) × (debts : List Debt) × IsReport (held_spans d) (1440 * d.base) horizon breaches debts
    × Is breaches debts horizon text

-- a text of the stretches of what the driver holds, from the base on
abbrev pub OfStretches : (List Judged → List ℕ → Type 0) → Driver → List ℕ → Type 0
OfStretches Is d text = (stretches : List Judged) × AreStretches (held_spans d) (1440 * d.base) stretches × Is stretches text

-- the end, or the first minute of a day if there is one and it is earlier
abbrev pub cut_at : Option ℕ → ℕ → ℕ
cut_at None end = end
cut_at (Some day) end = min end (1440 * day)

-- the form for the minutes that the driver doesn't hold, from the base to the end of what they hold, and before the day if there is one
abbrev pub IsFormOf : Option ℕ → Driver → List ℕ → Type 0
IsFormOf before d text =
    (end : ℕ) × IsEndOfHeld (held_spans d) (1440 * d.base) end × IsForm (held_spans d) (1440 * d.base) (cut_at before end) text

abbrev pub ShowsForm : Option ℕ → ℕ → State → Doing
ShowsForm before n s = Shows (IsFormOf before) n s

-- a text of a driver
abbrev pub ShowsReading : Reading → ℕ → State → Doing
ShowsReading reading.Breaches n s = Shows (OfReport (λ breaches debts horizon text. text ≡ breach_text breaches horizon)) n s
ShowsReading reading.Owed n s = Shows (OfReport (λ breaches debts horizon text. text ≡ owed_text debts horizon)) n s
ShowsReading reading.Entries n s = Lists (λ entries. Long (flat_map entry_line entries)) s (entries_reading n s)
ShowsReading reading.Stretches n s = Shows (OfStretches (λ stretches text. text ≡ stretch_text stretches)) n s
ShowsReading reading.Debts n s = Shows (OfStretches (λ stretches text. text ≡ debt_text stretches)) n s
ShowsReading reading.Files n s = Lists (λ files. Long (flat_map file_line files)) s (files_reading n s)

-- a text of a driver's month
abbrev pub ShowsMonth : MonthReading → ℕ → ℕ → State → Doing
ShowsMonth month.Spans m n s = Shows (λ d. IsSpanCsv (held_spans d) m) n s
ShowsMonth month.Gaps m n s = Shows (λ d. IsGapText (held_spans d) m) n s
ShowsMonth month.Sheet m n s = Shows (λ d. OfReport (λ breaches debts horizon. IsMonthSheet n d.name (held_spans d) breaches horizon m) d) n s
ShowsMonth month.Chart m n s = Shows (λ d. OfStretches (λ stretches. IsMonthChart n d.name (held_spans d) stretches m) d) n s
ShowsMonth month.Why m n s = Shows (λ d. OfStretches (λ stretches. IsMonthWhy (held_spans d) stretches m) d) n s

-- the forecast of stretches from a minute on; or Z3, if it would go past 2099
abbrev pub IsForecastOf : ℕ → Driver → List Judged → Answer → Type 0
IsForecastOf m d stretches (Ok (Long text)) = IsAheadText (held_spans d) stretches m text
IsForecastOf m d stretches (Ok other) = ⊥
IsForecastOf m d stretches (Err f) = (f ≡ time_fault time.OutOfRange) × IsTooLate stretches m

-- the forecast for a driver; S4 if there is none
abbrev pub IsAheadOf : ℕ → Option Driver → Answer → Type 0
IsAheadOf m None answer = answer ≡ Err (fault_of_store store.UnknownDriver)
IsAheadOf m (Some d) answer =
    (stretches : List Judged) × AreStretches (held_spans d) (1440 * d.base) stretches × IsForecastOf m d stretches answer

abbrev pub ShowsAhead : ℕ → ℕ → State → Doing
ShowsAhead m n s answer after = IsAheadOf m (driver_of n s) answer × (after ≡ s)

abbrev pub ShowsFile : ℕ → ℕ → State → Doing
ShowsFile n number s = Lists (λ file. File file) s (file_reading n number s)

-- what is handed over of a driver and a period
abbrev pub ShowsHandover : Days → ℕ → State → Doing
ShowsHandover period n s answer after =
    IsFileOf (IsHandover program_line period.from period.past) (driver_of n s) answer × (after ≡ s)

-- the list of all drivers, a line for each, in the order of their numbers
abbrev pub ShowsDrivers : State → Doing
ShowsDrivers s answer after =
    IsText (λ text. (summaries : List Summary) × AreSummaries s summaries × (text ≡ flat_map summary_line summaries)) answer × (after ≡ s)

-- what is listed of one driver
abbrev pub ShowsDriver : ℕ → State → Doing
ShowsDriver n s = Lists (λ d. Long (summary_line d)) s (driver_reading n s)

-- the version of the program
abbrev pub ShowsVersion : State → Doing
ShowsVersion s = Lists Long s (Ok version_text)

-- the texts of the listed drivers, in sequence
abbrev pub AreOfEach : (Summary → Driver → List ℕ → Type 0) → State → List Summary → List ℕ → Type 0
AreOfEach Is s [] text = text ≡ []
AreOfEach Is s (x ∷ summaries) text =
    (d : Driver) × (driver_of x.number s ≡ Some d)
    × (front : List ℕ) × (back : List ℕ) × (text ≡ front ++ back) × Is x d front × AreOfEach Is s summaries back

-- a head, and a text of each driver of the state, in the order of their numbers
abbrev pub IsOfAll : List ℕ → (Summary → Driver → List ℕ → Type 0) → State → List ℕ → Type 0
IsOfAll head Is s text =
    (summaries : List Summary) × AreSummaries s summaries × (rows : List ℕ) × (text ≡ head ++ rows) × AreOfEach Is s summaries rows

-- the forecast for all drivers
abbrev pub ShowsForecast : ℕ → State → Doing
ShowsForecast m s answer after =
    IsText (IsOfAll forecast_head (λ x d. OfStretches (λ stretches. IsForecastRow x (held_spans d) (1440 * d.base) stretches m) d) s) answer
    × (after ≡ s)

-- a text of a month of all drivers
abbrev pub ShowsMonthOfAll : MonthOfAll → ℕ → State → Doing
ShowsMonthOfAll all.Standing m s answer after =
    IsText (IsOfAll standing_head (λ x d. OfStretches (λ stretches. IsStandingRow x (held_spans d) (1440 * d.base) stretches m) d) s) answer
    × (after ≡ s)
ShowsMonthOfAll all.Overview m s answer after =
    IsText (IsOfAll overview_head (λ x d. OfStretches (λ stretches. IsOverviewRow x.number x.name (held_spans d) stretches m) d) s) answer
    × (after ≡ s)
ShowsMonthOfAll all.Incidents m s answer after =
    IsText (IsOfAll incident_head (λ x d. OfStretches (λ stretches. AreIncidentRows x.number x.name stretches m) d) s) answer × (after ≡ s)

-- ---- tasks

-- the kind of a task
abbrev pub want_of : Task → Want
want_of task.Register = want.Register
want_of (task.Import caller part) = want.Import
want_of (task.Enter n) = want.Enter
want_of (task.Withdraw n number) = want.Withdraw
want_of (task.WithdrawRange n range) = want.Withdraw
want_of (task.Base n day) = want.Base
want_of (task.Key n) = want.Key
want_of (task.Name n) = want.Name
want_of (task.Form n before) = want.Form
want_of (task.Reading n text) = want.Reading text
want_of (task.MonthReading n m text) = want.MonthReading text
want_of (task.Ahead n minute) = want.Ahead
want_of (task.Forecast minute) = want.Forecast
want_of (task.File n number) = want.File
want_of (task.Handover n period) = want.Handover
want_of task.Drivers = want.Drivers
want_of (task.Driver n) = want.Drivers
want_of task.Version = want.Version
want_of (task.MonthOfAll m text) = want.MonthOfAll text

-- what a task answers for its input, and the state after it
abbrev pub Does : Task → List ℕ → State → Doing
Does task.Register input s = Registers input s
Does (task.Import caller part) input s = Imports caller part input s
Does (task.Enter n) input s = Enters n input s
Does (task.Withdraw n number) input s = Withdraws n number s
Does (task.WithdrawRange n range) input s = WithdrawsRange n range s
Does (task.Base n day) input s = Rebases n day s
Does (task.Key n) input s = Rekeys n input s
Does (task.Name n) input s = Renames n input s
Does (task.Form n before) input s = ShowsForm before n s
Does (task.Reading n text) input s = ShowsReading text n s
Does (task.MonthReading n m text) input s = ShowsMonth text m n s
Does (task.Ahead n minute) input s = ShowsAhead minute n s
Does (task.Forecast minute) input s = ShowsForecast minute s
Does (task.File n number) input s = ShowsFile n number s
Does (task.Handover n period) input s = ShowsHandover period n s
Does task.Drivers input s = ShowsDrivers s
Does (task.Driver n) input s = ShowsDriver n s
Does task.Version input s = ShowsVersion s
Does (task.MonthOfAll m text) input s = ShowsMonthOfAll text m s

-- ---- inputs

-- the input is valid: a text of CSV that can be read, a card file without a fault, a line with a key or a name, or any input if the task
-- doesn't read it
abbrev pub IsSound : Task → List ℕ → Type 0
IsSound task.Register input = (r : Registration) × IsDriverRead input (Ok r)
IsSound (task.Import caller part) input = (content : Content) × FileTells part input (Ok content)
IsSound (task.Enter n) input = (lines : List EntryLine) × IsRead input (Ok lines)
IsSound (task.Key n) input = (key : List ℕ) × IsKeyLine input key
IsSound (task.Name n) input = (name : List ℕ) × IsNameLine input name
IsSound t input = Unit {0}

-- the input has this fault
abbrev pub IsFaulty : Task → List ℕ → Fault → Type 0
IsFaulty task.Register input f = (e : SheetFault) × OrCsv (IsDriverRead input) (Err e) × (f ≡ sheet_fault e)
IsFaulty (task.Import caller part) input f = (e : CardFault) × FileTells part input (Err e) × (f ≡ card_fault e)
IsFaulty (task.Enter n) input f = (e : SheetFault) × OrCsv (IsRead input) (Err e) × (f ≡ sheet_fault e)
IsFaulty (task.Key n) input f = (e : SheetFault) × IsKeyRead input (Err e) × (f ≡ sheet_fault e)
IsFaulty (task.Name n) input f = (e : SheetFault) × IsNameRead input (Err e) × (f ≡ sheet_fault e)
IsFaulty t input f = ⊥
