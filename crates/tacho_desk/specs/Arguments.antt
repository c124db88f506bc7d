-- Trusted: The arguments of a task are read as the kinds that the table of commands names, from left to right.
use Rattle.std.specs.Prelude.{◌≡◌, ◌≢◌, ◌⊎◌, ◌↔◌, ℕ, ◌<◌, false, List, [], ◌∷◌, Option, None, Some, Ok, Err}
use Rattle.std.specs.List.{AllByRecursion}
use Rattle.tacho_time.specs.Reading.{day_at, minute_at, month_at}
use Rattle.tacho_time.specs.declared.fault.TimeFault.{TimeFault}
use Rattle.tacho_card.specs.declared.file.Part.{Part as CardPart}
use Rattle.tacho_state.specs.declared.caller.Caller.{Caller}
use Rattle.tacho_sheet.specs.Fault.{time_fault}
use Rattle.tacho_sheet.specs.Number.{HasNoNumber, IsNumberText}
use Rattle.tacho_sheet.specs.declared.fault.Fault.{Fault}
use Rattle.tacho_sheet.specs.declared.fault.Fault.TheVariants as fault
use Rattle.tacho_desk.specs.Commands.{Row, all_commands}
use Rattle.tacho_desk.specs.Range.{is_period}
use Rattle.tacho_desk.specs.Words.{HasNoDriver, IsDriver, IsTask, Wish, day_if_named, minute_text_of, most_number, part_of}
use Rattle.tacho_desk.specs.declared.argument.Argument.{Argument}
use Rattle.tacho_desk.specs.declared.argument.Argument.TheVariants.{AnyDate, AnyDriver, AnyLast, Date, Driver, From, Month, Number, Part, Past, Time}
use Rattle.tacho_desk.specs.declared.table.Act.TheVariants.{AtDesk}

-- the second text is of a number less than that of the first
abbrev pub IsBackward : List ℕ → List ℕ → Type 0
IsBackward from to =
    (first : ℕ) × (last : ℕ) × IsNumberText most_number from first × IsNumberText most_number to last × (last < first)

-- the second text is of a day to which no period goes from that of the first
abbrev pub IsNoPeriod : List ℕ → List ℕ → Type 0
IsNoPeriod from to = (first : ℕ) × (past : ℕ) × (day_at from ≡ Ok first) × (day_at to ≡ Ok past) × (is_period first past ≡ false)

-- The argument of this kind is bad, with this fault: N1, N2, P1, or Z1 to Z4. The day of a minute is judged with its time.
abbrev pub IsBad : Argument → Caller → Wish → Fault → Type 0
IsBad Driver c w f = HasNoDriver c w.driver × (f ≡ fault.Number)
IsBad AnyDriver c w f = (w.driver ≢ []) × HasNoDriver c w.driver × (f ≡ fault.Number)
IsBad Number c w f = HasNoNumber most_number w.word × (f ≡ fault.Number)
IsBad AnyLast c w f = (w.next ≢ []) × ((HasNoNumber most_number w.next × (f ≡ fault.Number)) ⊎ (IsBackward w.word w.next × (f ≡ fault.Order)))
IsBad Part c w f = (part_of w.word ≡ None) × (f ≡ fault.Part)
IsBad Date c w f = (e : TimeFault) × (day_at w.word ≡ Err e) × (f ≡ time_fault e)
IsBad AnyDate c w f = (e : TimeFault) × (day_if_named w.word ≡ Err e) × (f ≡ time_fault e)
IsBad From c w f = (e : TimeFault) × (day_at w.word ≡ Err e) × (f ≡ time_fault e)
IsBad Past c w f =
    ((e : TimeFault) × (day_at w.next ≡ Err e) × (f ≡ time_fault e)) ⊎ (IsNoPeriod w.word w.next × (f ≡ fault.Period))
IsBad Month c w f = (e : TimeFault) × (month_at w.word ≡ Err e) × (f ≡ time_fault e)
IsBad Time c w f = (e : TimeFault) × (minute_at (minute_text_of w.word w.next) ≡ Err e) × (f ≡ time_fault e)
IsBad other c w f = ⊥

-- the argument of this kind is valid
abbrev pub IsGood : Argument → Caller → Wish → Type 0
IsGood Driver c w = (n : ℕ) × IsDriver c w.driver n
IsGood AnyDriver c w = (w.driver ≡ []) ⊎ ((n : ℕ) × IsDriver c w.driver n)
IsGood Number c w = (n : ℕ) × IsNumberText most_number w.word n
IsGood AnyLast c w = (w.next ≡ []) ⊎ (((n : ℕ) × IsNumberText most_number w.next n) × ¬ IsBackward w.word w.next)
IsGood Part c w = (p : CardPart) × (part_of w.word ≡ Some p)
IsGood Date c w = (day : ℕ) × (day_at w.word ≡ Ok day)
IsGood AnyDate c w = (day : Option ℕ) × (day_if_named w.word ≡ Ok day)
IsGood From c w = (day : ℕ) × (day_at w.word ≡ Ok day)
IsGood Past c w = ((day : ℕ) × (day_at w.next ≡ Ok day)) × ¬ IsNoPeriod w.word w.next
IsGood Month c w = (month : ℕ) × (month_at w.word ≡ Ok month)
IsGood Time c w = (minute : ℕ) × (minute_at (minute_text_of w.word w.next) ≡ Ok minute)
IsGood other c w = Unit {0}

-- one of the arguments has this fault, and those before it are valid
abbrev pub IsFirstFault : List Argument → Caller → Wish → Fault → Type 0
IsFirstFault [] c w f = ⊥
IsFirstFault (a ∷ rest) c w f = IsBad a c w f ⊎ (IsGood a c w × IsFirstFault rest c w f)

-- what the row asks for is refused with a fault exactly if it is that of the first bad argument of the row
abbrev pub IsReadAsListed : Row → Type 0
IsReadAsListed row = (w : Wish) → row.act ≡ AtDesk w.want → (c : Caller) (f : Fault)
    → IsTask w.want c w.driver w.word w.next (Err f) ↔ IsFirstFault row.arguments c w f

-- each command's arguments are
abbrev pub AreReadAsListed : Type 0
AreReadAsListed = AllByRecursion IsReadAsListed all_commands
