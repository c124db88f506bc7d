-- Trusted: What a job at an archive does: its answer to an input, and the state of the archive after it.
use Rattle.std.specs.Prelude.{◌≡◌, ℕ, ◌<◌, ◌≤◌, ◌⊎◌, Bool, true, false, List, [], Option, Ok, Err, IfSome, length}
use Rattle.tacho_state.specs.State.{State}
use Rattle.tacho_state.specs.declared.caller.Caller.TheVariants as caller
use Rattle.tacho_desk.specs.Doing.{AsksOnly, Doing, Refuses, CarriesOut}
use Rattle.tacho_desk.specs.Tasks.{Does, IsFaulty, IsSound}
use Rattle.tacho_desk.specs.Told.{Answer, bytes_of}
use Rattle.tacho_desk.specs.Wants.{is_command, looks_ahead, takes_input}
use Rattle.tacho_desk.specs.Words.{IsTask, Wanted, Wish, wish_in}
use Rattle.tacho_sheet.specs.declared.fault.Fault.{Fault}
use Rattle.tacho_sheet.specs.declared.fault.Fault.TheVariants as fault
use Rattle.tacho_desk.specs.declared.task.Task.{Task}
use Rattle.tacho_cli.specs.Command.{Reply, failure_reply, IsWrittenOut}
use Rattle.tacho_cli.specs.declared.job.Job.{Job}
use Rattle.tacho_cli.specs.declared.job.Job.TheVariants as job

-- ---- input

-- X1 if the input is too large, otherwise what is done
abbrev pub Sized : List ℕ → State → Doing → Doing
Sized input s Does answer after =
    ((262144 < length input) × (answer ≡ Err fault.TooLarge) × (after ≡ s)) ⊎ ((length input ≤ 262144) × Does answer after)

-- a task with its input, or without one
abbrev pub DoesOver : Bool → Task → List ℕ → State → Doing
DoesOver true t input s = Sized input s (Does t input s)
DoesOver false t input s = Does t [] s

-- the task that is asked for, or the fault of the arguments
abbrev pub DoesTask : Bool → Wanted → List ℕ → State → Doing
DoesTask takes (Err f) input s = Refuses f s
DoesTask takes (Ok t) input s = DoesOver takes t input s

-- the task that the office asks for, or the fault of its arguments, read from left to right
abbrev pub OfficeWants : Wish → Wanted → Type 0
OfficeWants w wanted = IsTask w.want caller.Office w.driver w.word w.next wanted

-- what the office asks for is done, after its input is read
abbrev pub Performs : Wish → List ℕ → State → Doing
Performs w input s answer after = (wanted : Wanted) × OfficeWants w wanted × DoesTask (takes_input w.want) wanted input s answer after

-- ---- access to the archive

-- the arguments and the input are valid
abbrev pub IsSoundOver : Bool → Task → List ℕ → Type 0
IsSoundOver true t input = (length input ≤ 262144) × IsSound t input
IsSoundOver false t input = IsSound t []

abbrev pub AreSound : Wish → List ℕ → Type 0
AreSound w input = (t : Task) × OfficeWants w (Ok t) × IsSoundOver (takes_input w.want) t input

-- the arguments have a fault, or else the input has
abbrev pub IsFaultyOver : Bool → Task → List ℕ → Fault → Type 0
IsFaultyOver true t input f = ((262144 < length input) × (f ≡ fault.TooLarge)) ⊎ ((length input ≤ 262144) × IsFaulty t input f)
IsFaultyOver false t input f = ⊥

abbrev pub IsFaultOfTask : Bool → Wanted → List ℕ → Fault → Type 0
IsFaultOfTask takes (Err g) input f = f ≡ g
IsFaultOfTask takes (Ok t) input f = IsFaultyOver takes t input f

abbrev pub AreArgumentsFaulty : Wish → List ℕ → Fault → Type 0
AreArgumentsFaulty w input f = (wanted : Wanted) × OfficeWants w wanted × IsFaultOfTask (takes_input w.want) wanted input f

-- ---- the reader

-- the whole input of the reader was read, if its bytes are known, and the reader has not failed
pub record HasRead (unread : Option (List ℕ)) (failed : Bool) (input : List ℕ) : Type 0 where
  pub whole : IfSome unread (λ all. input ≡ all)
  pub within : length input ≤ 262144
  pub sound : ¬ (failed ≡ true)

-- why it was not read: it was too large, the reader failed, or memory ran out
abbrev pub HasNotRead : Option (List ℕ) → Bool → Fault → Type 0
HasNotRead unread failed fault.TooLarge = IfSome unread (λ all. 262144 < length all) × ¬ (failed ≡ true)
HasNotRead unread failed fault.Device = failed ≡ true
HasNotRead unread failed fault.Memory = ¬ (failed ≡ true)
HasNotRead unread failed f = ⊥

-- ---- the whole job

-- The job was done with the whole input of the reader, if its bytes are known, otherwise with some input. Or the reader failed: X2, and the
-- archive was not accessed. X2 occurs only then. If the arguments and the input are valid, the answer is the archive's.
pub record Performed {K : Type 0} (stands : K → State → Type 0) (is_clean is_live : K → Type 0) (leaves : K → List State → Type 0)
    (is_same : K → K → Type 0) (old new : K) (w : Wish) (unread : Option (List ℕ)) (failed : Bool) (answer : Answer) : Type 0 where
  pub input : List ℕ
  pub read : IfSome unread (λ all. input ≡ all)
  pub device : failed ≡ true → (answer ≡ Err fault.Device) × (new ≡ old)
  pub serves : failed ≡ false → CarriesOut stands is_clean is_live leaves is_same old new (is_command w.want) answer (Performs w input)
  pub x2 : answer ≡ Err fault.Device → failed ≡ true
  pub asks : failed ≡ false → AsksOnly old new (looks_ahead w.want) (AreSound w input) (AreArgumentsFaulty w input) answer

-- the reply to an answer
abbrev pub reply_of_answer : Answer → Reply
reply_of_answer (Ok told) = record { text = bytes_of told; status = 0 }
reply_of_answer (Err f) = failure_reply f

-- The reply to the answer is written whole, or, if the writer failed, in part.
pub record Replied (IsAnswer : Answer → Type 0) (failed : Bool) (old new : Option (List ℕ)) (status : ℕ) : Type 0 where
  pub answer : Answer
  pub is : IsAnswer answer
  pub told : IsWrittenOut failed old new (reply_of_answer answer) status

-- a statement about a job at an archive, by what it asks for
abbrev pub OfDesk : Job → (Wish → Type 0) → Type 0
OfDesk (job.AtDesk j) Is = Is (wish_in j.wish)
OfDesk j Is = Unit {0}
