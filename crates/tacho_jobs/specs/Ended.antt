-- Trusted: How a job of the program ends: what is written, and the program's status.
use Rattle.std.specs.Prelude.{◌≡◌, ℕ, Bool, List, Option, None, Some, Result, Ok, Err}
use Rattle.tacho_state.specs.declared.fault.StoreFault.{StoreFault}
use Rattle.tacho_sheet.specs.declared.fault.Fault.{Fault}
use Rattle.tacho_sheet.specs.Fault.{fault_of_store}
use Rattle.tacho_desk.specs.Told.{Told, bytes_of}
use Rattle.tacho_cli.specs.Command.{Reply, failure_reply, IsWrittenOut}
use Rattle.tacho_jobs.specs.declared.ended.Ended.{Ended}

-- the reply to a text, and to a line that is always the same
abbrev pub told_reply : Told → Reply
told_reply told = record { text = bytes_of told; status = 0 }

abbrev pub line_reply : {A : Type 0} → List ℕ → A → Reply
line_reply line done = record { text = line; status = 0 }

-- the reply to an answer: that of what was done, or the line of the fault
abbrev pub reply_by : {A : Type 0} → (A → Reply) → Result A Fault → Reply
reply_by reply (Ok done) = reply done
reply_by reply (Err f) = failure_reply f

-- why it was not done
abbrev pub fault_in : {A : Type 0} → Result A Fault → Option Fault
fault_in (Ok done) = None
fault_in (Err f) = Some f

-- an archive's answer, with its fault as the program reports it
abbrev pub reported : {A : Type 0} → Result A StoreFault → Result A Fault
reported (Ok done) = Ok done
reported (Err f) = Err (fault_of_store f)

-- The job ended with this answer. The reply to it is written whole, or, if the writer failed, in part.
pub record EndsWith {A : Type 0} (reply : A → Reply) (failed : Bool) (old new : Option (List ℕ)) (ended : Ended) (answer : Result A Fault) : Type 0 where
  pub told : IsWrittenOut failed old new (reply_by reply answer) ended.status
  pub fault : ended.fault ≡ fault_in answer
