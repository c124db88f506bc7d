-- Trusted: The effects of a command that reads an input and writes a reply.
use Rattle.std.specs.Prelude.{◌≡◌, ℕ, ◌⊎◌, List, Option, Bool, true, false, take, IfSome}
use Rattle.std.specs.Io.KnownBytes.{Appends}
use Rattle.tacho_card.specs.declared.fault.CardFault.{CardFault}
use Rattle.tacho_sheet.specs.declared.fault.Fault.{Fault}
use Rattle.tacho_sheet.specs.declared.fault.Fault.TheVariants as fault
use Rattle.tacho_sheet.specs.Fault.{card_fault}
use Rattle.tacho_sheet.specs.Lines.{fault_line}
use Rattle.tacho_cli.specs.Fault.{exit_status}

-- the text that is written, and the program's exit status
pub record Reply : Type 0 where
  pub text : List ℕ
  pub status : ℕ

-- the reply to a fault of the command; below, to a fault of a card
abbrev pub failure_reply : Fault → Reply
failure_reply f = record { text = fault_line f; status = exit_status f }

abbrev pub card_reply : CardFault → Reply
card_reply f = failure_reply (card_fault f)

-- if the reader failed, the reply is X2; otherwise it is a valid one, or M1 (out of memory)
abbrev pub IsReplyOrFailure : (Reply → Type 0) → Bool → Reply → Type 0
IsReplyOrFailure Wanted true reply = reply ≡ failure_reply fault.Device
IsReplyOrFailure Wanted false reply = Wanted reply ⊎ (reply ≡ failure_reply fault.Memory)

-- if the writer failed, a prefix of the text is written, and the status is 3; otherwise the whole text is written, and the status is that
-- of the reply
abbrev pub IsWrittenOut : Bool → Option (List ℕ) → Option (List ℕ) → Reply → ℕ → Type 0
IsWrittenOut true old new reply status = ((n : ℕ) × Appends old new (take n reply.text)) × (status ≡ 3)
IsWrittenOut false old new reply status = Appends old new reply.text × (status ≡ reply.status)

-- The input is what the reader had, if its bytes are known, otherwise some input.
pub record Finishes (Wanted : List ℕ → Reply → Type 0) (unread : Option (List ℕ)) (reader_failed writer_failed : Bool) (old new : Option (List ℕ)) (status : ℕ) : Type 0 where
  pub input : List ℕ
  pub reply : Reply
  pub read : IfSome unread (λ all. input ≡ all)
  pub replied : IsReplyOrFailure (Wanted input) reader_failed reply
  pub told : IsWrittenOut writer_failed old new reply status
