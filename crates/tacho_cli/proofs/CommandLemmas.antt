-- What the commands on a card do, derived from what their parts answered.
use Rattle.std.proofs.Common.{◌≡◌, ℕ, ◌+◌, ◌<◌, ◌⊎◌, inl, inr, ◌↔◌, ◌∙◌, Bool, true, false, List, [], Option, Some, None, Result, Ok, Err}
use Rattle.std.proofs.Common.{length, refl, sym, ap, subst, arith}
use Rattle.std.proofs.lemmas.List.{length-replicate}
use Rattle.std.specs.Prelude.{IfSome, IsErrOf, flat_map, replicate}
use Rattle.tacho_time.specs.declared.whole.ReadFault.{ReadFault}
use Rattle.tacho_time.specs.declared.whole.ReadFault.TheVariants as read
use Rattle.tacho_card.specs.declared.fault.CardFault.{CardFault}
use Rattle.tacho_sheet.specs.declared.fault.Fault.{Fault}
use Rattle.tacho_sheet.specs.declared.fault.Fault.TheVariants as fault
use Rattle.tacho_sheet.specs.Fault.{read_fault}
use Rattle.tacho_card.specs.declared.file.Part.{Part}
use Rattle.tacho_card.specs.CardFile.{FileBlock, ReadsFile, card_file}
use Rattle.tacho_card.proofs.FileReadingLaw.{one_reading}
use Rattle.tacho_state.specs.Content.{FileTells}
use Rattle.tacho_state.specs.Steps.{Content}
use Rattle.tacho_state.proofs.ContentLemmas.{some_content}
use Rattle.tacho_time.specs.Text.{span_line}
use Rattle.tacho_time.specs.declared.span.Span.{Span}
use Rattle.tacho_cli.specs.Card.{IsListed}
use Rattle.tacho_cli.specs.Command.{Reply, failure_reply, IsReplyOrFailure, IsWrittenOut, Finishes}

-- an input that the reader may have, with a property: the reader's bytes if they are known, otherwise some input
pub record Input (P : List ℕ → Type 0) (unread : Option (List ℕ)) : Type 0 where
  pub input : List ℕ
  pub told : IfSome unread (λ all. input ≡ all)
  pub holds : P input

pub some_input : (P : List ℕ → Type 0) (unread : Option (List ℕ)) (other : List ℕ) → IfSome unread P → P other → Input P unread
some_input P None other h d = record { input = other; told = tt; holds = d }
some_input P (Some all) other h d = record { input = all; told = refl; holds = h }

pub any_input : (unread : Option (List ℕ)) → Input (λ _. Unit {0}) unread
any_input None = record { input = []; told = tt; holds = tt }
any_input (Some all) = record { input = all; told = refl; holds = tt }

-- a test that isn't true is false
not_true : (b : Bool) → (b ≡ true → ⊥) → b ≡ false
not_true true h = absurd (h refl)
not_true false h = refl

module _ {Wanted : List ℕ → Reply → Type 0} {unread : Option (List ℕ)} {reader writer : Bool} {old new : Option (List ℕ)} {status : ℕ} where
  -- after a valid reply, if the reader has not failed
  pub valid : (input : List ℕ) (reply : Reply) → (reader ≡ true → ⊥) → IfSome unread (λ all. input ≡ all)
      → Wanted input reply ⊎ (reply ≡ failure_reply fault.Memory) → IsWrittenOut writer old new reply status
      → Finishes Wanted unread reader writer old new status
  valid input reply sound whole wanted tells = record {
    input = input;
    reply = reply;
    read = whole;
    replied = subst (λ (b : Bool). IsReplyOrFailure (Wanted input) b reply) (sym (not_true reader sound)) wanted;
    told = tells;
  }

  -- if the input was not read
  pub unread_leaves : {A : Type 0} (limit : ℕ) (f : ReadFault) (cause : Fault)
      → ((input : List ℕ) → limit < length input → Wanted input (failure_reply fault.TooLarge))
      → (IsErrOf {T = A} (Err f) read.TooLarge → IfSome unread (λ input. limit < length input))
      → IsErrOf {T = A} (Err f) read.Failed ↔ (reader ≡ true) → cause ≡ read_fault f
      → IsWrittenOut writer old new (failure_reply cause) status → Finishes Wanted unread reader writer old new status
  unread_leaves limit read.TooLarge cause wanted large failed is tells =
      let i = some_input (λ input. limit < length input) unread (replicate (limit + 1) 0) (large refl)
      (simp length-replicate (omega arith)) in
      valid i.input _ (λ e. let no = failed.1 e in cc) i.told (inl (wanted i.input i.holds)) (rw is at tells)
  unread_leaves limit read.Failed cause wanted large failed is tells =
      let i = any_input unread in
      record {
        input = i.input;
        reply = failure_reply fault.Device;
        read = i.told;
        replied = subst (λ (b : Bool). IsReplyOrFailure (Wanted i.input) b (failure_reply fault.Device)) (sym (failed.0 refl)) refl;
        told = rw is at tells;
      }
  unread_leaves limit read.Memory cause wanted large failed is tells =
      let i = any_input unread in
      valid i.input _ (λ e. let no = failed.1 e in cc) i.told (inr refl) (rw is at tells)

-- the lines of the spans that a file's blocks give
pub lines_listed : (part : Part) (bytes : List ℕ) (blocks : List FileBlock) (spans : List Span) (text : List ℕ)
    → card_file bytes ≡ Ok blocks
    → ReadsFile part blocks (Ok spans) → text ≡ flat_map span_line spans → IsListed part bytes text
lines_listed part bytes blocks spans text read reads lines = by (some_content part bytes).0 (some_content part bytes).1
  where
    by : (content : Result Content CardFault) → FileTells part bytes content → IsListed part bytes text
    by (Ok content) tells =
        let same = one_reading part blocks (Ok spans) (Ok content.spans) reads (rw read at tells).1 in
        (content, tells, lines ∙ ap (flat_map span_line) (cc))
    by (Err f) tells = let no = one_reading part blocks (Ok spans) (Err f) reads (rw read at tells) in cc
