-- Trusted in part: The effects of a request that was answered.
use Rattle.std.specs.Prelude.{◌≡◌, ◌<◌, ◌≤◌, ◌⊎◌, ◌++◌, ◌∷◌, Bool, true, false, ℕ, List, [], Option, Some, Result, Ok, Err, IfOk, IfSome, IsErr, MatchResult, bytes_eq, length, take}
use Rattle.std.specs.Io.KnownBytes.{Appends, Consumes}
use Rattle.httparse.specs.Grammar.{HasNoRequest, MayBecomeRequest, RequestHead}
use Rattle.tacho_time.specs.declared.device.Failed.{Failed}
use Rattle.tacho_message.specs.Head.{BeginsWith}
use Rattle.tacho_message.specs.Length.{method_of}
use Rattle.tacho_message.specs.declared.reply.Status.{Status}
use Rattle.tacho_message.specs.declared.reply.Status.TheVariants as status
use Rattle.tacho_message.specs.Request.{key_of}
use Rattle.tacho_state.specs.State.{State}
use Rattle.tacho_state.specs.Steps.{owner}
use Rattle.tacho_state.specs.declared.caller.Caller.{Caller}
use Rattle.tacho_state.specs.declared.caller.Caller.TheVariants as caller
use Rattle.tacho_desk.specs.Words.{Wish}
use Rattle.tacho_http.specs.Asked.{asker_of, is_post, wish_of}
use Rattle.tacho_http.specs.Reply.{Reply, bytes_of_reply, reply_of_status, reply_of}
use Rattle.tacho_http.specs.Serve.{Reaction, body_of}
use Rattle.tacho_http.specs.declared.exchange.IoFault.{IoFault}
use Rattle.tacho_http.specs.declared.exchange.IoFault.TheVariants as io
use Rattle.tacho_http.specs.declared.exchange.Served.{Served}
use Rattle.tacho_http.specs.declared.response.Response.{Response}

-- whether a reply with this status says that the request was done
abbrev pub is_done : Status → Bool
is_done status.Okay = true
is_done status.Created = true
is_done other = false

-- the reply is one that the request may get, and the archive has the state after it; if this is a command that was done, a crash leaves
-- that state and no other. Or the reply is 503, and the archive has the state before.
abbrev pub HasReplied : (State → Type 0) → (List State → Type 0) → Bool → State → Reaction → Reply → Type 0
HasReplied stands leaves command s Wants reply =
    ((after : State) × stands after × Wants reply after × (command ≡ true → is_done reply.status ≡ true → leaves (after ∷ [])))
    ⊎ ((reply ≡ reply_of_status status.Unavailable) × stands s)

-- a crash may leave what it could leave before the call, or also the state after the reply, or, if the reply is 503, after some reply that
-- the request may get
abbrev pub CrashMayLeaveReply : (List State → Type 0) → List State → Reaction → Reply → Type 0
CrashMayLeaveReply leaves past Wants reply =
    leaves past ⊎ ((other : Reply) × (after : State) × ((other ≡ reply) ⊎ (reply ≡ reply_of_status status.Unavailable)) × Wants other after × leaves (after ∷ past))

-- likewise; if the reader failed, the archive has the state before
abbrev pub HasRepliedOrFailed : (State → Type 0) → (List State → Type 0) → Bool → State → Reaction → Result Response Failed → Type 0
HasRepliedOrFailed stands leaves command s Wants (Ok response) = HasReplied stands leaves command s Wants (reply_of response)
HasRepliedOrFailed stands leaves command s Wants (Err failed) = stands s

-- the states that a crash may leave; if the reader failed, those from before the call
abbrev pub CrashMayLeaveResult : (List State → Type 0) → List State → Reaction → Result Response Failed → Type 0
CrashMayLeaveResult leaves past Wants (Ok response) = CrashMayLeaveReply leaves past Wants (reply_of response)
CrashMayLeaveResult leaves past Wants (Err failed) = leaves past

-- nothing was posted, or nothing was done, or the reader failed
abbrev pub IsUndone : Bool → Result Response Failed → Type 0
IsUndone command (Ok response) = (command ≡ false) ⊎ (is_done response.status ≡ false)
IsUndone command (Err failed) = Unit {0}

-- A call replies as `Wants` says for the unread bytes: the reader's, if they are known, otherwise some bytes. If the archive is clean after
-- the call, it was clean before, and it is live if the request was done. If nothing is posted or nothing is done, every row stays as it
-- was.
pub record Responds {K : Type 0} (stands : K → State → Type 0) (is_clean is_live : K → Type 0)
    (leaves : K → List State → Type 0) (is_same : K → K → Type 0) (old new : K) (command : Bool) (unread : Option (List ℕ)) (result : Result Response Failed)
    (Wants : List ℕ → State → Reaction) : Type 0 where
  pub left : List ℕ
  pub told : IfSome unread (λ all. left ≡ all)
  pub clean : is_clean new → is_clean old
  pub live : is_clean new → IfOk result (λ response. is_done response.status ≡ true → is_live new)
  pub given : is_clean new → (s : State) → stands old s → HasRepliedOrFailed (stands new) (leaves new) command s (Wants left s) result
  pub same : IsUndone command result → is_clean new → (s : State) → stands old s → is_same old new
  pub crash : is_clean new → (s : State) (past : List State) → stands old s → leaves old past → CrashMayLeaveResult (leaves new) past (Wants left s) result

-- ---- how much of a request was read

-- who may ask with a key: the office with its own, a driver with any other
abbrev pub MayAsk : List ℕ → List ℕ → Caller → Type 0
MayAsk office key caller.Office = bytes_eq key office ≡ true
MayAsk office key (caller.Driver n) = bytes_eq key office ≡ false

-- who asks with a key, by the archive's state: a driver with the driver's own key
abbrev pub IsAskedBy : State → List ℕ → List ℕ → Caller → Type 0
IsAskedBy s office key caller.Office = bytes_eq key office ≡ true
IsAskedBy s office key (caller.Driver n) = (bytes_eq key office ≡ false) × (owner key s ≡ Ok (Some n))

-- what the head asks for has a body, and less than all of it has come; the key decides who asks
pub record LacksBody (IsBy : List ℕ → Caller → Type 0) (h : RequestHead) (rest : List ℕ) : Type 0 where
  pub key : List ℕ
  pub has_key : key_of h ≡ Some key
  pub caller : Caller
  pub is_by : IsBy key caller
  pub wish : Wish
  pub wants : wish_of (asker_of caller) h.method h.target ≡ Ok wish
  pub count : ℕ
  pub body : body_of h wish.want ≡ Ok count
  pub lacks : length rest < count

-- the bytes are no whole request: fewer than 8,192 bytes that may become a head, or a head without all of its body
abbrev pub IsPartOf : (List ℕ → Caller → Type 0) → List ℕ → Type 0
IsPartOf IsBy given =
    ((length given < 8192) × HasNoRequest given × MayBecomeRequest given)
    ⊎ ((h : RequestHead) × (rest : List ℕ) × BeginsWith 8192 32 given h rest × LacksBody IsBy h rest)

-- what the reader has given since then is no whole request
pub record IsUnfinished (IsBy : List ℕ → Caller → Type 0) (old new : Option (List ℕ)) : Type 0 where
  pub given : List ℕ
  pub came : Consumes old new given
  pub part : IsPartOf IsBy given

-- together with the bytes that came after the head, what the reader has given since then is less than the body
pub record LacksMore (IsBy : List ℕ → Caller → Type 0) (h : RequestHead) (after_head : List ℕ) (old new : Option (List ℕ)) : Type 0 where
  pub given : List ℕ
  pub came : Consumes old new given
  pub lacks : LacksBody IsBy h (after_head ++ given)

-- ---- one request, one reply

-- the input is a POST, which only commands are
abbrev pub IsPosted : List ℕ → Type 0
IsPosted input = (h : RequestHead) × (rest : List ℕ) × BeginsWith 8192 32 input h rest × (is_post (method_of h.method) ≡ true)

-- the reply is one that the input may get, and the archive has the state after it; if this is a command that was done, a crash leaves that
-- state and no other
abbrev pub AnswersInput : (State → Type 0) → (List State → Type 0) → Bool → State → Reaction → Reply → Type 0
AnswersInput stands leaves command s Wants reply =
    (after : State) × stands after × Wants reply after × (command ≡ true → is_done reply.status ≡ true → leaves (after ∷ []))

-- A request was read from a reader and answered as `Wants` says for the input: the reader's, if its bytes are known, otherwise some input.
-- Or the reader failed, and the archive has the state before. If nothing is posted or nothing is done, every row stays as it was.
pub record Answered {K : Type 0} (Wants : List ℕ → State → Reaction) (stands : K → State → Type 0) (is_clean : K → Type 0)
    (leaves : K → List State → Type 0) (is_same : K → K → Type 0) (old new : K) (office : List ℕ) (unread left : Option (List ℕ)) (result : Result Response Failed) : Type 0 where
  pub input : List ℕ
  pub told : IfSome unread (λ all. input ≡ all)
  pub command : Bool
  pub posted : IsPosted input → command ≡ true
  pub is_posted : IfOk result (λ response. command ≡ true → IsPosted input)
  pub clean : is_clean new → is_clean old
  pub answers : is_clean new → (s : State) → stands old s
      → MatchResult result (λ response. AnswersInput (stands new) (leaves new) command s (Wants input s) (reply_of response)) (λ failed. stands new s)
  pub same : IsUndone command result → is_clean new → (s : State) → stands old s → is_same old new
  pub crash : is_clean new → (s : State) (past : List State) → stands old s → leaves old past → CrashMayLeaveResult (leaves new) past (Wants input s) result
  pub unfinished : IsErr result → IsUnfinished (MayAsk office) unread left
  pub known : is_clean new → (s : State) → stands old s → IsErr result → IsUnfinished (IsAskedBy s office) unread left

-- the whole reply was written; and below, a prefix of it
abbrev pub IsWritten : Option (List ℕ) → Option (List ℕ) → Reply → Type 0
IsWritten old new reply = Appends old new (bytes_of_reply reply)

abbrev pub IsBegun : Option (List ℕ) → Option (List ℕ) → Reply → Type 0
IsBegun old new reply = (n : ℕ) × (n ≤ length (bytes_of_reply reply)) × Appends old new (take n (bytes_of_reply reply))

-- the whole reply was written, and its status is returned; or the writer failed, and a prefix was written; or the reader failed, and
-- nothing was written
abbrev pub IsReplied : Option (List ℕ) → Option (List ℕ) → Reply → Result Served IoFault → Type 0
IsReplied old new reply (Ok served) = (reply.status ≡ served.status) × IsWritten old new reply
IsReplied old new reply (Err io.Write) = IsBegun old new reply
IsReplied old new reply (Err io.Read) = new ≡ old

-- the request was answered; or the reader failed, and the archive has the state before
abbrev pub Settles : (State → Type 0) → (List State → Type 0) → Bool → State → Reaction → Reply → Result Served IoFault → Type 0
Settles stands leaves command s Wants reply (Err io.Read) = stands s
Settles stands leaves command s Wants reply result = AnswersInput stands leaves command s Wants reply

-- a crash may leave what it could leave before the call, or also the state after the reply; if the reader failed, only the former
abbrev pub CrashMayLeaveServed : (List State → Type 0) → List State → Reaction → Reply → Result Served IoFault → Type 0
CrashMayLeaveServed leaves past Wants reply (Err io.Read) = leaves past
CrashMayLeaveServed leaves past Wants reply result = CrashMayLeaveReply leaves past Wants reply

-- the reader failed, or nothing was posted, or nothing was done
abbrev pub IsUndoneBy : Bool → Reply → Result Served IoFault → Type 0
IsUndoneBy command reply (Err io.Read) = Unit {0}
IsUndoneBy command reply result = (command ≡ false) ⊎ (is_done reply.status ≡ false)

-- the reader hasn't failed
abbrev pub HasRead : Result Served IoFault → Type 0
HasRead (Err io.Read) = ⊥
HasRead result = Unit {0}

-- One request was read, and one reply was written that `Wants` gives for the input: the reader's, if its bytes are known, otherwise some
-- input. If nothing is posted or nothing is done, every row stays as it was.
pub record Exchanged {K : Type 0} (Wants : List ℕ → State → Reaction) (stands : K → State → Type 0) (is_clean : K → Type 0)
    (leaves : K → List State → Type 0) (is_same : K → K → Type 0) (old new : K) (unread before after : Option (List ℕ))
    (result : Result Served IoFault) : Type 0 where
  pub input : List ℕ
  pub told : IfSome unread (λ all. input ≡ all)
  pub command : Bool
  pub posted : IsPosted input → command ≡ true
  pub is_posted : HasRead result → command ≡ true → IsPosted input
  pub reply : Reply
  pub replied : IsReplied before after reply result
  pub settled : is_clean new → (s : State) → stands old s → Settles (stands new) (leaves new) command s (Wants input s) reply result
  pub same : IsUndoneBy command reply result → is_clean new → (s : State) → stands old s → is_same old new
  pub crash : is_clean new → (s : State) (past : List State) → stands old s → leaves old past
      → CrashMayLeaveServed (leaves new) past (Wants input s) reply result
