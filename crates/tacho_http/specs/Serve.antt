-- Trusted: What a request is answered, and the state of the archive after it.
use Rattle.std.specs.Prelude.{◌≡◌, ◌<◌, ◌≤◌, ◌⊎◌, ℕ, Bool, true, false, List, Option, Some, None, Result, Ok, Err, bytes_eq, length, take}
use Rattle.httparse.specs.Grammar.{RequestHead}
use Rattle.tacho_state.specs.State.{State}
use Rattle.tacho_state.specs.Steps.{owner}
use Rattle.tacho_state.specs.declared.caller.Caller.{Caller}
use Rattle.tacho_state.specs.declared.caller.Caller.TheVariants as caller
use Rattle.tacho_state.specs.declared.fault.StoreFault.{StoreFault}
use Rattle.tacho_state.specs.declared.fault.StoreFault.TheVariants as store
use Rattle.tacho_sheet.specs.Value.{IsKeyLine}
use Rattle.tacho_sheet.specs.Fault.{fault_of_store}
use Rattle.tacho_desk.specs.declared.task.Task.{Task}
use Rattle.tacho_desk.specs.declared.task.Task.TheVariants as task
use Rattle.tacho_desk.specs.Tasks.{Does, want_of}
use Rattle.tacho_desk.specs.Told.{Answer}
use Rattle.tacho_desk.specs.Wants.{takes_input}
use Rattle.tacho_desk.specs.Words.{IsTask, Wanted, Wish}
use Rattle.tacho_desk.specs.declared.want.Want.{Want}
use Rattle.tacho_message.specs.Head.{BeginsWith, IsHeadFault}
use Rattle.tacho_message.specs.Length.{body_length, method_of}
use Rattle.tacho_message.specs.Request.{fields_of, key_of}
use Rattle.tacho_message.specs.declared.head.HeadFault.TheVariants as head
use Rattle.tacho_message.specs.declared.reply.Status.{Status}
use Rattle.tacho_message.specs.declared.reply.Status.TheVariants as status
use Rattle.tacho_http.specs.Asked.{asker_of, wish_of}
use Rattle.tacho_http.specs.Reply.{Reply, fault_reply, reply_of_status, reply_to}

-- a reply, and the state after it
abbrev pub Reaction : Type 1
Reaction = Reply → State → Type 0

-- this reply, and nothing else is done
abbrev pub RepliesOnly : Reply → State → Reaction
RepliesOnly told s reply after = (reply ≡ told) × (after ≡ s)

-- ---- the checks in their order

-- the task would give the office's key to a driver
abbrev pub IsReserved : List ℕ → Task → List ℕ → Type 0
IsReserved office (task.Key n) body = IsKeyLine body office
IsReserved office t body = ⊥

-- 400 if an argument is bad; S2 for the office's key, and the archive isn't accessed; otherwise the reply to what the task answers
abbrev pub RepliesToTask : List ℕ → Wanted → List ℕ → State → Reaction
RepliesToTask office (Err f) body s = RepliesOnly (fault_reply f) s
RepliesToTask office (Ok t) body s = λ reply after.
    (IsReserved office t body × RepliesOnly (fault_reply (fault_of_store store.KeyTaken)) s reply after)
    ⊎ ((¬ IsReserved office t body) × ((answer : Answer) × Does t body s answer after × (reply ≡ reply_to (want_of t) answer)))

-- 400 if the input ends before the end of the body; bytes after the body are ignored
abbrev pub Bodied : ℕ → List ℕ → State → (List ℕ → Reaction) → Reaction
Bodied n rest s With reply after =
    ((length rest < n) × RepliesOnly (reply_of_status status.BadRequest) s reply after) ⊎ ((n ≤ length rest) × With (take n rest) reply after)

-- what is asked for is done with its body; its arguments are read from left to right
abbrev pub Runs : List ℕ → Wish → ℕ → Caller → List ℕ → State → Reaction
Runs office w n c rest s = Bodied n rest s (λ body reply after. (wanted : Wanted) × IsTask w.want c w.driver w.word w.next wanted × RepliesToTask office wanted body s reply after)

-- 400, 411 or 413 if the length of the body is refused
abbrev pub WithBody : List ℕ → Result ℕ Status → Wish → Caller → List ℕ → State → Reaction
WithBody office (Err refusal) w c rest s = RepliesOnly (reply_of_status refusal) s
WithBody office (Ok n) w c rest s = Runs office w n c rest s

-- how many bytes of a body are read for what is asked for
abbrev pub body_of : RequestHead → Want → Result ℕ Status
body_of h want = body_length (method_of h.method) (takes_input want) (fields_of h)

-- 404, 405 or 403 if what is asked for is refused
abbrev pub WithWish : List ℕ → Result Wish Status → Caller → RequestHead → List ℕ → State → Reaction
WithWish office (Err refusal) c h rest s = RepliesOnly (reply_of_status refusal) s
WithWish office (Ok w) c h rest s = WithBody office (body_of h w.want) w c rest s

-- a request by a caller
abbrev pub ByCaller : List ℕ → Caller → RequestHead → List ℕ → State → Reaction
ByCaller office c h rest s = WithWish office (wish_of (asker_of c) h.method h.target) c h rest s

-- 403 if the key is nobody's
abbrev pub ByOwner : List ℕ → Result (Option ℕ) StoreFault → RequestHead → List ℕ → State → Reaction
ByOwner office (Ok (Some n)) h rest s = ByCaller office (caller.Driver n) h rest s
ByOwner office other h rest s = RepliesOnly (reply_of_status status.Forbidden) s

-- the office's key is checked first
abbrev pub ByWhom : List ℕ → Bool → List ℕ → RequestHead → List ℕ → State → Reaction
ByWhom office true key h rest s = ByCaller office caller.Office h rest s
ByWhom office false key h rest s = ByOwner office (owner key s) h rest s

abbrev pub ByKey : List ℕ → List ℕ → RequestHead → List ℕ → State → Reaction
ByKey office key h rest s = ByWhom office (bytes_eq key office) key h rest s

-- 403 unless there is exactly one key
abbrev pub ByKeys : List ℕ → Option (List ℕ) → RequestHead → List ℕ → State → Reaction
ByKeys office None h rest s = RepliesOnly (reply_of_status status.Forbidden) s
ByKeys office (Some key) h rest s = ByKey office key h rest s

-- The replies that an input may get, each with the state after it: by its head; or 400 or 431, if it has no head of at most 8,192 bytes and
-- 32 fields; or 503, if it has a head with exactly one key, and memory runs out or the store fails.
pub data Reacts (office input : List ℕ) (s : State) : Reply → State → Type 0 where
  headed : (h : RequestHead) (rest : List ℕ) (reply : Reply) (after : State) → BeginsWith 8192 32 input h rest → ByKeys office (key_of h) h rest s reply after
      → Reacts office input s reply after
  bad : IsHeadFault 8192 32 input head.Bad → Reacts office input s (reply_of_status status.BadRequest) s
  large : IsHeadFault 8192 32 input head.TooLarge → Reacts office input s (reply_of_status status.FieldsTooLarge) s
  unavailable : (h : RequestHead) (rest key : List ℕ) → BeginsWith 8192 32 input h rest → key_of h ≡ Some key → Reacts office input s (reply_of_status status.Unavailable) s
