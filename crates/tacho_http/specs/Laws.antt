-- Trusted: What requests depend on, and what they change.
use Rattle.std.specs.Prelude.{◌≡◌, ◌≢◌, ℕ, List, Some, Ok, false, bytes_eq}
use Rattle.httparse.specs.Grammar.{RequestHead}
use Rattle.tacho_message.specs.Head.{BeginsWith}
use Rattle.tacho_message.specs.Request.{key_of}
use Rattle.tacho_message.specs.declared.reply.Status.TheVariants as status
use Rattle.tacho_state.specs.State.{State, driver_of}
use Rattle.tacho_state.specs.Steps.{owner}
use Rattle.tacho_http.specs.Reply.{Reply}
use Rattle.tacho_http.specs.Serve.{Reaction}

-- the input has a head, and each such head has this driver's key, which isn't the office's
pub record IsFrom (office input : List ℕ) (n : ℕ) (s : State) : Type 0 where
  pub head : RequestHead
  pub rest : List ℕ
  pub begins : BeginsWith 8192 32 input head rest
  pub key : List ℕ
  pub has : (h : RequestHead) (rest : List ℕ) → BeginsWith 8192 32 input h rest → key_of h ≡ Some key
  pub other : bytes_eq key office ≡ false
  pub own : owner key s ≡ Ok (Some n)

-- What follows is said of `Replies`: the replies that an input may get, by the office's key, the input and the state.
abbrev pub Service : Type 1
Service = List ℕ → List ℕ → State → Reaction

-- if two states have the same rows of a driver, each reply (503 too) that a request with the driver's key may get in one state it may get
-- in the other, and the driver's rows are the same after it
abbrev pub SameReply : Service → Type 0
SameReply Replies = (office input : List ℕ) (n : ℕ) (s other : State) → IsFrom office input n s → IsFrom office input n other → driver_of n s ≡ driver_of n other
    → (reply : Reply) (after : State) → Replies office input s reply after
    → (left : State) × Replies office input other reply left × (driver_of n after ≡ driver_of n left)

-- except for 503 there is only one reply, the same in both states, and the driver's rows after it are the same
abbrev pub OneReply : Service → Type 0
OneReply Replies = (office input : List ℕ) (n : ℕ) (s other : State) → IsFrom office input n s → IsFrom office input n other → driver_of n s ≡ driver_of n other
    → (p : Reply) (after : State) → Replies office input s p after → (q : Reply) (left : State) → Replies office input other q left
    → p.status ≢ status.Unavailable → q.status ≢ status.Unavailable → (p ≡ q) × (driver_of n after ≡ driver_of n left)

-- no other driver's rows change
abbrev pub KeepsOthers : Service → Type 0
KeepsOthers Replies = (office input : List ℕ) (n : ℕ) (s : State) → IsFrom office input n s
    → (reply : Reply) (after : State) → Replies office input s reply after → (m : ℕ) → m ≢ n → driver_of m after ≡ driver_of m s

-- a reply of 503 leaves the state as it was, whoever asked
abbrev pub Keeps503 : Service → Type 0
Keeps503 Replies = (office input : List ℕ) (s : State) (reply : Reply) (after : State) → Replies office input s reply after → reply.status ≡ status.Unavailable → after ≡ s
