-- Trusted: Connections that are answered one after the other.
use Rattle.std.specs.Prelude.{◌≡◌, ◌⊎◌, ◌+◌, ℕ, List, [], ◌∷◌, Bool, Option, IfSome, false, true}
use Rattle.tacho_message.specs.declared.reply.Status.TheVariants as status
use Rattle.tacho_state.specs.State.{State}
use Rattle.tacho_desk.specs.Doing.{Kept}
use Rattle.tacho_http.specs.Answer.{IsBegun, IsPosted, IsWritten, is_done}
use Rattle.tacho_http.specs.Reply.{Reply, reply_of_status}
use Rattle.tacho_http.specs.Serve.{Reaction}

-- how a connection ended: it was answered, and counts; or only the writer failed, during the reply; or only the reader failed, and nothing
-- was written
abbrev pub Ended : Option (List ℕ) → Option (List ℕ) → (Reply → Type 0) → Type 0 → Bool → Bool → ℕ → Type 0
Ended old new Replies Stays false false count = (count ≡ 1) × ((reply : Reply) × Replies reply × IsWritten old new reply)
Ended old new Replies Stays false true count = (count ≡ 0) × ((reply : Reply) × Replies reply × IsBegun old new reply)
Ended old new Replies Stays true false count = (count ≡ 0) × Stays × (new ≡ old)
Ended old new Replies Stays true true count = ⊥

-- a connection was answered: the input is the reader's, if its bytes are known, otherwise some bytes; the reply is one that `Wants` gives
-- for it, and leads to the state after it; if the reader failed, nothing changed
pub record Went (Wants : List ℕ → State → Reaction) (unread old new : Option (List ℕ)) (reader_failed writer_failed : Bool) (count : ℕ) (s t : State) : Type 0 where
  pub input : List ℕ
  pub told : IfSome unread (λ all. input ≡ all)
  pub ended : Ended old new (λ reply. Wants input s reply t) (t ≡ s) reader_failed writer_failed count

-- the states that a crash may leave after a reply: those from before, or also the state after the reply, or, after 503, the state after
-- some other reply; after a command that was done, only the state after it
pub record Leaves (input : List ℕ) (Wants : Reaction) (reply : Reply) (t : State) (past future : List State) : Type 0 where
  pub one : (future ≡ past) ⊎ ((future ≡ t ∷ []) ⊎ ((other : Reply) × (after : State) × ((other ≡ reply) ⊎ (reply ≡ reply_of_status status.Unavailable))
      × Wants other after × (future ≡ after ∷ past)))
  pub kept : IsPosted input → is_done reply.status ≡ true → future ≡ t ∷ []

-- likewise with the states that a crash may leave
pub record WentKept (Wants : List ℕ → State → Reaction) (unread old new : Option (List ℕ)) (reader_failed writer_failed : Bool) (count : ℕ) (a b : Kept) : Type 0 where
  pub input : List ℕ
  pub told : IfSome unread (λ all. input ≡ all)
  pub ended : Ended old new (λ reply. Wants input a.state reply b.state × Leaves input (Wants input a.state) reply b.state a.past b.past) (b ≡ a)
      reader_failed writer_failed count

-- the connections in order, each from the state that the one before left, and the number of those that count
abbrev pub Run : {C S : Type 0} → (C → C → ℕ → S → S → Type 0) → List C → List C → ℕ → S → S → Type 0
Run step [] [] n s t = (n ≡ 0) × (t ≡ s)
Run {S = S} step (c ∷ cs) (d ∷ ds) n s t = (one : ℕ) × (rest : ℕ) × (m : S) × step c d one s m × Run step cs ds rest m t × (n ≡ one + rest)
Run step [] (d ∷ ds) n s t = ⊥
Run step (c ∷ cs) [] n s t = ⊥
