-- One more connection continues a run.
use Rattle.std.proofs.Common.{◌≡◌, ◌∙◌, ◌++◌, ◌+◌, ◌<◌, ◌≤◌, ℕ, List, [], ◌∷◌, Bool, Option, Result, Ok, Err, true, length, take, drop}
use Rattle.std.proofs.Common.{get_or, refl, subst, inl, inr, arith}
use Rattle.std.proofs.lemmas.Bool.{false_from_ne_true}
use Rattle.std.proofs.lemmas.Grind.{drop_more_same}
use Rattle.std.proofs.lemmas.List.{take_more, take_more_set, drop_more, drop-set-lt}
use Rattle.std.proofs.Math.ListN.{set}
use mir.Val.{bool_byte}
use Rattle.std.specs.Prelude.{◌↔◌, IsErrOf, is_ok}
use Rattle.tacho_state.specs.State.{State}
use Rattle.tacho_http.specs.Answer.{AnswersInput, Exchanged, IsReplied, Settles, CrashMayLeaveReply, CrashMayLeaveServed, is_done}
use Rattle.tacho_http.specs.Reply.{Reply}
use Rattle.tacho_desk.specs.Doing.{Kept}
use Rattle.tacho_http.specs.Run.{Ended, Leaves, Run, Went, WentKept}
use Rattle.tacho_http.specs.Serve.{Reaction}
use Rattle.tacho_http.specs.declared.exchange.IoFault.{IoFault}
use Rattle.tacho_http.specs.declared.exchange.IoFault.TheVariants as io
use Rattle.tacho_http.specs.declared.exchange.Served.{Served}

-- one more connection at the end
run_more : {C S : Type 0} (step : C → C → ℕ → S → S → Type 0) (xs ys : List C) (c d : C) (n one : ℕ) (s m t : S) → Run step xs ys n s m → step c d one m t
    → Run step (xs ++ c ∷ []) (ys ++ d ∷ []) (n + one) s t
run_more step [] [] c d n one s m t r w =
    (one, 0, t, subst (λ x. step c d one x t) r.1 w, (refl, refl), (let e = r.0 in omega arith))
run_more step (x ∷ xs) (y ∷ ys) c d n one s m t r w =
    (r.0, r.1 + one, r.2, r.3, run_more step xs ys c d r.1 one r.2 m t r.4 w, (let e = r.5 in omega arith))
run_more step xs ys c d n one s m t r w = absurd r

-- an element that hasn't been changed
pub same_item : {C : Type 0} (xs ys : List C) (i : ℕ) (d : C) → drop i xs ≡ drop i ys → i < length xs → i < length ys
    → get_or xs i d ≡ get_or ys i d
same_item xs ys i d e h k = (let a = drop_more xs i d h in let b = drop_more ys i d k in cc)

-- the run up to an index, followed by the connection there
pub run_next : {C S : Type 0} (step : C → C → ℕ → S → S → Type 0) (old now : List C) (i : ℕ) (e : C) {d : C} (n one : ℕ) (s : S) {m t : S}
    → i < length old → i < length now → drop i now ≡ drop i old → Run step (take i old) (take i now) n s m → step (get_or now i e) d one m t
    → Run step (take (i + 1) old) (take (i + 1) (set now i d)) (n + one) s t
run_next step old now i e {d = d} n one s {m = m} {t = t} h k same r w =
    rw (take_more old i e h, take_more_set now i d k)
    (run_more step (take i old) (take i now) (get_or old i e) d n one s m t r (rw (same_item now old i e same k h) at w))

-- the connections after it
pub rest_next : {C : Type 0} (old now : List C) (i : ℕ) (d : C) → drop i now ≡ drop i old → drop (i + 1) (set now i d) ≡ drop (i + 1) old
rest_next old now i d same = drop-set-lt (i + 1) now i d (omega arith) ∙ drop_more_same now old i same

-- 1 for a connection that was answered, 0 for a fault
abbrev pub counted : Result Served IoFault → ℕ
counted (Ok served) = 1
counted (Err fault) = 0

-- ---- one connection, from what `answer` ensures

module _ {K : Type 0} {stands : K → State → Type 0} {is_clean : K → Type 0} {leaves : K → List State → Type 0}
    {is_same : K → K → Type 0} {before mid : K} {Wants : List ℕ → State → Reaction} {unread old new : Option (List ℕ)}
    {reader_failed writer_failed : Bool} {result : Result Served IoFault}
    (x : Exchanged Wants stands is_clean leaves is_same before mid unread old new result)
    (e : IsErrOf result io.Read ↔ (reader_failed ≡ true)) (f : IsErrOf result io.Write ↔ (writer_failed ≡ true)) where
  -- an end of the connection: a reply that leads to t, or, if the reader failed, nothing
  abbrev Goes : {S : Type 0} → (S → Type 0) → (Reply → S → Type 0) → S → Result Served IoFault → Type 0
  Goes Ends Replies s (Err io.Read) = Ends s
  Goes {S = S} Ends Replies s answered = (t : S) × Ends t × Replies x.reply t

  -- how the connection ended, from the result
  goes : {S : Type 0} (Ends : S → Type 0) (Replies : Reply → S → Type 0) (s : S) → Goes Ends Replies s result
      → (t : S) × Ends t × Ended old new (λ reply. Replies reply t) (t ≡ s) reader_failed writer_failed (counted result)
  goes {S = S} Ends Replies s = by result x.replied e f
    where
      by : (result : Result Served IoFault) → IsReplied old new x.reply result → (IsErrOf result io.Read ↔ (reader_failed ≡ true))
          → (IsErrOf result io.Write ↔ (writer_failed ≡ true)) → Goes Ends Replies s result
          → (t : S) × Ends t × Ended old new (λ reply. Replies reply t) (t ≡ s) reader_failed writer_failed (counted result)
      by (Ok served) wrote e f g =
          let read = false_from_ne_true reader_failed (λ k. let fault = e.1 k in cc) in
          let write = false_from_ne_true writer_failed (λ k. let fault = f.1 k in cc) in
          (g.0, g.1, rw (read, write) (refl, (x.reply, g.2, wrote.1)))
      by (Err io.Write) wrote e f g =
          let read = false_from_ne_true reader_failed (λ k. let fault = e.1 k in cc) in
          (g.0, g.1, rw (read, f.0 refl) (refl, (x.reply, g.2, wrote)))
      by (Err io.Read) wrote e f g =
          let write = false_from_ne_true writer_failed (λ k. let fault = f.1 k in cc) in (s, g, rw (e.0 refl, write) (refl, refl, wrote))

  -- the state after it
  pub went : is_clean mid → (s : State) → stands before s
      → (t : State) × stands mid t × Went Wants unread old new reader_failed writer_failed (counted result) s t
  went clean s st =
      let w = goes (stands mid) (Wants x.input s) s (by result (x.settled clean s st)) in
      (w.0, w.1, record { input = x.input; told = x.told; ended = w.2 })
    where
      by : (result : Result Served IoFault) → Settles (stands mid) (leaves mid) x.command s (Wants x.input s) x.reply result
          → Goes (stands mid) (Wants x.input s) s result
      by (Err io.Read) a = a
      by (Ok served) a = (a.0, a.1, a.2)
      by (Err io.Write) a = (a.0, a.1, a.2)

  -- the states that a crash may leave after it
  leaves_by : (s t : State) (past : List State) (done : Bool) → is_done x.reply.status ≡ done → (command : Bool) → x.command ≡ command
      → (x.command ≡ true → is_done x.reply.status ≡ true → leaves mid (t ∷ []))
      → CrashMayLeaveReply (leaves mid) past (Wants x.input s) x.reply
      → (future : List State) × leaves mid future × Leaves x.input (Wants x.input s) x.reply t past future
  leaves_by s t past true is true c kept stopped = (t ∷ [], kept c is, record { one = inr (inl refl); kept = λ p d. refl })
  leaves_by s t past done is command c kept (inl l) = (past, l, record { one = inl refl; kept = λ p d. (let no = x.posted p in cc) })
  leaves_by s t past done is command c kept (inr a) =
      (a.1 ∷ past, a.4, record { one = inr (inr (a.0, a.1, a.2, a.3, refl)); kept = λ p d. (let no = x.posted p in cc) })

  abbrev Stands : Kept → Type 0
  Stands b = stands mid b.state × leaves mid b.past

  abbrev Replies : Kept → Reply → Kept → Type 0
  Replies a reply b = Wants x.input a.state reply b.state × Leaves x.input (Wants x.input a.state) reply b.state a.past b.past

  -- the state after it, with the states that a crash may leave
  pub went_kept : is_clean mid → (a : Kept) → stands before a.state → leaves before a.past
      → (b : Kept) × stands mid b.state × leaves mid b.past × WentKept Wants unread old new reader_failed writer_failed (counted result) a b
  went_kept clean a st l =
      let w = goes Stands (Replies a) a (by result (x.settled clean a.state st) (x.crash clean a.state a.past st l)) in
      (w.0, w.1.0, w.1.1, record { input = x.input; told = x.told; ended = w.2 })
    where
      reached : AnswersInput (stands mid) (leaves mid) x.command a.state (Wants x.input a.state) x.reply
          → CrashMayLeaveReply (leaves mid) a.past (Wants x.input a.state) x.reply → (b : Kept) × Stands b × Replies a x.reply b
      reached s stopped =
          let l = leaves_by a.state s.0 a.past (is_done x.reply.status) refl x.command refl s.3 stopped in
          (record { state = s.0; past = l.0 }, (s.1, l.1), (s.2, l.2))

      by : (result : Result Served IoFault) → Settles (stands mid) (leaves mid) x.command a.state (Wants x.input a.state) x.reply result
          → CrashMayLeaveServed (leaves mid) a.past (Wants x.input a.state) x.reply result → Goes Stands (Replies a) a result
      by (Ok served) s stopped = reached s stopped
      by (Err io.Write) s stopped = reached s stopped
      by (Err io.Read) s stopped = (s, stopped)

-- by the code's flag
pub counts : (result : Result Served IoFault) → (bool_byte (is_ok result) ≡ counted result) × (counted result ≤ 1)
counts (Ok served) = (refl, omega arith)
counts (Err fault) = (refl, omega arith)
