-- Why a driver's request depends on the driver's rows alone, and why 503 leaves the state as it was.
use Rattle.std.proofs.Common.{◌≡◌, ◌≢◌, ◌∙◌, ℕ, Bool, true, false, cond, subst, List, Option, Some, None, Result, Ok, Err, arith, bytes_eq, inl, inr}
use Rattle.std.proofs.Common.{refl, sym, ap, take}
use Rattle.std.specs.Prelude.{◌↔◌, IfOk}
use Rattle.httparse.specs.Grammar.{RequestHead}
use Rattle.httparse.proofs.GrammarLemmas.{request_unique}
use Rattle.tacho_time.specs.Reading.{day_at, minute_at, month_at}
use Rattle.tacho_time.specs.declared.fault.TimeFault.{TimeFault}
use Rattle.tacho_card.specs.declared.file.Part.{Part}
use Rattle.tacho_sheet.specs.declared.fault.Fault.TheVariants as fault
use Rattle.tacho_state.specs.State.{State, driver_of}
use Rattle.tacho_state.specs.Steps.{owner}
use Rattle.tacho_state.specs.declared.caller.Caller.{Caller}
use Rattle.tacho_state.specs.declared.caller.Caller.TheVariants as caller
use Rattle.tacho_state.specs.declared.fault.StoreFault.{StoreFault}
use Rattle.tacho_state.specs.declared.fault.StoreFault.TheVariants as store
use Rattle.tacho_sheet.specs.Fault.{fault_of_store}
use Rattle.tacho_message.specs.Head.{BeginsWith}
use Rattle.tacho_desk.proofs.WordLemmas.{task_once}
use Rattle.tacho_desk.specs.Own.{IsOwnTask, OneAnswer, OthersStay, RefusalsStay, SameAnswers}
use Rattle.tacho_desk.specs.Tasks.{Does, want_of}
use Rattle.tacho_desk.specs.Told.{Answer}
use Rattle.tacho_desk.specs.Range.{is_period}
use Rattle.tacho_desk.specs.Words.{ByDriver, ByNumber, IsTask, Wanted, Wish, by_part, by_time, day_if_named, minute_text_of, most_number, part_of, period_task}
use Rattle.tacho_desk.specs.declared.task.Task.{Task}
use Rattle.tacho_desk.specs.declared.task.Task.TheVariants as task
use Rattle.tacho_message.specs.Request.{key_of}
use Rattle.tacho_desk.specs.Wants.{is_own}
use Rattle.tacho_desk.specs.declared.want.Want.{Want}
use Rattle.tacho_desk.specs.declared.want.Want.TheVariants as want
use Rattle.tacho_http.specs.Access.{OwnWants}
use Rattle.tacho_http.specs.Asked.{asker_of, wish_of}
use Rattle.tacho_http.specs.declared.places.Asker.TheVariants as asker
use Rattle.tacho_message.specs.declared.reply.Status.{Status}
use Rattle.tacho_message.specs.declared.reply.Status.TheVariants as status
use Rattle.tacho_http.specs.Laws.{IsFrom, Keeps503, KeepsOthers, OneReply, SameReply}
use Rattle.tacho_http.specs.Reply.{Reply, fault_reply, reply_of_status, reply_to}
use Rattle.tacho_http.specs.Serve.{ByCaller, ByKeys, ByOwner, ByWhom, Reaction, RepliesToTask, Reacts, Runs, RepliesOnly, WithBody}
use Rattle.tacho_http.specs.Serve.{WithWish, bad, body_of, headed, large, unavailable}

-- ---- what a request comes to

-- a fixed reply, or a task with its body
abbrev Act : Type 0
Act = Result (Task × List ℕ) Reply

abbrev Acts : Act → State → Reaction
Acts (Err r) s = RepliesOnly r s
Acts (Ok (t, body)) s = λ reply after. (answer : Answer) × Does t body s answer after × (reply ≡ reply_to (want_of t) answer)

-- in each state what is asked for is the same act, and its task meets Its
record ComesTo (Its : Task → Type 0) (Wants : State → Reaction) : Type 0 where
  act : Act
  its : IfOk act (λ done. Its done.0)
  same : (s : State) (reply : Reply) (after : State) → Wants s reply after ↔ Acts act s reply after

module _ (Its : Task → Type 0) (office : List ℕ) (c : Caller) (rest : List ℕ) (s : State) (reply : Reply) (after : State) where
  -- a fixed reply
  told : (r : Reply) → ComesTo Its (RepliesOnly r)
  told r = record { act = Err r; its = tt; same = λ s reply after. ((λ h. h), (λ h. h)) }

  -- a task is reserved in each state or in none
  task_comes : (wanted : Wanted) → ((t : Task) → wanted ≡ Ok t → Its t) → (body : List ℕ) → RepliesToTask office wanted body s reply after
      → ComesTo Its (RepliesToTask office wanted body)
  task_comes (Err f) its body h = told (fault_reply f)
  task_comes (Ok t) its body (inl h) = record {
    act = Err (fault_reply (fault_of_store store.KeyTaken));
    its = tt;
    same = λ s reply after. ((λ k. elim k [ inl x ↦ x.1 | inr x ↦ absurd (x.0 h.0) ]), (λ k. inl (h.0, k)));
  }
  task_comes (Ok t) its body (inr h) = record {
    act = Ok (t, body);
    its = its t refl;
    same = λ s reply after. ((λ k. elim k [ inl x ↦ absurd (h.0 x.0) | inr x ↦ x.1 ]), (λ k. inr (h.0, k)));
  }

  -- with its body, which is long enough in each state or in none
  run_comes : (w : Wish) → ((t : Task) → IsTask w.want c w.driver w.word w.next (Ok t) → Its t) → (n : ℕ) → Runs office w n c rest s reply after
      → ComesTo Its (Runs office w n c rest)
  run_comes w its n (inl h) = record {
    act = Err (reply_of_status status.BadRequest);
    its = tt;
    same = λ s reply after. (
      (λ k. elim k [ inl x ↦ x.1 | inr x ↦ (let short = h.0 in let long = x.0 in absurd (omega arith)) ]),
      (λ k. inl (h.0, k)),
    );
  }
  run_comes w its n (inr h) =
      let wanted = h.1.0 in
      let is = h.1.1 in
      let task = task_comes wanted (λ t same. its t (rw same at is)) (take n rest) h.1.2 in
      record {
        act = task.act;
        its = task.its;
        same = λ s reply after. (
          (λ k. elim k [
            | inl x ↦ (let long = h.0 in let short = x.0 in absurd (omega arith))
            | inr x ↦ (task.same s reply after).0 (rw (task_once w.want c w.driver w.word w.next x.1.0 wanted x.1.1 is) at x.1.2)
          ]),
          (λ k. inr (h.0, (wanted, is, (task.same s reply after).1 k))),
        );
      }

  -- with the length of its body
  body_comes : (w : Wish) → ((t : Task) → IsTask w.want c w.driver w.word w.next (Ok t) → Its t) → (length : Result ℕ Status)
      → WithBody office length w c rest s reply after → ComesTo Its (WithBody office length w c rest)
  body_comes w its (Err refusal) h = told (reply_of_status refusal)
  body_comes w its (Ok n) h = run_comes w its n h

  -- with what it asks for
  wish_comes : (h : RequestHead) (found : Result Wish Status)
      → ((w : Wish) (t : Task) → found ≡ Ok w → IsTask w.want c w.driver w.word w.next (Ok t) → Its t)
      → WithWish office found c h rest s reply after → ComesTo Its (WithWish office found c h rest)
  wish_comes h (Err refusal) its does = told (reply_of_status refusal)
  wish_comes h (Ok w) its does = body_comes w (λ t. its w t refl) (body_of h w.want) does

-- ---- 503

module _ (refusals : RefusalsStay) (office : List ℕ) (s : State) (reply : Reply) (after : State)
    (e : reply.status ≡ status.Unavailable) where
  -- what is answered with 503 is no task, or a task that was refused
  act_kept : (act : Act) → Acts act s reply after → after ≡ s
  act_kept (Err r) h = h.1
  act_kept (Ok (t, body)) (Ok told, does, is) = (let same = ap (λ (r : Reply). r.status) is in grind arith)
  act_kept (Ok (t, body)) (Err f, does, is) = refusals t body s f after does

  -- for any caller
  caller_kept : (c : Caller) (h : RequestHead) (rest : List ℕ) → ByCaller office c h rest s reply after → after ≡ s
  caller_kept c h rest does =
      let found = wish_of (asker_of c) h.method h.target in
      let comes = wish_comes (λ t. Unit {0}) office c rest s reply after h found (λ w t found is. tt) does in
      act_kept comes.act ((comes.same s reply after).0 does)

  -- for any key
  keys_kept : (key : Option (List ℕ)) (h : RequestHead) (rest : List ℕ) → ByKeys office key h rest s reply after → after ≡ s
  keys_kept None h rest does = does.1
  keys_kept (Some key) h rest does = by_whom (bytes_eq key office) does
    where
      by_owner : (found : Result (Option ℕ) StoreFault) → ByOwner office found h rest s reply after → after ≡ s
      by_owner (Ok (Some n)) does = caller_kept (caller.Driver n) h rest does
      by_owner found does = does.1

      by_whom : (b : Bool) → ByWhom office b key h rest s reply after → after ≡ s
      by_whom true does = caller_kept caller.Office h rest does
      by_whom false does = by_owner (owner key s) does

-- so 503 leaves the state as it was
pub keeps_503 : RefusalsStay → Keeps503 Reacts
keeps_503 refusals office input s _ _ (headed h rest reply after begins does) e =
    keys_kept refusals office s reply after e (key_of h) h rest does
keeps_503 refusals office input s _ _ r e = refl

-- ---- a driver's requests are for the driver's own tasks

-- a driver's arguments name that driver
by_driver : (n : ℕ) (driver : List ℕ) (Is : ℕ → Wanted → Type 0) (t : Task) → ByDriver (caller.Driver n) driver Is (Ok t) → Is n (Ok t)
by_driver n driver Is t (inl (none, e)) = absurd none
by_driver n driver Is t (inr (m, is, h)) = subst (λ (k : ℕ). Is k (Ok t)) is h

-- what was read, where a task is made of it
by_read : {A : Type 0} (read : Result A TimeFault) (make : A → Wanted) (t : Task) → Ok t ≡ by_time read make → (a : A) × (Ok t ≡ make a)
by_read (Ok a) make t e = (a, e)
by_read (Err f) make t e = absurd (let wrong = e in cc)

-- the one task is the other
own_too : (n : ℕ) (t x : Task) (w : Wanted) → w ≡ Ok t → w ≡ Ok x → IsOwnTask n x → IsOwnTask n t
own_too n t x w is also own = subst (λ (y : Task). IsOwnTask n y) (let same : x ≡ t = cc in same) own

own_import : (n : ℕ) (part : Option Part) (t : Task) → Ok t ≡ by_part part (λ p. task.Import (caller.Driver n) p) → IsOwnTask n t
own_import n None t e = absurd (let wrong = e in cc)
own_import n (Some p) t e = own_too n t (task.Import (caller.Driver n) p) (Ok t) refl e refl

own_file : (n : ℕ) (word : List ℕ) (t : Task) → ByNumber most_number word (λ k w. w ≡ Ok (task.File n k)) (Ok t) → IsOwnTask n t
own_file n word t (inl (none, e)) = absurd (let wrong = e in cc)
own_file n word t (inr (k, is, e)) = own_too n t (task.File n k) (Ok t) refl e refl

own_period : (n from past : ℕ) (t : Task) → Ok t ≡ period_task n from past → IsOwnTask n t
own_period n from past t e = by (is_period from past) e
  where
    by : (b : Bool) → Ok t ≡ cond {A = Wanted} b (Ok (task.Handover n (record { from = from; past = past }))) (Err fault.Period) → IsOwnTask n t
    by true e = own_too n t (task.Handover n (record { from = from; past = past })) (Ok t) refl e refl
    by false e = absurd (let wrong = e in cc)

-- what a driver may ask for makes a task of that driver
task_is_own : (w : Want) (n : ℕ) (driver word next : List ℕ) (t : Task) → is_own w ≡ true
    → IsTask w (caller.Driver n) driver word next (Ok t) → IsOwnTask n t
task_is_own want.Import n driver word next t own is = own_import n (part_of word) t is
task_is_own (want.Reading text) n driver word next t own is =
    own_too n t (task.Reading n text) (Ok t) refl (by_driver n driver (λ n w. w ≡ Ok (task.Reading n text)) t is) refl
task_is_own (want.MonthReading text) n driver word next t own is =
    let read = by_read (month_at word) (λ month. Ok (task.MonthReading n month text)) t
    (by_driver n driver (λ n w. w ≡ by_time (month_at word) (λ month. Ok (task.MonthReading n month text))) t is) in
    own_too n t (task.MonthReading n read.0 text) (Ok t) refl read.1 refl
task_is_own want.Form n driver word next t own is =
    let read = by_read (day_if_named word) (λ day. Ok (task.Form n day)) t
    (by_driver n driver (λ n w. w ≡ by_time (day_if_named word) (λ day. Ok (task.Form n day))) t is) in
    own_too n t (task.Form n read.0) (Ok t) refl read.1 refl
task_is_own want.File n driver word next t own is =
    own_file n word t (by_driver n driver (λ n. ByNumber most_number word (λ k w. w ≡ Ok (task.File n k))) t is)
task_is_own want.Handover n driver word next t own is =
    let from = by_read (day_at word) (λ from. by_time (day_at next) (λ past. period_task n from past)) t
    (by_driver n driver (λ n w. w ≡ by_time (day_at word) (λ from. by_time (day_at next) (λ past. period_task n from past))) t is) in
    let past = by_read (day_at next) (λ past. period_task n from.0 past) t from.1 in
    own_period n from.0 past.0 t past.1
task_is_own want.Drivers n driver word next t own is =
    own_too n t (task.Driver n) (Ok t) refl (by_driver n driver (λ n w. w ≡ Ok (task.Driver n)) t is) refl
task_is_own want.Ahead n driver word next t own is =
    let read = by_read (minute_at (minute_text_of word next)) (λ minute. Ok (task.Ahead n minute)) t
    (by_driver n driver (λ n w. w ≡ by_time (minute_at (minute_text_of word next)) (λ minute. Ok (task.Ahead n minute))) t is) in
    own_too n t (task.Ahead n read.0) (Ok t) refl read.1 refl
task_is_own want.Version n driver word next t own is = own_too n t task.Version (Ok t) refl is tt
task_is_own w n driver word next t own is = absurd (let wrong = own in cc)

-- ---- isolation

module _ (own_wants : OwnWants) (office input : List ℕ) (n : ℕ) where
  -- a request with a driver's key comes to one of the driver's own tasks, the same in each state in which the key is the driver's
  comes_to : (s : State) → IsFrom office input n s → (h : RequestHead) (rest : List ℕ) → BeginsWith 8192 32 input h rest
      → (reply : Reply) (after : State) → ByKeys office (key_of h) h rest s reply after
      → (act : Act) × IfOk act (λ done. IsOwnTask n done.0) × ((s : State) → IsFrom office input n s
      → (reply : Reply) (after : State) → ByKeys office (key_of h) h rest s reply after ↔ Acts act s reply after)
  comes_to s from h rest begins reply after does =
      let comes = wish_comes (IsOwnTask n) office (caller.Driver n) rest s reply after h (wish_of asker.Driver h.method h.target)
      (λ w t found is. task_is_own w.want n w.driver w.word w.next t (own_wants h.method h.target w found) is)
      (rw (from.has h rest begins, from.other, from.own) at does) in (
        comes.act,
        comes.its,
        λ s its reply after. (
          (λ k. (comes.same s reply after).0 (rw (its.has h rest begins, its.other, its.own) at k)),
          (λ k. rw (its.has h rest begins, its.other, its.own) ((comes.same s reply after).1 k)),
        ),
      )

  -- an input has one head, and a reply other than 503 is by it
  is_headed : (s : State) (from : IsFrom office input n s) (reply : Reply) (after : State) → Reacts office input s reply after
      → reply.status ≢ status.Unavailable → ByKeys office (key_of from.head) from.head from.rest s reply after
  is_headed s from _ _ (headed h rest reply after begins does) f =
      let same = request_unique input h from.head rest from.rest begins.reads from.begins.reads in rw (same.0, same.1) at does
  is_headed s from _ _ (bad r) f = absurd (r.0 from.head from.rest from.begins)
  is_headed s from _ _ (large r) f = absurd (r.0 from.head from.rest from.begins)
  is_headed s from _ _ (unavailable h rest key begins has) f = absurd (f refl)

module _ (n : ℕ) where
  -- the same reply in both states
  act_same : SameAnswers → (s other : State) → driver_of n s ≡ driver_of n other → (act : Act) → IfOk act (λ done. IsOwnTask n done.0)
      → (reply : Reply) (after : State) → Acts act s reply after
      → (left : State) × Acts act other reply left × (driver_of n after ≡ driver_of n left)
  act_same same_answers s other e (Err r) its reply after h = (other, (h.0, refl), ap (driver_of n) h.1 ∙ e)
  act_same same_answers s other e (Ok (t, body)) its reply after h =
      let x = same_answers n t its body s other e h.0 after h.1 in (x.0, (h.0, x.1, h.2), x.2)

  -- no other rows
  act_others : OthersStay → (m : ℕ) → m ≢ n → (act : Act) → IfOk act (λ done. IsOwnTask n done.0) → (s : State) (reply : Reply) (after : State)
      → Acts act s reply after → driver_of m after ≡ driver_of m s
  act_others others_stay m differ (Err r) its s reply after h = ap (driver_of m) h.1
  act_others others_stay m differ (Ok (t, body)) its s reply after h = others_stay n t its body s h.0 after h.1 m differ

  -- one reply
  act_once : OneAnswer → (act : Act) → IfOk act (λ done. IsOwnTask n done.0) → (s : State) (p q : Reply) (after left : State)
      → Acts act s p after → Acts act s q left → (p ≡ q) × (after ≡ left)
  act_once one_answer (Err r) its s p q after left h k = (h.0 ∙ sym k.0, h.1 ∙ sym k.1)
  act_once one_answer (Ok (t, body)) its s p q after left h k =
      let x = one_answer n t its body s h.0 k.0 after left h.1 k.1 in (h.2 ∙ (ap (reply_to (want_of t)) x.0 ∙ sym k.2), x.1)

pub same_reply : OwnWants → SameAnswers → SameReply Reacts
same_reply own same_answers office input n s other a b e _ _ (headed h rest reply after begins does) =
    let comes = comes_to own office input n s a h rest begins reply after does in
    let x = act_same n same_answers s other e comes.0 comes.1 reply after ((comes.2 s a reply after).0 does) in
    (x.0, headed h rest reply x.0 begins ((comes.2 other b reply x.0).1 x.1), x.2)
same_reply own same_answers office input n s other a b e _ _ (bad r) = (other, bad r, e)
same_reply own same_answers office input n s other a b e _ _ (large r) = (other, large r, e)
same_reply own same_answers office input n s other a b e _ _ (unavailable h rest key begins k) = (other, unavailable h rest key begins k, e)

pub keeps_others : OwnWants → OthersStay → KeepsOthers Reacts
keeps_others own others_stay office input n s a _ _ (headed h rest reply after begins does) m differ =
    let comes = comes_to own office input n s a h rest begins reply after does in
    act_others n others_stay m differ comes.0 comes.1 s reply after ((comes.2 s a reply after).0 does)
keeps_others own others_stay office input n s a _ _ r m differ = refl

-- the reply in the first state is one in the other, and there is only one
pub one_reply : OwnWants → SameAnswers → OneAnswer → OneReply Reacts
one_reply own same_answers one_answer office input n s other a b e p after x q left y f g =
    let moved = same_reply own same_answers office input n s other a b e p after x in
    let first = is_headed own office input n other b p moved.0 moved.1 f in
    let comes = comes_to own office input n other b b.head b.rest b.begins p moved.0 first in
    let one = act_once n one_answer comes.0 comes.1 other p q moved.0 left ((comes.2 other b p moved.0).0 first)
    ((comes.2 other b q left).0 (is_headed own office input n other b q left y g)) in
    (one.0, moved.2 ∙ ap (driver_of n) one.1)
