-- What the functions for requests do, derived from what their parts did.
use Rattle.std.proofs.Common.{arith, ◌≡◌, ◌++◌, ◌∙◌, ℕ, List, [], Bool, true, false, Option, Some}
use Rattle.std.proofs.Common.{None, Result, Ok, Err, refl, sym, ap, subst, ◌⊎◌, inl, inr, append_assoc}
use Rattle.std.specs.Io.KnownBytes.{Consumes}
use Rattle.std.specs.Prelude.{IfOk, IfSome, IsErr, OnOk, MatchResult}
use Rattle.httparse.specs.Grammar.{RequestHead}
use Rattle.httparse.proofs.GrammarLemmas.{request_unique}
use Rattle.tacho_time.specs.declared.device.Failed.{Failed}
use Rattle.tacho_state.specs.Acts.{Reads}
use Rattle.tacho_state.specs.State.{State}
use Rattle.tacho_state.specs.Steps.{owner}
use Rattle.tacho_state.specs.declared.caller.Caller.{Caller}
use Rattle.tacho_desk.specs.Doing.{ChangesNothing, Doing, Done, IsDurable, CarriesOut, CrashMayLeave as TaskCrashMayLeave}
use Rattle.tacho_sheet.specs.Fault.{IsFailure}
use Rattle.tacho_desk.specs.Tasks.{Does}
use Rattle.tacho_desk.specs.Told.{Answer}
use Rattle.tacho_sheet.specs.declared.fault.Fault.{Fault}
use Rattle.tacho_state.proofs.ReadLemmas.{IsSameAsItself, StaysSame}
use Rattle.tacho_message.specs.Head.{BeginsWith}
use Rattle.tacho_message.specs.Length.{body_length, method_of}
use Rattle.tacho_message.specs.Request.{key_of}
use Rattle.tacho_message.specs.declared.method.Method.{Method}
use Rattle.tacho_message.specs.declared.reply.Status.{Status}
use Rattle.tacho_message.specs.declared.reply.Status.TheVariants as status
use Rattle.tacho_http.specs.Answer.{AnswersInput, IsAskedBy, HasRepliedOrFailed, HasReplied, IsPosted, IsUnfinished, LacksMore, MayAsk}
use Rattle.tacho_http.specs.Answer.{Responds, CrashMayLeaveResult, CrashMayLeaveReply, is_done}
use Rattle.tacho_http.specs.Asked.{is_post, wish_by}
use Rattle.tacho_http.specs.Pages.{AnsweredOrGiven, AsksNoPage, GivesOrDoes, ReactsOrGives, file_at}
use Rattle.tacho_http.proofs.PageLemmas.{no_page, reply_does}
use Rattle.tacho_message.specs.declared.reply.PageFile.{PageFile}
use Rattle.tacho_http.specs.Reply.{Reply, fault_reply, reply_of_status, reply_of, reply_to}
use Rattle.tacho_http.specs.Routes.{Named}
use Rattle.tacho_http.specs.declared.places.Asker.{Asker}
use Rattle.tacho_desk.specs.declared.want.Want.{Want}
use Rattle.tacho_http.specs.Serve.{ByKey, Reaction, headed, unavailable as unavailable_reply}
use Rattle.tacho_http.specs.declared.response.Response.{Response}

-- ---- refusals

-- if memory ran out or the store failed, the reply is 503
gave_up : (f : Fault) → IsFailure f → fault_reply f ≡ reply_of_status status.Unavailable
gave_up f h = grind arith

-- no reply to a fault says that a request was done
pub refused : (f : Fault) → is_done (fault_reply f).status ≡ false
refused f = grind arith

-- nor does a refusal of what is asked for
pub wish_refused : (a : Asker) (m : Option Method) (get post : Option Named) (refusal : Status) → Err refusal ≡ wish_by a m get post
    → is_done refusal ≡ false
wish_refused a m get post refusal e = grind arith

-- nor one of the length of a body
pub length_refused : (m : Option Method) (takes : Bool) (fields : List (List ℕ × List ℕ)) (refusal : Status)
    → Err refusal ≡ body_length m takes fields → is_done refusal ≡ false
length_refused m takes fields refusal e = grind arith

-- ---- one function and its parts

-- if the body lacks bytes for the caller with this key, it does for a weaker description of the caller
pub by_this : {IsBy : List ℕ → Caller → Type 0} {key : List ℕ} {c : Caller} {h : RequestHead} {after_head : List ℕ}
    {old new : Option (List ℕ)} → IsBy key c → LacksMore (λ by who. (by ≡ key) × (who ≡ c)) h after_head old new
    → LacksMore IsBy h after_head old new
by_this {IsBy} is l = (let own : IsBy l.lacks.key l.lacks.caller = rw (l.lacks.is_by.0, l.lacks.is_by.1) is in search)

-- some unread bytes exist
pub some_left : (unread : Option (List ℕ)) → (left : List ℕ) × IfSome unread (λ all. left ≡ all)
some_left None = ([], tt)
some_left (Some all) = (all, refl)

-- if a reply says that a request was done, any other reply is none that doesn't
undone : {P : Type 0} (response : Response) {reply : Reply} → reply_of response ≡ reply → is_done reply.status ≡ false
    → is_done response.status ≡ true → P
undone response is none done = (let said = ap (λ (r : Reply). is_done r.status) is in cc)

-- a task changed nothing if it is no command, or if the reply doesn't say that it was done
changes_nothing : (command : Bool) (want : Want) (answer : Answer) (s : Status) → s ≡ (reply_to want answer).status
    → (command ≡ false) ⊎ (is_done s ≡ false) → ChangesNothing command answer
changes_nothing true want (Ok text) s same undone = grind arith
changes_nothing command want answer s same undone = tt

module _ {K : Type 0} {stands : K → State → Type 0} {is_clean is_live : K → Type 0} {leaves : K → List State → Type 0}
    {is_same : K → K → Type 0} {command : Bool} {unread : Option (List ℕ)} {Wants : List ℕ → State → Reaction} where
  -- no row was changed; the reply is one that the request may get, or 503, and doesn't say that anything was done
  pub idle : {old new : K} {response : Response} {reply : Reply} → (is_clean new → is_clean old)
      → (is_clean new → (s : State) → stands old s → stands new s) → (is_clean new → (s : State) → stands old s → is_same old new)
      → (is_clean new → (past : List State) → leaves old past → leaves new past)
      → (i : (left : List ℕ) × IfSome unread (λ all. left ≡ all)) → reply_of response ≡ reply → is_done reply.status ≡ false
      → (is_clean new → (s : State) → stands old s → Wants i.0 s reply s ⊎ (reply ≡ reply_of_status status.Unavailable))
      → Responds stands is_clean is_live leaves is_same old new command unread (Ok response) Wants
  idle {old = old} {new = new} {response = response} {reply = reply} clean state same crash i is none h = record {
    left = i.0;
    told = i.1;
    clean = clean;
    live = λ c done. undone response is none done;
    given = λ c s st. elim (h c s st) [
      | inl wants ↦ inl (s, state c s st, rw is wants, λ command done. undone response is none done)
      | inr gave_up ↦ inr (is ∙ gave_up, state c s st)
    ];
    same = λ undone. same;
    crash = λ c s past st l. inl (crash c past l);
  }

  -- likewise, and the archive wasn't accessed
  pub nothing : {keeper : K} {response : Response} {reply : Reply} → IsSameAsItself is_same
      → (i : (left : List ℕ) × IfSome unread (λ all. left ≡ all)) → reply_of response ≡ reply → is_done reply.status ≡ false
      → ((s : State) → Wants i.0 s reply s ⊎ (reply ≡ reply_of_status status.Unavailable))
      → Responds stands is_clean is_live leaves is_same keeper keeper command unread (Ok response) Wants
  nothing same_self i is none h = idle (λ c. c) (λ c s st. st) (λ c s st. same_self _) (λ c past l. l) i is none (λ c s st. h s)

  -- the task was carried out
  pub carried_out : {old new : K} {response : Response} {answer : Answer} (want : Want) {Does : State → Doing}
      (i : (left : List ℕ) × IfSome unread (λ all. left ≡ all)) → reply_of response ≡ reply_to want answer
      → CarriesOut stands is_clean is_live leaves is_same old new command answer Does
      → ((s : State) (answer : Answer) (after : State) → Does s answer after → Wants i.0 s (reply_to want answer) after)
      → Responds stands is_clean is_live leaves is_same old new command unread (Ok response) Wants
  carried_out {new = new} {response = response} {answer = answer} want {Does = Does} i is serves h = record {
    left = i.0;
    told = i.1;
    clean = serves.clean;
    live = λ clean. live answer is (serves.live clean);
    given = λ clean s st.
        subst (HasReplied (stands new) (leaves new) command s (Wants i.0 s)) (sym is)
        (replied s command answer (serves.done clean s st) (λ is. serves.kept is clean s st));
    same = λ undone. serves.same (changes_nothing command want answer response.status (ap (λ (r : Reply). r.status) is) undone);
    crash = λ clean s past st l.
        subst (CrashMayLeaveReply (leaves new) past (Wants i.0 s)) (sym is) (stopped s past answer (serves.crash clean s past st l));
  }
    where
      live : (answer : Answer) → reply_of response ≡ reply_to want answer → OnOk answer (is_live new)
          → is_done response.status ≡ true → is_live new
      live (Ok text) is open_after done = open_after
      live (Err f) is open_after done = undone response is (refused f) done

      -- after a command that was done, a crash leaves only the state after it
      replied : (s : State) (command : Bool) (answer : Answer) → Done (stands new) s (Does s) answer
          → (command ≡ true → IsDurable (stands new) (leaves new) (Does s) answer)
          → HasReplied (stands new) (leaves new) command s (Wants i.0 s) (reply_to want answer)
      replied s true (Ok text) d kept = (let k = kept refl in inl (k.0, k.1, h s (Ok text) k.0 k.2, λ is done. k.3))
      replied s false (Ok text) d kept = inl (d.0, d.1, h s (Ok text) d.0 d.2, λ is. cc)
      replied s command (Err f) (stood, inl d) kept = inl (s, stood, h s (Err f) s d, λ is done. (let none = refused f in cc))
      replied s command (Err f) (stood, inr g) kept = inr (gave_up f g, stood)

      -- the states that a crash may leave
      stopped : (s : State) (past : List State) (answer : Answer) → TaskCrashMayLeave (leaves new) past (Does s) answer
          → CrashMayLeaveReply (leaves new) past (Wants i.0 s) (reply_to want answer)
      stopped s past (Ok text) (inl l) = inl l
      stopped s past (Ok text) (inr a) = inr (reply_to want (Ok text), a.0, inl refl, h s (Ok text) a.0 a.1, a.2)
      stopped s past (Err f) (inl l) = inl l
      stopped s past (Err f) (inr a) = inr (reply_to want a.1.0, a.1.1, inr (gave_up f a.0), h s a.1.0 a.1.1 a.1.2, a.1.3)

-- ---- keys

-- one meaning implies another: for a reply, and if the reader failed
given_as : (stands : State → Type 0) (leaves : List State → Type 0) (command : Bool) (s : State) (A B : Reaction)
    (result : Result Response Failed) → ((reply : Reply) (after : State) → A reply after → B reply after)
    → HasRepliedOrFailed stands leaves command s A result → HasRepliedOrFailed stands leaves command s B result
given_as stands leaves command s A B (Ok response) h (inl g) = inl (g.0, g.1, h (reply_of response) g.0 g.2, g.3)
given_as stands leaves command s A B (Ok response) h (inr g) = inr g
given_as stands leaves command s A B (Err failed) h g = g

-- likewise for the states that a crash may leave
stopped_as : (leaves : List State → Type 0) (past : List State) (A B : Reaction) (result : Result Response Failed)
    → ((reply : Reply) (after : State) → A reply after → B reply after)
    → CrashMayLeaveResult leaves past A result → CrashMayLeaveResult leaves past B result
stopped_as leaves past A B (Ok response) h (inl l) = inl l
stopped_as leaves past A B (Ok response) h (inr g) = inr (g.0, g.1, g.2, h g.0 g.1 g.3, g.4)
stopped_as leaves past A B (Err failed) h g = g

module _ {K : Type 0} {stands : K → State → Type 0} {is_clean is_live : K → Type 0} {leaves : K → List State → Type 0}
    {is_same : K → K → Type 0} {old new : K} {command : Bool} {result : Result Response Failed} where
  -- the key is a driver's, and the driver's request was answered
  pub asked_for : {mid : K} {unread : Option (List ℕ)} {key : List ℕ} {n : ℕ} {A B : List ℕ → State → Reaction} → StaysSame is_live is_same
      → Reads stands is_clean is_live leaves is_same (λ (n : Option ℕ). n) old mid (Ok (Some n)) (owner key)
      → ((left : List ℕ) (s : State) (reply : Reply) (after : State) → owner key s ≡ Ok (Some n)
      → A left s reply after → B left s reply after)
      → Responds stands is_clean is_live leaves is_same mid new command unread result A
      → Responds stands is_clean is_live leaves is_same old new command unread result B
  asked_for {mid = mid} {A = A} {B = B} same_then reads h r = record {
    left = r.left;
    told = r.told;
    clean = λ c. reads.clean (r.clean c);
    live = r.live;
    given = λ c s st.
        let whose = reads.answer (r.clean c) s st in
        given_as (stands new) (leaves new) command s (A r.left s) (B r.left s) result (λ reply after. h r.left s reply after whose)
        (r.given c s (reads.state (r.clean c) s st));
    same = λ undone c s st.
        let before = r.clean c in
        same_then old mid new (λ live. reads.live before tt) (reads.same before s st) (r.same undone c s (reads.state before s st));
    crash = λ c s past st l.
        let whose = reads.answer (r.clean c) s st in
        stopped_as (leaves new) past (A r.left s) (B r.left s) result (λ reply after. h r.left s reply after whose)
        (r.crash c s past (reads.state (r.clean c) s st) (reads.crash (r.clean c) past l));
  }

-- ---- the input

-- the input is what was read, followed by the unread bytes
pub consumed : (unread left : Option (List ℕ)) (came rest : List ℕ) → Consumes unread left came → IfSome left (λ all. rest ≡ all)
    → IfSome unread (λ all. came ++ rest ≡ all)
consumed None left came rest cut told = tt
consumed (Some x) left came rest cut told = grind arith

-- what two reads consumed
consumed_more : (unread mid left : Option (List ℕ)) (came given : List ℕ) → Consumes unread mid came → Consumes mid left given
    → Consumes unread left (came ++ given)
consumed_more None mid left came given cut more = tt
consumed_more (Some x) None left came given cut more = absurd cut
consumed_more (Some x) (Some y) None came given cut more = absurd more
consumed_more (Some x) (Some y) (Some z) came given cut more = rw append_assoc cc

-- if an input posts something, its head's method is POST
pub posted_by : (input rest : List ℕ) (h : RequestHead) → BeginsWith 8192 32 input h rest → IsPosted input
    → is_post (method_of h.method) ≡ true
posted_by input rest h begins p = (let same = request_unique input h p.0 rest p.1 begins.reads p.2.reads in rw same.0 p.3)

module _ {K : Type 0} {stands : K → State → Type 0} {is_clean is_live : K → Type 0} {leaves : K → List State → Type 0}
    {is_same : K → K → Type 0} {files : List PageFile} {office : List ℕ} {unread left : Option (List ℕ)} where
  -- nothing was done; the reply is one that the input may get, and doesn't say that a command was done
  pub nothing_answered : {keeper : K} {response : Response} {reply : Reply} → IsSameAsItself is_same
      → (command : Bool) {input : List ℕ} → IfSome unread (λ all. input ≡ all) → (IsPosted input → command ≡ true)
      → (command ≡ true → IsPosted input) → reply_of response ≡ reply → (command ≡ true → is_done reply.status ≡ false)
      → ((s : State) → ReactsOrGives files office input s reply s) → GivesOrDoes is_clean is_live files input reply keeper keeper
      → AnsweredOrGiven files office stands is_clean is_live leaves is_same keeper keeper unread left (Ok response)
  nothing_answered {response = response} same_self command {input = input} told posted is_posted is none h does = record {
    answered = record {
      input = input;
      told = told;
      command = command;
      posted = posted;
      is_posted = is_posted;
      clean = λ c. c;
      answers = λ c s st. (s, st, rw is (h s), λ command done. undone response is (none command) done);
      same = λ unchanged c s st. same_self _;
      crash = λ c s past st l. inl l;
      unfinished = λ e. cc;
      known = λ c s st e. cc;
    };
    does = rw is does;
  }

  -- a request with one key was answered
  pub keyed : {old new : K} {key : List ℕ} (came after_head : List ℕ) {h : RequestHead} {mid : Option (List ℕ)}
      {result : Result Response Failed} → key_of h ≡ Some key → Consumes unread mid came
      → ((more : List ℕ) → BeginsWith 8192 32 (came ++ more) h (after_head ++ more))
      → file_at files h.target ≡ None
      → Responds stands is_clean is_live leaves is_same old new (is_post (method_of h.method)) mid result
      (λ left s. ByKey office key h (after_head ++ left) s)
      → (IsErr result → LacksMore (MayAsk office) h after_head mid left)
      → (IsErr result → is_clean new → (s : State) → stands old s → LacksMore (IsAskedBy s office) h after_head mid left)
      → AnsweredOrGiven files office stands is_clean is_live leaves is_same old new unread left result
  keyed {old = old} {new = new} {key = key} came after_head {h = h} {mid = mid} {result = result} has cut begins none r lacks known = record {
    answered = record {
      input = input;
      told = consumed unread mid came r.left cut r.told;
      command = is_post (method_of h.method);
      posted = posted_by input (after_head ++ r.left) h (begins r.left);
      is_posted = is_posted result;
      clean = r.clean;
      answers = λ c s st. answers s result (r.given c s st);
      same = r.same;
      crash = λ c s past st l. stopped_as (leaves new) past _ (ReactsOrGives files office input s) result (reacts s) (r.crash c s past st l);
      unfinished = λ e. unfinished _ (lacks e);
      known = λ c s st e. unfinished _ (known e c s st);
    };
    does = does result r.live;
  }
    where
      input : List ℕ
      input = came ++ r.left

      asks_none : AsksNoPage files input
      asks_none = no_page files (begins r.left) none

      does : (result : Result Response Failed) → (is_clean new → IfOk result (λ response. is_done response.status ≡ true → is_live new))
          → IfOk result (λ response. GivesOrDoes is_clean is_live files input (reply_of response) old new)
      does (Ok response) live = reply_does is_clean is_live old new asks_none live
      does (Err failed) live = tt

      reacts : (s : State) (reply : Reply) (after : State) → ByKey office key h (after_head ++ r.left) s reply after
          → ReactsOrGives files office input s reply after
      reacts s reply after did =
          inr (asks_none, headed h (after_head ++ r.left) reply after (begins r.left) (rw has did))

      answers : (s : State) (result : Result Response Failed)
          → HasRepliedOrFailed (stands new) (leaves new) (is_post (method_of h.method)) s (ByKey office key h (after_head ++ r.left) s) result
          → MatchResult result (λ response. AnswersInput (stands new) (leaves new) (is_post (method_of h.method)) s (ReactsOrGives files office input s)
          (reply_of response)) (λ failed. stands new s)
      answers s (Ok response) (inl g) = (g.0, g.1, reacts s (reply_of response) g.0 g.2, g.3)
      answers s (Ok response) (inr g) = (
        s,
        g.1,
        rw g.0 (inr (asks_none, unavailable_reply h (after_head ++ r.left) key (begins r.left) has)),
        λ is done. undone response g.0 refl done,
      )
      answers s (Err failed) g = g

      is_posted : (result : Result Response Failed) → IfOk result (λ response. is_post (method_of h.method) ≡ true → IsPosted input)
      is_posted (Ok response) = λ is. (h, after_head ++ r.left, begins r.left, is)
      is_posted (Err failed) = tt

      unfinished : (IsBy : List ℕ → Caller → Type 0) → LacksMore IsBy h after_head mid left → IsUnfinished IsBy unread left
      unfinished IsBy l = record {
        given = came ++ l.given;
        came = consumed_more unread mid left came l.given cut l.came;
        part = inr (h, after_head ++ l.given, begins l.given, l.lacks);
      }
