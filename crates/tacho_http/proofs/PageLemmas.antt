-- Where page files are given beside the replies of the archive.
use Rattle.std.proofs.Common.{arith, ◌≡◌, ℕ, List, [], ◌∷◌, Bool, Option, Result, Ok, Err, Some, None, true, false, inl, inr, ap, sym, refl, ◌∙◌}
use Rattle.httparse.specs.Grammar.{RequestHead}
use Rattle.httparse.proofs.GrammarLemmas.{request_unique}
use Rattle.tacho_message.specs.Head.{BeginsWith, HasNoHead}
use Rattle.tacho_message.specs.Length.{method_of}
use Rattle.tacho_message.specs.declared.method.Method.{Method}
use Rattle.tacho_message.specs.declared.reply.PageFile.{PageFile}
use Rattle.tacho_state.specs.State.{State, driver_of}
use Rattle.tacho_desk.specs.Doing.{Kept}
use Rattle.tacho_http.specs.Answer.{AnswersInput, CrashMayLeaveReply, CrashMayLeaveServed, Exchanged, Settles, is_done}
use Rattle.tacho_http.specs.Asked.{is_post}
use Rattle.tacho_http.specs.Laws.{Keeps503, KeepsOthers, OneReply, SameReply}
use Rattle.tacho_http.specs.Pages.{AsksNoPage, GivesOrDoes, GivesPage, ReactsOrGives, file_at, page_reply}
use Rattle.tacho_http.specs.Reply.{Reply}
use Rattle.tacho_http.specs.Run.{Ended, Leaves, Run, Went, WentKept}
use Rattle.tacho_http.specs.Serve.{Reaction, Reacts}
use Rattle.tacho_http.specs.declared.exchange.IoFault.{IoFault}
use Rattle.tacho_http.specs.declared.exchange.IoFault.TheVariants as io
use Rattle.tacho_http.specs.declared.exchange.Served.{Served}

-- without page files there are only the replies of the archive
pub only_archive : (office input : List ℕ) (s : State) (reply : Reply) (after : State) → ReactsOrGives [] office input s reply after
    → Reacts office input s reply after
only_archive office input s reply after (inl g) = absurd (let none = g.0.has in cc)
only_archive office input s reply after (inr r) = r.1

-- ---- whether an input asks for a page file

-- an input without a head doesn't
pub no_head : (files : List PageFile) (input : List ℕ) → HasNoHead 8192 32 input → AsksNoPage files input
no_head files input none h rest begins = absurd (none h rest begins)

pub no_file : (found : Option PageFile) → ((file : PageFile) → found ≡ Some file → ⊥) → found ≡ None
no_file None not = refl
no_file (Some file) not = absurd (not file refl)

-- an input has one head
pub no_page : (files : List PageFile) {input rest : List ℕ} {h : RequestHead} → BeginsWith 8192 32 input h rest
    → file_at files h.target ≡ None → AsksNoPage files input
no_page files {input = input} {rest = rest} {h = h} begins none other after again =
    let same = request_unique input other h after rest again.reads begins.reads in rw same.0 none

pub gives_page : {files : List PageFile} {input rest : List ℕ} {h : RequestHead} {file : PageFile} → BeginsWith 8192 32 input h rest
    → file_at files h.target ≡ Some file → GivesPage files input (page_reply (method_of h.method) file)
gives_page {rest = rest} {h = h} {file = file} begins has =
    record { head = h; rest = rest; begins = begins; file = file; has = has; is = refl }

-- there is one reply
pub page_once : {files : List PageFile} {input : List ℕ} {p q : Reply} → GivesPage files input p → GivesPage files input q → p ≡ q
page_once {files = files} {input = input} {p = p} {q = q} a b =
    let same = request_unique input a.head b.head a.rest b.rest a.begins.reads b.begins.reads in
    let one : Some a.file ≡ Some b.file = sym a.has ∙ (ap (λ (h : RequestHead). file_at files h.target) same.0 ∙ b.has) in
    let method = ap (λ (h : RequestHead). method_of h.method) same.0 in
    let p_is = a.is in
    let q_is = b.is in
    cc

-- only GET gets a file
pub undone_page : (m : Option Method) (file : PageFile) → is_post m ≡ true → is_done (page_reply m file).status ≡ false
undone_page m file posted = grind arith

-- ---- what a request does to the archive

module _ {K : Type 0} (is_clean is_live : K → Type 0) {files : List PageFile} {input : List ℕ} where
  -- one for a page file nothing
  pub page_does : (keeper : K) {reply : Reply} → GivesPage files input reply → GivesOrDoes is_clean is_live files input reply keeper keeper
  page_does keeper gives = record {
    page = λ other also. (page_once gives also, refl);
    live = λ none clean done. absurd (let no = none gives.head gives.rest gives.begins in let has = gives.has in cc);
  }

  -- another that was answered
  pub reply_does : (old new : K) {reply : Reply} → AsksNoPage files input → (is_clean new → is_done reply.status ≡ true → is_live new)
      → GivesOrDoes is_clean is_live files input reply old new
  reply_does old new none live = record {
    page = λ given also. absurd (let no = none also.head also.rest also.begins in let has = also.has in cc);
    live = λ asks. live;
  }

-- ---- what holds of some replies holds of more

ended_as : (old new : Option (List ℕ)) (A B : Reply → Type 0) (Stays : Type 0) (reader_failed writer_failed : Bool) (count : ℕ)
    → ((reply : Reply) → A reply → B reply) → Ended old new A Stays reader_failed writer_failed count
    → Ended old new B Stays reader_failed writer_failed count
ended_as old new A B Stays false false count more e = (e.0, (e.1.0, more e.1.0 e.1.1, e.1.2))
ended_as old new A B Stays false true count more e = (e.0, (e.1.0, more e.1.0 e.1.1, e.1.2))
ended_as old new A B Stays true false count more e = e
ended_as old new A B Stays true true count more e = e

pub run_as : {C S : Type 0} (A B : C → C → ℕ → S → S → Type 0) → ((c d : C) (n : ℕ) (s t : S) → A c d n s t → B c d n s t)
    → (xs ys : List C) (n : ℕ) (s t : S) → Run A xs ys n s t → Run B xs ys n s t
run_as A B more [] [] n s t r = r
run_as A B more (x ∷ xs) (y ∷ ys) n s t r =
    (r.0, r.1, r.2, more x y r.0 s r.2 r.3, run_as A B more xs ys r.1 r.2 t r.4, r.5)
run_as A B more [] (y ∷ ys) n s t r = r
run_as A B more (x ∷ xs) [] n s t r = r

module _ {A B : List ℕ → State → Reaction}
    (more : (input : List ℕ) (s : State) (reply : Reply) (after : State) → A input s reply after → B input s reply after) where
  pub exchanged_as : {K : Type 0} {stands : K → State → Type 0} {is_clean : K → Type 0} {leaves : K → List State → Type 0}
      {is_same : K → K → Type 0} {old new : K} {unread before after : Option (List ℕ)} {result : Result Served IoFault}
      → Exchanged A stands is_clean leaves is_same old new unread before after result
      → Exchanged B stands is_clean leaves is_same old new unread before after result
  exchanged_as {stands = stands} {leaves = leaves} {new = new} {result = result} x = record {
    input = x.input;
    told = x.told;
    command = x.command;
    posted = x.posted;
    is_posted = x.is_posted;
    reply = x.reply;
    replied = x.replied;
    settled = λ clean s st. settled s result (x.settled clean s st);
    same = x.same;
    crash = λ clean s past st l. stopped s past result (x.crash clean s past st l);
  }
    where
      answers : (s : State) → AnswersInput (stands new) (leaves new) x.command s (A x.input s) x.reply
          → AnswersInput (stands new) (leaves new) x.command s (B x.input s) x.reply
      answers s a = (a.0, a.1, more x.input s x.reply a.0 a.2, a.3)

      settled : (s : State) (result : Result Served IoFault) → Settles (stands new) (leaves new) x.command s (A x.input s) x.reply result
          → Settles (stands new) (leaves new) x.command s (B x.input s) x.reply result
      settled s (Err io.Read) a = a
      settled s (Err io.Write) a = answers s a
      settled s (Ok served) a = answers s a

      stopped_reply : (s : State) (past : List State) → CrashMayLeaveReply (leaves new) past (A x.input s) x.reply
          → CrashMayLeaveReply (leaves new) past (B x.input s) x.reply
      stopped_reply s past (inl l) = inl l
      stopped_reply s past (inr a) = inr (a.0, a.1, a.2, more x.input s a.0 a.1 a.3, a.4)

      stopped : (s : State) (past : List State) (result : Result Served IoFault) → CrashMayLeaveServed (leaves new) past (A x.input s) x.reply result
          → CrashMayLeaveServed (leaves new) past (B x.input s) x.reply result
      stopped s past (Err io.Read) l = l
      stopped s past (Err io.Write) l = stopped_reply s past l
      stopped s past (Ok served) l = stopped_reply s past l

  pub went_as : (unread old new : Option (List ℕ)) (reader_failed writer_failed : Bool) (count : ℕ) (s t : State)
      → Went A unread old new reader_failed writer_failed count s t → Went B unread old new reader_failed writer_failed count s t
  went_as unread old new reader_failed writer_failed count s t w = record {
    input = w.input;
    told = w.told;
    ended = ended_as old new (λ reply. A w.input s reply t) (λ reply. B w.input s reply t) (t ≡ s) reader_failed writer_failed count
        (λ reply. more w.input s reply t) w.ended;
  }

  pub went_kept_as : (unread old new : Option (List ℕ)) (reader_failed writer_failed : Bool) (count : ℕ) (a b : Kept)
      → WentKept A unread old new reader_failed writer_failed count a b → WentKept B unread old new reader_failed writer_failed count a b
  went_kept_as unread old new reader_failed writer_failed count a b w = record {
    input = w.input;
    told = w.told;
    ended = ended_as old new
        (λ reply. A w.input a.state reply b.state × Leaves w.input (A w.input a.state) reply b.state a.past b.past)
        (λ reply. B w.input a.state reply b.state × Leaves w.input (B w.input a.state) reply b.state a.past b.past)
        (b ≡ a) reader_failed writer_failed count (λ reply did. (more w.input a.state reply b.state did.0, leaves reply did.1)) w.ended;
  }
    where
      leaves : (reply : Reply) → Leaves w.input (A w.input a.state) reply b.state a.past b.past
          → Leaves w.input (B w.input a.state) reply b.state a.past b.past
      leaves reply l = record {
        one = elim l.one [
          | inl stays ↦ inl stays
          | inr (inl after) ↦ inr (inl after)
          | inr (inr x) ↦ inr (inr (x.0, x.1, x.2, more w.input a.state x.0 x.1 x.3, x.4))
        ];
        kept = l.kept;
      }

-- ---- the laws of the replies of the archive hold with page files too

module _ (files : List PageFile) where
  pub same_reply_or_page : SameReply Reacts → SameReply (ReactsOrGives files)
  same_reply_or_page same office input n s other a b e reply after (inl g) = (other, inl (g.0, refl), ap (driver_of n) g.1 ∙ e)
  same_reply_or_page same office input n s other a b e reply after (inr r) =
      let x = same office input n s other a b e reply after r.1 in (x.0, inr (r.0, x.1), x.2)

  -- no input asks for a page file and for something else
  not_both : {A : Type 0} {input : List ℕ} {reply : Reply} → GivesPage files input reply → AsksNoPage files input → A
  not_both g none = absurd (let no = none g.head g.rest g.begins in let has = g.has in cc)

  pub one_reply_or_page : OneReply Reacts → OneReply (ReactsOrGives files)
  one_reply_or_page one office input n s other a b e p after (inl x) q left (inl y) f g =
      (page_once x.0 y.0, ap (driver_of n) x.1 ∙ (e ∙ sym (ap (driver_of n) y.1)))
  one_reply_or_page one office input n s other a b e p after (inl x) q left (inr y) f g = not_both x.0 y.0
  one_reply_or_page one office input n s other a b e p after (inr x) q left (inl y) f g = not_both y.0 x.0
  one_reply_or_page one office input n s other a b e p after (inr x) q left (inr y) f g =
      one office input n s other a b e p after x.1 q left y.1 f g

  pub keeps_others_or_page : KeepsOthers Reacts → KeepsOthers (ReactsOrGives files)
  keeps_others_or_page keeps office input n s a reply after (inl g) m differ = ap (driver_of m) g.1
  keeps_others_or_page keeps office input n s a reply after (inr r) m differ = keeps office input n s a reply after r.1 m differ

  pub keeps_503_or_page : Keeps503 Reacts → Keeps503 (ReactsOrGives files)
  keeps_503_or_page keeps office input s reply after (inl g) e = g.1
  keeps_503_or_page keeps office input s reply after (inr r) e = keeps office input s reply after r.1 e
