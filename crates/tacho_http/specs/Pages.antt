-- Trusted in part: Page files, which are given without a key.
use Rattle.std.specs.Prelude.{◌≡◌, ◌⊎◌, ℕ, List, [], ◌∷◌, Option, Some, None, Result, IfOk, true, bytes_eq, if◌then◌else◌}
use Rattle.httparse.specs.Grammar.{RequestHead}
use Rattle.tacho_message.specs.Head.{BeginsWith}
use Rattle.tacho_message.specs.Length.{method_of}
use Rattle.tacho_message.specs.declared.method.Method.{Method}
use Rattle.tacho_message.specs.declared.method.Method.TheVariants as method
use Rattle.tacho_message.specs.declared.reply.MediaType.TheVariants as media
use Rattle.tacho_message.specs.declared.reply.PageFile.{PageFile}
use Rattle.tacho_message.specs.declared.reply.Status.TheVariants as status
use Rattle.tacho_state.specs.State.{State}
use Rattle.tacho_time.specs.declared.device.Failed.{Failed}
use Rattle.tacho_http.specs.Answer.{Answered, Exchanged, HasRead, is_done}
use Rattle.tacho_http.specs.Reply.{Reply, reply_of, reply_of_status}
use Rattle.tacho_http.specs.Serve.{Reaction, Reacts}
use Rattle.tacho_http.specs.declared.exchange.IoFault.{IoFault}
use Rattle.tacho_http.specs.declared.exchange.Served.{Served}
use Rattle.tacho_http.specs.declared.response.Response.{Response}

-- the first file with a path
abbrev pub file_at : List PageFile → List ℕ → Option PageFile
file_at [] path = None
file_at (file ∷ files) path = if bytes_eq path file.path.now then Some file else file_at files path

-- the file, or 405 for another method than GET
abbrev pub page_reply : Option Method → PageFile → Reply
page_reply (Some method.Get) file = record { status = status.Okay; media = media.Page file.kind; body = file.text.now }
page_reply other file = reply_of_status status.MethodNotAllowed

-- the input begins with a head whose path is a file's, and this is the reply
pub record GivesPage (files : List PageFile) (input : List ℕ) (reply : Reply) : Type 0 where
  pub head : RequestHead
  pub rest : List ℕ
  pub begins : BeginsWith 8192 32 input head rest
  pub file : PageFile
  pub has : file_at files head.target ≡ Some file
  pub is : reply ≡ page_reply (method_of head.method) file

-- the input begins with no such head
abbrev pub AsksNoPage : List PageFile → List ℕ → Type 0
AsksNoPage files input = (h : RequestHead) (rest : List ℕ) → BeginsWith 8192 32 input h rest → file_at files h.target ≡ None

-- The replies that an input may get where there are page files: of a file, whatever the key, and the state stays; otherwise those of the
-- archive.
abbrev pub ReactsOrGives : List PageFile → List ℕ → List ℕ → State → Reaction
ReactsOrGives files office input s reply after =
    (GivesPage files input reply × (after ≡ s)) ⊎ (AsksNoPage files input × Reacts office input s reply after)

-- For a page file the reply is exactly this, and the archive isn't accessed. After another request that was done the archive is live.
pub record GivesOrDoes {K : Type 0} (is_clean is_live : K → Type 0) (files : List PageFile) (input : List ℕ) (reply : Reply) (old new : K) : Type 0 where
  pub page : (given : Reply) → GivesPage files input given → (reply ≡ given) × (new ≡ old)
  pub live : AsksNoPage files input → is_clean new → is_done reply.status ≡ true → is_live new

-- A request was read from a reader and answered, or a page file was given.
pub record AnsweredOrGiven {K : Type 0} (files : List PageFile) (office : List ℕ) (stands : K → State → Type 0) (is_clean is_live : K → Type 0)
    (leaves : K → List State → Type 0) (is_same : K → K → Type 0) (old new : K) (unread left : Option (List ℕ)) (result : Result Response Failed) : Type 0 where
  pub answered : Answered (ReactsOrGives files office) stands is_clean leaves is_same old new office unread left result
  pub does : IfOk result (λ response. GivesOrDoes is_clean is_live files answered.input (reply_of response) old new)

-- One request was read and one reply written, of a page file or of the archive.
pub record ExchangedOrGiven {K : Type 0} (files : List PageFile) (office : List ℕ) (stands : K → State → Type 0) (is_clean is_live : K → Type 0)
    (leaves : K → List State → Type 0) (is_same : K → K → Type 0) (old new : K) (unread before after : Option (List ℕ)) (result : Result Served IoFault) : Type 0 where
  pub exchanged : Exchanged (ReactsOrGives files office) stands is_clean leaves is_same old new unread before after result
  pub does : HasRead result → GivesOrDoes is_clean is_live files exchanged.input exchanged.reply old new
