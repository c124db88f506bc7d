-- Trusted: The head of a request (RFC 9112, in the grammar of httparse): with which head an input begins, and why it has none.
use Rattle.std.specs.Prelude.{◌≡◌, ◌<◌, ◌≤◌, ◌⊎◌, ℕ, List, Option, IfSome, length, take, ⊤}
use Rattle.std.specs.Io.KnownBytes.{Consumes}
use Rattle.httparse.specs.Grammar.{RequestHead, print_request, ReadsRequest, HasNoRequest, NeverHasRequest, MayBecomeRequest}
use Rattle.httparse.specs.Spans.{IsRequestAt, IsRequestWithin, RequestExceeds}
use Rattle.httparse.specs.declared.spans.HeaderSpan.{HeaderSpan}
use Rattle.httparse.specs.declared.spans.RequestSpans.{RequestSpans}
use Rattle.tacho_message.specs.declared.head.HeadFault.{HeadFault}
use Rattle.tacho_message.specs.declared.head.HeadFault.TheVariants.{Bad, TooLarge, Read}

-- the input begins with this head, which has at most `limit` bytes and `room` fields
pub record BeginsWith (limit room : ℕ) (input : List ℕ) (h : RequestHead) (rest : List ℕ) : Type 0 where
  pub reads : ReadsRequest input h rest
  pub size : length (print_request h) ≤ limit
  pub fields : length h.fields ≤ room

-- the input begins with no such head
abbrev pub HasNoHead : ℕ → ℕ → List ℕ → Type 0
HasNoHead limit room input = (h : RequestHead) (rest : List ℕ) → BeginsWith limit room input h rest → ⊥

-- `limit` bytes came and a head needs more, or there are too many fields
abbrev pub IsTooLarge : ℕ → ℕ → List ℕ → Type 0
IsTooLarge limit room input =
    ((limit ≤ length input) × HasNoRequest (take limit input) × MayBecomeRequest (take limit input))
    ⊎ RequestExceeds room (take limit input)

-- the input ended before the end of a head, or no continuation is a head
abbrev pub IsBad : ℕ → ℕ → List ℕ → Type 0
IsBad limit room input =
    ((length input < limit) × HasNoRequest input × MayBecomeRequest input)
    ⊎ NeverHasRequest (take limit input)

-- why a head is refused
abbrev pub IsHeadFault : ℕ → ℕ → List ℕ → HeadFault → Type 0
IsHeadFault limit room input Bad = HasNoHead limit room input × IsBad limit room input
IsHeadFault limit room input TooLarge = HasNoHead limit room input × IsTooLarge limit room input
IsHeadFault limit room input Read = ⊤

-- an input that is refused: the reader's unread bytes if they are known, otherwise some input
pub record IsRefused (limit room : ℕ) (unread : Option (List ℕ)) (fault : HeadFault) : Type 0 where
  pub input : List ℕ
  pub told : IfSome unread (λ all. input ≡ all)
  pub refused : IsHeadFault limit room input fault

-- what the reader has given so far is no head yet, and there is room for more of one
pub record IsUnfinished (limit : ℕ) (old new : Option (List ℕ)) : Type 0 where
  pub given : List ℕ
  pub came : Consumes old new given
  pub short : length given < limit
  pub none : HasNoRequest given
  pub more : MayBecomeRequest given

-- the spans lie within the bytes, and are those of a head
abbrev pub IsHeadAt : List ℕ → ℕ → List HeaderSpan → RequestSpans → Type 0
IsHeadAt bytes room fields spans = IsRequestWithin bytes fields spans × ((h : RequestHead) × IsRequestAt bytes fields spans h)
