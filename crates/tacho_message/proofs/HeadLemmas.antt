-- What the parser's answer for the bytes so far means for the whole input.
use Rattle.std.proofs.Common.{◌≡◌, ◌<◌, ◌≤◌, ◌-◌, ◌++◌, ℕ, List, [], Option, Some, None, Result, Ok, Err, length, take, refl, sym, subst, inl, inr, arith, append_assoc, length-append}
use Rattle.std.proofs.lemmas.Grind.{common_steps}
use Rattle.std.specs.Io.KnownBytes.{Consumes, IsAtEnd, Keeps}
use Rattle.std.specs.Prelude.{IfErr, IsErrAnd}
use Rattle.tacho_message.specs.declared.head.Head.{Head}
use Rattle.tacho_message.specs.declared.head.HeadFault.{HeadFault}
use Rattle.httparse.specs.Grammar.{RequestHead, print_request, HasNoRequest, NeverHasRequest, MayBecomeRequest}
use Rattle.httparse.specs.Spans.{RequestExceeds, RequestOverflows}
use Rattle.tacho_message.specs.Head.{HasNoHead, IsRefused, IsUnfinished}
use Rattle.tacho_message.specs.declared.head.HeadFault.TheVariants.{Bad, Read, TooLarge}
use Rattle.tacho_message.proofs.ReadLemmas.{ended_begins, some_begins, take-append-more}

-- the first n bytes of an input that begins with a head of at most n bytes
pub take-head : (n : ℕ) (h : RequestHead) (rest input : List ℕ) → input ≡ print_request h ++ rest → length (print_request h) ≤ n
    → take n input ≡ print_request h ++ take (n - length (print_request h)) rest
take-head n h rest input e le = rw e (take-append-more n (n - length (print_request h)) (print_request h) rest (omega arith))

-- if the first `limit` bytes have no head, the input has none within the limits
pub none_in_full : (limit room : ℕ) (input : List ℕ) → HasNoRequest (take limit input) → HasNoHead limit room input
none_in_full limit room input none h rest b =
    none h (take (limit - length (print_request h)) rest) (b.reads.0, take-head limit h rest input b.reads.1 b.size)

-- if the whole input has no head, it has none within the limits
pub none_in_ended : (limit room : ℕ) (input : List ℕ) → HasNoRequest input → HasNoHead limit room input
none_in_ended limit room input none h rest b = none h rest b.reads

-- if each head would have too many fields, the input has none within the limits
pub none_in_overflow : (limit room : ℕ) (came left input : List ℕ) → input ≡ came ++ left → RequestOverflows room came → HasNoHead limit room input
none_in_overflow limit room came left input e over h rest b =
    let reads = rw e at b.reads in
    let lt : room < length h.fields = over left h rest reads in
    let le : length h.fields ≤ room = b.fields in
    absurd (omega arith)

-- if no continuation of some bytes is a head, the same is true with more bytes after them
pub never-more : (came x : List ℕ) → NeverHasRequest came → NeverHasRequest (came ++ x)
never-more came x never more = rw append_assoc (never (x ++ more))

-- if some bytes have too many fields, they still do with more bytes after them
pub exceeds-more : (room : ℕ) (came x : List ℕ) → RequestExceeds room came → RequestExceeds room (came ++ x)
exceeds-more room came x (front, rest, e, h, reads, lt) = (front, rest ++ x, rw (e, append_assoc) refl, h, reads, lt)

-- ---- why a reader's input is refused

-- the first bytes of an input are those that came, followed by some of the rest
take_all_of : (limit : ℕ) (came left input : List ℕ) → input ≡ came ++ left → length came ≤ limit → take limit input ≡ came ++ take (limit - length came) left
take_all_of limit came left input e le = rw e (take-append-more limit (limit - length came) came left (omega arith))

-- too many fields
pub refuse_many : (limit room : ℕ) (known left : Option (List ℕ)) (came : List ℕ)
    → length came ≤ limit → Consumes known left came
    → RequestOverflows room came → RequestExceeds room came
    → IsRefused limit room known TooLarge
refuse_many limit room known left came le cut over exceeds =
    let b = some_begins came known left cut in
    record {
      input = b.input;
      told = b.told;
      refused = (
        none_in_overflow limit room came b.rest b.input b.is over,
        inr (rw (take_all_of limit came b.rest b.input b.is le) (exceeds-more room came (take (limit - length came) b.rest) exceeds)),
      );
    }

-- no continuation is a head
pub refuse_never : (limit room : ℕ) (known left : Option (List ℕ)) (came : List ℕ)
    → length came ≤ limit → Consumes known left came
    → RequestOverflows room came → NeverHasRequest came
    → IsRefused limit room known Bad
refuse_never limit room known left came le cut over never =
    let b = some_begins came known left cut in
    record {
      input = b.input;
      told = b.told;
      refused = (
        none_in_overflow limit room came b.rest b.input b.is over,
        inr (rw (take_all_of limit came b.rest b.input b.is le) (never-more came (take (limit - length came) b.rest) never)),
      );
    }

-- the buffer is full, and a head would need more bytes
pub refuse_full : (limit room : ℕ) (known left : Option (List ℕ)) (came : List ℕ)
    → length came ≡ limit → Consumes known left came
    → HasNoRequest came → MayBecomeRequest came
    → IsRefused limit room known TooLarge
refuse_full limit room known left came full cut none more =
    let b = some_begins came known left cut in
    let all : take limit b.input ≡ came = rw (b.is, ← full) (take-append-length came b.rest) in
    let long : limit ≤ length b.input = rw (b.is, length-append) (omega arith) in
    record { input = b.input; told = b.told; refused = (none_in_full limit room b.input (rw all none), inl (long, rw all none, rw all more)) }
  where
    take-append-length : (a b : List ℕ) → take (length a) (a ++ b) ≡ a
    take-append-length a b = grind (arith, common_steps)

-- the input ended
pub refuse_ended : (limit room : ℕ) (known left after : Option (List ℕ)) (came : List ℕ)
    → length came < limit → Consumes known left came → Consumes left after [] → IsAtEnd after
    → HasNoRequest came → MayBecomeRequest came
    → IsRefused limit room known Bad
refuse_ended limit room known left after came lt cut none_read end none more = record {
  input = came;
  told = ended_begins came known left after cut none_read end;
  refused = (none_in_ended limit room came none, inl (lt, none, more));
}

-- if the reader failed, every input may be refused with `Read`
refuse_unread : (limit room : ℕ) (known : Option (List ℕ)) → IsRefused limit room known Read
refuse_unread limit room None = record { input = []; told = tt; refused = tt }
refuse_unread limit room (Some all) = record { input = all; told = refl; refused = tt }

-- so a result that is `Read` satisfies what is promised of a fault
pub refused_unread : (limit room : ℕ) (known : Option (List ℕ)) (result : Result Head HeadFault) → IsErrAnd result (λ f. f ≡ Read) → IfErr result (IsRefused limit room known)
refused_unread limit room known (Ok head) h = tt
refused_unread limit room known (Err f) h = subst (IsRefused limit room known) (sym h) (refuse_unread limit room known)
