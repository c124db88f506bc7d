-- What two reads in sequence into one buffer consume.
use Rattle.std.proofs.Common.{◌≡◌, ◌<◌, ◌≤◌, ◌+◌, ◌-◌, ◌++◌, ◌∙◌, ℕ, List, [], Option, Some, None, IfSome, length, take, refl, sym, ap, arith, append_assoc, length-append}
use Rattle.std.proofs.Math.Seq.{take-append-add}
use Rattle.std.proofs.lemmas.List.{append-nil, take-append-le}
use Rattle.std.proofs.lemmas.Grind.{common_steps}
use Rattle.std.specs.Io.KnownBytes.{Consumes, IsAtEnd, Keeps}
use Rattle.tacho_message.specs.Body.{IsBody, IsCutShort, Lacks}
use borrow.Rule.Slice.PartMut.{put_mid, post_of}

-- a prefix of two joined lists that is longer than the first
pub take-append-more : (n k : ℕ) (a b : List ℕ) → n ≡ length a + k → take n (a ++ b) ≡ a ++ take k b
take-append-more n k a b h = rw h (take-append-add a b k)

-- the bytes in the buffer, followed by those that were read
put_front : (buf part : List ℕ) (at n : ℕ) → at ≤ length buf → n ≤ length part
    → take (at + n) (put_mid at (length buf - at) buf part) ≡ take at buf ++ take n part
put_front buf part at n h le =
    let front : length (take at buf) ≡ at = grind (arith, common_steps) in
    take-append-more (at + n) n (take at buf) (part ++ post_of at (length buf - at) buf) (omega arith)
    ∙ ap (λ t. take at buf ++ t) (take-append-le n part (post_of at (length buf - at) buf) le)

-- both reads together consume the joined bytes
pub two_reads : (known left after : Option (List ℕ)) (buf part : List ℕ) (at n : ℕ) → at ≤ length buf → n ≤ length part
    → Consumes known left (take at buf) → Consumes left after (take n part)
    → Consumes known after (take (at + n) (put_mid at (length buf - at) buf part))
two_reads None left after buf part at n h le x y = tt
two_reads (Some a) None after buf part at n h le x y = absurd x
two_reads (Some a) (Some b) None buf part at n h le x y = absurd y
two_reads (Some a) (Some b) (Some c) buf part at n h le x y =
    rw (put_front buf part at n h le) (x ∙ (ap (λ t. take at buf ++ t) y ∙ sym (append_assoc (take at buf) (take n part) c)))

-- the bytes that were read lie within the buffer
pub put_fits : (buf part : List ℕ) (at n : ℕ) → at ≤ length buf → n ≤ length part
    → at + n ≤ length (put_mid at (length buf - at) buf part)
put_fits buf part at n h le =
    let front : length (take at buf) ≡ at = grind (arith, common_steps) in
    simp (length-append, front) (omega arith)

-- an input that begins with what came: the reader's input if it is known, otherwise just what came
pub record Begins (came : List ℕ) (known left : Option (List ℕ)) : Type 0 where
  pub input : List ℕ
  pub rest : List ℕ
  pub told : IfSome known (λ all. input ≡ all)
  pub unread : IfSome known (λ all. left ≡ Some rest)
  pub is : input ≡ came ++ rest

-- such an input exists
pub some_begins : (came : List ℕ) (known left : Option (List ℕ)) → Consumes known left came → Begins came known left
some_begins came None left h = record { input = came; rest = []; told = tt; unread = tt; is = sym (append-nil came) }
some_begins came (Some all) None h = absurd h
some_begins came (Some all) (Some rest) h = record { input = all; rest = rest; told = refl; unread = refl; is = h }

-- if the reader is at its end, what came is the whole input
pub ended_begins : (came : List ℕ) (known left after : Option (List ℕ)) → Consumes known left came → Consumes left after [] → IsAtEnd after
    → IfSome known (λ all. came ≡ all)
ended_begins came None left after h none end = tt
ended_begins came (Some all) None after h none end = absurd h
ended_begins came (Some all) (Some rest) None h none end = absurd none
ended_begins came (Some all) (Some rest) (Some more) h none end =
    let empty : rest ≡ [] = none ∙ end in
    sym (rw empty at h ∙ append-nil came)

-- ---- a buffer that was not filled

-- a prefix that doesn't fill the buffer is shorter than the buffer
front_length : (buf : List ℕ) (at : ℕ) → at < length buf → length (take at buf) < length buf
front_length buf at h = grind (arith, common_steps)

-- if a read returns no bytes, the input is shorter than the buffer
pub ended_short : (known left after : Option (List ℕ)) (buf : List ℕ) (at : ℕ) → at < length buf → Consumes known left (take at buf)
    → Consumes left after [] → IsAtEnd after → IsCutShort [] known (length buf)
ended_short known left after buf at h x y e =
    record { left = take at buf; told = ended_begins (take at buf) known left after x y e; short = front_length buf at h }

-- ---- a body

-- the body consists of what came after the head, and of what was read then
pub body_of : (after_head : List ℕ) (n : ℕ) (old new : Option (List ℕ)) (part items : List ℕ) → Consumes old new part
    → length part ≡ n - length after_head → items ≡ take n after_head ++ part → IsBody after_head old n items
body_of after_head n old new part items cut long is =
    let b = some_begins part old new cut in
    record {
      left = b.input;
      told = b.told;
      long = rw b.is (simp (length-append, long) (omega arith));
      bytes = is ∙ sym (rw b.is (take_body after_head part b.rest n long));
    }
  where
    take_body : (after_head part rest : List ℕ) (n : ℕ) → length part ≡ n - length after_head → take n (after_head ++ (part ++ rest)) ≡ take n after_head ++ part
    take_body after_head part rest n long = grind (arith, common_steps)
