-- Trusted: The body of a request: the n bytes after its head.
use Rattle.std.specs.Prelude.{◌≡◌, ◌<◌, ◌≤◌, ◌++◌, ℕ, List, Option, IfSome, length, take}
use Rattle.std.specs.Io.KnownBytes.{Consumes}

-- `body` is the first n of the bytes that came after the head, followed by the unread ones; `left` is the reader's unread bytes if they are
-- known, otherwise some bytes
pub record IsBody (after_head : List ℕ) (unread : Option (List ℕ)) (n : ℕ) (body : List ℕ) : Type 0 where
  pub left : List ℕ
  pub told : IfSome unread (λ all. left ≡ all)
  pub long : n ≤ length (after_head ++ left)
  pub bytes : body ≡ take n (after_head ++ left)

-- the input ends before the end of the body
pub record IsCutShort (after_head : List ℕ) (unread : Option (List ℕ)) (n : ℕ) : Type 0 where
  pub left : List ℕ
  pub told : IfSome unread (λ all. left ≡ all)
  pub short : length (after_head ++ left) < n

-- the reader has given fewer bytes since then than the body needed
pub record Lacks (after_head : List ℕ) (old new : Option (List ℕ)) (n : ℕ) : Type 0 where
  pub given : List ℕ
  pub came : Consumes old new given
  pub short : length (after_head ++ given) < n
