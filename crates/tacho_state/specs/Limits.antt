-- Trusted: Which texts are keys, names and notes, and how many numbers are given out.
use Rattle.std.specs.Prelude.{◌≡◌, ◌≢◌, ℕ, ◌+◌, ◌≤◌, ◌⊎◌, List, length, All, Option, Some, None, if◌then◌else◌, nat_le, IsTrue}
use Rattle.std.specs.Char.{is_ascii_alphanumeric}

-- a letter, a digit or a hyphen
abbrev pub IsKeyByte : ℕ → Type 0
IsKeyByte c = IsTrue (is_ascii_alphanumeric c) ⊎ (c ≡ 45)

-- a key: 8 to 64 such bytes
pub record IsKey (text : List ℕ) : Type 0 where
  pub least : 8 ≤ length text
  pub most : length text ≤ 64
  pub bytes : All IsKeyByte text

-- a byte of a name: no control character, comma or double quote
pub record IsNameByte (c : ℕ) : Type 0 where
  pub printed : 32 ≤ c
  pub no_delete : c ≢ 127
  pub no_comma : c ≢ 44
  pub no_quote : c ≢ 34

-- a name: 1 to 64 such bytes
pub record IsName (text : List ℕ) : Type 0 where
  pub least : 1 ≤ length text
  pub most : length text ≤ 64
  pub bytes : All IsNameByte text

-- a note: at most 200 such bytes
pub record IsNote (text : List ℕ) : Type 0 where
  pub most : length text ≤ 200
  pub bytes : All IsNameByte text

-- the first of `count` new numbers after `given` numbers were given out, if there are that many: numbers end at 1,000,000
abbrev pub next_number : ℕ → ℕ → Option ℕ
next_number given count = if nat_le (given + count) 1000000 then Some (given + 1) else None
