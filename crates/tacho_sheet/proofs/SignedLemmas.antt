-- What the tests of an author and of a note decide.
use Rattle.std.proofs.Common.{◌≡◌, ◌≤◌, ℕ, Bool, true, false, List, length, refl, arith, nat_le, nat_eq, not}
use Rattle.std.specs.Bool.{Decides}
use Rattle.std.specs.List.{All, list_all}
use Rattle.std.specs.Str.{IsUtf8, is_utf8}
use Rattle.std.proofs.lemmas.Str.{IsUtf8-from_is_utf8, is_utf8-from_IsUtf8}
use Rattle.std.proofs.lemmas.Bool.Decides.{Decides-and, Decides-by_and, Decides-eqb, Decides-like, Decides-not, nat_tests}
use Rattle.tacho_state.specs.Limits.{IsName, IsNameByte, IsNote}
use Rattle.tacho_sheet.specs.Entries.{is_author, is_name_byte, is_note, is_plain_text}

-- the test of the order of two numbers
at_most : (a b : ℕ) → Decides (nat_le a b) (a ≤ b)
at_most a b = (λ h. grind (arith, nat_tests), λ h. grind (arith, nat_tests))

-- the test of a byte
name_byte : (c : ℕ) → Decides (is_name_byte c) (IsNameByte c)
name_byte c =
    Decides-like (is_name_byte c)
    (λ h. record { printed = h.0; no_delete = h.1.0; no_comma = h.1.1.0; no_quote = h.1.1.1 })
    (λ h. (h.printed, (h.no_delete, (h.no_comma, h.no_quote))))
    (Decides-and (nat_le 32 c) _ (at_most 32 c)
    (Decides-and (not (nat_eq c 127)) _ (Decides-not (nat_eq c 127) (Decides-eqb c 127))
    (Decides-and (not (nat_eq c 44)) (not (nat_eq c 34))
    (Decides-not (nat_eq c 44) (Decides-eqb c 44)) (Decides-not (nat_eq c 34) (Decides-eqb c 34)))))

-- the test of the bytes of a text
plain_text : (text : List ℕ) → Decides (is_plain_text text) (IsUtf8 text × All IsNameByte text)
plain_text text =
    Decides-and (is_utf8 text) (list_all is_name_byte text) (IsUtf8-from_is_utf8 text, is_utf8-from_IsUtf8 text)
    (Decides-by_and is_name_byte IsNameByte (list_all is_name_byte) name_byte refl (λ _ _. refl) text)

-- a test of something that doesn't hold fails
fails : {P : Type 0} (r : Bool) → Decides r P → ¬ P → r ≡ false
fails true d h = absurd (h (d.0 refl))
fails false d h = refl

-- a text is an author if it is UTF-8 and a name
pub author_text : (text : List ℕ) → Decides (is_author text) (IsUtf8 text × IsName text)
author_text text =
    Decides-like (is_author text)
    (λ h. (h.0.0, record { least = h.1.0; most = h.1.1; bytes = h.0.1 }))
    (λ h. ((h.0, h.1.bytes), (h.1.least, h.1.most)))
    (Decides-and (is_plain_text text) _ (plain_text text)
    (Decides-and (nat_le 1 (length text)) (nat_le (length text) 64) (at_most 1 (length text)) (at_most (length text) 64)))

-- a text is a note if it is UTF-8 and a note
pub note_text : (text : List ℕ) → Decides (is_note text) (IsUtf8 text × IsNote text)
note_text text =
    Decides-like (is_note text)
    (λ h. (h.0.0, record { most = h.1; bytes = h.0.1 }))
    (λ h. ((h.0, h.1.bytes), h.1.most))
    (Decides-and (is_plain_text text) (nat_le (length text) 200) (plain_text text) (at_most (length text) 200))

-- other texts are no author
pub no_author : (text : List ℕ) → ¬ (IsUtf8 text × IsName text) → is_author text ≡ false
no_author text = fails (is_author text) (author_text text)

pub no_note : (text : List ℕ) → ¬ (IsUtf8 text × IsNote text) → is_note text ≡ false
no_note text = fails (is_note text) (note_text text)
