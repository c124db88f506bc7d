-- Trusted in part: The fields of a head by name, and the length of a body.
use Rattle.std.specs.Prelude.{◌≡◌, ◌<◌, ◌&&◌, ◌++◌, if◌then◌else◌, ℕ, Bool, List, [], ◌∷◌, Option, Some, None, length, map, nat_lt, nat_le, bytes_eq}
use Rattle.std.specs.Char.{to_ascii_lowercase}
use Rattle.std.specs.Str.{all_ascii_digits}
use Rattle.std.specs.Str.Parse.{digits_value}
use Rattle.tacho_message.specs.declared.fields.Values.{Values}
use Rattle.tacho_message.specs.declared.fields.Values.TheVariants as values

-- the names are equal, ignoring the case of ASCII letters
abbrev pub same_name : List ℕ → List ℕ → Bool
same_name a b = bytes_eq (map to_ascii_lowercase a) (map to_ascii_lowercase b)

-- the values of the fields with a name, in order
abbrev pub values_under : List ℕ → List (List ℕ × List ℕ) → List (List ℕ)
values_under name [] = []
values_under name (field ∷ fields) =
    if same_name field.0 name then field.1 ∷ values_under name fields else values_under name fields

-- none, exactly one, or more
abbrev pub AreValues : List (List ℕ) → Values → Type 0
AreValues found values.None = found ≡ []
AreValues found (values.One value) = found ≡ value.now ∷ []
AreValues found values.Many = 1 < length found

-- the values, followed by one more
abbrev pub WithValue : List ℕ → Values → Values → Type 0
WithValue value old new = (found : List (List ℕ)) → AreValues found old → AreValues (found ++ value ∷ []) new

-- the length that 1 to 12 digits give
abbrev pub length_told : List ℕ → Option ℕ
length_told text =
    if nat_lt 0 (length text) && (nat_le (length text) 12 && all_ascii_digits text) then Some (digits_value 10 text) else None
