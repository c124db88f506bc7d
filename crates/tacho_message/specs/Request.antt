-- Trusted: A request as it is passed on: the parts of its head, and the bytes that came after it.
use Rattle.std.specs.Prelude.{◌≡◌, All, List, [], ◌∷◌, Option, Some, None, codes, length, map, ℕ}
use Rattle.httparse.specs.Grammar.{RequestHead}
use Rattle.httparse.specs.Spans.{IsHeaderWithin, header_bytes, name_and_value}
use Rattle.tacho_message.specs.Fields.{values_under}
use Rattle.tacho_message.specs.declared.request.Request.{Request}

-- the names and the values of a head's fields
abbrev pub fields_of : RequestHead → List (List ℕ × List ℕ)
fields_of h = map name_and_value h.fields

-- the request has the parts of this head
pub record IsRequest (r : Request) (h : RequestHead) : Type 0 where
  pub method : r.method.now ≡ h.method
  pub path : r.path.now ≡ h.target
  pub within : All (IsHeaderWithin (length r.buffer.now)) r.fields.now
  pub fields : map (header_bytes r.buffer.now) r.fields.now ≡ fields_of h

-- the value, if there is exactly one
abbrev pub only_of : List (List ℕ) → Option (List ℕ)
only_of [] = None
only_of (value ∷ []) = Some value
only_of (value ∷ other ∷ more) = None

-- the value of the field `x-key`, if there is exactly one
abbrev pub key_of : RequestHead → Option (List ℕ)
key_of h = only_of (values_under (codes "x-key") (fields_of h))
