-- Trusted: The method of a request, and the length of its body.
use Rattle.std.specs.Prelude.{◌==◌, ◌||◌, ℕ, Bool, List, [], ◌∷◌, Option, Some, None, Result, Ok, Err, bytes_eq, codes, nat_lt, if◌then◌else◌}
use Rattle.tacho_message.specs.Fields.{length_told, values_under}
use Rattle.tacho_message.specs.declared.method.Method.{Method}
use Rattle.tacho_message.specs.declared.method.Method.TheVariants as method
use Rattle.tacho_message.specs.declared.reply.Status.{Status}
use Rattle.tacho_message.specs.declared.reply.Status.TheVariants as status

abbrev pub method_of : List ℕ → Option Method
method_of text =
    if bytes_eq text (codes "GET") then Some method.Get
    else (if bytes_eq text (codes "POST") then Some method.Post else None)

-- ---- the length of the body

-- 400 if the length can't be read, 413 if it is too large, and 400 if it isn't 0 although no body is taken
abbrev pub body_within : Bool → Option ℕ → Result ℕ Status
body_within takes None = Err status.BadRequest
body_within takes (Some n) =
    if nat_lt 262144 n then Err status.PayloadTooLarge
    else (if takes || (n == 0) then Ok n else Err status.BadRequest)

-- no value of `content-length`: 0 if no body is taken, otherwise 411; one value: its length; more: 400
abbrev pub body_told : Bool → List (List ℕ) → Result ℕ Status
body_told takes [] = if takes then Err status.LengthRequired else Ok 0
body_told takes (value ∷ []) = body_within takes (length_told value)
body_told takes (value ∷ other ∷ more) = Err status.BadRequest

-- any `transfer-encoding`: 400
abbrev pub body_coded : Bool → List (List ℕ) → List (List ℕ) → Result ℕ Status
body_coded takes [] lengths = body_told takes lengths
body_coded takes (coding ∷ more) lengths = Err status.BadRequest

abbrev pub post_length : Bool → List (List ℕ × List ℕ) → Result ℕ Status
post_length takes fields = body_coded takes (values_under (codes "transfer-encoding") fields) (values_under (codes "content-length") fields)

-- how many bytes of a body are read; for other methods than POST none, whatever the fields say
abbrev pub body_length : Option Method → Bool → List (List ℕ × List ℕ) → Result ℕ Status
body_length (Some method.Post) takes fields = post_length takes fields
body_length other takes fields = Ok 0
