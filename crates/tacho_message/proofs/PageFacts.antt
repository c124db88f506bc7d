-- What docs/FORMATS.md says of requests and replies is what the definitions say: with another value here, this file isn't accepted.
use Rattle.std.proofs.Common.{◌≡◌, [], ◌∷◌, Ok, Err, Some, None, codes, true, false, refl}
use Rattle.std.specs.Fmt.{digits}
use Rattle.tacho_message.specs.Length.{body_length, method_of}
use Rattle.tacho_message.specs.Reply.{head_bytes, media_type, status_line}
use Rattle.tacho_message.specs.declared.method.Method.TheVariants as method
use Rattle.tacho_message.specs.declared.reply.MediaType.TheVariants as media
use Rattle.tacho_message.specs.declared.reply.Status.TheVariants as status

-- ---- status lines

pub line_of_okay : status_line status.Okay ≡ codes "200 OK"
line_of_okay = refl

pub line_of_created : status_line status.Created ≡ codes "201 Created"
line_of_created = refl

pub line_of_bad_request : status_line status.BadRequest ≡ codes "400 Bad Request"
line_of_bad_request = refl

pub line_of_forbidden : status_line status.Forbidden ≡ codes "403 Forbidden"
line_of_forbidden = refl

pub line_of_not_found : status_line status.NotFound ≡ codes "404 Not Found"
line_of_not_found = refl

pub line_of_method_not_allowed : status_line status.MethodNotAllowed ≡ codes "405 Method Not Allowed"
line_of_method_not_allowed = refl

pub line_of_conflict : status_line status.Conflict ≡ codes "409 Conflict"
line_of_conflict = refl

pub line_of_length_required : status_line status.LengthRequired ≡ codes "411 Length Required"
line_of_length_required = refl

pub line_of_payload_too_large : status_line status.PayloadTooLarge ≡ codes "413 Payload Too Large"
line_of_payload_too_large = refl

pub line_of_unprocessable_entity : status_line status.UnprocessableEntity ≡ codes "422 Unprocessable Entity"
line_of_unprocessable_entity = refl

pub line_of_fields_too_large : status_line status.FieldsTooLarge ≡ codes "431 Request Header Fields Too Large"
line_of_fields_too_large = refl

pub line_of_unavailable : status_line status.Unavailable ≡ codes "503 Service Unavailable"
line_of_unavailable = refl

-- ---- kinds of bodies, and a whole head

pub texts : media_type media.Text ≡ codes "text/plain; charset=utf-8"
texts = refl

pub tables : media_type media.Csv ≡ codes "text/csv; charset=utf-8"
tables = refl

pub drawings : media_type media.Svg ≡ codes "image/svg+xml"
drawings = refl

pub files : media_type media.Octets ≡ codes "application/octet-stream"
files = refl

pub head_of_nineteen : head_bytes status.Okay media.Text 19
    ≡ codes "HTTP/1.1 200 OK\r\ncontent-type: text/plain; charset=utf-8\r\ncontent-length: 19\r\nconnection: close\r\n\r\n"
unfolding head_bytes digits
head_of_nineteen = refl

-- ---- methods

pub get : method_of (codes "GET") ≡ Some method.Get
get = refl

pub post : method_of (codes "POST") ≡ Some method.Post
post = refl

pub small_letters : method_of (codes "get") ≡ None
small_letters = refl

pub other_method : method_of (codes "HEAD") ≡ None
other_method = refl

-- ---- the length of a body

pub five_bytes : body_length (Some method.Post) true ((codes "Content-Length", codes "5") ∷ []) ≡ Ok 5
five_bytes = refl

pub none_told : body_length (Some method.Post) true [] ≡ Err status.LengthRequired
none_told = refl

pub none_to_come : body_length (Some method.Post) false [] ≡ Ok 0
none_to_come = refl

pub one_to_come : body_length (Some method.Post) false ((codes "content-length", codes "1") ∷ []) ≡ Err status.BadRequest
one_to_come = refl

pub told_twice : body_length (Some method.Post) true ((codes "content-length", codes "5") ∷ (codes "content-length", codes "5") ∷ []) ≡ Err status.BadRequest
told_twice = refl

pub most : body_length (Some method.Post) true ((codes "content-length", codes "262144") ∷ []) ≡ Ok 262144
most = refl

pub too_large : body_length (Some method.Post) true ((codes "content-length", codes "262145") ∷ []) ≡ Err status.PayloadTooLarge
too_large = refl

pub thirteen_digits : body_length (Some method.Post) true ((codes "content-length", codes "0000000000005") ∷ []) ≡ Err status.BadRequest
thirteen_digits = refl

pub coded : body_length (Some method.Post) true ((codes "transfer-encoding", codes "chunked") ∷ (codes "content-length", codes "5") ∷ []) ≡ Err status.BadRequest
coded = refl

pub nothing_of_a_get : body_length (Some method.Get) true ((codes "content-length", codes "5") ∷ []) ≡ Ok 0
nothing_of_a_get = refl
