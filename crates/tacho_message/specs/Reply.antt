-- Trusted: The bytes of a reply.
use Rattle.std.specs.Prelude.{◌++◌, ℕ, List, [], length, codes, decimal}
use Rattle.tacho_message.specs.declared.reply.Status.{Status}
use Rattle.tacho_message.specs.declared.reply.Status.TheVariants as status
use Rattle.tacho_message.specs.declared.reply.MediaType.{MediaType}
use Rattle.tacho_message.specs.declared.reply.MediaType.TheVariants as media
use Rattle.tacho_message.specs.declared.reply.PageType.{PageType}
use Rattle.tacho_message.specs.declared.reply.PageType.TheVariants as page

abbrev pub status_line : Status → List ℕ
status_line status.Okay = codes "200 OK"
status_line status.Created = codes "201 Created"
status_line status.BadRequest = codes "400 Bad Request"
status_line status.Forbidden = codes "403 Forbidden"
status_line status.NotFound = codes "404 Not Found"
status_line status.MethodNotAllowed = codes "405 Method Not Allowed"
status_line status.Conflict = codes "409 Conflict"
status_line status.LengthRequired = codes "411 Length Required"
status_line status.PayloadTooLarge = codes "413 Payload Too Large"
status_line status.UnprocessableEntity = codes "422 Unprocessable Entity"
status_line status.FieldsTooLarge = codes "431 Request Header Fields Too Large"
status_line status.Unavailable = codes "503 Service Unavailable"

abbrev pub page_type : PageType → List ℕ
page_type page.Html = codes "text/html; charset=utf-8"
page_type page.Css = codes "text/css; charset=utf-8"
page_type page.JavaScript = codes "text/javascript; charset=utf-8"
page_type page.Text = codes "text/plain; charset=utf-8"

abbrev pub media_type : MediaType → List ℕ
media_type media.Text = codes "text/plain; charset=utf-8"
media_type media.Csv = codes "text/csv; charset=utf-8"
media_type media.Svg = codes "image/svg+xml"
media_type media.Octets = codes "application/octet-stream"
media_type media.Tar = codes "application/x-tar"
media_type (media.Page k) = page_type k

-- the fields that a page file has beside those of all replies: what a browser may load and do for it
abbrev pub page_fields : List ℕ
page_fields =
    codes "content-security-policy: default-src 'none'; script-src 'self'; style-src 'self'; connect-src 'self'; "
    ++ codes "img-src data:; base-uri 'none'; form-action 'none'; frame-ancestors 'none'; require-trusted-types-for 'script'\r\n"
    ++ codes "x-content-type-options: nosniff\r\n"
    ++ codes "referrer-policy: no-referrer\r\n"
    ++ codes "cross-origin-opener-policy: same-origin\r\n"
    ++ codes "cache-control: no-cache\r\n"

abbrev pub further_fields : MediaType → List ℕ
further_fields (media.Page k) = page_fields
further_fields other = []

unfoldable pub head_bytes : Status → MediaType → ℕ → List ℕ
head_bytes s k n =
    codes "HTTP/1.1 " ++ status_line s ++ codes "\r\ncontent-type: " ++ media_type k
    ++ codes "\r\ncontent-length: " ++ decimal n ++ codes "\r\nconnection: close\r\n" ++ further_fields k ++ codes "\r\n"

abbrev pub reply_bytes : Status → MediaType → List ℕ → List ℕ
reply_bytes s k body = head_bytes s k (length body) ++ body
