-- Trusted in part: The replies: what a request is answered, with the status and the type of the body.
use Rattle.std.specs.Prelude.{ℕ, List, [], Ok, Err, codes}
use Rattle.tacho_state.specs.declared.fault.StoreFault.{StoreFault}
use Rattle.tacho_state.specs.declared.fault.StoreFault.TheVariants as store
use Rattle.tacho_sheet.specs.Lines.{fault_line}
use Rattle.tacho_desk.specs.Told.{Answer, Told, Added, bytes_of, told_text}
use Rattle.tacho_sheet.specs.declared.fault.Fault.{Fault}
use Rattle.tacho_sheet.specs.declared.fault.Fault.TheVariants as fault
use Rattle.tacho_desk.specs.declared.want.MonthReading.TheVariants as month
use Rattle.tacho_desk.specs.declared.want.Want.{Want}
use Rattle.tacho_desk.specs.declared.want.Want.TheVariants as want
use Rattle.tacho_message.specs.Reply.{reply_bytes}
use Rattle.tacho_message.specs.declared.reply.MediaType.{MediaType}
use Rattle.tacho_message.specs.declared.reply.MediaType.TheVariants as media
use Rattle.tacho_message.specs.declared.reply.Status.{Status}
use Rattle.tacho_message.specs.declared.reply.Status.TheVariants as status
use Rattle.tacho_http.specs.declared.response.Body.{Body}
use Rattle.tacho_http.specs.declared.response.Body.TheVariants as body
use Rattle.tacho_http.specs.declared.response.Response.{Response}

pub record Reply : Type 0 where
  pub status : Status
  pub media : MediaType
  pub body : List ℕ

-- the bytes that are written
abbrev pub bytes_of_reply : Reply → List ℕ
bytes_of_reply r = reply_bytes r.status r.media r.body

abbrev pub text_reply : Status → List ℕ → Reply
text_reply s text = record { status = s; media = media.Text; body = text }

-- the body of a reply that isn't the line of a fault or the text of a task
abbrev pub fixed_text : Status → List ℕ
fixed_text status.BadRequest = codes "bad request\n"
fixed_text status.Forbidden = codes "forbidden\n"
fixed_text status.NotFound = codes "not found\n"
fixed_text status.MethodNotAllowed = codes "method not allowed\n"
fixed_text status.LengthRequired = codes "length required\n"
fixed_text status.PayloadTooLarge = codes "too large\n"
fixed_text status.FieldsTooLarge = codes "head too large\n"
fixed_text status.Unavailable = codes "unavailable\n"
fixed_text other = []

abbrev pub reply_of_status : Status → Reply
reply_of_status s = text_reply s (fixed_text s)

-- the status of the archive's refusals; below, also of bad arguments in a path and of bad rows in a body
abbrev pub store_status : StoreFault → Status
store_status store.DriverTaken = status.Conflict
store_status store.KeyTaken = status.Conflict
store_status store.HolderTaken = status.Conflict
store_status store.UnknownDriver = status.NotFound
store_status store.NotYourCard = status.Forbidden
store_status (store.Contradiction minute) = status.Conflict
store_status store.UnknownEntry = status.NotFound
store_status store.AlreadyWithdrawn = status.Conflict
store_status store.NotMonday = status.UnprocessableEntity
store_status store.UnknownDownload = status.NotFound
store_status (store.Card f) = status.UnprocessableEntity
store_status store.Store = status.Unavailable
store_status store.OldSchema = status.Unavailable
store_status store.Full = status.Conflict
store_status store.Memory = status.Unavailable

abbrev pub fault_status : Fault → Status
fault_status (fault.Time f) = status.BadRequest
fault_status fault.Number = status.BadRequest
fault_status fault.Order = status.BadRequest
fault_status fault.Period = status.BadRequest
fault_status fault.Part = status.BadRequest
fault_status fault.TooLarge = status.PayloadTooLarge
fault_status (fault.Card f) = status.UnprocessableEntity
fault_status (fault.Store f) = store_status f
fault_status (fault.Sheet f) = status.UnprocessableEntity
fault_status fault.Device = status.Unavailable
fault_status fault.Memory = status.Unavailable

-- the line of the fault, unless the status is 503 (out of memory, a failed store or device, an old schema): then the fixed text
abbrev pub line_reply : Status → Fault → Reply
line_reply status.Unavailable f = reply_of_status status.Unavailable
line_reply s f = text_reply s (fault_line f)

abbrev pub fault_reply : Fault → Reply
fault_reply f = line_reply (fault_status f) f

-- the type of what a task answers
abbrev pub media_of : Want → MediaType
media_of want.File = media.Octets
media_of want.Handover = media.Tar
media_of want.Form = media.Csv
media_of (want.MonthReading month.Chart) = media.Svg
media_of (want.MonthOfAll reading) = media.Csv
media_of want.Forecast = media.Csv
media_of want = media.Text

-- 201 if something was added
abbrev pub done_status : Told → Status
done_status (Added line) = status.Created
done_status told = status.Okay

-- the reply of a task of this kind that was done
abbrev pub done_reply : Want → Told → Reply
done_reply want told = record { status = done_status told; media = media_of want; body = bytes_of told }

abbrev pub reply_to : Want → Answer → Reply
reply_to want (Ok told) = done_reply want told
reply_to want (Err f) = fault_reply f

-- ---- the reply in a value of the code

abbrev pub body_bytes : Body → List ℕ
body_bytes (body.Fixed text) = text.now
body_bytes (body.Line line) = line.bytes
body_bytes (body.Told text) = bytes_of (told_text text)

abbrev pub reply_of : Response → Reply
reply_of r = record { status = r.status; media = r.media; body = body_bytes r.body }
