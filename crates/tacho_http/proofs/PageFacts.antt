-- What docs/FORMATS.md says of replies is what the definitions say: with another value here, this file isn't accepted. RouteVectors has
-- what the paths of that page name.
use Rattle.std.proofs.Common.{◌≡◌, [], ◌∷◌, ◌++◌, Ok, Err, codes, map, true, false, refl, replicate}
use Rattle.std.specs.Fmt.{digits}
use Rattle.tacho_card.specs.declared.fault.CardFault.TheVariants as card
use Rattle.tacho_state.specs.declared.driver.Column.TheVariants as column
use Rattle.tacho_state.specs.declared.fault.StoreFault.TheVariants as store
use Rattle.tacho_time.specs.declared.fault.TimeFault.TheVariants as time
use Rattle.tacho_sheet.specs.declared.fault.LeftOut.TheVariants as left_out
use Rattle.tacho_sheet.specs.declared.fault.SheetFault.TheVariants as sheet
use Rattle.tacho_sheet.specs.Fault.{card_fault, fault_of_store, sheet_fault}
use Rattle.tacho_desk.specs.Told.{Added, File, Line, Long}
use Rattle.tacho_sheet.specs.declared.fault.Fault.TheVariants as fault
use Rattle.tacho_desk.specs.declared.want.MonthOfAll.TheVariants as all
use Rattle.tacho_desk.specs.declared.want.MonthReading.TheVariants as month
use Rattle.tacho_desk.specs.declared.want.Reading.TheVariants as reading
use Rattle.tacho_desk.specs.declared.want.Want.TheVariants as want
use Rattle.tacho_message.specs.Reply.{head_bytes}
use Rattle.tacho_message.specs.declared.reply.MediaType.TheVariants as media
use Rattle.tacho_message.specs.declared.reply.Status.TheVariants as status
use Rattle.tacho_http.specs.Answer.{is_done}
use Rattle.tacho_http.specs.Reply.{bytes_of_reply, fault_status, media_of, reply_of_status, fixed_text, reply_to, store_status}

-- ---- the statuses of refusals

-- of the archive's refusals, S1 to S14
pub archive_conflicts : map store_status (store.DriverTaken ∷ store.KeyTaken ∷ store.HolderTaken ∷ store.Contradiction 0
    ∷ store.AlreadyWithdrawn ∷ store.Full ∷ []) ≡ replicate 6 status.Conflict
archive_conflicts = refl

pub archive_lacks : map store_status (store.UnknownDriver ∷ store.UnknownEntry ∷ store.UnknownDownload ∷ []) ≡ replicate 3 status.NotFound
archive_lacks = refl

pub archive_forbids : store_status store.NotYourCard ≡ status.Forbidden
archive_forbids = refl

pub archive_refuses : map store_status (store.NotMonday ∷ store.Card card.NoActivity ∷ []) ≡ replicate 2 status.UnprocessableEntity
archive_refuses = refl

pub archive_fails : map store_status (store.Store ∷ store.OldSchema ∷ store.Memory ∷ [])
    ≡ replicate 3 status.Unavailable
archive_fails = refl

-- if a library below ran out of memory
pub memory_is_out : map fault_status (card_fault card.Memory ∷ sheet_fault sheet.Memory ∷ fault_of_store store.Memory
    ∷ fault_of_store (store.Card card.Memory) ∷ []) ≡ replicate 4 status.Unavailable
memory_is_out = refl

-- of bad arguments in a path
pub words_are_wrong : map fault_status (fault.Number ∷ fault.Order ∷ fault.Period ∷ fault.Part ∷ fault.Time time.Shape ∷ fault.Time time.NoSuchDate ∷ fault.Time time.OutOfRange ∷ [])
    ≡ replicate 7 status.BadRequest
words_are_wrong = refl

-- of bad rows in a body
pub rows_are_wrong : map (λ f. fault_status (fault.Sheet f)) (sheet.Head ∷ (sheet.Fields 2) ∷ (sheet.Time 2) ∷ (sheet.Order 2)
    ∷ (sheet.LeftOut 2 left_out.Crew) ∷ (sheet.Activity 2) ∷ (sheet.TooLong 2) ∷ sheet.Csv ∷ (sheet.Column column.Holder)
    ∷ (sheet.Text 2 column.Author) ∷ (sheet.Text 2 column.Note) ∷ [])
    ≡ replicate 11 status.UnprocessableEntity
rows_are_wrong = refl

-- ---- fixed bodies

pub fixed_texts : map fixed_text (status.BadRequest ∷ status.Forbidden ∷ status.NotFound ∷ status.MethodNotAllowed ∷ status.LengthRequired
    ∷ status.PayloadTooLarge ∷ status.FieldsTooLarge ∷ status.Unavailable ∷ [])
    ≡ codes "bad request\n" ∷ codes "forbidden\n" ∷ codes "not found\n" ∷ codes "method not allowed\n" ∷ codes "length required\n"
    ∷ codes "too large\n" ∷ codes "head too large\n" ∷ codes "unavailable\n" ∷ []
fixed_texts = refl

-- the reply to out of memory, and to a store failure, has only the fixed text
pub no_memory : reply_to want.Drivers (Err fault.Memory) ≡ reply_of_status status.Unavailable
no_memory = refl

pub store_failed : reply_to want.Drivers (Err (fault.Store store.Store)) ≡ reply_of_status status.Unavailable
store_failed = refl

-- ---- whole replies

pub another_is_forbidden : bytes_of_reply (reply_of_status status.Forbidden)
    ≡ codes "HTTP/1.1 403 Forbidden\r\ncontent-type: text/plain; charset=utf-8\r\ncontent-length: 10\r\nconnection: close\r\n\r\nforbidden\n"
unfolding head_bytes digits
another_is_forbidden = refl

-- the text of `GET /me/breaches`
pub own_breaches : bytes_of_reply (reply_to (want.Reading reading.Breaches) (Ok (Long (
    codes "B1 Art 7 at 2024-03-04 13:00 since 2024-03-04 08:30 amount 240\n" ++ codes "EXAMINED TO 2024-03-04 17:00 unknown\n"))))
    ≡ codes "HTTP/1.1 200 OK\r\ncontent-type: text/plain; charset=utf-8\r\ncontent-length: 100\r\nconnection: close\r\n\r\n"
    ++ codes "B1 Art 7 at 2024-03-04 13:00 since 2024-03-04 08:30 amount 240\nEXAMINED TO 2024-03-04 17:00 unknown\n"
unfolding head_bytes digits
own_breaches = refl

pub file_is_repeated : bytes_of_reply (reply_to want.Import (Ok (Line (codes "repeated driver 17\n"))))
    ≡ codes "HTTP/1.1 200 OK\r\ncontent-type: text/plain; charset=utf-8\r\ncontent-length: 19\r\nconnection: close\r\n\r\nrepeated driver 17\n"
unfolding head_bytes digits
file_is_repeated = refl

pub file_was_added : (reply_to want.Import (Ok (Added (codes "added driver 17 number 1\n")))).status ≡ status.Created
file_was_added = refl

pub own_file : reply_to want.File (Ok (File (1 ∷ 2 ∷ []))) ≡ record { status = status.Okay; media = media.Octets; body = 1 ∷ 2 ∷ [] }
own_file = refl

pub own_form : reply_to want.Form (Ok (Long (codes "start\n"))) ≡ record { status = status.Okay; media = media.Csv; body = codes "start\n" }
own_form = refl

pub types : map media_of (want.MonthReading month.Chart ∷ want.MonthOfAll all.Standing ∷ want.MonthOfAll all.Overview ∷ want.MonthOfAll all.Incidents ∷ want.Forecast ∷ want.Handover ∷ want.Reading reading.Files ∷ want.MonthReading month.Spans ∷ [])
    ≡ media.Svg ∷ media.Csv ∷ media.Csv ∷ media.Csv ∷ media.Csv ∷ media.Tar ∷ media.Text ∷ media.Text ∷ []
types = refl

-- ---- the statuses of requests that were done

pub done_is_told : map is_done (status.Okay ∷ status.Created ∷ status.BadRequest ∷ status.Forbidden ∷ status.NotFound ∷ status.Conflict ∷ status.Unavailable ∷ [])
    ≡ true ∷ true ∷ false ∷ false ∷ false ∷ false ∷ false ∷ []
done_is_told = refl
