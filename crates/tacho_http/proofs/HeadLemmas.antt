-- The head of an input, and the replies that the input may get.
use Rattle.std.proofs.Common.{◌≡◌, ◌≤◌, ◌++◌, ◌∙◌, ℕ, List, Option, length, take, drop, arith, inl, sym, ap}
use Rattle.std.proofs.lemmas.Grind.{common_steps}
use Rattle.std.proofs.lemmas.List.{length-map}
use Rattle.httparse.specs.Grammar.{RequestHead}
use Rattle.httparse.specs.Spans.{IsRequestAt, IsRequestWithin, header_bytes, name_and_value}
use Rattle.httparse.specs.declared.spans.HeaderSpan.{HeaderSpan}
use Rattle.httparse.specs.declared.spans.RequestSpans.{RequestSpans}
use Rattle.httparse.proofs.GrammarLemmas.{ReadsRequest-append}
use Rattle.tacho_message.specs.Head.{BeginsWith, IsUnfinished as HeadUnfinished}
use Rattle.tacho_state.specs.declared.caller.Caller.{Caller}
use Rattle.tacho_http.specs.Answer.{IsUnfinished}

-- the head with which an input begins, found from the bytes that came
pub begins_with : (buffer : List ℕ) (filled : ℕ) {headers : List HeaderSpan} {spans : RequestSpans} {h : RequestHead} (more : List ℕ)
    → length buffer ≡ 8192 → length headers ≡ 32 → IsRequestWithin (take filled buffer) headers spans
    → IsRequestAt (take filled buffer) headers spans h
    → BeginsWith 8192 32 (take filled buffer ++ more) h (drop spans.len (take filled buffer) ++ more)
begins_with buffer filled {headers} {spans} {h} more size room within at =
    let came : length (take filled buffer) ≤ length buffer = grind (arith, common_steps) in
    let taken : length (take spans.headers headers) ≤ length headers = grind (arith, common_steps) in
    let fields = sym (length-map _ (header_bytes _)) ∙ (ap length at.fields ∙ length-map h.fields name_and_value) in
    let fits = within.section.len_fits in
    let len = at.len in
    record {
      reads = ReadsRequest-append (take filled buffer) h (drop spans.len (take filled buffer)) more at.reads;
      size = omega arith;
      fields = omega arith;
    }

-- an unfinished head is no whole request, whoever asks
pub no_request : {IsBy : List ℕ → Caller → Type 0} {old new : Option (List ℕ)} → HeadUnfinished 8192 old new → IsUnfinished IsBy old new
no_request h = record { given = h.given; came = h.came; part = inl (h.short, h.none, h.more) }
