use Rattle.std.proofs.Common.{ap, true, Err, false, inl, inr, refl, sym}
use Rattle.tacho_message.specs.Length.{method_of}
use Rattle.tacho_http.specs.Asked.{is_post}
use Rattle.tacho_message.specs.declared.reply.Status.TheVariants as status
use Rattle.tacho_http.specs.Reply.{reply_of_status}
use Rattle.tacho_http.specs.Serve.{bad, headed, large}
use Rattle.tacho_http.proofs.HeadLemmas.{begins_with, no_request}
use Rattle.tacho_http.proofs.PageLemmas.{gives_page, no_file, no_head, no_page, page_does, reply_does, undone_page}
use Rattle.tacho_http.proofs.RespondLemmas.{consumed, keyed, nothing_answered, posted_by, some_left}
use Rattle.tacho_http.proofs.exchange.respond.Goals as goal

pub returns-in-Err-Bad-clause-answered : goal.returns-in-Err-Bad-clause-answered
returns-in-Err-Bad-clause-answered g c =
    let r = c.in-Err-Bad.ensures.refused in
    let why = rw c.in-Err-Bad.field-0-is at r.refused in
    let none = no_head c.args.files.now r.input why.0 in
    nothing_answered g.K.Keeper.same_self false r.told (λ p. absurd (why.0 p.0 p.1 p.2)) (λ is. cc) c.fixed.ensures (λ is. refl)
    (λ s. inr (none, bad why)) (reply_does _ _ _ _ none (λ clean done. cc))

pub returns-in-Err-TooLarge-clause-answered : goal.returns-in-Err-TooLarge-clause-answered
returns-in-Err-TooLarge-clause-answered g c =
    let r = c.in-Err-TooLarge.ensures.refused in
    let why = rw c.in-Err-TooLarge.field-0-is at r.refused in
    let none = no_head c.args.files.now r.input why.0 in
    nothing_answered g.K.Keeper.same_self false r.told (λ p. absurd (why.0 p.0 p.1 p.2)) (λ is. cc)
    c.fixed-in-Err-TooLarge.ensures (λ is. refl) (λ s. inr (none, large why)) (reply_does _ _ _ _ none (λ clean done. cc))

pub returns-in-Err-Read-clause-answered : goal.returns-in-Err-Read-clause-answered
returns-in-Err-Read-clause-answered g c =
    let i = some_left (g.R.Source.unread c.args.reader.now) in
    let part = c.in-Err-Read.ensures.unfinished (ap Err c.in-Err-Read.field-0-is) in
    record {
      answered = record {
        input = i.0;
        told = i.1;
        command = true;
        posted = λ p. refl;
        is_posted = tt;
        clean = λ clean. clean;
        answers = λ clean s st. st;
        same = λ undone clean s st. g.K.Keeper.same_self _;
        crash = λ clean s past st l. l;
        unfinished = λ e. no_request part;
        known = λ clean s st e. no_request part;
      };
      does = tt;
    }

pub returns-in-Some-clause-answered : goal.returns-in-Some-clause-answered
returns-in-Some-clause-answered g c =
    let d = c.in-Ok.ensures.head in
    let h = d.1.0 in
    let is = c.request_of-request.ensures.request h d.1.1 in
    let i = some_left (g.R.Source.unread c.read_head.new.reader) in
    let begins = begins_with c.read_head.new.buffer c.in-Ok.head.filled i.0 c.read_head.auto.buffer c.read_head.auto.fields d.0 d.1.1 in
    let has = rw is.path at (sym c.in-Some.ensures) in
    let reply = rw is.method at c.page.ensures in
    let gives = gives_page begins has in
    nothing_answered g.K.Keeper.same_self (is_post (method_of h.method)) (consumed _ _ _ i.0 c.in-Ok.ensures.read i.1)
    (posted_by _ _ h begins) (λ is. (h, _, begins, is)) reply (undone_page (method_of h.method) c.in-Some.file)
    (λ s. inl (gives, refl)) (page_does _ _ _ gives)

-- ---- no page file

pub returns-in-Some-key-clause-answered : goal.returns-in-Some-key-clause-answered
returns-in-Some-key-clause-answered g c =
    let d = c.in-Ok.ensures.head in
    let h = d.1.0 in
    let is = c.request_of-request.ensures.request h d.1.1 in
    let has = rw is.fields at (sym c.in-Some-key.ensures) in
    let none = rw (is.path, no_file c.file_at.result c.in_default.not-Some) at (sym c.file_at.ensures) in
    keyed _ _ has c.in-Ok.ensures.read
    (λ more. rw c.request_of-request.ensures.after_head
    (begins_with _ _ more c.read_head.auto.buffer c.read_head.auto.fields d.0 d.1.1))
    none (c.by_key.ensures.responds h is) (c.by_key.ensures.lacks h is has) (c.by_key.ensures.known h is has)

pub returns-in-None-clause-answered : goal.returns-in-None-clause-answered
returns-in-None-clause-answered g c =
    let d = c.in-Ok.ensures.head in
    let h = d.1.0 in
    let is = c.request_of-request.ensures.request h d.1.1 in
    let i = some_left (g.R.Source.unread c.read_head.new.reader) in
    let begins = begins_with c.read_head.new.buffer c.in-Ok.head.filled i.0 c.read_head.auto.buffer c.read_head.auto.fields d.0 d.1.1 in
    let none = no_page c.args.files.now begins (rw (is.path, no_file c.file_at.result c.in_default.not-Some) at (sym c.file_at.ensures)) in
    nothing_answered g.K.Keeper.same_self (is_post (method_of h.method)) (consumed _ _ _ i.0 c.in-Ok.ensures.read i.1)
    (posted_by _ _ h begins) (λ is. (h, _, begins, is)) c.fixed-in-None.ensures (λ is. refl)
    (λ s. inr (none, headed h _ (reply_of_status status.Forbidden) s begins (rw (rw is.fields at (sym c.in-None.ensures)) (refl, refl))))
    (reply_does _ _ _ _ none (λ clean done. cc))
