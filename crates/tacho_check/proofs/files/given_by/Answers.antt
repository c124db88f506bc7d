use Rattle.std.proofs.Common.{rules, ◌∙◌, ◌+◌, ◌≤◌, List, ◌++◌, drop, drop_of_length-le, length, subst, sym, ap}
use Rattle.tacho_time.specs.declared.span.Span.{Span}
use Rattle.tacho_check.specs.declared.files.FileRow.{FileRow}
use Rattle.tacho_check.specs.Files.{IsReadingOf}
use Rattle.tacho_check.proofs.FileLemmas.{GoesOn, goes_on, breaks, ends}
use Rattle.tacho_check.proofs.ParsedLemmas.{cut_at}
use Rattle.tacho_check.proofs.files.given_by.Goals as goal

pub loop-row-preserved : goal.loop-row-preserved
loop-row-preserved c =
    let rows : List FileRow = c.args.rows.now in
    let i = c.loop-row.row-index in
    let r : FileRow = c.row-item.result in
    let done : List Span = c.loop-row.given.items in
    let cut = cut_at rows i r (search rules) (search rules) in
    let stands = subst (λ left. GoesOn c.args.holder.now rows left done) cut c.loop-row.invariant in
    let read = subst (IsReadingOf c.args.holder.now r) c.in-Some.is c.in_ok-found.ensures in
    subst (GoesOn c.args.holder.now rows (drop (i + 1) rows))
    (sym (c.in_ok-append-in-Some.ensures ∙ ap (λ x. done ++ x) c.deref.ensures.value))
    (goes_on c.args.holder.now rows (drop (i + 1) rows) r done c.in-Some.spans.items stands read)

pub returns-in-None : goal.returns-in-None
returns-in-None c =
    let rows : List FileRow = c.args.rows.now in
    let i = c.loop-row.row-index in
    let r : FileRow = c.row-item.result in
    let done : List Span = c.loop-row.given.items in
    let cut = cut_at rows i r (search rules) (search rules) in
    let stands = subst (λ left. GoesOn c.args.holder.now rows left done) cut c.loop-row.invariant in
    breaks c.args.holder.now rows (drop (i + 1) rows) r done stands
    (subst (IsReadingOf c.args.holder.now r) c.in-None.is c.in_ok-found.ensures)

pub returns : goal.returns
returns c =
    let rows : List FileRow = c.args.rows.now in
    let done : List Span = c.loop-row.given.items in
    let past : length rows ≤ c.loop-row.row-index = search rules in
    ends c.args.holder.now rows done
    (subst (λ left. GoesOn c.args.holder.now rows left done) (drop_of_length-le rows past) c.loop-row.invariant)
