use Rattle.std.proofs.Common.{◌<◌, List, codes, string_bytes, subst, sym}
use Rattle.std.specs.List.{All}
use Rattle.std.proofs.lemmas.Result.{IfOk-weaker}
use Rattle.tacho_line.specs.declared.gap.Gap.{Gap}
use Rattle.tacho_line.specs.Line.{AreGaps}
use Rattle.tacho_sheet.specs.Form.{IsForm}
use Rattle.tacho_sheet.proofs.FormLemmas.{AreWritten, all_some, form_is}
use Rattle.tacho_sheet.proofs.form.form_text.Goals as goal

pub returns : goal.returns
returns c =
    let line = c.args.line.now in
    let gaps : List Gap = c.in_ok-gaps.gaps.items in
    let lent : List Gap = c.deref.result.now in
    let lacking : AreGaps line c.args.base c.args.end gaps = c.in_ok-gaps.ensures in
    let some : All (λ (g : Gap). g.start < g.past) lent =
    subst (λ (xs : List Gap). All (λ (g : Gap). g.start < g.past) xs) (sym c.deref.ensures.value) (all_some gaps lacking.apart) in
    IfOk-weaker c.form_rows.result (λ text. AreWritten lent (codes "start,past,activity,author,note\n") (string_bytes text))
    (λ text. IsForm line c.args.base c.args.end (string_bytes text))
    (λ text written. form_is line c.args.base c.args.end gaps lent (string_bytes text) c.deref.ensures.value lacking written)
    (c.form_rows.ensures some)
