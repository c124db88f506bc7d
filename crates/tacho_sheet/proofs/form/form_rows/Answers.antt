use Rattle.std.proofs.Common.{◌<◌, subst, sym, codes, string_bytes}
use Rattle.tacho_line.specs.declared.gap.Gap.{Gap}
use Rattle.tacho_sheet.proofs.FormLemmas.{written_more}
use Rattle.tacho_sheet.proofs.form.form_rows.Goals as goal

pub loop-gap-preserved : goal.loop-gap-preserved
loop-gap-preserved c = λ all.
    let gaps = c.args.gaps.now in
    let i = c.loop-gap.gap-index in
    let g : Gap = c.gap-item.result in
    let some : g.start < g.past = subst (λ (x : Gap). x.start < x.past) (sym c.gap-item.is) (all i g c.loop-gap-test.true) in
    written_more gaps i g (codes "start,past,activity,author,note\n") (string_bytes c.loop-gap.text) _ c.loop-gap-test.true
    c.gap-item.is (c.loop-gap.invariant all) (c.in_ok-push_rows.ensures some)
