use Rattle.std.proofs.Common.{rules, ◌≡◌, ◌+◌, ◌-◌, ◌≤◌, ◌++◌, ℕ, string_bytes, arith}
use Rattle.std.proofs.lemmas.Result.{on_ok_weaker}
use Rattle.tacho_sheet.specs.Form.{form_row}
use Rattle.tacho_sheet.proofs.FormLemmas.{cut_next, cut_all}
use Rattle.tacho_sheet.proofs.form.push_rows.Goals as goal

pub cut-preserved : goal.cut-preserved
cut-preserved c =
    let start : ℕ = c.cut.start in
    let next : ℕ = c.new-next.result in
    let at : next ≡ start + 527040 = omega arith in
    let pushed : string_bytes c.push_row.new.text ≡ string_bytes c.cut.text ++ form_row (record { start = start; past = next }) =
    search rules in
    record {
      cut = cut_next c.args.gap.now.start c.args.gap.now.past (string_bytes c.args.text.now) start next (string_bytes c.cut.text) _
          c.cut.invariant.cut at pushed;
      some = λ some. omega arith;
    }

pub returns : goal.returns
returns c =
    let start : ℕ = c.cut.start in
    let past : ℕ = c.args.gap.now.past in
    let few : past - start ≤ 527040 = omega arith in
    on_ok_weaker c.push_row-2.result
    (λ (e : string_bytes c.push_row-2.new.text ≡ string_bytes c.cut.text ++ form_row (record { start = start; past = past })).
    λ some. cut_all c.args.gap.now.start past (string_bytes c.args.text.now) start (string_bytes c.cut.text) _
    c.cut.invariant.cut (c.cut.invariant.some some) few e) (search rules)
