use Rattle.std.proofs.Common.{rules, ◌≡◌, ◌∙◌, ◌-◌, ◌++◌, codes, decimal, string_bytes, ℕ, List, map, refl}
use Rattle.tacho_law.specs.declared.breach.Breach.{Breach}
use Rattle.tacho_stretches.specs.Stretches.{Judged, judged_of}
use Rattle.tacho_sheet.specs.declared.amounts.Amounts.{Amounts}
use Rattle.tacho_sheet.specs.Amounts.{AreAmounts, amounts_in, cells}
use Rattle.tacho_sheet.specs.Months.{month_breaches, count_of, kinds, numbers_of, overview_row}
use Rattle.tacho_sheet.proofs.TextLemmas.{on_pushed}
use Rattle.tacho_sheet.proofs.MonthLemmas.{numbers_told, row_pieces}
use Rattle.tacho_sheet.proofs.months.push_overview.Goals as goal

pub returns : goal.returns
returns c =
    let line = c.args.line.now in
    let stretches : List Judged = map judged_of c.args.stretches.now in
    let start : ℕ = c.month_range-start.result.0 in
    let past : ℕ = c.month_range-start.result.1 in
    let a : Amounts = c.in_ok-amounts.amounts in
    let examined : ℕ = c.examined_in-examined.result in
    let found : List Breach = c.deref.result.now in
    let numbers : List ℕ = cells (numbers_of line stretches start past) in
    let sums : AreAmounts line start (past - start) a = c.in_ok-amounts.ensures in
    let are : found ≡ month_breaches start past stretches = c.deref.ensures.value ∙ c.in_ok-breaches.ensures in
    let one : string_bytes c.write.new.self ≡ string_bytes c.args.text.now ++ (decimal c.args.number ++ (codes "," ++ c.args.name.now)) =
    search rules in
    let two : string_bytes c.push_amounts.new.text ≡ string_bytes c.write.new.self ++ cells (amounts_in a) = search rules in
    let three : string_bytes c.write-2.new.self ≡ string_bytes c.push_amounts.new.text ++ (codes "," ++ decimal examined) = search rules in
    let four : string_bytes c.push_counts.new.text ≡ string_bytes c.write-2.new.self ++ cells (map (count_of found) kinds) = search rules in
    on_pushed c.push_str.result (string_bytes c.push_counts.new.text ++ codes "\n") (string_bytes c.push_counts.new.text)
    c.push_str.ensures.bytes
    (λ five base end follow. (
      overview_row c.args.number c.args.name.now (numbers_of line stretches start past),
      row_pieces (decimal c.args.number) c.args.name.now (cells (amounts_in a)) (codes "," ++ decimal examined)
          (cells (map (count_of found) kinds)) numbers
          (string_bytes c.args.text.now) _ _ _ _ _ one two three four five
          (numbers_told line stretches start past examined a found sums (c.examined_in-examined.ensures base end follow) are),
      record {
        start = start;
        past = past;
        bounds = record { first = c.month_range-start.ensures.start; end = c.month_range-start.ensures.past };
        is = refl;
      },
    ))
