use Rattle.std.proofs.Common.{rules, ◌≡◌, ◌-◌, ◌<◌, ◌≤◌, ◌∙◌, ◌++◌, ◌∷◌, [], ap, arith, codes, decimal, get_or, length, subst, List, Option, ℕ, string_bytes}
use Rattle.std.specs.List.{sum_by}
use Rattle.tacho_time.specs.Text.{minute_text}
use Rattle.tacho_line.specs.declared.horizon.Horizon.{Horizon}
use Rattle.tacho_line.specs.Line.{AreGaps}
use Rattle.tacho_law.specs.declared.debt.Debt.{Debt}
use Rattle.tacho_stretches.specs.declared.stretch.Stretch.{Stretch}
use Rattle.tacho_stretches.specs.Stretches.{judged_of}
use Rattle.tacho_state.specs.Summaries.{Summary, told_summary}
use Rattle.tacho_sheet.specs.Cells.{cells_text, held_to, minute_cell, row_text}
use Rattle.tacho_sheet.specs.Reports.{cause_name, column_minutes, is_lacking}
use Rattle.tacho_sheet.specs.Standing.{first_deadline, first_lacking, open_at_horizon}
use Rattle.tacho_sheet.proofs.AheadLemmas.{last_of, max_of}
use Rattle.tacho_sheet.proofs.RowsLemmas.{cells_more, gaps_of_held, held_end, lacking_same, row_made}
use Rattle.tacho_sheet.proofs.TextLemmas.{on_pushed}
use Rattle.tacho_sheet.proofs.standing.push_standing.Goals as goal

pub returns : goal.returns
returns c =
    let xs : List Stretch = c.args.stretches.now in
    let s : Stretch = c.in-Some.last.now in
    let x : Summary = told_summary c.args.driver.now in
    let h : Horizon = s.report.horizon in
    let some : 0 < length xs = search rules in
    let is : s ≡ get_or xs (length xs - 1) s = search rules in
    let (gaps, are_gaps, two) = c.in_ok-push_gaps.ensures in
    let (earlier, breaches, before, within, three) = c.in_ok-push_breach_counts.ensures in
    on_pushed c.push_str.result (string_bytes c.push_owed.new.text ++ codes "\n") (string_bytes c.push_owed.new.text)
    c.push_str.ensures.bytes
    (λ five held base are agree.
    let line = c.args.line.now in
    let (base_is, end_is) = c.range_of-base.ensures held base are.end are are.is_end in
    let end : ℕ = are.end in
    let order : base ≤ end = are.is_end.from in
    let max_is = max_of c.range_of-base.result.1 c.range_of-base.result.0 c.max.result c.max.ensures in
    let until : c.max.result ≡ end = omega (arith, max_is, base_is, end_is, order) in
    let minute : c.range_of-base.result.1 ≤ 68428800 = search rules in
    let early : end ≤ 68428800 = omega (arith, minute, end_is) in
    let lacking : AreGaps line base end gaps =
    subst (λ (e : ℕ). AreGaps line base e gaps) until (subst (λ (b : ℕ). AreGaps line b c.max.result gaps) base_is are_gaps) in
    let to : Option ℕ = c.held_cell.result.minute in
    let to_is : to ≡ held_to base end = held_end to _ _ base end c.held_cell.ensures base_is end_is in
    let unknown : ℕ = column_minutes line c.range_of-base.result.0 (c.max.result - c.range_of-base.result.0) is_lacking in
    let unknown_is : unknown ≡ column_minutes held base (end - base) is_lacking =
    ap (λ (b : ℕ). column_minutes line b (c.max.result - b) is_lacking) base_is
    ∙ ap (λ (e : ℕ). column_minutes line base (e - base) is_lacking) until
    ∙ lacking_same line held base end order early agree in
    let debts : List Debt = open_at_horizon (judged_of s) in
    let first : Option ℕ → List (List ℕ) =
    λ to. x.name ∷ decimal x.downloads ∷ minute_cell to ∷ minute_text h.minute ∷ cause_name h.cause ∷ [] in
    let lack : ℕ → List (List ℕ) = λ n. decimal (length gaps) ∷ decimal n ∷ minute_cell (first_lacking gaps) ∷ [] in
    let counts : List (List ℕ) = decimal earlier ∷ decimal breaches ∷ [] in
    let owed : List (List ℕ) =
    decimal (length debts) ∷ decimal (sum_by (λ (d : Debt). d.amount) debts) ∷ minute_cell (first_deadline debts) ∷ [] in
    let row : Option ℕ → ℕ → List ℕ = λ to n. row_text (decimal x.number) (first to ++ (lack n ++ (counts ++ owed))) in
    let zero : string_bytes c.write.new.self ≡ string_bytes c.args.text.now ++ decimal x.number = search rules in
    let one : string_bytes c.push_held.new.text ≡ string_bytes c.write.new.self ++ cells_text (first to) = c.in_ok-push_held.ensures in
    let four : string_bytes c.push_owed.new.text ≡ string_bytes c.push_breach_counts.new.text ++ cells_text owed =
    c.in_ok-push_owed.ensures in
    let three_on = cells_more counts owed _ _ _ three four in
    let two_on = cells_more (lack unknown) (counts ++ owed) _ _ _ two three_on in
    let all = cells_more (first to) (lack unknown ++ (counts ++ owed)) _ _ _ one two_on in
    let (front, list) = last_of xs s some is in (
      row to unknown,
      row_made (decimal x.number) (first to ++ (lack unknown ++ (counts ++ owed))) (string_bytes c.args.text.now) _ _ _ zero all five,
      record {
        front = front;
        last = judged_of s;
        list = list;
        end = end;
        is_end = are.is_end;
        gaps = gaps;
        are_gaps = gaps_of_held line held base end gaps early agree lacking;
        earlier = earlier;
        before = before;
        breaches = breaches;
        within = within;
        is = ap (λ (o : Option ℕ). row o unknown) to_is ∙ ap (λ (n : ℕ). row (held_to base end) n) unknown_is;
      },
    ))
