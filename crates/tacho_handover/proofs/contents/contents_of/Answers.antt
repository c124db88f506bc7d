use Rattle.std.proofs.Common.{rules, ◌≡◌, ◌++◌, ◌∙◌, ap, codes, ℕ, List}
use Rattle.std.specs.List.{flat_map}
use Rattle.tacho_time.specs.Text.{day_text}
use Rattle.tacho_state.specs.Summaries.{told_summary}
use Rattle.tacho_sheet.specs.Text.{summary_line}
use Rattle.tacho_handover.specs.Contents.{file_line, missing_line}
use Rattle.tacho_handover.proofs.TextLemmas.{pieces10}
use Rattle.tacho_handover.proofs.contents.contents_of.Goals as goal

pub returns : goal.returns
returns c members gaps files lacking =
    let driver = summary_line (told_summary c.args.driver.now) in
    let one : c.extend_from_slice.new.self.items ≡ codes "DRIVER " = search rules in
    let two : c.extend_from_slice-2.new.self.items ≡ c.extend_from_slice.new.self.items ++ driver = search rules in
    let three : c.extend_from_slice-3.new.self.items ≡ c.extend_from_slice-2.new.self.items ++ codes "FROM " = search rules in
    let four : c.extend_from_slice-4.new.self.items ≡ c.extend_from_slice-3.new.self.items ++ day_text c.args.from = search rules in
    let five : c.extend_from_slice-5.new.self.items ≡ c.extend_from_slice-4.new.self.items ++ codes " PAST " = search rules in
    let six : c.extend_from_slice-6.new.self.items ≡ c.extend_from_slice-5.new.self.items ++ day_text c.args.past = search rules in
    let seven : c.extend_from_slice-7.new.self.items ≡ c.extend_from_slice-6.new.self.items ++ codes "\nPROGRAM " = search rules in
    let eight : c.extend_from_slice-8.new.self.items ≡ c.extend_from_slice-7.new.self.items ++ c.args.program.now = search rules in
    let nine : c.extend_from_slice-9.new.self.items ≡ c.extend_from_slice-8.new.self.items ++ c.args.lines.now = search rules in
    let ten : c.extend_from_slice-10.new.self.items ≡ c.extend_from_slice-9.new.self.items ++ c.args.missing.now = search rules in
    pieces10 (codes "DRIVER ") driver (codes "FROM ") (day_text c.args.from) (codes " PAST ") (day_text c.args.past) (codes "\nPROGRAM ")
    c.args.program.now (flat_map file_line members) (flat_map missing_line gaps) _ _ _ _ _ _ _ _ _ _ one two three four five six seven eight
    (nine ∙ ap (λ (t : List ℕ). c.extend_from_slice-8.new.self.items ++ t) files)
    (ten ∙ ap (λ (t : List ℕ). c.extend_from_slice-9.new.self.items ++ t) lacking)
