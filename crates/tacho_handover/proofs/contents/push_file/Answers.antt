use Rattle.std.proofs.Common.{rules, ◌≡◌, ◌++◌, codes, decimal, length}
use Rattle.std.proofs.lemmas.Result.{on_ok_weaker}
use Rattle.std.specs.List.{flat_map}
use Rattle.sha2.specs.Sha256.{sha256}
use Rattle.tacho_sheet.specs.Lines.{byte_digits}
use Rattle.tacho_handover.proofs.TextLemmas.{pieces7}
use Rattle.tacho_handover.proofs.contents.push_file.Goals as goal

pub returns : goal.returns
returns c =
    let content = c.args.content.now in
    let digits = flat_map byte_digits (sha256 content) in
    let one : c.extend_from_slice.new.self.items ≡ c.args.lines.now.items ++ codes "FILE " = search rules in
    let two : c.extend_from_slice-2.new.self.items ≡ c.extend_from_slice.new.self.items ++ c.args.name.now = search rules in
    let three : c.extend_from_slice-3.new.self.items ≡ c.extend_from_slice-2.new.self.items ++ codes " " = search rules in
    let four : c.extend_from_slice-4.new.self.items ≡ c.extend_from_slice-3.new.self.items ++ decimal (length content) = search rules in
    let five : c.extend_from_slice-5.new.self.items ≡ c.extend_from_slice-4.new.self.items ++ codes " " = search rules in
    let six : c.extend_from_slice-6.new.self.items ≡ c.extend_from_slice-5.new.self.items ++ digits = search rules in
    on_ok_weaker c.extend_from_slice-7.result
    (λ (seven : c.extend_from_slice-7.new.self.items ≡ c.extend_from_slice-6.new.self.items ++ codes "\n").
    pieces7 (codes "FILE ") c.args.name.now (codes " ") (decimal (length content)) (codes " ") digits (codes "\n") c.args.lines.now.items
    _ _ _ _ _ _ _ one two three four five six seven) (search rules)
