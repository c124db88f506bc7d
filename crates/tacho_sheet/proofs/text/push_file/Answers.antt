use Rattle.std.proofs.Common.{◌∙◌, ◌++◌, ℕ, List, ap, codes, decimal, string_bytes}
use Rattle.tacho_time.specs.Text.{minute_text}
use Rattle.tacho_sheet.proofs.TextLemmas.{on_pushed, pieces3}
use Rattle.tacho_sheet.proofs.text.push_file.Goals as goal

pub returns : goal.returns
returns c =
    let file = c.args.file.now in
    let head = λ (part : List ℕ). string_bytes c.args.text.now ++ (decimal file.number ++ (codes " " ++ (part ++ (codes " " ++ (decimal file.length
    ++ (codes " " ++ (minute_text file.first ++ (codes " " ++ (minute_text file.past ++ codes " "))))))))) in
    on_pushed c.push_str.result _ _ c.push_str.ensures.bytes
    (λ three. pieces3 _ _ _ _ _ _ _ (c.in_ok-write.ensures.bytes ∙ ap head c.word_of_part-part.ensures) c.in_ok-push_bytes.ensures three)
