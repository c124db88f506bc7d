use Rattle.std.proofs.Common.{rules, ◌≡◌, ◌∙◌, ◌<◌, ◌++◌, sym, ap, get_or, string_bytes, length}
use Rattle.std.proofs.lemmas.List.{take_all}
use Rattle.std.proofs.lemmas.List.Folds.{flat_map-map}
use Rattle.std.specs.List.{flat_map}
use Rattle.tacho_state.specs.declared.file.FileSummary.{FileSummary}
use Rattle.tacho_state.specs.Files.{told_file}
use Rattle.tacho_sheet.specs.Text.{file_line}
use Rattle.tacho_sheet.proofs.TextLemmas.{one_more_line}
use Rattle.tacho_sheet.proofs.text.file_text.Goals as goal

pub loop-file-preserved : goal.loop-file-preserved
loop-file-preserved c =
    let line = λ (f : FileSummary). file_line (told_file f) in
    let pushed : string_bytes c.push_file.new.text ≡ string_bytes c.loop-file.text ++ line c.file-item.result = search rules in
    let within : c.loop-file.file-index < length c.args.files.now = search rules in
    let item : c.file-item.result ≡ get_or c.args.files.now c.loop-file.file-index c.file-item.result = c.file-item.is in
    one_more_line line c.args.files.now c.loop-file.file-index c.file-item.result
    (string_bytes c.loop-file.text) _ within c.loop-file.invariant
    (pushed ∙ ap (λ e. string_bytes c.loop-file.text ++ line e) item)

pub returns : goal.returns
returns c =
    let line = λ (f : FileSummary). file_line (told_file f) in
    c.loop-file.invariant ∙ ap (flat_map line) (take_all c.loop-file.file-index c.args.files.now c.loop-file-test.false)
    ∙ sym (flat_map-map file_line told_file c.args.files.now)
