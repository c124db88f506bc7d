use Rattle.std.proofs.Common.{◌≡◌, ◌∙◌, ◌&&◌, ap, false, not, refl, sym}
use Rattle.std.specs.List.{list_any}
use Rattle.tacho_carry.specs.Carried.{is_nil}
use Rattle.tacho_carry.proofs.EntryLemmas.{is_listed_carried}
use Rattle.tacho_carry.proofs.LeftOutLemmas.{is_late, left_out_listed, nil_length}
use Rattle.tacho_carry.proofs.driver.is_left_out.Goals.{else-is_empty, else-not-is_any_file_needed, then-is_empty}
use Rattle.tacho_carry.proofs.driver.is_left_out.Goals.{then-not-is_any_file_needed}
use Rattle.tacho_carry.proofs.driver.is_left_out.Goals as goal

pub returns-then-not-had_none : goal.returns-then-not-had_none
returns-then-not-had_none c day d start listed entered read =
    let files = c.args.files.now in
    let entries = c.args.entries.now in
    let had : (is_nil files && is_nil entries) ≡ false =
    elim c.if-is_empty.branch [
      | then-is_empty w ↦
          rw (
            nil_length files ∙ sym c.is_empty.ensures ∙ w.if-is_empty.true,
            nil_length entries ∙ sym w.is_empty-had_none.ensures ∙ sym w.had_none-is ∙ c.if-not-had_none.true,
          ) refl
      | else-is_empty w ↦ rw (nil_length files ∙ sym c.is_empty.ensures ∙ w.if-is_empty.false) refl
    ] in
    let none : c.if-not-is_any_file_needed.needs_none
    ≡ (not (list_any (is_late c.args.start) files) && not (list_any (is_listed_carried c.args.start) entries)) =
    elim c.if-not-is_any_file_needed.branch [
      | then-not-is_any_file_needed w ↦
          rw (sym c.is_any_file_needed.ensures ∙ w.if-not-is_any_file_needed.true, sym w.is_any_entry_needed.ensures) w.needs_none-is
      | else-not-is_any_file_needed w ↦
          rw (sym c.is_any_file_needed.ensures ∙ w.if-not-is_any_file_needed.false) (w.needs_none-is
          ∙ ap not w.if-not-is_any_file_needed.false)
    ] in
    let all = left_out_listed day d files entries listed entered read in
    none ∙ rw start (rw had at all)
