use Rattle.std.proofs.Common.{rules}
use Rattle.tacho_state.specs.Limits.{IsNote}
use Rattle.tacho_sheet.proofs.SignedLemmas.{no_note, note_text}
use Rattle.tacho_sheet.proofs.entries.read_note.Goals as goal

pub returns-in_default : goal.returns-in_default
returns-in_default c = no_note c.args.text.now (λ h. c.in_default.ensures.cases.0 h.0)

pub returns-then-is_note : goal.returns-then-is_note
returns-then-is_note c =
    let same = c.in-Ok.ensures.cases in
    let noted : IsNote c.in-Ok.note.now = search rules in
    (same.0, (note_text c.args.text.now).1 (same.1, rw same.0 at noted), noted)
