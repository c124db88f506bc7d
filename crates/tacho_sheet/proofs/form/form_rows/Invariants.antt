use Rattle.std.proofs.Common.{◌≡◌, ◌<◌, ◌++◌, List, codes, take, string_bytes}
use Rattle.std.specs.List.{flat_map, All}
use Rattle.tacho_line.specs.declared.gap.Gap.{Gap}
use Rattle.tacho_sheet.specs.Form.{form_row, AreRows}
use Rattle.tacho_sheet.proofs.form.form_rows.Given as goal

-- the rows so far are the head and those of the gaps so far
abbrev pub invariant-loop-gap : goal.invariant-loop-gap
invariant-loop-gap l = All (λ (g : Gap). g.start < g.past) l.gaps → (rows : List Gap) × AreRows (take l.gap-index l.gaps) rows
    × (string_bytes l.text ≡ codes "start,past,activity,author,note\n" ++ flat_map form_row rows)
