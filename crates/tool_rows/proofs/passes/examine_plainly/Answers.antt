use Rattle.tacho_rules.proofs.SliceLemmas.{slice_examined}
use Rattle.tool_rows.proofs.passes.examine_plainly.Goals as goal

pub breaks-requires : goal.breaks-requires
breaks-requires c =
    slice_examined c.horizon-horizon.ensures c.in_ok-held.ensures
    c.as_slice-spans.ensures.value c.requires.monday c.requires.in_range c.requires.within

pub days-requires : goal.days-requires
days-requires c =
    slice_examined c.horizon-horizon.ensures c.in_ok-held.ensures
    c.as_slice-spans.ensures.value c.requires.monday c.requires.in_range c.requires.within

pub weeks-requires : goal.weeks-requires
weeks-requires c =
    slice_examined c.horizon-horizon.ensures c.in_ok-held.ensures
    c.as_slice-spans.ensures.value c.requires.monday c.requires.in_range c.requires.within

pub rests-requires : goal.rests-requires
rests-requires c =
    slice_examined c.horizon-horizon.ensures c.in_ok-held.ensures
    c.as_slice-spans.ensures.value c.requires.monday c.requires.in_range c.requires.within
