use Rattle.tacho_state.specs.Acts.{caller_number}
use Rattle.tacho_state.specs.Numbers.{part_number}
use Rattle.tacho_state.specs.Steps.{Content}
use Rattle.tacho_store.specs.Importing.{content_told}
use Rattle.tacho_store.proofs.StepsLemmas.{steps_refused, steps_told}
use Rattle.tacho_store.proofs.ImportDriverLemmas.{not_importer, imports_by_driver}
use Rattle.tacho_store.proofs.import.import_in.Goals as goal

pub returns-in_err-importer-clause-steps : goal.returns-in_err-importer-clause-steps
returns-in_err-importer-clause-steps g c = steps_refused _ _ c.in_err-importer.ensures c.from_residual.ensures (λ db s stands it.
    not_importer (part_number c.args.part) c.args.file.now (content_told c.args.content.now) s (caller_number c.args.caller) _ it.refused)

pub returns-clause-steps : goal.returns-clause-steps
returns-clause-steps g c = steps_told c.in_ok-importer.ensures (rw c.deref.ensures.value at c.import_spans.ensures.steps) (λ db s stands it.
    let content : Content = content_told c.args.content.now in (
      (it.found.0, content.holder),
      (it.found.2, c.requires.tells),
      imports_by_driver (part_number c.args.part) c.args.file.now content s (caller_number c.args.caller) it.found.0 it.found.1,
    ))
