use Rattle.std.proofs.Common.{◌≡◌, ◌∙◌, refl, rules}
use Rattle.tacho_state.specs.declared.fault.StoreFault.TheVariants.{Memory}
use Rattle.tacho_state.specs.Numbers.{part_number}
use Rattle.tacho_store.proofs.ListingLemmas.{same_spans, no_content}
use Rattle.tacho_store.proofs.files.summary_of.Goals as goal

pub returns-in-Ok-clause-summary : goal.returns-in-Ok-clause-summary
returns-in-Ok-clause-summary c content has =
    let number : part_number c.in-Some.part ≡ c.args.stored.now.part = search rules in
    let tells = rw c.deref.ensures.value at c.in-Ok.ensures.told in
    let same = same_spans _ _ c.in-Some.part _ content number tells has in
    c.file_summary.ensures ∙ rw (number, c.deref-in-Ok.ensures.value, c.deref-in-Ok-2.ensures.value, same) refl

pub returns-in-Err-clause-cause : goal.returns-in-Err-clause-cause
returns-in-Err-clause-cause c store content has =
    let number : part_number c.in-Some.part ≡ c.args.stored.now.part = search rules in
    no_content _ _ c.in-Some.part c.in-Err.fault content number (rw c.deref.ensures.value at c.in-Err.ensures.told)
    (λ memory. let is : c.fault_of_stored.result ≡ Memory = c.fault_of_stored.ensures.memory memory in cc) has
