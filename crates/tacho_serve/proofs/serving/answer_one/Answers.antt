use Rattle.std.proofs.Common.{◌≡◌, ℕ, List, sym, subst}
use Rattle.tacho_serve.specs.Served.{ChangesByRequests}
use Rattle.tacho_serve.proofs.ServedLemmas.{answered, unchanged}
use Rattle.tacho_serve.proofs.serving.answer_one.Goals as goal

pub returns-in_err-set_nodelay : goal.returns-in_err-set_nodelay
returns-in_err-set_nodelay g c = unchanged _ _ (λ clean. clean) (λ clean s st. st) (λ clean past l. l)

pub returns-in_err-timed : goal.returns-in_err-timed
returns-in_err-timed g c = unchanged _ _ (λ clean. clean) (λ clean s st. st) (λ clean past l. l)

pub returns-in_err-end : goal.returns-in_err-end
returns-in_err-end g c =
    let did = c.answer_or_page-served.ensures in
    rw (sym c.text.ensures.value, sym c.as_bytes.ensures.value) (answered _ _ did.clean did.exchanged.exchanged did.read did.write)

pub returns-in_ok-end : goal.returns-in_ok-end
returns-in_ok-end g c =
    let did = c.answer_or_page-served.ensures in
    rw (sym c.text.ensures.value, sym c.as_bytes.ensures.value) (answered _ _ did.clean did.exchanged.exchanged did.read did.write)

pub returns-else-is_ok : goal.returns-else-is_ok
returns-else-is_ok g c =
    let did = c.answer_or_page-served.ensures in
    rw (sym c.text.ensures.value, sym c.as_bytes.ensures.value) (answered _ _ did.clean did.exchanged.exchanged did.read did.write)
