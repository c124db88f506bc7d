use Rattle.tacho_serve.proofs.ServedLemmas.{changes_then, unchanged}
use Rattle.tacho_serve.proofs.serving.serve.Goals as goal

pub returns-in_default : goal.returns-in_default
returns-in_default g c = unchanged _ _ (λ clean. clean) (λ clean s st. st) (λ clean past l. l)

pub returns-in_err-listener : goal.returns-in_err-listener
returns-in_err-listener g c = unchanged _ _ (λ clean. clean) (λ clean s st. st) (λ clean past l. l)

pub returns-in_default-new : goal.returns-in_default-new
returns-in_default-new g c = unchanged _ _ (λ clean. clean) (λ clean s st. st) (λ clean past l. l)

pub loop-init : goal.loop-init
loop-init g c = record { changes = unchanged _ _ (λ clean. clean) (λ clean s st. st) (λ clean past l. l) }

pub returns-then-has_failed : goal.returns-then-has_failed
returns-then-has_failed g c =
    let h = c.has_failed.ensures in
    changes_then _ _ (changes_then _ _ c.loop.invariant.changes c.answer_one.ensures) (unchanged _ _ h.clean h.stays h.crash)

pub loop-preserved : goal.loop-preserved
loop-preserved g c =
    let h = c.has_failed.ensures in
    record {
      changes = changes_then _ _ (changes_then _ _ c.loop.invariant.changes c.answer_one.ensures) (unchanged _ _ h.clean h.stays h.crash);
    }
