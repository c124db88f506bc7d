use Rattle.tacho_http.proofs.PageLemmas.{only_archive, run_as, went_as, went_kept_as}
use Rattle.tacho_http.proofs.connections.answer_all.Goals as goal

pub returns-clause-run : goal.returns-clause-run
returns-clause-run g c clean s st =
    let r = c.answer_all_or_pages.ensures.run clean s st in
    (r.0, r.1, run_as _ _ (λ x y n s t. went_as (only_archive c.args.office_key.now) _ _ _ _ _ n s t) _ _ _ s r.0 r.2)

pub returns-clause-crash : goal.returns-clause-crash
returns-clause-crash g c clean a st l =
    let r = c.answer_all_or_pages.ensures.crash clean a st l in
    (r.0, r.1, r.2, run_as _ _ (λ x y n a b. went_kept_as (only_archive c.args.office_key.now) _ _ _ _ _ n a b) _ _ _ a r.0 r.3)
