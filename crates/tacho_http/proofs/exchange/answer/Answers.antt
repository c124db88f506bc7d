use Rattle.tacho_http.proofs.PageLemmas.{exchanged_as, only_archive}
use Rattle.tacho_http.proofs.exchange.answer.Goals as goal

pub returns-clause-exchanged : goal.returns-clause-exchanged
returns-clause-exchanged g c = exchanged_as (only_archive c.args.office_key.now) c.answer_or_page.ensures.exchanged.exchanged
