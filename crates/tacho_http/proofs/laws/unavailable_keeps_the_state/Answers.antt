use Rattle.tacho_http.proofs.LawLemmas.{keeps_503}
use Rattle.tacho_http.proofs.PageLemmas.{keeps_503_or_page}
use Rattle.tacho_http.proofs.laws.unavailable_keeps_the_state.Goals as goal

pub returns-clause-alone : goal.returns-clause-alone
returns-clause-alone c = keeps_503 c.refusals_change_nothing.ensures

pub returns-clause-pages : goal.returns-clause-pages
returns-clause-pages c files = keeps_503_or_page files (keeps_503 c.refusals_change_nothing.ensures)
