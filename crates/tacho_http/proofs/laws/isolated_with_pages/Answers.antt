use Rattle.tacho_http.proofs.PageLemmas.{keeps_others_or_page, one_reply_or_page, same_reply_or_page}
use Rattle.tacho_http.proofs.laws.isolated_with_pages.Goals as goal

pub returns-clause-same : goal.returns-clause-same
returns-clause-same c files = same_reply_or_page files c.isolated.ensures.same

pub returns-clause-one : goal.returns-clause-one
returns-clause-one c files = one_reply_or_page files c.isolated.ensures.one

pub returns-clause-others : goal.returns-clause-others
returns-clause-others c files = keeps_others_or_page files c.isolated.ensures.others
