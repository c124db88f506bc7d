use Rattle.std.proofs.Common.{rules}
use Rattle.tacho_state.specs.Limits.{IsName}
use Rattle.tacho_sheet.proofs.SignedLemmas.{author_text, no_author}
use Rattle.tacho_sheet.proofs.entries.read_author.Goals as goal

pub returns-in_default : goal.returns-in_default
returns-in_default c = no_author c.args.text.now (λ h. c.in_default.ensures.cases.0 h.0)

pub returns-then-is_name : goal.returns-then-is_name
returns-then-is_name c =
    let same = c.in-Ok.ensures.cases in
    let named : IsName c.in-Ok.author.now = search rules in
    (same.0, (author_text c.args.text.now).1 (same.1, rw same.0 at named), named)
