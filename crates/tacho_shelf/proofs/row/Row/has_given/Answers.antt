use Rattle.std.proofs.Common.{◌≡◌, ◌∙◌, ℕ, List, sym, subst, vec_len, rules}
use Rattle.tacho_time.specs.declared.span.Span.{Span}
use Rattle.tacho_time.specs.Spans.{Gives, IsCanonicalOf, Conflicts}
use Rattle.tacho_line.specs.Line.{IsGainFault}
use Rattle.tacho_state.specs.State.{given_spans}
use Rattle.tacho_shelf.proofs.RowLemmas.{given_agreed}
use Rattle.tacho_shelf.proofs.GainLemmas.{within_by_gains, not_within_by_conflict}
use Rattle.tacho_shelf.proofs.row.Row.has_given.Goals as goal

pub agreed_line-requires : goal.agreed_line-requires
agreed_line-requires c =
    let all : c.deref.result.now ≡ given_spans c.args.self.now.downloads = c.deref.ensures.value ∙ c.in_ok-given.ensures.given in
    subst (λ (xs : List Span). (m : ℕ) → ¬ (Conflicts (Gives xs) m)) (sym all)
    (given_agreed c.args.self.now.downloads c.args.self.now.entries c.in_ok-given.ensures.kept)

pub returns-in-Ok : goal.returns-in-Ok
returns-in-Ok c =
    let all : c.deref.result.now ≡ given_spans c.args.self.now.downloads = c.deref.ensures.value ∙ c.in_ok-given.ensures.given in
    within_by_gains (given_spans c.args.self.now.downloads) c.in_ok-line.line c.args.spans.now
    (subst (λ (xs : List Span). IsCanonicalOf (Gives xs) c.in_ok-line.line) all c.in_ok-line.ensures) c.in-Ok.gains.items
    (vec_len c.in-Ok.gains) (search rules) c.in-Ok.ensures ∙ sym c.is_empty.ensures

pub returns-in-Err-Contradiction : goal.returns-in-Err-Contradiction
returns-in-Err-Contradiction c =
    let all : c.deref.result.now ≡ given_spans c.args.self.now.downloads = c.deref.ensures.value ∙ c.in_ok-given.ensures.given in
    let fault = subst (IsGainFault c.in_ok-line.line c.args.spans.now) c.in-Err-Contradiction.field-0-is c.in-Err-Contradiction.ensures in
    not_within_by_conflict (given_spans c.args.self.now.downloads) c.in_ok-line.line c.args.spans.now
    (subst (λ (xs : List Span). IsCanonicalOf (Gives xs) c.in_ok-line.line) all c.in_ok-line.ensures)
    c.in-Err-Contradiction.field-0-0 fault.1
