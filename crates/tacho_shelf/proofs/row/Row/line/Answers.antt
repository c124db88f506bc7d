use Rattle.std.proofs.Common.{◌≡◌, ℕ, List, sym, subst, rules}
use Rattle.tacho_time.specs.declared.span.Span.{Span}
use Rattle.tacho_time.specs.Spans.{Gives, IsCanonicalOf, Conflicts}
use Rattle.tacho_state.specs.State.{held_spans}
use Rattle.tacho_shelf.proofs.RowLemmas.{line_marks}
use Rattle.tacho_shelf.proofs.row.Row.line.Goals as goal

pub agreed_line-requires : goal.agreed_line-requires
agreed_line-requires c =
    let all : c.deref-2.result.now ≡ held_spans c.args.self.now = search rules in
    subst (λ (xs : List Span). (m : ℕ) → ¬ (Conflicts (Gives xs) m)) (sym all) c.in_ok-spans.ensures.kept.agreed

pub returns : goal.returns
returns c =
    let all : c.deref-2.result.now ≡ held_spans c.args.self.now = search rules in
    let line = subst (λ (xs : List Span). IsCanonicalOf (Gives xs) c.in_ok-agreed_line.field-0) all c.in_ok-agreed_line.ensures in
    record { line = line; marks = line_marks c.args.self.now c.in_ok-agreed_line.field-0 line }
