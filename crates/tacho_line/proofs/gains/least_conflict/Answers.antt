use Rattle.std.proofs.Common.{◌≡◌, ℕ, List, map, unwrap_or, Result, Ok, Err, MatchResult, subst, sym, ap, ◌∙◌}
use Rattle.std.specs.Result.{IsErr, IsErrAnd}
use Rattle.tacho_time.specs.declared.span.Span.{Span}
use Rattle.tacho_time.specs.Spans.{Gives, IsCanonicalOf, IsFirstConflict}
use Rattle.tacho_time.specs.Merge.{IsFirstFault}
use Rattle.tacho_line.specs.declared.line.LineFault.{LineFault}
use Rattle.tacho_line.specs.Line.{Together}
use Rattle.tacho_line.specs.Walk.{cut_to}
use Rattle.tacho_line.specs.Gains.{conflict_of, line_fault, IsConflictOf}
use Rattle.tacho_line.proofs.GainLemmas.{least_is, early_fault}
use Rattle.tacho_line.proofs.gains.least_conflict.Goals as goal

-- a property of a fault is one of the result that passes it on
handed_on : {V : Type 0} (P : V → Type 0) (Q : LineFault → Type 0) (r : Result V LineFault) (fault : LineFault)
    → IsErr r × IsErrAnd r (λ found. found ≡ fault) → Q fault → MatchResult r P Q
handed_on P Q (Ok v) fault e q = let wrong = e.0 in cc
handed_on P Q (Err f) fault e q = subst Q (sym e.1) q

pub returns-in_err-runs : goal.returns-in_err-runs
returns-in_err-runs c =
    let line = c.args.line.now in
    let spans = c.args.spans.now in
    let least = c.args.minute in
    let fault = c.in_err-runs.field-0.0 in
    let early = c.deref.ensures.value ∙ c.in_ok-early.ensures ∙ ap (λ (n : ℕ). map (cut_to n least) spans) c.new.ensures in
    handed_on (IsFirstConflict (Together line spans)) (IsConflictOf (Together line spans)) c.from_residual-in_err-runs.result (line_fault fault)
    c.from_residual-in_err-runs.ensures
    (early_fault line spans least c.requires.line c.requires.conflict fault (line_fault fault) (λ e. ap line_fault e)
    (subst (λ (x : List Span). IsFirstFault (Gives x) fault) early c.in_err-runs.ensures))

pub returns : goal.returns
returns c =
    let line = c.args.line.now in
    let spans = c.args.spans.now in
    let least = c.args.minute in
    let runs = c.in_ok-runs.runs in
    let early = c.deref.ensures.value ∙ c.in_ok-early.ensures ∙ ap (λ (n : ℕ). map (cut_to n least) spans) c.new.ensures in
    let are = subst (λ (x : List Span). IsCanonicalOf (Gives x) runs.items) early c.in_ok-runs.ensures in
    let found = c.unwrap_or.ensures ∙ ap (λ o. unwrap_or o least) (c.first_conflict.ensures ∙ ap (conflict_of line) c.deref-2.ensures.value) in
    subst (IsFirstConflict (Together line spans)) (sym found) (least_is line spans least c.requires.line c.requires.conflict runs.items are)
