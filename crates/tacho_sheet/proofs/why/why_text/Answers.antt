use Rattle.std.proofs.Common.{ℕ, List, ap, map, Ok, string_bytes, subst}
use Rattle.std.proofs.lemmas.List.{take_all}
use Rattle.tacho_stretches.specs.declared.stretch.Stretch.{Stretch}
use Rattle.tacho_stretches.specs.Stretches.{judged_of}
use Rattle.tacho_sheet.specs.Written.{AreWritten}
use Rattle.tacho_sheet.specs.Reports.{AreBounds}
use Rattle.tacho_sheet.proofs.OneLemmas.{same_bounds}
use Rattle.tacho_sheet.proofs.WhyLemmas.{all_end_by, among_told, why_of_all, written_more}
use Rattle.tacho_sheet.proofs.why.why_text.Goals as goal

pub returns-then-not-branch-clause-none : goal.returns-then-not-branch-clause-none
returns-then-not-branch-clause-none c none = (
  judged_of c.stretch-item.result,
  among_told c.args.stretches.now c.loop-stretch.stretch-index c.stretch-item.result c.loop-stretch-test.true c.stretch-item.is,
  c.in_ok-push_why.ensures.none (ap Ok c.if-not-branch.true),
)

pub loop-stretch-preserved : goal.loop-stretch-preserved
loop-stretch-preserved c =
    let (why, is, written) = c.in_ok-push_why.ensures.text (ap Ok c.if-not-branch.false) in
    written_more c.args.line.now c.month_range-start.result.0 c.month_range-start.result.1 c.args.stretches.now c.loop-stretch.stretch-index
    c.stretch-item.result (string_bytes c.loop-stretch.text) (string_bytes c.push_why.new.text) why c.loop-stretch-test.true c.stretch-item.is
    c.loop-stretch.invariant is written

pub returns-clause-text : goal.returns-clause-text
returns-clause-text c held end all agree =
    let line = c.args.line.now in
    let xs : List Stretch = c.args.stretches.now in
    let text : List ℕ = string_bytes c.loop-stretch.text in
    let start : ℕ = c.month_range-start.result.0 in
    let past : ℕ = c.month_range-start.result.1 in
    let bounds : AreBounds c.args.month start past =
    record { first = c.month_range-start.ensures.start; end = c.month_range-start.ensures.past } in
    record {
      start = start;
      past = past;
      bounds = bounds;
      are = why_of_all line held end start past (map judged_of xs) text all (agree start past bounds)
          (subst (λ (ys : List Stretch). AreWritten line start past (map judged_of ys) text)
          (take_all c.loop-stretch.stretch-index xs c.loop-stretch-test.false) c.loop-stretch.invariant);
    }

pub returns-clause-within : goal.returns-clause-within
returns-clause-within c s start past bounds among some =
    let line = c.args.line.now in
    let xs : List Stretch = c.args.stretches.now in
    let text : List ℕ = string_bytes c.loop-stretch.text in
    let same = same_bounds c.args.month c.month_range-start.result.0 c.month_range-start.result.1 start past
    (record { first = c.month_range-start.ensures.start; end = c.month_range-start.ensures.past }) bounds in
    all_end_by line c.month_range-start.result.0 c.month_range-start.result.1 (map judged_of xs) text
    (subst (λ (ys : List Stretch). AreWritten line c.month_range-start.result.0 c.month_range-start.result.1 (map judged_of ys) text)
    (take_all c.loop-stretch.stretch-index xs c.loop-stretch-test.false) c.loop-stretch.invariant)
    s among (λ none. some (rw (same.0, same.1) none))
