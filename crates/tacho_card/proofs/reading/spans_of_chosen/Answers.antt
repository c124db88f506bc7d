use Rattle.std.proofs.Common.{◌≡◌, ◌<◌, suc, length, take, drop, get_or, List, Option, Some, None, sym, ap, ◌∙◌, subst, MatchResult, add-one, arith}
use Rattle.std.proofs.Math.Seq.{take-length}
use Rattle.tacho_time.specs.declared.span.Span.{Span}
use Rattle.tacho_time.specs.Spans.{Gives, IsCanonicalOf}
use Rattle.tacho_card.specs.DriverActivity.{DriverActivity}
use Rattle.tacho_card.specs.CardFile.{those_there}
use Rattle.tacho_card.specs.Reading.{IsReadingFault}
use Rattle.tacho_card.proofs.ChosenLemmas.{those_more, those_same, those_split}
use Rattle.tacho_card.proofs.GivesLemmas.{IsRaw, IsConflictOf, raw_more, raw_fault, raw_failure, raw_reading}
use Rattle.tacho_card.proofs.reading.spans_of_chosen.Goals as goal
use Rattle.tacho_card.proofs.reading.spans_of_chosen.Goals.{in-Some+in_ok-append_activity, in_default}

pub returns-in_err-append_activity : goal.returns-in_err-append_activity
returns-in_err-append_activity c =
    let chosen = c.args.chosen.now in
    let i = c.loop-activity.activity-index in
    let activity = c.in-Some.found in
    let at : get_or chosen i c.activity-item.result ≡ Some activity = sym c.activity-item.is ∙ c.in-Some.is in
    let fault = raw_fault (those_there (take i chosen)) activity (those_there (drop (suc i) chosen)) c.loop-activity.raw.items c.in_err-append_activity.field-0.0 c.loop-activity.invariant c.in_err-append_activity.ensures in
    raw_failure (λ spans. spans.items) (those_there chosen) c.in_err-append_activity.field-0.0 c.from_residual.result
    (subst (λ (activities : List DriverActivity). IsReadingFault activities c.in_err-append_activity.field-0.0) (those_split chosen i c.activity-item.result activity (omega arith) at) fault) c.from_residual.ensures

pub loop-activity-preserved : goal.loop-activity-preserved
loop-activity-preserved c =
    let chosen = c.args.chosen.now in
    let i = c.loop-activity.activity-index in
    let within : i < length chosen = omega arith in
    elim c.match-activity.branch [
      | in-Some+in_ok-append_activity w ↦
          let at : get_or chosen i c.activity-item.result ≡ Some w.in-Some.found = sym c.activity-item.is ∙ w.in-Some.is in
          let more = raw_more (those_there (take i chosen)) w.in-Some.found c.loop-activity.raw.items w.append_activity.new.spans.items c.loop-activity.invariant w.in_ok-append_activity.ensures in
          rw (add-one, w.raw-is) (subst (λ (activities : List DriverActivity). IsRaw activities w.append_activity.new.spans.items) (sym (those_more chosen i c.activity-item.result w.in-Some.found within at)) more)
      | in_default w ↦
          let at : get_or chosen i c.activity-item.result ≡ None = sym c.activity-item.is ∙ w.in_default.is in
          rw (add-one, w.raw-is) (subst (λ (activities : List DriverActivity). IsRaw activities c.loop-activity.raw.items) (sym (those_same chosen i c.activity-item.result within at)) c.loop-activity.invariant)
    ]

pub returns : goal.returns
returns c =
    let chosen = c.args.chosen.now in
    let raw = c.loop-activity.raw.items in
    let end : c.loop-activity.activity-index ≡ length chosen = omega (arith, c.loop-activity.auto.activity-index-end) in
    let whole : take c.loop-activity.activity-index chosen ≡ chosen = ap (λ i. take i chosen) end ∙ take-length chosen in
    let gives = subst (λ (activities : List (Option DriverActivity)). IsRaw (those_there activities) raw) whole c.loop-activity.invariant in
    raw_reading (λ runs. runs.items) (those_there chosen) raw c.canonical.result gives
    (subst (λ (xs : List Span). MatchResult c.canonical.result (λ runs. IsCanonicalOf (Gives xs) runs.items) (IsConflictOf xs)) c.deref.ensures.value c.canonical.ensures)
