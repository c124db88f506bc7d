use Rattle.std.proofs.Common.{◌≡◌, ◌+◌, ◌*◌, ◌++◌, ◌<◌, ◌≤◌, ℕ, Bool, false, List, Option, refl, sym, ap, ◌∙◌, arith}
use Rattle.std.proofs.Common.{[]}
use Rattle.std.proofs.lemmas.List.{append-nil}
use Rattle.tacho_law.specs.declared.run.Run.{Run}
use Rattle.tacho_law.specs.declared.breach.Breach.{Breach}
use Rattle.tacho_pass.specs.Found.{own_of}
use Rattle.tacho_pass.specs.Kinds.{is_b9}
use Rattle.tacho_pass.proofs.AppendingLemmas.{appends_none, appends_then, appends_some, own_more}
use Rattle.tacho_choice.specs.declared.week.WeekOfRests.{WeekOfRests}
use Rattle.tacho_rests.specs.Choices.{AreChoices}
use Rattle.tacho_rests.proofs.ChoicesLemmas.{choices_close, judged_kinds}
use Rattle.tacho_rests.proofs.missing_rest.Choices.close_by.Goals as goal

pub loop-week-init : goal.loop-week-init
loop-week-init c =
    record {
      week = refl;
      kept = λ line horizon first start weeks le all s. s;
      appends = appends_none is_b9 false c.args.found.now;
    }

pub loop-week-preserved : goal.loop-week-preserved
loop-week-preserved c =
    let w : ℕ = c.loop-week.self.week in
    let current : WeekOfRests = c.loop-week.self.current in
    let last : Option Run = c.loop-week.self.last in
    let rested : Bool = c.loop-week.self.rested in
    let outcomes : List Bool = c.loop-week.self.outcomes in
    let old : List Breach = c.loop-week.found.breaches.items in
    let j = c.in_ok-close.ensures.next in
    let (more, longer, judged) = c.in_ok-close.ensures.judged in
    let kinds = judged_kinds w current rested outcomes c.close.new.self.outcomes more judged in
    let at : w ≡ c.loop-week._week = c.loop-week.invariant.week in
    let from : 5760 + 10080 * c.week_of.result ≤ c.args.by = c.week_of.ensures.from in
    let is : c.number-end.result ≡ c.week_of.result = c.number-end.ensures.value in
    let below : c.loop-week._week < c.number-end.result = c.loop-week-test.true in
    let early : c.args.by ≤ 68374080 = c.requires.in_range in
    let own_is : own_of is_b9 c.close.new.found.breaches.items ≡ own_of is_b9 old ++ more =
    ap (own_of is_b9) longer ∙ own_more is_b9 old more kinds in
    record {
      week = j.0 ∙ ap (λ (n : ℕ). n + 1) at;
      kept = λ line horizon first start weeks le all s.
          (let before : AreChoices line horizon first start w current last rested outcomes (own_of is_b9 old) =
          c.loop-week.invariant.kept line horizon first start weeks le all s in
          rw (j.0, j.1, j.2, j.3, own_is)
          (choices_close line weeks horizon first start w current last rested outcomes (own_of is_b9 old) before
          (omega arith) (omega arith) (λ x is below'. all x is (omega arith)) c.close.new.self.outcomes more judged));
      appends = appends_then is_b9 false c.args.found.now c.loop-week.found c.close.new.found
          c.loop-week.invariant.appends
          (appends_some is_b9 false c.loop-week.found c.close.new.found more [] kinds (λ e. refl)
          longer (c.in_ok-close.ensures.debts ∙ sym (append-nil c.loop-week.found.debts.items)));
    }
