use Rattle.std.proofs.Common.{◌≡◌, ℕ, ◌+◌, List, [], ◌∷◌, ◌++◌, length, arith}
use Rattle.std.proofs.lemmas.List.{length-append}
use Rattle.tacho_choice.specs.declared.week.WeekOfRests.{WeekOfRests}
use Rattle.tacho_plain.proofs.WeeksOfRestsLemmas.{weeks_none, weeks_more}
use Rattle.tacho_plain.proofs.choices.weeks_of_rests.Goals as goal

pub loop-number-init : goal.loop-number-init
loop-number-init c = rw c.new-weeks.ensures.items (record {
  count = omega arith;
  each = λ line are is. weeks_none line c.args.first (omega arith);
})

pub loop-number-preserved : goal.loop-number-preserved
loop-number-preserved c =
    let weeks : List WeekOfRests = c.loop-number.weeks.items in
    let week : WeekOfRests = c.week_of_rests.result in
    let n : ℕ = c.loop-number.number in
    let count : c.args.first + length weeks ≡ n = c.loop-number.invariant.count in
    let size : length (weeks ++ week ∷ []) ≡ length weeks + 1 = length-append weeks (week ∷ []) in
    rw c.in_ok-push.ensures.items (record {
      count = omega arith;
      each = λ line are is.
          weeks_more line c.args.first n weeks week (omega arith) count (c.week_of_rests.ensures line are is)
          (c.loop-number.invariant.each line are is);
    })
