use Rattle.std.proofs.Common.{◌+◌, ◌-◌, refl}
use Rattle.std.specs.Prelude.{◌↔◌, slice_index_or}
use Rattle.std.proofs.lemmas.Bool.{both_ways}
use Rattle.tacho_choice.specs.Step.{IsFirst, IsNext}
use Rattle.tacho_choice.specs.Weeks.{CanReach, week_none}
use Rattle.tacho_plain.proofs.TryingLemmas.{none_below, none_of_ten, leave_first, leave_next}
use Rattle.tacho_plain.proofs.choices.+can_leave.Goals as goal
use Rattle.tacho_plain.proofs.choices.+can_leave.Goals.{
  else-is_next-via-then-is_next+else-can_leave,
  else-is_next-via-else-is_next,
}

pub loop-place-preserved : goal.loop-place-preserved
loop-place-preserved t c = λ line start is are.
    none_below (λ before. CanReach line (start + c.args.first) (start + (c.args.at - 1)) before
    × IsNext (slice_index_or c.args.weeks.now c.args.at week_none).rests c.is_asked-asks.result before c.args.left)
    c.loop-place.place c.at-before.result c.at-before.ensures
    (λ h. elim c.else-is_next.branch [
      | else-is_next-via-then-is_next+else-can_leave w ↦
          both_ways w.can_leave.result w.if-can_leave.false ((w.can_leave.ensures line start is are).1 h.0)
      | else-is_next-via-else-is_next w ↦ both_ways c.is_next.result w.if-is_next.false (c.is_next.ensures.1 h.1)
    ])
    (c.loop-place.invariant line start is are)

pub returns : goal.returns
returns t c = λ line start is are. (
  λ h. cc,
  λ h.
      let x = (leave_next line start c.args.weeks.now is are c.args.first c.args.at c.args.left c.is_asked-asks.result
      c.requires.within c.requires.range c.if-at-first.false c.is_asked-asks.ensures).0 h in
      absurd (none_of_ten (λ before. CanReach line (start + c.args.first) (start + (c.args.at - 1)) before
      × IsNext (slice_index_or c.args.weeks.now c.args.at week_none).rests c.is_asked-asks.result before c.args.left)
      c.loop-place.place c.loop-place-test.false (c.loop-place.invariant line start is are) x.0 x.1),
)

pub returns-then-can_leave : goal.returns-then-can_leave
returns-then-can_leave t c = λ line start is are. (
  λ h. (leave_next line start c.args.weeks.now is are c.args.first c.args.at c.args.left c.is_asked-asks.result
      c.requires.within c.requires.range c.if-at-first.false c.is_asked-asks.ensures).1 (
        c.at-before.result,
        (
          (c.can_leave.ensures line start is are).0 c.if-can_leave.true,
          c.is_next.ensures.0 c.if-is_next.true,
        ),
      ),
  λ h. refl,
)

pub returns-then-at-first : goal.returns-then-at-first
returns-then-at-first t c = λ line start is are.
    (let left : CanReach line (start + c.args.first) (start + c.args.at) c.args.left
    ↔ IsFirst (slice_index_or c.args.weeks.now c.args.at week_none).rests c.args.left =
    leave_first line start c.args.weeks.now is are c.args.first c.args.at c.args.left
    c.requires.within c.if-at-first.true in
    (λ h. left.1 (c.is_first.ensures.0 h), λ h. c.is_first.ensures.1 (left.0 h)))
