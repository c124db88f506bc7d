use Rattle.std.proofs.Common.{◌+◌, refl}
use Rattle.std.proofs.lemmas.Bool.{both_ways}
use Rattle.tacho_choice.specs.Weeks.{CanReach}
use Rattle.tacho_plain.proofs.TryingLemmas.{none_below, none_of_ten, serve_where}
use Rattle.tacho_plain.proofs.choices.can_serve.Goals as goal

pub loop-place-preserved : goal.loop-place-preserved
loop-place-preserved c = λ line start is are.
    none_below (λ left. CanReach line (start + c.args.first) (start + c.args.at) left)
    c.loop-place.place c.at.result c.at.ensures
    (λ h. both_ways c.can_leave.result c.if-can_leave.false ((c.can_leave.ensures line start is are).1 h))
    (c.loop-place.invariant line start is are)

pub returns-then-can_leave : goal.returns-then-can_leave
returns-then-can_leave c = λ line start is are. (
  λ h. (serve_where line start c.args.weeks.now is are c.args.first c.args.at c.requires.within).1
      (c.at.result, (c.can_leave.ensures line start is are).0 c.if-can_leave.true),
  λ h. refl,
)

pub returns : goal.returns
returns c = λ line start is are. (
  λ h. cc,
  λ h.
      let x = (serve_where line start c.args.weeks.now is are c.args.first c.args.at c.requires.within).0 h in
      absurd (none_of_ten (λ left. CanReach line (start + c.args.first) (start + c.args.at) left)
      c.loop-place.place c.loop-place-test.false (c.loop-place.invariant line start is are) x.0 x.1),
)
