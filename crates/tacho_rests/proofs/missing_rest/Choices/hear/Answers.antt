use Rattle.std.proofs.Common.{◌≡◌, ◌+◌, ◌<◌, false, arith}
use Rattle.tacho_law.specs.Weeks.{week_start}
use Rattle.tacho_pass.specs.Found.{own_of}
use Rattle.tacho_pass.specs.Kinds.{is_b9}
use Rattle.tacho_pass.proofs.AppendingLemmas.{appends_none}
use Rattle.tacho_rests.specs.Choices.{AreChoices}
use Rattle.tacho_rests.proofs.ChoicesLemmas.{choices_rest}
use Rattle.tacho_rests.proofs.missing_rest.Choices.hear.Goals as goal

pub returns-then-rest-lt-FIRST_WEEK-clause-appends : goal.returns-then-rest-lt-FIRST_WEEK-clause-appends
returns-then-rest-lt-FIRST_WEEK-clause-appends c = appends_none is_b9 false c.args.found.now

pub returns-then-rest-lt-FIRST_WEEK-clause-kept : goal.returns-then-rest-lt-FIRST_WEEK-clause-kept
returns-then-rest-lt-FIRST_WEEK-clause-kept c = λ line horizon first later weeks le is below only s.
    (let early : c.args.rest.start < 5760 = c.if-rest-lt-FIRST_WEEK.true in
    rw (c.add.ensures.week, c.add.ensures.current, c.add.ensures.last, c.add.ensures.rested, c.add.ensures.outcomes)
    (choices_rest line weeks horizon first c.args.rest.start later c.args.self.now.week c.args.self.now.current
    c.args.self.now.last c.args.self.now.rested c.args.self.now.outcomes (own_of is_b9 c.args.found.now.breaches.items)
    c.args.rest is (omega arith) below only (omega arith) s))

pub returns-clause-kept : goal.returns-clause-kept
returns-clause-kept c = λ line horizon first later weeks le is below only s.
    (let by : c.new.result ≡ c.args.rest.start = c.new.ensures in
    let q = c.close_by.new.self in
    let end : c.new.result < week_start (q.week + 1) = c.in_ok-close_by.ensures.end in
    let j : AreChoices line horizon first c.args.rest.start q.week q.current q.last q.rested q.outcomes
    (own_of is_b9 c.close_by.new.found.breaches.items) =
    c.in_ok-close_by.ensures.kept line horizon first c.args.rest.start weeks (omega arith)
    (λ x is' before. (omega arith)) s in
    rw (
      c.add-2.ensures.week,
      c.add-2.ensures.current,
      c.add-2.ensures.last,
      c.add-2.ensures.rested,
      c.add-2.ensures.outcomes,
    )
    (choices_rest line weeks horizon first c.args.rest.start later q.week q.current q.last q.rested q.outcomes
    (own_of is_b9 c.close_by.new.found.breaches.items)
    c.args.rest is (omega arith) below only (omega arith) j))
