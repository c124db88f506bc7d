use Rattle.std.proofs.Common.{◌≡◌, ◌≤◌, ◌<◌, ◌+◌, ◌++◌, ◌-◌, suc, IsTrue, false, Bool, ℕ, List, refl, sym, ap, subst, ◌∙◌, arith}
use Rattle.std.proofs.lemmas.List.{append_assoc}
use Rattle.tacho_law.specs.Weeks.{week_start}
use Rattle.tacho_law.specs.declared.breach.Breach.{Breach}
use Rattle.tacho_pass.proofs.AppendingLemmas.{appends_none, appends_then}
use Rattle.tacho_driving.specs.declared.weekly_driving.Sums.{Sums}
use Rattle.tacho_pass.specs.Kinds.{is_b6_or_b7}
use Rattle.tacho_driving.specs.Sums.{sums_in_range, turn_week, turn_found, through, through_found}
use Rattle.tacho_driving.proofs.weekly_driving.Sums.go_through.Goals as goal

pub loop-init : goal.loop-init
loop-init c =
    let z : c.args.ends - 0 ≡ c.args.ends = omega arith in
    record {
      place = c.requires.nonempty;
      before = c.requires.before;
      week = omega arith;
      few = c.requires.bounded;
      sums = rw z refl;
      breaches = rw z refl;
      appends = appends_none is_b6_or_b7 false c.args.found.now;
    }

pub turn-requires-clause-week : goal.turn-requires-clause-week
turn-requires-clause-week c =
    let i : ℕ = c.loop.counter in
    let low : week_start (c.args.self.now.week + 1 + c.args.ends) ≤ c.args.to = c.requires.ends in
    let w : c.loop.self.week ≡ c.args.self.now.week + i = c.loop.invariant.week in
    let t : i < c.args.ends = c.loop-test.true in
    let early : c.args.to ≤ week_start 6788 = c.requires.in_range in
    omega arith

pub returns-in_err-turn-clause-appends : goal.returns-in_err-turn-clause-appends
returns-in_err-turn-clause-appends c = appends_then is_b6_or_b7 false c.args.found.now c.loop.found c.turn.new.found
    c.loop.invariant.appends c.turn.ensures.appends

pub loop-preserved : goal.loop-preserved
loop-preserved c =
    let i : ℕ = c.loop.counter in
    let d : Bool = c.args.drives in
    let ends : ℕ = c.args.ends in
    let to : ℕ = c.args.to in
    let place : ℕ = c.loop.place in
    let now : Sums = c.loop.self in
    let next : Sums = c.turn.new.self in
    let k : ℕ = ends - (i + 1) in
    let end : ℕ = c.number-end.result in
    let old : List Breach = c.args.found.now.breaches.items in
    let seen : List Breach = c.loop.found.breaches.items in
    let t : i < ends = c.loop-test.true in
    let e : suc k ≡ ends - i = omega arith in
    let low : week_start (c.args.self.now.week + 1 + ends) ≤ to = c.requires.ends in
    let w : now.week ≡ c.args.self.now.week + i = c.loop.invariant.week in
    let turn : next ≡ turn_week d place now = c.in_ok-turn.ensures.turned in
    let a : end ≡ c.first_minute.result = c.number-end.ensures.value in
    let b : c.first_minute.result ≡ week_start c.new.result = c.first_minute.ensures in
    let n : c.new.result ≡ now.week + 2 = c.new.ensures in
    let is : end ≡ week_start (now.week + 2) = omega arith in
    let week : next.week ≡ now.week + 1 = ap (λ (x : Sums). x.week) turn in
    let on : through k d end to next ≡ through (suc k) d place to now =
    ap (λ (x : Sums). through k d end to x) turn ∙ ap (λ (p : ℕ). through k d p to (turn_week d place now)) is in
    let more : through_found k d end next ≡ through_found k d (week_start (now.week + 2)) (turn_week d place now) =
    ap (λ (x : Sums). through_found k d end x) turn ∙ ap (λ (p : ℕ). through_found k d p (turn_week d place now)) is in
    record {
      place = omega arith;
      before = omega arith;
      week = omega arith;
      few = subst (λ (p : ℕ). IsTrue (sums_in_range next p)) (sym is) c.in_ok-turn.ensures.bounded;
      sums = on ∙ ap (λ (m : ℕ). through m d place to now) e ∙ c.loop.invariant.sums;
      breaches = ap (λ (xs : List Breach). xs ++ through_found k d end next) c.in_ok-turn.ensures.breaches
          ∙ append_assoc seen (turn_found d place now) (through_found k d end next)
          ∙ ap (λ (xs : List Breach). seen ++ (turn_found d place now ++ xs)) more
          ∙ ap (λ (m : ℕ). seen ++ through_found m d place now) e
          ∙ c.loop.invariant.breaches;
      appends = appends_then is_b6_or_b7 false c.args.found.now c.loop.found c.turn.new.found c.loop.invariant.appends
          c.in_ok-turn.ensures.appends;
    }
