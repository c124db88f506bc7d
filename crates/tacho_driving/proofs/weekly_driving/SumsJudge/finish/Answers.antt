use Rattle.std.proofs.Common.{◌≡◌, ◌≤◌, ◌+◌, ◌&&◌, ◌++◌, ℕ, List, [], refl, ap, ◌∙◌, arith, nat_le, true, false, Bool}
use Rattle.std.proofs.lemmas.Bool.Decides.{nat_tests}
use Rattle.tacho_law.specs.declared.breach.Breach.{Breach}
use Rattle.tacho_law.specs.Weeks.{week_start}
use Rattle.tacho_pass.specs.Found.{own_of}
use Rattle.tacho_pass.proofs.AppendingLemmas.{own_more}
use Rattle.tacho_driving.specs.declared.weekly_driving.Sums.{Sums}
use Rattle.tacho_pass.specs.Kinds.{is_b6_or_b7}
use Rattle.tacho_driving.specs.Sums.{through_found}
use Rattle.tacho_driving.proofs.SumsLemmas.{through_kinds, sums_end}
use Rattle.tacho_driving.proofs.weekly_driving.SumsJudge.finish.Goals as goal

second : (a b c : Bool) → (a && (b && c)) ≡ true → b ≡ true
second true true c e = refl
second true false c e = e
second false true c e = refl
second false false c e = e

pub new-requires : goal.new-requires
new-requires c =
    let s : Sums = c.args.self in
    let h : ℕ = c.args.horizon in
    let le : nat_le (week_start (s.week + 1)) h ≡ true =
    second (nat_le s.here.minutes h && (nat_le s.two.minutes h && nat_le s.ahead.minutes h))
    (nat_le (week_start (s.week + 1)) h) (nat_le h (week_start (s.week + 2))) c.requires.fits in
    let from : week_start (s.week + 1) ≤ h = grind (arith, nat_tests) in
    let w : h ≤ 68374080 = c.requires.within in
    omega arith

pub returns-clause-finished : goal.returns-clause-finished
returns-clause-finished c = λ base spans r x.
    (let s : Sums = c.args.self in
    let past : ℕ = c.args.horizon in
    let old : List Breach = c.args.found.now.breaches.items in
    let items : c.go_through.new.found.breaches.items ≡ old ++ through_found 2 false past s =
    c.in_ok-go_through.ensures.breaches in
    let own_is : own_of is_b6_or_b7 c.go_through.new.found.breaches.items ≡ own_of is_b6_or_b7 old ++ through_found 2 false past s =
    ap (own_of is_b6_or_b7) items ∙ own_more is_b6_or_b7 old (through_found 2 false past s)
    (through_kinds 2 false past s) in
    rw own_is (sums_end spans base past s (own_of is_b6_or_b7 old) [] r x))
