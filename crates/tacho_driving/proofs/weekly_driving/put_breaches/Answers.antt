use Rattle.std.proofs.Common.{◌≡◌, ◌+◌, ◌++◌, [], false, List, refl, sym, ap, ◌∙◌}
use Rattle.std.proofs.lemmas.List.{append-nil, append_assoc}
use Rattle.tacho_law.specs.declared.breach.Breach.{Breach}
use Rattle.tacho_law.specs.declared.breach.Kind.TheVariants.{B6, B7}
use Rattle.tacho_law.specs.Weeks.{week_start}
use Rattle.tacho_pass.specs.Found.{as_list}
use Rattle.tacho_pass.proofs.AppendingLemmas.{appends_some}
use Rattle.tacho_driving.specs.declared.weekly_driving.Sums.{Sums}
use Rattle.tacho_pass.specs.Counts.{over_of}
use Rattle.tacho_pass.specs.Kinds.{is_b6_or_b7}
use Rattle.tacho_driving.specs.Sums.{sum_breaches}
use Rattle.tacho_driving.proofs.SumsLemmas.{breaches_kinds}
use Rattle.tacho_driving.proofs.weekly_driving.put_breaches.Goals as goal

pub returns-clause-appends : goal.returns-clause-appends
returns-clause-appends c =
    let s : Sums = c.args.sums.now in
    let old : List Breach = c.args.found.now.breaches.items in
    let xs : List Breach = as_list (over_of B6 3360 (week_start (s.week + 1)) s.here) in
    let ys : List Breach = as_list (over_of B7 5400 (week_start s.week) s.two) in
    let first : c.put.new.found.breaches.items ≡ old ++ xs =
    c.in_ok-put.ensures.breaches ∙ rw (c.over.ensures, c.first_minute-next.ensures, c.new-2.ensures) refl in
    let second : c.put-2.new.found.breaches.items ≡ c.put.new.found.breaches.items ++ ys =
    c.in_ok-put-2.ensures.breaches ∙ rw (c.over-2.ensures, c.first_minute-start.ensures, c.new.ensures) refl in
    appends_some is_b6_or_b7 false c.args.found.now c.put-2.new.found (sum_breaches s) [] (breaches_kinds s) (λ e. refl)
    (second ∙ ap (λ (zs : List Breach). zs ++ ys) first ∙ append_assoc old xs ys)
    (c.in_ok-put-2.ensures.debts ∙ c.in_ok-put.ensures.debts ∙ sym (append-nil c.args.found.now.debts.items))
