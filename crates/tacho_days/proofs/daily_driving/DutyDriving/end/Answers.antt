use Rattle.std.proofs.Common.{◌≡◌, ◌++◌, [], false, List, refl, sym, ap, ◌∙◌}
use Rattle.std.proofs.lemmas.List.{append-nil, append_assoc}
use Rattle.tacho_law.specs.declared.breach.Breach.{Breach}
use Rattle.tacho_law.specs.declared.breach.Kind.TheVariants.{B4}
use Rattle.tacho_pass.specs.declared.found.Found.{Found}
use Rattle.tacho_pass.specs.Found.{as_list}
use Rattle.tacho_pass.specs.Counts.{over_of}
use Rattle.tacho_pass.specs.Kinds.{is_b4_or_b5}
use Rattle.tacho_pass.proofs.AppendingLemmas.{appends_none, appends_some}
use Rattle.tacho_days.specs.declared.daily_driving.DutyDriving.{DutyDriving}
use Rattle.tacho_days.specs.DailyDriving.{often_of, found_of}
use Rattle.tacho_days.proofs.DailyDrivingLemmas.{kinds_of}
use Rattle.tacho_days.proofs.daily_driving.DutyDriving.end.Goals as goal

pub returns-else-ends_day-clause-appends : goal.returns-else-ends_day-clause-appends
returns-else-ends_day-clause-appends c = appends_none is_b4_or_b5 false c.args.found.now

pub returns-in_ok-put-2-clause-appends : goal.returns-in_ok-put-2-clause-appends
returns-in_ok-put-2-clause-appends c =
    let d : DutyDriving = c.args.self.now in
    let now : Found = c.put-then-ends_day.new.found in
    let old : List Breach = c.args.found.now.breaches.items in
    let xs : List Breach = as_list (over_of B4 600 d.from d.ten) in
    let ys : List Breach = often_of d in
    let first : c.put.new.found.breaches.items ≡ old ++ xs = c.in_ok-put.ensures.breaches ∙ rw c.over.ensures refl in
    let second : now.breaches.items ≡ c.put.new.found.breaches.items ++ ys =
    c.in_ok-put-2.ensures.breaches ∙ rw c.often.ensures refl in
    appends_some is_b4_or_b5 false c.args.found.now now (found_of d) [] (kinds_of d) (λ e. refl)
    (second ∙ ap (λ (zs : List Breach). zs ++ ys) first ∙ append_assoc old xs ys)
    (c.in_ok-put-2.ensures.debts ∙ c.in_ok-put.ensures.debts ∙ sym (append-nil c.args.found.now.debts.items))
