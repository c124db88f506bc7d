use Rattle.std.proofs.Common.{◌≡◌, ◌∷◌, ◌<◌, ◌≤◌, ◌∙◌, [], ℕ, List, ap, arith, length, sym, refl, take}
use Rattle.tacho_law.specs.declared.debt.Debt.{Debt}
use Rattle.tacho_law.specs.declared.run.Run.{Run}
use Rattle.tacho_law.specs.declared.breach.Breach.{Breach}
use Rattle.tacho_law.specs.Debts.{paid_from, IsMainRest}
use Rattle.tacho_law.specs.Weeks.{week_start}
use Rattle.tacho_evidence.specs.declared.line.EvidenceLine.TheVariants.{Main, Owes as OwesLine}
use Rattle.tacho_law.specs.Line.{line_of, Line}
use Rattle.tacho_evidence.proofs.DebtLinesLemmas.{debt_evidence_of, ends_in_time, first_lines, lines_as, main_as, paid_within}
use Rattle.tacho_evidence.proofs.DebtLinesLemmas.{part_in_time, rests_in_time, runs_in_time, unpaid_of, week_is, HaveLines, IsUnpaid}
use Rattle.tacho_evidence.proofs.debts.debt_lines.Goals as goal

pub main_of-requires-clause-in_time : goal.main_of-requires-clause-in_time
main_of-requires-clause-in_time c =
    rests_in_time c.args.examined.now.spans.now c.args.examined.now.base c.args.examined.now.past c.requires.examined 1440
    c.args.weekly.now c.requires.weekly

pub unreachable-requires : goal.unreachable-requires
unreachable-requires c =
    let line : Line = line_of c.args.examined.now.spans.now in
    let horizon : ℕ = c.args.examined.now.past in
    let u : IsUnpaid line horizon c.args.debts.now c.args.breach.now =
    unpaid_of line horizon c.args.debts.now c.args.breach.now c.requires.debts c.requires.breach in
    let week : c.week_of-week.result ≡ u.debt.week =
    week_is line horizon c.args.debts.now c.args.breach.now u c.week_of-week.result c.week_of-week.ensures.from
    c.week_of-week.ensures.before in
    c.in_default.ensures line c.requires.weekly u.owes.main
    (main_as line horizon c.number-horizon.result u.debt.week c.week_of-week.result u.owes.main
    (sym c.number-horizon.ensures.value) (sym week) u.owes.is)

pub touching-requires-clause-in_time : goal.touching-requires-clause-in_time
touching-requires-clause-in_time c =
    runs_in_time c.args.examined.now.spans.now c.args.examined.now.base c.args.examined.now.past c.requires.examined
    c.args.runs.now c.requires.runs

pub touching-requires-clause-range : goal.touching-requires-clause-range
touching-requires-clause-range c =
    let line : Line = line_of c.args.examined.now.spans.now in
    let horizon : ℕ = c.args.examined.now.past in
    let debts : List Debt = c.args.debts.now in
    let breach : Breach = c.args.breach.now in
    let u : IsUnpaid line horizon debts breach = unpaid_of line horizon debts breach c.requires.debts c.requires.breach in
    let week : c.week_of-week.result ≡ u.debt.week =
    week_is line horizon debts breach u c.week_of-week.result c.week_of-week.ensures.from c.week_of-week.ensures.before in
    let is : IsMainRest line horizon u.debt.week c.in-Some.main =
    main_as line c.number-horizon.result horizon c.week_of-week.result u.debt.week c.in-Some.main
    c.number-horizon.ensures.value week (c.in-Some.ensures line c.requires.weekly) in
    let due : c.number-deadline.result ≡ u.debt.deadline = c.number-deadline.ensures.value ∙ u.moment in
    let ends : c.in-Some.main.past ≤ u.debt.deadline =
    ends_in_time line c.args.runs.now c.requires.runs horizon debts breach u c.in-Some.main is in
    omega (arith, due, ends)

pub append_rooms-requires-clause-in_time : goal.append_rooms-requires-clause-in_time
append_rooms-requires-clause-in_time c =
    rests_in_time c.args.examined.now.spans.now c.args.examined.now.base c.args.examined.now.past c.requires.examined 1440
    c.args.weekly.now c.requires.weekly

pub append_rooms-requires-clause-rests : goal.append_rooms-requires-clause-rests
append_rooms-requires-clause-rests c =
    part_in_time c.args.runs.now c.touching.result.now
    (runs_in_time c.args.examined.now.spans.now c.args.examined.now.base c.args.examined.now.past c.requires.examined
    c.args.runs.now c.requires.runs) (λ run h. ((c.touching.ensures.each run).0 h).0) c.touching.ensures.in_order

pub append_rooms-requires-clause-paid : goal.append_rooms-requires-clause-paid
append_rooms-requires-clause-paid c = λ run.
    let line : Line = line_of c.args.examined.now.spans.now in
    let horizon : ℕ = c.args.examined.now.past in
    let debts : List Debt = c.args.debts.now in
    let breach : Breach = c.args.breach.now in
    let u : IsUnpaid line horizon debts breach = unpaid_of line horizon debts breach c.requires.debts c.requires.breach in
    let week : c.week_of-week.result ≡ u.debt.week =
    week_is line horizon debts breach u c.week_of-week.result c.week_of-week.ensures.from c.week_of-week.ensures.before in
    let place : c.place_of.result ≡ u.place = c.place_of.ensures u.place u.debt u.this (sym week) in
    let bound : u.place < length debts = u.within in
    let within : horizon ≤ 68374080 = c.requires.examined.within in
    let paid : paid_from run (take c.place_of.result debts) ≤ horizon =
    paid_within line horizon debts c.requires.debts run c.place_of.result (omega (arith, place, bound)) in
    omega (arith, within, paid)

pub returns : goal.returns
returns c =
    let line : Line = line_of c.args.examined.now.spans.now in
    let horizon : ℕ = c.args.examined.now.past in
    let debts : List Debt = c.args.debts.now in
    let breach : Breach = c.args.breach.now in
    let u : IsUnpaid line horizon debts breach = unpaid_of line horizon debts breach c.requires.debts c.requires.breach in
    let week : c.week_of-week.result ≡ u.debt.week =
    week_is line horizon debts breach u c.week_of-week.result c.week_of-week.ensures.from c.week_of-week.ensures.before in
    let is : IsMainRest line horizon u.debt.week c.in-Some.main =
    main_as line c.number-horizon.result horizon c.week_of-week.result u.debt.week c.in-Some.main
    c.number-horizon.ensures.value week (c.in-Some.ensures line c.requires.weekly) in
    let due : c.number-deadline.result ≡ u.debt.deadline = c.number-deadline.ensures.value ∙ u.moment in
    let place : c.place_of.result ≡ u.place = c.place_of.ensures u.place u.debt u.this (sym week) in
    let rests : List Run = c.touching.result.now in
    let started : c.push-2.new.self.items ≡ OwesLine breach.since breach.amount breach.moment ∷ (Main c.in-Some.main ∷ []) =
    rw (
      c.in_ok-push-2.ensures.items,
      c.in_ok-push.ensures.items,
      c.new-lines.ensures.items,
      c.number.ensures.value,
      c.number-deadline.ensures.value,
    ) refl in
    let found = c.in_ok-append_rooms.ensures line c.requires.weekly (λ run h.
    (c.requires.runs.each run).0 ((c.touching.ensures.each run).0 h).0) in
    let have : HaveLines line c.number-horizon.result (take c.place_of.result debts) c.number-deadline.result rests
    c.push-2.new.self.items c.append_rooms.new.lines.items =
    record { long = found.0; rooms = found.1; kept = found.2; are = found.3; is = found.4 } in
    debt_evidence_of line c.args.runs.now c.requires.runs horizon debts breach u c.in-Some.main is rests
    c.append_rooms.new.lines.items
    (λ run. (
      λ h.
          let a = (c.touching.ensures.each run).0 h in
          let l : run.start < c.number-deadline.result = a.1 in
          (a.0, omega (arith, l, due), a.2),
      λ h. (let l : run.start < u.debt.deadline = h.1 in
          (c.touching.ensures.each run).1 (h.0, omega (arith, l, due), h.2)),
    ))
    (lines_as line c.number-horizon.result horizon c.number-deadline.result u.debt.deadline
    (take c.place_of.result debts) (take u.place debts) rests c.push-2.new.self.items
    (OwesLine (week_start u.debt.week) u.debt.amount u.debt.deadline ∷ (Main c.in-Some.main ∷ []))
    c.append_rooms.new.lines.items c.number-horizon.ensures.value due (ap (λ (i : ℕ). take i debts) place)
    (started ∙ first_lines line horizon debts breach u c.in-Some.main) have)
