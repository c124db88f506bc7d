use Rattle.std.proofs.Common.{◌≡◌, ◌∙◌, ◌<◌, ◌+◌, ◌∷◌, [], ℕ, get_or, arith, refl}
use Rattle.std.proofs.lemmas.List.Elements.{Contains-get_or}
use Rattle.tacho_law.specs.declared.breach.Breach.{Breach}
use Rattle.tacho_law.specs.declared.run.Run.{Run}
use Rattle.tacho_law.specs.Line.{line_of, Line}
use Rattle.tacho_law.specs.Weeks.{week_start}
use Rattle.tacho_evidence.specs.declared.line.EvidenceLine.TheVariants.{From}
use Rattle.tacho_evidence.proofs.ChosenLemmas.{choice_evidence_of, since_week, weeks_as, HasWeeks}
use Rattle.tacho_evidence.proofs.DebtLinesLemmas.{rests_in_time}
use Rattle.tacho_evidence.proofs.choice.choice_lines.Goals as goal

pub touching-rests-requires-clause-in_time : goal.touching-rests-requires-clause-in_time
touching-rests-requires-clause-in_time c =
    rests_in_time c.args.examined.now.spans.now c.args.examined.now.base c.args.examined.now.past c.requires.examined 1440
    c.args.weekly.now c.requires.weekly

pub append_weeks-requires-clause-in_time : goal.append_weeks-requires-clause-in_time
append_weeks-requires-clause-in_time c =
    rests_in_time c.args.examined.now.spans.now c.args.examined.now.base c.args.examined.now.past c.requires.examined 1440
    c.args.weekly.now c.requires.weekly

pub append_weekly-requires-clause-nonempty : goal.append_weekly-requires-clause-nonempty
append_weekly-requires-clause-nonempty c = λ k d within.
    let run : Run = get_or c.touching-rests.result.now k d in
    let among = (c.touching-rests.ensures.each run).0 (Contains-get_or c.touching-rests.result.now k d within) in
    ((c.requires.weekly.each run).0 among.0).rests.some

pub append_weekly-requires-clause-after : goal.append_weekly-requires-clause-after
append_weekly-requires-clause-after c = λ k d within.
    let run : Run = get_or c.touching-rests.result.now k d in
    let among = (c.touching-rests.ensures.each run).0 (Contains-get_or c.touching-rests.result.now k d within) in
    let after : c.number.result < run.past = among.2 in
    let from : c.number.result ≡ week_start c.args.anew = c.number.ensures.value ∙ c.first_minute.ensures in
    omega (arith, after, from)

pub append_weekly-requires-clause-before : goal.append_weekly-requires-clause-before
append_weekly-requires-clause-before c = λ k d within.
    let run : Run = get_or c.touching-rests.result.now k d in
    let among = (c.touching-rests.ensures.each run).0 (Contains-get_or c.touching-rests.result.now k d within) in
    let before : run.start < c.number-2.result = among.1 in
    let to : c.number-2.result ≡ week_start c.next_week-past.result = c.number-2.ensures.value ∙ c.first_minute-2.ensures in
    let past : c.next_week-past.result ≡ c.next_week-last.result + 1 = c.next_week-past.ensures in
    omega (arith, before, to, past)

pub returns : goal.returns
returns c =
    let line : Line = line_of c.args.examined.now.spans.now in
    let horizon : ℕ = c.args.examined.now.past in
    let breach : Breach = c.args.breach.now in
    let week : c.week_of.result ≡ c.requires.breach.week =
    since_week line horizon c.args.anew breach c.requires.breach c.week_of.result c.week_of.ensures.from c.week_of.ensures.before in
    let last : c.next_week-last.result ≡ c.week_of.result + 1 = c.next_week-last.ensures in
    let past : c.next_week-past.result ≡ c.next_week-last.result + 1 = c.next_week-past.ensures in
    let from : c.number.result ≡ week_start c.args.anew = c.number.ensures.value ∙ c.first_minute.ensures in
    let to : c.number-2.result ≡ week_start c.next_week-past.result = c.number-2.ensures.value ∙ c.first_minute-2.ensures in
    let started : c.push.new.self.items ≡ From (week_start c.args.anew) ∷ [] =
    rw (c.in_ok-push.ensures.items, c.new-lines.ensures.items, c.number-3.ensures.value, c.first_minute-3.ensures) refl in
    let (weeks, week_lines, after) = c.in_ok-append_weeks.ensures line c.requires.weekly in
    let have : HasWeeks line c.args.anew c.next_week-past.result (From (week_start c.args.anew) ∷ []) c.append_weeks.new.lines.items =
    weeks_as line c.number-4.result c.args.anew c.number-5.result c.next_week-past.result c.push.new.self.items
    (From (week_start c.args.anew) ∷ []) c.append_weeks.new.lines.items weeks c.number-4.ensures.value c.number-5.ensures.value
    started week_lines after in
    let (counted, rest_lines, added) = c.in_ok-append_weekly.ensures in
    choice_evidence_of c.args.examined.now.spans.now c.args.examined.now.base horizon c.requires.examined breach c.args.anew
    c.requires.anew c.requires.breach c.args.weekly.now c.touching-rests.result.now c.requires.weekly
    c.touching-rests.ensures.in_order c.next_week-last.result c.next_week-past.result
    (λ run. (
      λ h.
          let (among, before, late) = (c.touching-rests.ensures.each run).0 h in
          (among, omega (arith, before, to), omega (arith, late, from)),
      λ h.
          let (among, before, late) = h in
          (c.touching-rests.ensures.each run).1 (among, omega (arith, before, to), omega (arith, late, from)),
    ))
    (omega (arith, week, last)) (omega (arith, week, last, past)) c.append_weeks.new.lines.items c.append_weekly.new.lines.items
    have (record { counted = counted; are = rest_lines; is = added })
