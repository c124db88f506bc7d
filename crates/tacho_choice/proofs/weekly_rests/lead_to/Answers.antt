use Rattle.std.proofs.Common.{◌≡◌, ◌+◌, ◌<◌, ◌≤◌, ◌∙◌, ℕ, refl, sym, arith}
use Rattle.std.proofs.lemmas.Bool.{both_ways}
use Rattle.tacho_choice.specs.Step.{first_place}
use Rattle.tacho_choice.proofs.OutcomesLemmas.{at_place, first_few, leads_at}
use Rattle.tacho_choice.proofs.weekly_rests.lead_to.Goals as goal
use Rattle.tacho_choice.proofs.weekly_rests.lead_to.Goals.{then-not-asks, else-not-asks}

pub returns-then-serves : goal.returns-then-serves
returns-then-serves c =
    let i : ℕ = c.loop-i.i in
    let first : c.first_place-first.result ≡ first_place c.args.crossing = c.first_place-first.ensures in
    let above : first_place c.args.crossing ≤ i =
    let from : c.first_place-first.result ≤ i = c.loop-i.auto.i in omega arith in
    let below : i < first_place c.args.crossing + 5 =
    let test : i < c.first_place-first.result + 5 = c.loop-i-test.true in omega arith in
    let few : first_place c.args.crossing ≤ 5 = first_few c.args.crossing in (
      λ h. elim c.if-not-asks.branch [
        | then-not-asks w ↦
            let x = at_place i (omega arith) in
            leads_at c.args.asks c.args.outcomes c.args.crossing c.args.counted x.0 i x.1 above below c.if-outcomes-i.true
            (λ e. absurd (both_ways c.args.asks w.if-not-asks.true e))
        | else-not-asks w ↦
            leads_at c.args.asks c.args.outcomes c.args.crossing c.args.counted w.at.result i w.at.ensures above below
            c.if-outcomes-i.true (λ e. sym w.serves.ensures ∙ (sym w.value-is ∙ c.if-serves.true))
      ],
      λ h. refl,
    )
