use Rattle.std.proofs.lemmas.Result.{IfOk-weaker}
use Rattle.tacho_reading.proofs.TellLemmas.{finds_as, finds_handed, finds_mapped, finds_then}
use Rattle.tacho_store.proofs.withdrawal.rows_in_place.Goals as goal

pub returns-clause-found : goal.returns-clause-found
returns-clause-found g c =
    finds_as (finds_then (finds_mapped c.rows_near.ensures c.in_ok-cards.ensures.cases)
    (finds_then (finds_mapped c.kept_near.ensures c.in_ok-others.ensures.cases) (finds_mapped c.rows_near-2.ensures c.in_ok-helds.ensures.cases)))
    (IfOk-weaker c.rows_for.result _ _ (λ rows are t (cards, (others, helds)) cards_apart held_apart. record {
      cards = c.in_ok-cards.cards.items;
      others = c.in_ok-others.others.items;
      helds = c.in_ok-helds.helds.items;
      cards_near = cards cards_apart;
      others_near = others;
      helds_near = helds held_apart;
      are_rows = are;
    }) (rw c.deref.ensures.value at (rw c.deref-2.ensures.value at (rw c.deref-3.ensures.value at c.rows_for.ensures.rows))))

pub returns-in_err-others-clause-found : goal.returns-in_err-others-clause-found
returns-in_err-others-clause-found g c =
    finds_handed (finds_then (finds_mapped c.rows_near.ensures c.in_ok-cards.ensures.cases)
    (finds_mapped c.kept_near.ensures c.in_err-others.ensures.cases)) c.from_residual-in_err-others.ensures.0

pub returns-in_err-helds-clause-found : goal.returns-in_err-helds-clause-found
returns-in_err-helds-clause-found g c =
    finds_handed (finds_then (finds_mapped c.rows_near.ensures c.in_ok-cards.ensures.cases)
    (finds_then (finds_mapped c.kept_near.ensures c.in_ok-others.ensures.cases)
    (finds_mapped c.rows_near-2.ensures c.in_err-helds.ensures.cases))) c.from_residual-in_err-helds.ensures.0
