use Rattle.std.proofs.Common.{◌+◌, ◌-◌, [], ◌∷◌, Ok, cond, sym, ap, ◌∙◌, arith}
use Rattle.tacho_card.specs.DriverActivity.{wrap_place}
use Rattle.tacho_card.specs.Chain.{chain_from}
use Rattle.tacho_card.proofs.ChainLemmas.{read_length, chain_fault, chain_last, chain_more, less_left}
use Rattle.tacho_card.proofs.records.RecordsIterator.next.Goals as goal
use Rattle.tacho_card.proofs.records.RecordsIterator.next.Goals.{then-self-2, else-self-2}

pub overflow_sub-self : goal.overflow_sub-self
overflow_sub-self c =
    let is = c.self.inside in
    let bounds = read_length is.buffer.now is.place is.left c.in-Ok.record (sym c.at.ensures ∙ c.in-Ok.is) in
    omega (arith, bounds.1, c.number_in-len.ensures)

pub returns-in-Err-clause-steps : goal.returns-in-Err-clause-steps
returns-in-Err-clause-steps c =
    let is = c.self.inside in
    sym c.self.view_is
    ∙ ap (λ b. cond b [] (chain_from (is.left + 1) is.buffer.now is.newest is.place is.left)) c.if-self.false
    ∙ chain_fault is.buffer.now is.newest is.place is.left c.in-Err.fault (sym c.at.ensures ∙ c.in-Err.is)

pub returns-in-Err-clause-goes : goal.returns-in-Err-clause-goes
returns-in-Err-clause-goes c =
    record { on = λ _. (tt, tt, less_left _ _ _ (returns-in-Err-clause-steps c)); keeps = tt; rests = λ _. tt }

pub returns-after-self-2-clause-steps : goal.returns-after-self-2-clause-steps
returns-after-self-2-clause-steps c =
    let is = c.self.inside in
    let read = sym c.at.ensures ∙ c.in-Ok.is in
    let seen = sym c.self.view_is ∙ ap (λ b. cond b [] (chain_from (is.left + 1) is.buffer.now is.newest is.place is.left)) c.if-self.false in
    elim c.if-self-2.branch [
      | then-self-2 w ↦ seen ∙ chain_last is.buffer.now is.newest is.place is.left c.in-Ok.record read w.if-self-2.true ∙ ap (λ xs. Ok c.in-Ok.record ∷ xs) (sym w.self-is)
      | else-self-2 w ↦
          let rest = w.self-is
          ∙ ap (λ b. cond b [] (chain_from ((is.left - c.number_in-len.result) + 1) is.buffer.now is.newest (wrap_place is.buffer.now (is.place + c.number_in-len.result)) (is.left - c.number_in-len.result))) c.if-self.false
          ∙ ap (λ n. chain_from ((is.left - n) + 1) is.buffer.now is.newest (wrap_place is.buffer.now (is.place + n)) (is.left - n)) c.number_in-len.ensures in
          seen ∙ chain_more is.buffer.now is.newest is.place is.left c.in-Ok.record read w.if-self-2.false ∙ ap (λ xs. Ok c.in-Ok.record ∷ xs) (sym rest)
    ]

pub returns-after-self-2-clause-goes : goal.returns-after-self-2-clause-goes
returns-after-self-2-clause-goes c =
    record { on = λ _. (tt, tt, less_left _ _ _ (returns-after-self-2-clause-steps c)); keeps = tt; rests = λ _. tt }
