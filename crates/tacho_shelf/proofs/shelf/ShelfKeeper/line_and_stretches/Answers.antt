use Rattle.std.proofs.lemmas.Result.{IfOk-weaker}
use Rattle.tacho_shelf.proofs.RowLemmas.{same_mark, true_of_found}
use Rattle.tacho_shelf.proofs.shelf.ShelfKeeper.line_and_stretches.Goals as goal

pub returns-clause-within : goal.returns-clause-within
returns-clause-within c = λ clean s st.
    let d = c.in_ok-row.field-0.now in
    IfOk-weaker c.line_and_stretches.result _ _
    (λ found is. true_of_found c.args.driver c.args.self.now s d _ c.in_ok-row.ensures st (λ m w. same_mark found.0 d is m))
    c.line_and_stretches.ensures.line
