use Rattle.tacho_shelf.proofs.RowLemmas.{same_mark, true_of_found}
use Rattle.tacho_shelf.proofs.shelf.ShelfKeeper.line_within.Goals as goal

pub returns-clause-within : goal.returns-clause-within
returns-clause-within c = λ clean s st.
    let d = c.in_ok-row.field-0.now in
    true_of_found c.args.driver c.args.self.now s d _ c.in_ok-row.ensures st
    (λ m w. same_mark c.in_ok-line.field-0 d c.in_ok-line.ensures.marks m)
