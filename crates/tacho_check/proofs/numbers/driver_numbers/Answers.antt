use Rattle.std.proofs.Common.{◌∷◌, [], Some, ap, sym, subst}
use Rattle.tacho_tables.specs.Ask.{number_shown}
use Rattle.tacho_check.specs.Numbers.{IsDriverNumber, number_row}
use Rattle.tacho_check.specs.Parsed.{AreParsed}
use Rattle.tacho_check.proofs.LearnLemmas.{learned}
use Rattle.tacho_check.proofs.NumberLemmas.{are_all}
use Rattle.tacho_check.proofs.ParsedLemmas.{pairs_mapped}
use Rattle.tacho_check.proofs.numbers.driver_numbers.Goals as goal

pub returns : goal.returns
returns g c = learned c.in_ok-rows.rows _ c.in_ok-rows.ensures
    (λ is shown ready.
    let rows = c.in_ok-rows.rows.items in
    let read = subst (AreParsed IsDriverNumber rows) c.in-Some.is (rw c.deref.ensures.value at c.in_ok-numbers.ensures) in
    are_all _ rows c.in-Some.numbers.items _ (shown ready)
    (sym (pairs_mapped (λ row n. IsDriverNumber row (Some n)) number_shown number_row (λ row n same. ap (λ v. v ∷ []) same) rows
    c.in-Some.numbers.items read)) c.sort_unstable.ensures.permutation c.sort_unstable.ensures.sorted)
