use Rattle.std.proofs.Common.{◌≡◌, ◌==◌, ap}
use Rattle.std.specs.Bool.{Decides}
use Rattle.std.proofs.lemmas.Bool.Decides.{Decides-eqb}
use Rattle.std.proofs.lemmas.Slice.Eq.{slice_eq-Decides}
use Rattle.sqlite_value.specs.declared.keys.Order.{Order}
use Rattle.tacho_tables.proofs.shape.are_orders.Goals as goal

same_order : (a b : Order) → Decides (a.digits == b.digits) (a ≡ b)
same_order a b =
    let it = Decides-eqb a.digits b.digits in
    (λ is. ap (λ d. record { digits = d }) (it.0 is), λ same. it.1 (ap (λ (x : Order). x.digits) same))

pub returns : goal.returns
returns c = slice_eq-Decides same_order c.args.orders.now c.args.wanted.now c.eq.result c.eq.ensures
