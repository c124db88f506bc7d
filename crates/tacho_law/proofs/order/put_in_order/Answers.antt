use Rattle.std.proofs.Common.{rules, ◌≡◌, ℕ, ◌+◌, ◌<◌, arith, List, length, get_or}
use Rattle.std.proofs.lemmas.Fn.{always_returns_same}
use Rattle.tacho_law.specs.declared.breach.Breach.{Breach}
use Rattle.tacho_law.specs.Order.{Earlier, place_of_kind}
use Rattle.tacho_law.proofs.OrderLemmas.{still_apart, earlier_next, earlier_all, same_members}
use Rattle.tacho_law.proofs.order.put_in_order.Goals as goal

pub returns-clause-same : goal.returns-clause-same
returns-clause-same c =
    same_members c.args.found.now.items c.sort_unstable_by_key.new.self.items c.sort_unstable_by_key.ensures.permutation

pub returns-clause-order : goal.returns-clause-order
returns-clause-order c = λ apart.
    (let xs : List Breach = c.args.found.now.items in
    let ys : List Breach = c.sort_unstable_by_key.new.self.items in
    let key : Breach → ℕ × ℕ × ℕ = λ b. (b.moment, place_of_kind b.kind, b.since) in
    let next : (k : ℕ) (d : Breach) → k + 1 < length ys → Earlier (get_or ys k d) (get_or ys (k + 1) d) = λ k d within.
    earlier_next (get_or ys k d) (get_or ys (k + 1) d)
    (still_apart xs ys c.sort_unstable_by_key.ensures.permutation apart k (k + 1) d (omega arith) within)
    (c.sort_unstable_by_key.ensures.sorted key
    (always_returns_same _ (λ a r. r ≡ key a.0.now) _ (λ a r f k. search rules)) k d (omega arith) within) in
    earlier_all ys next)
