use Rattle.tacho_ahead.proofs.outlook.coming_of.Goals as goal

pub returns-clause-each : goal.returns-clause-each
returns-clause-each c = λ breach.
    let same = c.put_in_order.ensures.same breach in
    let each = c.in_ok-coming.ensures.each breach in
    (λ in'. each.0 (same.0 in'), λ in'. same.1 (each.1 in'))

pub returns-clause-in_order : goal.returns-clause-in_order
returns-clause-in_order c = λ apart. c.put_in_order.ensures.order (c.in_ok-coming.ensures.apart apart)
