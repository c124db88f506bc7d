use Rattle.tacho_rules.proofs.ScanLemmas.{breach_stays, debt_stays}
use Rattle.tacho_rules.proofs.scan.Scan.finish.Goals as goal

pub returns-clause-report : goal.returns-clause-report
returns-clause-report c = λ base spans r x.
    (let gathered = c.in_ok-end.ensures.gathered base spans r x in
    record {
      runs = gathered.runs;
      breaks = gathered.breaks;
      are_runs = gathered.are_runs;
      are_breaks = gathered.are_breaks;
      are_debts = gathered.are_debts;
      exactly = record {
        each = λ breach. (
          λ in'. (gathered.exactly.each breach).0 ((c.put_in_order.ensures.same breach).0 in'),
          λ is. (c.put_in_order.ensures.same breach).1 ((gathered.exactly.each breach).1 is),
        );
        in_order = c.put_in_order.ensures.order gathered.exactly.in_order;
      };
    })

pub returns-clause-told : goal.returns-clause-told
returns-clause-told c = λ breach in'.
    ((c.put_in_order.ensures.same breach).1
    (breach_stays c.args.found c.end.new.found c.in_ok-end.ensures.appends breach in'))

pub returns-clause-owed : goal.returns-clause-owed
returns-clause-owed c = λ debt in'.
    (debt_stays c.args.found c.end.new.found c.in_ok-end.ensures.appends debt in')
