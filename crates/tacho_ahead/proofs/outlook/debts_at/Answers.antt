use Rattle.std.proofs.Common.{◌∙◌, ap, arith, List}
use Rattle.std.specs.List.{filter}
use Rattle.tacho_law.specs.declared.debt.Debt.{Debt}
use Rattle.tacho_ahead.specs.Outlook.{is_open_debt}
use Rattle.tacho_ahead.proofs.outlook.debts_at.Goals as goal

pub returns-clause-debts : goal.returns-clause-debts
returns-clause-debts c = λ held base ready.
    let all = c.in_ok-end_at.ensures.all held base ready.fed
    (record { none = ready.none c.args.start (omega arith); within = ready.within }) in
    record {
      horizon = all.horizon;
      found = all.breaches;
      debts = c.end_at.new.found.debts.items;
      report = all.report;
      are =
          c.in_ok-left.ensures
          ∙ ap (λ (ds : List Debt). filter (is_open_debt c.args.start) ds) c.deref.ensures.value;
    }
