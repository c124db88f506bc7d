use Rattle.std.proofs.Common.{rules, ◌≡◌, ◌≤◌, true, false, ap, sym, ◌∙◌, arith}
use Rattle.tacho_line.specs.declared.horizon.Horizon.{Horizon}
use Rattle.tacho_rules.proofs.ReportLemmas.{one_horizon}
use Rattle.tacho_ahead.proofs.open.is_open.Goals as goal

pub returns-then-le : goal.returns-then-le
returns-then-le c = (
  λ t. record {
    horizon = c.horizon-horizon.result;
    is = c.horizon-horizon.ensures;
    early = search rules;
    none = c.ends_by.ensures.0 t;
  },
  λ free.
      let same = ap (λ (x : Horizon). x.minute)
      (one_horizon c.args.line.now c.args.monday c.horizon-horizon.result free.horizon c.horizon-horizon.ensures free.is) in
      c.ends_by.ensures.1 (λ m l. free.none m (omega (arith, same, l))),
)

pub returns-else-le : goal.returns-else-le
returns-else-le c = (
  λ t. absurd (let f = c.if-le.false in let no : true ≡ false = sym t ∙ f in cc),
  λ free.
      let same = ap (λ (x : Horizon). x.minute)
      (one_horizon c.args.line.now c.args.monday c.horizon-horizon.result free.horizon c.horizon-horizon.ensures free.is) in
      let early : c.horizon-horizon.result.minute ≤ c.args.start = let e = free.early in omega (arith, same, e) in
      search rules,
)
