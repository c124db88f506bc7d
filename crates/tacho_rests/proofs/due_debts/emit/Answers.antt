use Rattle.std.proofs.Common.{◌≡◌, ◌+◌, ◌++◌, ◌∷◌, [], ℕ, true, List, get_or, take, sym, ap, ◌∙◌}
use Rattle.std.proofs.lemmas.List.{append-nil, append_assoc, take_more}
use Rattle.tacho_law.specs.declared.breach.Breach.{Breach}
use Rattle.tacho_law.specs.declared.debt.Debt.{Debt}
use Rattle.tacho_pass.specs.Kinds.{is_b10}
use Rattle.tacho_pass.proofs.AppendingLemmas.{appends_none, appends_then}
use Rattle.tacho_rests.specs.Paying.{overdue_of}
use Rattle.tacho_rests.proofs.OverdueOfLemmas.{overdue_append}
use Rattle.tacho_rests.proofs.due_debts.emit.Goals as goal

pub loop-debt-init : goal.loop-debt-init
loop-debt-init c =
    record {
      debts = sym (append-nil c.args.found.now.debts.items);
      breaches = sym (append-nil c.args.found.now.breaches.items);
      appends = appends_none is_b10 true c.args.found.now;
    }

pub returns-in_err-emit_one-clause-appends : goal.returns-in_err-emit_one-clause-appends
returns-in_err-emit_one-clause-appends c =
    appends_then is_b10 true c.args.found.now c.loop-debt.found c.emit_one.new.found c.loop-debt.invariant.appends
    c.in_err-emit_one.ensures.appends

pub loop-debt-preserved : goal.loop-debt-preserved
loop-debt-preserved c =
    let debts : List Debt = c.args.debts.now in
    let i : ℕ = c.loop-debt.debt-index in
    let debt : Debt = get_or debts i c.debt-item.result in
    let is : c.debt-item.result ≡ debt = c.debt-item.is in
    let more : take (i + 1) debts ≡ take i debts ++ debt ∷ [] =
    take_more debts i c.debt-item.result c.loop-debt-test.true in
    record {
      debts = c.in_ok-emit_one.ensures.debts
          ∙ ap (λ (ds : List Debt). ds ++ c.debt-item.result ∷ []) c.loop-debt.invariant.debts
          ∙ append_assoc c.args.found.now.debts.items (take i debts) (c.debt-item.result ∷ [])
          ∙ ap (λ (d : Debt). c.args.found.now.debts.items ++ (take i debts ++ d ∷ [])) is
          ∙ ap (λ (ds : List Debt). c.args.found.now.debts.items ++ ds) (sym more);
      breaches = c.in_ok-emit_one.ensures.breaches
          ∙ ap (λ (xs : List Breach). xs ++ overdue_of c.args.by (c.debt-item.result ∷ []))
          c.loop-debt.invariant.breaches
          ∙ append_assoc c.args.found.now.breaches.items (overdue_of c.args.by (take i debts))
          (overdue_of c.args.by (c.debt-item.result ∷ []))
          ∙ ap (λ (d : Debt). c.args.found.now.breaches.items
          ++ (overdue_of c.args.by (take i debts) ++ overdue_of c.args.by (d ∷ []))) is
          ∙ ap (λ (xs : List Breach). c.args.found.now.breaches.items ++ xs)
          (sym (overdue_append c.args.by (take i debts) (debt ∷ [])))
          ∙ ap (λ (ds : List Debt). c.args.found.now.breaches.items ++ overdue_of c.args.by ds) (sym more);
      appends = appends_then is_b10 true c.args.found.now c.loop-debt.found c.emit_one.new.found
          c.loop-debt.invariant.appends c.in_ok-emit_one.ensures.appends;
    }
