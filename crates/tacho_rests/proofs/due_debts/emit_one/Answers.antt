use Rattle.std.proofs.Common.{◌≡◌, ◌∷◌, [], true, false, refl, sym, ◌∙◌}
use Rattle.std.specs.Prelude.{IsTrue}
use Rattle.std.proofs.lemmas.List.{append-nil}
use Rattle.std.proofs.lemmas.List.Elements.{All-nil}
use Rattle.tacho_law.specs.declared.breach.Breach.{Breach}
use Rattle.tacho_pass.specs.Kinds.{is_b10}
use Rattle.tacho_pass.proofs.AppendingLemmas.{appends_some}
use Rattle.tacho_rests.proofs.due_debts.emit_one.Goals as goal

pub returns-in_err-push-clause-appends : goal.returns-in_err-push-clause-appends
returns-in_err-push-clause-appends c =
    appends_some is_b10 true c.args.found.now (record { breaches = c.args.found.now.breaches; debts = c.push.new.self })
    [] [] (All-nil (λ (x : Breach). IsTrue (is_b10 x.kind))) (λ e. refl)
    (sym (append-nil c.args.found.now.breaches.items)) (c.in_err-push.ensures.items
    ∙ sym (append-nil c.args.found.now.debts.items))

pub returns-in_err-push-2-clause-appends : goal.returns-in_err-push-2-clause-appends
returns-in_err-push-2-clause-appends c =
    appends_some is_b10 true c.args.found.now (record { breaches = c.push-in-Some.new.self; debts = c.push.new.self })
    [] (c.args.debt ∷ []) (All-nil (λ (x : Breach). IsTrue (is_b10 x.kind)))
    (λ e. absurd (let f : true ≡ false = e in cc)) (c.in_err-push-2.ensures.items
    ∙ sym (append-nil c.args.found.now.breaches.items)) c.in_ok-push.ensures.items

pub returns-in_default-clause-appends : goal.returns-in_default-clause-appends
returns-in_default-clause-appends c =
    appends_some is_b10 true c.args.found.now (record { breaches = c.args.found.now.breaches; debts = c.push.new.self })
    [] (c.args.debt ∷ []) (All-nil (λ (x : Breach). IsTrue (is_b10 x.kind)))
    (λ e. absurd (let f : true ≡ false = e in cc)) (sym (append-nil c.args.found.now.breaches.items))
    c.in_ok-push.ensures.items
