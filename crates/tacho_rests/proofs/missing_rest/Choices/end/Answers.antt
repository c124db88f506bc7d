use Rattle.std.proofs.Common.{◌≡◌, ◌+◌, ℕ, false, inl, inr, arith, ap}
use Rattle.tacho_law.specs.declared.run.Run.{Run}
use Rattle.tacho_pass.specs.Found.{own_of}
use Rattle.tacho_pass.specs.Kinds.{is_b9}
use Rattle.tacho_pass.proofs.AppendingLemmas.{appends_then}
use Rattle.tacho_rests.specs.Choices.{AreChoices}
use Rattle.tacho_rests.proofs.ChoicesLemmas.{choices_all}
use Rattle.tacho_rests.proofs.missing_rest.Choices.end.Goals as goal

pub returns-in_err-close_by-clause-appends : goal.returns-in_err-close_by-clause-appends
returns-in_err-close_by-clause-appends c =
    appends_then is_b9 false c.args.found.now c.hear.new.found c.close_by.new.found c.in_ok-hear.ensures.appends
    c.in_err-close_by.ensures.appends

pub returns-clause-appends : goal.returns-clause-appends
returns-clause-appends c = appends_then is_b9 false c.args.found.now c.hear.new.found c.close_by.new.found
    c.in_ok-hear.ensures.appends c.in_ok-close_by.ensures.appends

pub returns-clause-kept : goal.returns-clause-kept
returns-clause-kept c = λ line base first weeks monday le is only s.
    (let horizon : ℕ = c.args.horizon in
    let start : ℕ = c.args.last.start in
    let p = c.hear.new.self in
    let q = c.close_by.new.self in
    let a : AreChoices line horizon first (start + 1) p.week p.current p.last p.rested p.outcomes
    (own_of is_b9 c.hear.new.found.breaches.items) =
    c.in_ok-hear.ensures.kept line horizon first (start + 1) weeks (omega arith) is (omega arith)
    (λ x is' below. only x is') s in
    let b : AreChoices line horizon first (start + 1) q.week q.current q.last q.rested q.outcomes
    (own_of is_b9 c.close_by.new.found.breaches.items) =
    c.in_ok-close_by.ensures.kept line horizon first (start + 1) weeks (omega arith)
    (λ x is' below. elim (only x is') [
      | inl old ↦ omega arith
      | inr same ↦ (let e : x.start ≡ start = ap (λ (r : Run). r.start) same in omega arith)
    ]) a in
    choices_all line base horizon first (start + 1) q.week q.current q.last q.rested q.outcomes
    (own_of is_b9 c.close_by.new.found.breaches.items) monday c.in_ok-close_by.ensures.end b)
