use Rattle.std.proofs.Common.{ℕ, None, map, sym, ap, subst, ◌∙◌}
use Rattle.tacho_stretches.specs.declared.stretch.Stretch.{Stretch}
use Rattle.tacho_stretches.specs.Stretches.{judged_of, unseen_to}
use Rattle.tacho_stretches.specs.Pass.{AreDone}
use Rattle.tacho_stretches.proofs.PassLemmas.{all_stretches}
use Rattle.tacho_stretches.proofs.pass.StretchPass.finish.Goals as goal

pub returns : goal.returns
returns c =
    let p = c.args.self in
    let f = c.args.found in
    let e = c.in_ok-examined.examined in
    let s : Stretch = record { monday = e.monday; report = e.report; unseen = c.unseen_after-unseen.result } in
    record {
      stretches = λ base spans is.
          all_stretches spans base p.past f.done.items c.push.new.self.items s is.ended is.last
          (subst (λ (m : ℕ). AreDone spans p.past base (map judged_of f.done.items) m) (sym c.in_ok-examined.ensures.monday) is.done)
          (c.in_ok-examined.ensures.report p.past spans is.stands is.ended)
          (c.in_ok-examined.ensures.last p.past spans is.stands is.ended)
          (c.unseen_after-unseen.ensures ∙ ap (λ (m : ℕ). unseen_to p.past m None) c.horizon_of.ensures)
          c.in_ok-push.ensures.items;
    }
