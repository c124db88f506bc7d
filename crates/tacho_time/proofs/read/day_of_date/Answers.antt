use Rattle.std.proofs.Common.{◌≡◌, ◌∙◌, sym, subst, true, false, ℤ, pos}
use Rattle.std.specs.Int.Signed.{lt_z}
use Rattle.tacho_time.proofs.ReadLemmas.{back, dated, below_range, above_range, within_range}
use Rattle.tacho_time.proofs.read.day_of_date.Goals as goal
use Rattle.tacho_time.proofs.read.day_of_date.Goals.{then-number-via-then-number, then-number-via-else-number+then-number-2}

pub returns-then-number : goal.returns-then-number
returns-then-number c =
    let z = c.to_unix_epoch_day-number.result in
    let e = dated c.args.date.year c.args.date.month c.args.date.day c.in-Ok.date z c.requires.year c.requires.month c.requires.day c.in-Ok.ensures.value c.to_unix_epoch_day-number.ensures.value in
    let same = back z c.to_unix_epoch_day-number.ensures.bound in
    elim c.then-number.branch [
      | then-number-via-then-number w ↦ sym (e ∙ below_range z (subst (λ (x : ℤ). lt_z x (pos 10959) ≡ true) same w.if-number.true))
      | then-number-via-else-number+then-number-2 w ↦ sym (e ∙ above_range z (subst (λ (x : ℤ). lt_z (pos 47481) x ≡ true) same w.if-number-2.true))
    ]

pub returns : goal.returns
returns c =
    let z = c.to_unix_epoch_day-number.result in
    let e = dated c.args.date.year c.args.date.month c.args.date.day c.in-Ok.date z c.requires.year c.requires.month c.requires.day c.in-Ok.ensures.value c.to_unix_epoch_day-number.ensures.value in
    let same = back z c.to_unix_epoch_day-number.ensures.bound in
    rw (c.new-2.ensures, same) (sym (e ∙ within_range z (subst (λ (x : ℤ). lt_z x (pos 10959) ≡ false) same c.if-number.false) (subst (λ (x : ℤ). lt_z (pos 47481) x ≡ false) same c.if-number-2.false)))
