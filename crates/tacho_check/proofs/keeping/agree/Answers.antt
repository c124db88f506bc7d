use Rattle.std.proofs.Common.{rules, refl}
use denote.Enum.Bare.{same_true}
use Rattle.tacho_time.specs.contracts.span.Activity.{the_type}
use Rattle.tacho_time.specs.declared.span.Activity.TheVariants.{Rest, Available, Work, Drive}
use Rattle.tacho_check.proofs.KeepLemmas.{lists_decided}
use Rattle.tacho_check.proofs.keeping.agree.Goals as goal

pub returns-in-Some-Some : goal.returns-in-Some-Some
returns-in-Some-Some c =
    rw (c.in-Some-Some.is-0, c.in-Some-Some.is-1)
    (lists_decided _ (elim [ Rest ↦ refl | Available ↦ refl | Work ↦ refl | Drive ↦ refl ])
    (λ a b is. same_true the_type (search rules) a b is)
    c.in-Some-Some.a.items c.in-Some-Some.b.items c.eq.result c.eq.ensures)
