use Rattle.std.proofs.Common.{◌≡◌, ◌∙◌, Bool, arith, refl, sym}
use mathlib.Core.Bool.{beq}
use Rattle.tacho_time.specs.Merge.{same_bool}
use Rattle.tacho_http.specs.Routes.{with_offers}
use Rattle.tacho_http.proofs.places.add_command.Goals.{in_default-via-in-Some+else-changes-posted, in_default-via-in_default}
use Rattle.tacho_http.proofs.places.add_command.Goals as goal

same_is : (a b : Bool) → same_bool a b ≡ beq a b
same_is a b = grind arith

pub returns-in_default : goal.returns-in_default
unfolding with_offers
returns-in_default c = elim c.in_default.branch [
  | in_default-via-in-Some+else-changes-posted w ↦
      rw (sym c.want_of.ensures ∙ w.in-Some.is, ← w.changes.ensures, same_is w.changes.result c.args.posted, w.if-changes-posted.false) refl
  | in_default-via-in_default w ↦ rw (sym c.want_of.ensures ∙ w.in_default.is) refl
]
