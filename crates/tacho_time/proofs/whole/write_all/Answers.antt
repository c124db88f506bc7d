use Rattle.std.proofs.Common.{ℕ, ◌+◌, ◌-◌, ◌++◌, List, Option, length, take, drop, subst, sym, ap, ◌∙◌, arith}
use Rattle.std.proofs.lemmas.Grind.{common_steps}
use Rattle.std.proofs.lemmas.List.{take_rest}
use Rattle.std.specs.Io.KnownBytes.{Appends}
use Rattle.std.proofs.KnownBytes.{Appends-trans}
use Rattle.std.proofs.Math.Seq.{take-add}
use Rattle.tacho_time.proofs.whole.write_all.Goals as goal

-- the bytes given before, and n bytes of the rest
given_more : (o p q : Option (List ℕ)) (a n : ℕ) (all : List ℕ) → Appends o p (take a all) → Appends p q (take n (take (length all - a) (drop a all))) → Appends o q (take (a + n) all)
given_more o p q a n all before now =
    subst (Appends o q) (ap (λ l. take a all ++ take n l) (take_rest all a) ∙ sym (take-add a n all)) (Appends-trans o p q _ _ before now)

pub loop-at-preserved : goal.loop-at-preserved
loop-at-preserved g c =
    record {
      given = given_more _ _ _ c.loop-at.at c.in_ok-at.field-0 c.args.bytes.now c.loop-at.invariant.given c.in_ok-at.ensures.bytes;
      within = grind (arith, common_steps, c.in_ok-at.ensures.bound);
      fresh = c.in_ok-at.ensures.failed;
    }
