use Rattle.std.proofs.Common.{◌≡◌, ◌-◌, true, false}
use Rattle.std.proofs.lemmas.Bool.{ltb-true, lt-ltb}
use Rattle.tacho_periods.proofs.portions.is_reduced.Goals as goal

pub returns-then-is_regular : goal.returns-then-is_regular
returns-then-is_regular c = (
  λ h. absurd (cc),
  λ h. absurd (h.irregular (c.is_regular.ensures.0 c.if-is_regular.true)),
)

pub returns-then-has_portion : goal.returns-then-has_portion
returns-then-has_portion c = (
  λ h. record {
    portion = c.has_portion.ensures.0 c.if-has_portion.true;
    irregular = λ regular. (
        let t : c.is_regular.result ≡ true = c.is_regular.ensures.1 regular in
        let f : c.is_regular.result ≡ false = c.if-is_regular.false in
        cc);
    short = ltb-true (c.args.day.rest.past - c.args.day.rest.start) 1440 h;
  },
  λ h. lt-ltb (c.args.day.rest.past - c.args.day.rest.start) 1440 h.short,
)

pub returns-else-has_portion : goal.returns-else-has_portion
returns-else-has_portion c = (
  λ h. absurd (
      let f : c.has_portion.result ≡ false = c.if-has_portion.false in
      let t : c.has_portion.result ≡ true = h in
      cc),
  λ h. c.has_portion.ensures.1 h.portion,
)
