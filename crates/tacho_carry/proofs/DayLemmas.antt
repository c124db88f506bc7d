-- The day from which drivers are examined.
use Rattle.std.proofs.Common.{◌≡◌, ℕ, ◌+◌, ◌-◌, ◌%◌, max, true, arith}
use Rattle.std.proofs.lemmas.Bool.Decides.{nat_tests}
use Rattle.tacho_state.specs.Steps.{is_monday}
use Rattle.tacho_carry.specs.Carried.{monday_of}

-- the later one of a Monday and the Monday of a day's week is a Monday
pub later_monday : (base day : ℕ) → is_monday base ≡ true → is_monday (max base (monday_of day)) ≡ true
later_monday base day e =
    let is : (base + 3) % 7 ≡ 0 = grind (arith, nat_tests) in
    let later : (max base (day - (day + 3) % 7) + 3) % 7 ≡ 0 = omega (arith, is) in
    grind (arith, nat_tests)
