-- The number of an activity or a mark gives it back, and so does the activity or the mark with a number.
use Rattle.std.proofs.Common.{◌≡◌, ℕ, ◌<◌, Bool, true, false, refl, zero, suc, arith}
use Rattle.tacho_time.specs.declared.span.Activity.{Activity}
use Rattle.tacho_time.specs.declared.span.Activity.TheVariants.{Rest, Available, Work, Drive}
use Rattle.tacho_state.specs.Numbers.{activity_number, mark_number, numbered_activity, numbered_mark, IsMark}

-- ---- activities

pub activity_back : (a : Activity) → numbered_activity (activity_number a) ≡ a
activity_back Rest = refl
activity_back Available = refl
activity_back Work = refl
activity_back Drive = refl

pub activity_there : (n : ℕ) → n < 4 → activity_number (numbered_activity n) ≡ n
activity_there zero h = refl
activity_there (suc zero) h = refl
activity_there (suc (suc zero)) h = refl
activity_there (suc (suc (suc zero))) h = refl
activity_there (suc (suc (suc (suc n)))) h = absurd (omega (arith, h))

-- the number of an activity is the number of its mark without crew
pub single_back : (a : Activity) → numbered_mark (activity_number a) ≡ record { activity = a; crew = false }
single_back Rest = refl
single_back Available = refl
single_back Work = refl
single_back Drive = refl

-- ---- marks

pub mark_back : (a : Activity) (c : Bool) → numbered_mark (mark_number (record { activity = a; crew = c })) ≡ record { activity = a; crew = c }
mark_back Rest true = refl
mark_back Rest false = refl
mark_back Available true = refl
mark_back Available false = refl
mark_back Work true = refl
mark_back Work false = refl
mark_back Drive true = refl
mark_back Drive false = refl

pub mark_there : (n : ℕ) → IsMark n → mark_number (numbered_mark n) ≡ n
mark_there zero h = refl
mark_there (suc zero) h = refl
mark_there (suc (suc zero)) h = refl
mark_there (suc (suc (suc zero))) h = refl
mark_there (suc (suc (suc (suc zero)))) h = refl
mark_there (suc (suc (suc (suc (suc zero))))) h = refl
mark_there (suc (suc (suc (suc (suc (suc zero)))))) h = refl
mark_there (suc (suc (suc (suc (suc (suc (suc zero))))))) h = refl
mark_there (suc (suc (suc (suc (suc (suc (suc (suc n)))))))) h = absurd (omega (arith, h))

pub mark_low : (a : Activity) (c : Bool) → IsMark (mark_number (record { activity = a; crew = c }))
mark_low Rest true = omega arith
mark_low Rest false = omega arith
mark_low Available true = omega arith
mark_low Available false = omega arith
mark_low Work true = omega arith
mark_low Work false = omega arith
mark_low Drive true = omega arith
mark_low Drive false = omega arith
