-- Of parts that follow one another, exactly one has each minute from their start to before their past.
use Rattle.std.proofs.Common.{◌≡◌, ℕ, ◌+◌, ◌<◌, ◌≤◌, inl, inr, ◌&&◌, nat_lt, nat_le, Bool, true, false, cond, List, [], ◌∷◌, refl, ap, ◌∙◌, arith}
use Rattle.std.proofs.lemmas.Bool.Decides.{nat_tests}
use Rattle.std.proofs.lemmas.Bool.{cases_lt}
use Rattle.std.proofs.lemmas.List.Sums.{sum_by-cons}
use Rattle.tacho_line.specs.Line.{IsWithin}
use Rattle.tacho_time.specs.declared.span.Span.{Span}
use Rattle.tacho_stretches.specs.Start.{IsEndOfHeld}
use Rattle.tacho_stretches.specs.Stretches.{Judged, AreStretches}
use Rattle.tacho_stretches.specs.Ranges.{Part, parts, FollowOn, times_in}
use Rattle.tacho_stretches.proofs.LawLemmas.{none_left_out}

-- parts end no earlier than they start
in_order : (ps : List Part) (start past : ℕ) → FollowOn ps start past → start ≤ past
in_order [] start past f = omega (arith, f)
in_order (p ∷ ps) start past f = let l = in_order ps p.past past f.2 in omega (arith, f.0, f.1, l)

-- a minute from `a` to before `b` is in that part
in_part : (a b m : ℕ) → a ≤ m → m < b → nat_le a m && nat_lt m b ≡ true
in_part a b m l r = grind (arith, nat_tests)

before_part : (a b m : ℕ) → m < a → nat_le a m && nat_lt m b ≡ false
before_part a b m l = grind (arith, nat_tests)

after_part : (a b m : ℕ) → b ≤ m → nat_le a m && nat_lt m b ≡ false
after_part a b m l = go (nat_le a m) where
  go : (t : Bool) → t && nat_lt m b ≡ false
  go true = grind (arith, nat_tests)
  go false = refl

counted : (t b : Bool) (n k : ℕ) → t ≡ b → n ≡ k → cond t 1 0 + n ≡ cond b 1 0 + k
counted t b n k e f = ap (λ (x : Bool). cond x 1 0 + n) e ∙ ap (λ (x : ℕ). cond b 1 0 + x) f

of_cons : (p : Part) (ps : List Part) (m : ℕ) → times_in (p ∷ ps) m ≡ cond (nat_le p.start m && nat_lt m p.past) 1 0 + times_in ps m
of_cons p ps m = sum_by-cons (λ (x : Part). cond (nat_le x.start m && nat_lt m x.past) 1 0) p ps

-- no part has a minute before the start
before_all : (ps : List Part) (start past m : ℕ) → FollowOn ps start past → m < start → times_in ps m ≡ 0
before_all [] start past m f l = refl
before_all (p ∷ ps) start past m f l =
    of_cons p ps m ∙ counted _ false _ 0 (before_part p.start p.past m (omega (arith, f.0, l)))
    (before_all ps p.past past m f.2 (omega (arith, f.0, f.1, l)))

-- no part has a minute at or after the past
after_all : (ps : List Part) (start past m : ℕ) → FollowOn ps start past → past ≤ m → times_in ps m ≡ 0
after_all [] start past m f l = refl
after_all (p ∷ ps) start past m f l =
    let o = in_order ps p.past past f.2 in
    of_cons p ps m ∙ counted _ false _ 0 (after_part p.start p.past m (omega (arith, o, l))) (after_all ps p.past past m f.2 l)

-- exactly one part has each minute between
once : (ps : List Part) (start past m : ℕ) → FollowOn ps start past → start ≤ m → m < past → times_in ps m ≡ 1
once [] start past m f l r = absurd (omega (arith, f, l, r))
once (p ∷ ps) start past m f l r = elim (cases_lt m p.past) [
  | inl lt ↦ of_cons p ps m ∙ counted _ true _ 0 (in_part p.start p.past m (omega (arith, f.0, l)) lt) (before_all ps p.past past m f.2 lt)
  | inr ge ↦ of_cons p ps m ∙ counted _ false _ 1 (after_part p.start p.past m ge) (once ps p.past past m f.2 ge r)
]

pub each_once : (line : List Span) (base end m : ℕ) (stretches : List Judged) → AreStretches line base stretches
    → IsEndOfHeld line base end → IsWithin base end m → times_in (parts stretches) m ≡ 1
each_once line base end m stretches is is_end w =
    once (parts stretches) base end m (none_left_out line base end stretches is is_end) w.0 w.1

pub none_before : (line : List Span) (base end m : ℕ) (stretches : List Judged) → AreStretches line base stretches
    → IsEndOfHeld line base end → m < base → times_in (parts stretches) m ≡ 0
none_before line base end m stretches is is_end l =
    before_all (parts stretches) base end m (none_left_out line base end stretches is is_end) l

pub none_after : (line : List Span) (base end m : ℕ) (stretches : List Judged) → AreStretches line base stretches
    → IsEndOfHeld line base end → end ≤ m → times_in (parts stretches) m ≡ 0
none_after line base end m stretches is is_end l =
    after_all (parts stretches) base end m (none_left_out line base end stretches is is_end) l
