-- The end of the minutes that stretches cover.
use Rattle.std.proofs.Common.{◌≡◌, ◌∙◌, ℕ, suc, ◌-◌, ◌<◌, List, [], ◌∷◌, ◌++◌, Option, None, Some, length, get_or, map, ap, arith}
use Rattle.std.specs.Option.{unwrap_or}
use Rattle.tacho_time.specs.declared.span.Span.{Span}
use Rattle.tacho_stretches.specs.declared.stretch.Stretch.{Stretch}
use Rattle.tacho_stretches.specs.Start.{IsEndOfHeld}
use Rattle.tacho_stretches.specs.Stretches.{Judged, judged_of, AreStretches}
use Rattle.tacho_stretches.specs.Ranges.{unseen_part, parts, FollowOn}
use Rattle.tacho_stretches.proofs.LawLemmas.{none_left_out}

-- the end of a stretch's parts
abbrev end_of : Stretch → ℕ
end_of s = unwrap_or s.unseen s.report.horizon.minute

-- what follows a stretch begins where its parts end
after_parts : (horizon start end : ℕ) (unseen : Option ℕ) (xs : List Judged) → FollowOn (unseen_part horizon unseen ++ parts xs) horizon end
    → FollowOn (parts xs) (unwrap_or unseen horizon) end
after_parts horizon start end None xs follow = follow
after_parts horizon start end (Some past) xs follow = follow.2

-- so the last stretch's parts end where all parts do
pub last_end : (xs : List Stretch) (s : Stretch) (start end : ℕ) → 0 < length xs → s ≡ get_or xs (length xs - 1) s
    → FollowOn (parts (map judged_of xs)) start end → end_of s ≡ end
last_end [] s start end some is follow = absurd (omega (arith, some))
last_end (x ∷ []) s start end some is follow =
    ap end_of is ∙ after_parts x.report.horizon.minute start end x.unseen [] follow.2
last_end (x ∷ y ∷ xs) s start end some is follow =
    let at : length (x ∷ y ∷ xs) - 1 ≡ suc (length (y ∷ xs) - 1) = omega arith in
    let same : s ≡ get_or (y ∷ xs) (length (y ∷ xs) - 1) s = is ∙ ap (λ (n : ℕ). get_or (x ∷ y ∷ xs) n s) at in
    last_end (y ∷ xs) s (end_of x) end (omega arith) same
    (after_parts x.report.horizon.minute start end x.unseen (map judged_of (y ∷ xs)) follow.2)

pub range_is : (xs : List Stretch) (first last : Stretch) (line : List Span) (base end : ℕ) → 0 < length xs
    → first ≡ get_or xs 0 first → last ≡ get_or xs (length xs - 1) last → AreStretches line base (map judged_of xs) → IsEndOfHeld line base end
    → (first.monday ≡ base) × (end_of last ≡ end)
range_is [] first last line base end some at is are held = absurd (omega (arith, some))
range_is (x ∷ xs) first last line base end some at is are held = (
  ap (λ (s : Stretch). s.monday) at ∙ (let e = are.first in cc),
  last_end (x ∷ xs) last base end some is (none_left_out line base end (map judged_of (x ∷ xs)) are held),
)
