-- Trusted: A timeline: a finite map from minutes to marks, represented by its canonical list of spans.
use Rattle.std.specs.Prelude.{◌≡◌, ℕ, ◌+◌, ◌<◌, ◌≤◌, ◌&&◌, ◌⊎◌, ◌↔◌, nat_lt, nat_le, Bool, true, false, List, [], ◌∷◌, Option, None, Some, if◌then◌else◌}
use Rattle.tacho_time.specs.declared.span.Span.{Span}
use Rattle.tacho_time.specs.declared.span.Mark.{Mark}
use Rattle.tacho_time.specs.Spans.{Gives, IsCanonicalOf, Conflicts, IsFirstConflict}
use Rattle.tacho_line.specs.declared.line.LineFault.{LineFault}
use Rattle.tacho_line.specs.declared.line.LineFault.TheVariants.{EmptySpan, Contradiction, Memory}
use Rattle.tacho_line.specs.declared.gap.Gap.{Gap}
use Rattle.tacho_line.specs.declared.horizon.Cause.{Cause}
use Rattle.tacho_line.specs.declared.horizon.Cause.TheVariants.{Unknown, Crew}
use Rattle.tacho_line.specs.declared.horizon.Horizon.{Horizon}

-- true if the minute is in the span
abbrev pub covers : Span → ℕ → Bool
covers s m = nat_le s.start m && nat_lt m s.past

-- the mark that a line gives a minute, if it holds that minute
abbrev pub mark_at : List Span → ℕ → Option Mark
mark_at [] m = None
mark_at (s ∷ line) m = if covers s m then Some s.mark else mark_at line m

-- the line holds the minute with this mark
abbrev pub Holds : List Span → ℕ → Mark → Type 0
Holds line m mark = mark_at line m ≡ Some mark

-- the minute is in the range: at or after its start and before its end
abbrev pub IsWithin : ℕ → ℕ → ℕ → Type 0
IsWithin start past m = (start ≤ m) × (m < past)

-- two lines give each minute of the range the same mark
abbrev pub AgreeWithin : ℕ → ℕ → List Span → List Span → Type 0
AgreeWithin start past line other = (m : ℕ) → IsWithin start past m → mark_at line m ≡ mark_at other m

-- ---- gains

-- true if a span has no minute
abbrev pub is_empty : Span → Bool
is_empty s = nat_le s.past s.start

-- the place of the first empty span, if the first span has this place
abbrev pub empty_from : ℕ → List Span → Option ℕ
empty_from place [] = None
empty_from place (s ∷ spans) = if is_empty s then Some place else empty_from (place + 1) spans

-- L2: the place of the first empty span, counted from 0
abbrev pub first_empty : List Span → Option ℕ
first_empty spans = empty_from 0 spans

-- what the line and the spans give together
abbrev pub Together : List Span → List Span → ℕ → Mark → Type 0
Together line spans m mark = Holds line m mark ⊎ Gives spans m mark

-- what the spans give and the line doesn't hold
abbrev pub IsNew : List Span → List Span → ℕ → Mark → Type 0
IsNew line spans m mark = Gives spans m mark × (mark_at line m ≡ None)

-- the gains of spans: no span is empty, no minute has two marks, and the gains are exactly what is new
pub record AreGains (line spans gains : List Span) : Type 0 where
  pub full : first_empty spans ≡ None
  pub agreed : (m : ℕ) → ¬ (Conflicts (Together line spans) m)
  pub new : IsCanonicalOf (IsNew line spans) gains

-- why spans have no gains: the first empty span; else the least minute with two marks; or out of memory
abbrev pub IsGainFault : List Span → List Span → LineFault → Type 0
IsGainFault line spans (EmptySpan place) = first_empty spans ≡ Some place
IsGainFault line spans (Contradiction m) = (first_empty spans ≡ None) × IsFirstConflict (Together line spans) m
IsGainFault line spans Memory = Unit {0}

-- the line holds no minute of the spans
abbrev pub AreNotHeld : List Span → List Span → Type 0
AreNotHeld line spans = (m : ℕ) (mark : Mark) → Gives spans m mark → mark_at line m ≡ None

-- ---- gaps and slices

-- the minute is in one of the gaps
abbrev pub InGaps : List Gap → ℕ → Type 0
InGaps [] m = ⊥
InGaps (g ∷ gaps) m = IsWithin g.start g.past m ⊎ InGaps gaps m

-- the next gap begins after the end of this one, with a held minute between them
abbrev pub BeginsAfter : Gap → List Gap → Type 0
BeginsAfter g [] = Unit {0}
BeginsAfter g (next ∷ gaps) = g.past < next.start

-- in order, none empty, no two touch
abbrev pub AreGapsApart : List Gap → Type 0
AreGapsApart [] = Unit {0}
AreGapsApart (g ∷ gaps) = (g.start < g.past) × BeginsAfter g gaps × AreGapsApart gaps

-- the maximal ranges of minutes that the line doesn't hold, within the range from `start` to before `past`
pub record AreGaps (line : List Span) (start past : ℕ) (gaps : List Gap) : Type 0 where
  pub apart : AreGapsApart gaps
  pub lacking : (m : ℕ) → InGaps gaps m ↔ (IsWithin start past m × (mark_at line m ≡ None))

-- what the line holds in the range
abbrev pub HoldsWithin : List Span → ℕ → ℕ → ℕ → Mark → Type 0
HoldsWithin line start past m mark = IsWithin start past m × Holds line m mark

-- ---- horizon

-- the minute is held, and there is no second driver
abbrev pub IsSingle : Option Mark → Type 0
IsSingle None = ⊥
IsSingle (Some mark) = mark.crew ≡ false

-- the minute is held, and there is a second driver
abbrev pub IsCrew : Option Mark → Type 0
IsCrew None = ⊥
IsCrew (Some mark) = mark.crew ≡ true

-- why the horizon is at a minute with this mark
abbrev pub IsCause : Option Mark → Cause → Type 0
IsCause mark Unknown = mark ≡ None
IsCause mark Crew = IsCrew mark

-- the first minute from the base on that isn't held or is crew, and which of the two
pub record IsHorizon (line : List Span) (base : ℕ) (h : Horizon) : Type 0 where
  pub from : base ≤ h.minute
  pub single : (m : ℕ) → IsWithin base h.minute m → IsSingle (mark_at line m)
  pub cause : IsCause (mark_at line h.minute) h.cause
