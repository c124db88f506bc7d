-- Trusted: What is examined: an activity for each minute, from a Monday on (Regulation (EC) No 561/2006, Article 4(i)).
use Rattle.std.specs.Prelude.{◌≡◌, ℕ, ◌+◌, ◌*◌, ◌<◌, ◌≤◌, ◌&&◌, List, []}
use Rattle.std.specs.Prelude.{◌∷◌, nat_lt, nat_le, if◌then◌else◌, All, false}
use Rattle.tacho_time.specs.declared.span.Activity.{Activity}
use Rattle.tacho_time.specs.declared.span.Activity.TheVariants.{Rest}
use Rattle.tacho_time.specs.declared.span.Span.{Span}
use Rattle.tacho_law.specs.Limits.{minutes_of_week, first_week, first_base, latest}

-- a line gives each minute an activity
abbrev pub Line : Type 0
Line = ℕ → Activity

-- the examined line: a minute in a span has the span's activity; every other minute is at rest
abbrev pub line_of : List Span → Line
line_of [] m = Rest
line_of (s ∷ spans) m = if nat_le s.start m && nat_lt m s.past then s.mark.activity else line_of spans m

-- the spans cover a range without gaps, one after the other, and none is empty
abbrev pub Joined : List Span → ℕ → ℕ → Type 0
Joined [] base past = base ≡ past
Joined (s ∷ spans) base past = (s.start ≡ base) × (base < s.past) × Joined spans s.past past

-- Article 4(i), a week's beginning: the first minute of a Monday, from 2000-01-03 on
pub record IsBase (base : ℕ) : Type 0 where
  pub week : ℕ
  pub monday : base ≡ first_week + minutes_of_week * week
  pub from : first_base ≤ base

-- the spans of an examined line from a base to its horizon: none is crew, and none ends after 2099
pub record IsExamined (spans : List Span) (base past : ℕ) : Type 0 where
  pub base_is : IsBase base
  pub joined : Joined spans base past
  pub single : All (λ s. s.mark.crew ≡ false) spans
  pub within : past ≤ latest
