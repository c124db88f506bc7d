-- Trusted: Breaks (Regulation (EC) No 561/2006, Articles 4(d) and 7): after a driving period of four and a half hours, an uninterrupted
-- break of 45 minutes, or a break of 15 minutes followed by one of 30.
use Rattle.std.specs.Prelude.{◌≤◌, ◌⊎◌, List, Contains}
use Rattle.tacho_law.specs.declared.run.Run.{Run}
use Rattle.tacho_law.specs.Exactly.{AreExactly}
use Rattle.tacho_law.specs.Runs.{Before, minutes_of}
use Rattle.tacho_law.specs.Limits.{whole_break, first_part_of_break, last_part_of_break}

-- the first part of a break in two parts (Article 7, second paragraph): a run of at least 15 minutes, before this run and after the last
-- complete break before it
pub record HasFirstPart (runs breaks : List Run) (run : Run) : Type 0 where
  pub part : Run
  pub among : Contains runs part
  pub enough : first_part_of_break ≤ minutes_of part
  pub before : Before part run
  pub after : (b : Run) → Contains breaks b → Before b run → Before b part

-- Article 7: the run has 45 minutes, or it has 30 and a first part of 15 before it
abbrev pub Completes : List Run → List Run → Run → Type 0
Completes runs breaks run =
    (whole_break ≤ minutes_of run) ⊎ ((last_part_of_break ≤ minutes_of run) × HasFirstPart runs breaks run)

-- the complete breaks among the rest runs, in order; there is one such list
abbrev pub AreCompleteBreaks : List Run → List Run → Type 0
AreCompleteBreaks runs breaks = AreExactly (λ run. Contains runs run × Completes runs breaks run) Before breaks
