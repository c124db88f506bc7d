-- Trusted in part: Runs of rest (Regulation (EC) No 561/2006, Articles 4(d), 4(f), 4(g) and 4(h)).
use Rattle.std.specs.Prelude.{◌≡◌, ◌≢◌, ℕ, ◌+◌, ◌-◌, ◌<◌, ◌≤◌, ◌⊎◌, List, All, AllPairs}
use Rattle.tacho_time.specs.declared.span.Activity.TheVariants.{Rest}
use Rattle.tacho_law.specs.declared.run.Run.{Run}
use Rattle.tacho_law.specs.declared.run.TheConstants.{FAR}
use Rattle.tacho_law.specs.Exactly.{AreExactly}
use Rattle.tacho_law.specs.Line.{Line}

-- an uninterrupted break or rest (Articles 4(d) and 4(f)): a maximal run of minutes at rest. The first one has no start, which is
-- represented by 0, and the last one has no end, which is represented by FAR.
pub record IsRestRun (line : Line) (run : Run) : Type 0 where
  pub some : run.start < run.past
  pub rest : (m : ℕ) → run.start ≤ m → m < run.past → line m ≡ Rest
  pub from : (run.start ≡ 0) ⊎ ((m : ℕ) → m + 1 ≡ run.start → line m ≢ Rest)
  pub until : (run.past ≡ FAR) ⊎ (line run.past ≢ Rest)

-- one run ends before the other starts, with at least a minute between them
abbrev pub Before : Run → Run → Type 0
Before a b = a.past < b.start

-- runs in order of time, and none is empty
pub record AreRuns (runs : List Run) : Type 0 where
  pub some : All (λ run. run.start < run.past) runs
  pub in_order : AllPairs Before runs

-- the length of a run in minutes
abbrev pub minutes_of : Run → ℕ
minutes_of run = run.past - run.start

-- the rest runs of a line, in order of time
abbrev pub AreRestRuns : Line → List Run → Type 0
AreRestRuns line runs = AreExactly (IsRestRun line) Before runs

-- a rest run of `least` minutes or more
pub record IsRestOf (line : Line) (least : ℕ) (run : Run) : Type 0 where
  pub rests : IsRestRun line run
  pub enough : least ≤ minutes_of run

-- the rest runs of `least` minutes or more, in order of time
abbrev pub AreRestsOf : Line → ℕ → List Run → Type 0
AreRestsOf line least rests = AreExactly (IsRestOf line least) Before rests

-- two rest runs of `least` minutes or more, with no other such run between them
pub record AreNeighbours (line : Line) (least : ℕ) (a b : Run) : Type 0 where
  pub first : IsRestOf line least a
  pub second : IsRestOf line least b
  pub before : Before a b
  pub between : (c : Run) → IsRestOf line least c → Before a c → Before c b → ⊥
