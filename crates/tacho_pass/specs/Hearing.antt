-- Private to tacho_pass: A pass that finds the rest runs for a rule, and what it has found.
use Rattle.std.specs.Prelude.{◌≡◌, ℕ, true, false, List}
use Rattle.tacho_time.specs.declared.span.Span.{Span}
use Rattle.tacho_pass.specs.declared.found.Found.{Found}
use Rattle.tacho_pass.specs.declared.judge.Judge.{Ghosts}
use Rattle.tacho_pass.specs.declared.judge.Hearing.{Hearing}
use Rattle.tacho_pass.specs.Found.{own_of, own_debts}

module _ {J : Type 0} {g : Ghosts J} where
  -- the pass was fed up to this minute
  abbrev pub IsHeardTo : Hearing J g → ℕ → Type 0
  IsHeardTo h place = h.runs.place ≡ place

  -- memory ran out, and nothing further is found
  abbrev pub HasHearingFailed : Hearing J g → Type 0
  HasHearingFailed h = h.failed ≡ true

  -- memory didn't run out, and the state of the rule, with its own breaches and debts so far, represents the spans from the base on
  abbrev pub IsHearingOf : Hearing J g → Found → ℕ → List Span → Type 0
  IsHearingOf h found base spans =
      (h.failed ≡ false)
      × g.stands h.judge h.runs.start h.runs.place (own_of g.own found.breaches.items)
      (own_debts g.owes found.debts.items) base spans
