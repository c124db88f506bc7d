-- What a rest keeps is unique, and the test of room is exact (`has_room`).
use Rattle.std.proofs.Common.{◌≡◌, ℕ, ◌+◌, ◌-◌, ◌<◌, ◌≤◌, inl, inr, sym, ◌∙◌, arith}
use Rattle.std.proofs.lemmas.Bool.{cases_lt}
use Rattle.tacho_law.specs.declared.run.Run.{Run}
use Rattle.tacho_law.specs.Line.{Line}
use Rattle.tacho_law.specs.Debts.{Keeps}
use Rattle.tacho_law.specs.MainRests.{IsKept}

-- `IsKept` agrees with the definition of what a rest keeps
pub keeps_is : (line : Line) (horizon : ℕ) (rest : Run) (kept : ℕ)
    → IsKept line horizon rest kept → Keeps line horizon rest kept
keeps_is line horizon rest kept k = record {
  main = λ w m. elim k [ inl as_main ↦ as_main.0 | inr as_other ↦ absurd (as_other.1 w m) ];
  other = λ none. elim k [ inl as_main ↦ absurd (none as_main.1.0 as_main.1.1) | inr as_other ↦ as_other.0 ];
}

-- what a rest keeps is unique
pub kept_only : (line : Line) (horizon : ℕ) (rest : Run) (kept other : ℕ)
    → IsKept line horizon rest kept → Keeps line horizon rest other → kept ≡ other
kept_only line horizon rest kept other k keeps = elim k [
  | inl as_main ↦ as_main.0 ∙ sym (keeps.main as_main.1.0 as_main.1.1)
  | inr as_other ↦ as_other.0 ∙ sym (keeps.other as_other.1)
]

-- a rest keeps at least nine hours
pub kept_least : (line : Line) (horizon : ℕ) (rest : Run) (kept : ℕ) → Keeps line horizon rest kept → 540 ≤ kept
kept_least line horizon rest kept keeps = elim (cases_lt kept 540) [
  | inl fewer ↦ absurd (
      let e : kept ≡ 540 = keeps.other (λ w main. let f : kept ≡ 2700 = keeps.main w main in omega arith) in
      omega arith)
  | inr enough ↦ enough
]

-- if the test of room passes, there is room
pub room_yes : (amount minutes kept paid : ℕ) → 0 < amount
    → amount ≤ (minutes - kept) - paid → kept + paid + amount ≤ minutes
room_yes amount minutes kept paid some fits = omega arith

-- if there is room, the test passes
pub room_no : (amount minutes kept paid : ℕ) → kept + paid + amount ≤ minutes → amount ≤ (minutes - kept) - paid
room_no amount minutes kept paid fits = omega arith
