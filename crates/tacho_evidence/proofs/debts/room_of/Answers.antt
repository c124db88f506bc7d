use Rattle.std.proofs.Common.{◌≡◌, ◌+◌, ◌∷◌, ◌∙◌, [], ℕ, List, ap, arith, min, refl}
use Rattle.tacho_law.specs.declared.run.Run.{Run}
use Rattle.tacho_law.specs.Debts.{minutes_before, paid_from}
use Rattle.tacho_periods.proofs.RoomLemmas.{keeps_is}
use Rattle.tacho_evidence.specs.declared.line.EvidenceLine.{EvidenceLine}
use Rattle.tacho_evidence.specs.declared.line.EvidenceLine.TheVariants.{Room}
use Rattle.tacho_evidence.proofs.debts.room_of.Goals as goal

pub returns : goal.returns
returns c = λ line are is.
    let rest : Run = c.args.rest in
    let kept : ℕ = c.kept_minutes.result in
    let end : c.min.result ≡ min c.args.horizon c.args.deadline = omega arith in
    let has : c.known_minutes.result ≡ minutes_before (min c.args.horizon c.args.deadline) rest =
    c.known_minutes.ensures ∙ ap (λ (m : ℕ). minutes_before m rest) end in
    let paid : c.minutes_paid.result ≡ paid_from rest c.args.older.now = c.minutes_paid.ensures in
    let one : ℕ → ℕ → List EvidenceLine = λ h p. Room rest h (kept + p) ∷ [] in (
      kept,
      [],
      keeps_is line c.args.horizon rest kept (c.kept_minutes.ensures.kept line are is),
      ap (λ (h : ℕ). one h c.minutes_paid.result) has
          ∙ ap (one (minutes_before (min c.args.horizon c.args.deadline) rest)) paid,
      refl,
    )
