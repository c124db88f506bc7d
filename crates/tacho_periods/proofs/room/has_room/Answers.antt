use Rattle.std.proofs.Common.{◌≡◌, ◌≤◌, ◌<◌, ◌+◌, ◌-◌, ℕ, ◌∙◌, ap, arith, min, true, false}
use Rattle.std.proofs.lemmas.Bool.{leb-true, le-leb}
use Rattle.tacho_law.specs.declared.debt.Debt.{Debt}
use Rattle.tacho_law.specs.declared.run.Run.{Run}
use Rattle.tacho_law.specs.Debts.{minutes_before, paid_from}
use Rattle.tacho_law.specs.MainRests.{IsKept}
use Rattle.tacho_periods.proofs.RoomLemmas.{keeps_is, kept_only, room_yes, room_no}
use Rattle.tacho_periods.proofs.room.has_room.Goals as goal

pub returns-then-room-debt : goal.returns-then-room-debt
returns-then-room-debt c = λ line are is.
    let rest : Run = c.args.rest in
    let debt : Debt = c.args.debt.now in
    let kept : ℕ = c.kept_minutes.result in
    let end : c.min.result ≡ min c.args.horizon debt.deadline = omega arith in
    let known : c.known_minutes-minutes.result ≡ minutes_before (min c.args.horizon debt.deadline) rest =
    c.known_minutes-minutes.ensures ∙ ap (λ (m : ℕ). minutes_before m rest) end in
    let small : c.saturating_sub-room.result < debt.amount = c.if-room-debt.true in
    let is_room : c.saturating_sub-room.result ≡ c.known_minutes-minutes.result - kept =
    c.saturating_sub-room.ensures in (
      λ h. absurd (let e : false ≡ true = h in cc),
      λ h. absurd
          (let same : kept ≡ h.kept =
          kept_only line c.args.horizon rest kept h.kept (c.kept_minutes.ensures.kept line are is) h.keeps in
          let room : h.kept + paid_from rest c.args.earlier.now + debt.amount
          ≤ minutes_before (min c.args.horizon debt.deadline) rest = h.room in
          omega arith),
    )

pub returns : goal.returns
returns c = λ line are is.
    let rest : Run = c.args.rest in
    let debt : Debt = c.args.debt.now in
    let kept : ℕ = c.kept_minutes.result in
    let paid : ℕ = paid_from rest c.args.earlier.now in
    let keeps : IsKept line c.args.horizon rest kept = c.kept_minutes.ensures.kept line are is in
    let end : c.min.result ≡ min c.args.horizon debt.deadline = omega arith in
    let known : c.known_minutes-minutes.result ≡ minutes_before (min c.args.horizon debt.deadline) rest =
    c.known_minutes-minutes.ensures ∙ ap (λ (m : ℕ). minutes_before m rest) end in
    let left : c.left_of.result ≡ (c.known_minutes-minutes.result - kept) - paid = omega arith in (
      λ h.
          let fits : debt.amount ≤ c.left_of.result = leb-true debt.amount c.left_of.result h in
          let some : 0 < debt.amount = c.requires.nonempty in
          let room : kept + paid + debt.amount ≤ c.known_minutes-minutes.result =
          room_yes debt.amount c.known_minutes-minutes.result kept paid some (omega arith) in
          record { kept = kept; keeps = keeps_is line c.args.horizon rest kept keeps; room = omega arith },
      λ h.
          let same : kept ≡ h.kept = kept_only line c.args.horizon rest kept h.kept keeps h.keeps in
          let room : h.kept + paid + debt.amount ≤ minutes_before (min c.args.horizon debt.deadline) rest = h.room in
          let fits : debt.amount ≤ (c.known_minutes-minutes.result - kept) - paid =
          room_no debt.amount c.known_minutes-minutes.result kept paid (omega arith) in
          le-leb debt.amount c.left_of.result (omega arith),
    )
