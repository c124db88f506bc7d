use Rattle.std.proofs.Common.{◌≡◌, ◌∙◌, ◌++◌, ℕ, List, ap, sym}
use Rattle.tacho_line.specs.declared.horizon.Horizon.{Horizon}
use Rattle.tacho_law.specs.declared.breach.Breach.{Breach}
use Rattle.tacho_law.specs.declared.debt.Debt.{Debt}
use Rattle.tacho_sheet.specs.Reports.{breach_text, owed_text}
use Rattle.tacho_sheet.specs.Stretches.{block, debt_text, stretch_text}
use Rattle.tacho_sheet.proofs.laws.the_first_block_is_the_report.Goals as goal

pub returns-clause-breaches : goal.returns-clause-breaches
returns-clause-breaches c line base horizon breaches debts s stretches is are =
    let first = c.first_stretch_is_the_report.ensures line base s stretches are in
    let same = c.one_report.ensures line base horizon s.horizon breaches s.breaches debts s.debts is first.1 in (
      first.0,
      ap (λ (h : Horizon). block (breach_text s.breaches h) s ++ stretch_text stretches) (sym same.0)
          ∙ ap (λ (b : List Breach). block (breach_text b horizon) s ++ stretch_text stretches) (sym same.1),
    )

pub returns-clause-debts : goal.returns-clause-debts
returns-clause-debts c line base horizon breaches debts s stretches is are =
    let first = c.first_stretch_is_the_report.ensures line base s stretches are in
    let same = c.one_report.ensures line base horizon s.horizon breaches s.breaches debts s.debts is first.1 in
    ap (λ (h : Horizon). block (owed_text s.debts h) s ++ debt_text stretches) (sym same.0)
    ∙ ap (λ (d : List Debt). block (owed_text d horizon) s ++ debt_text stretches) (sym same.2)
