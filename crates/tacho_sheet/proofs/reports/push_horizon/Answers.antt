use Rattle.std.proofs.Common.{rules, ◌≡◌, ◌++◌, codes, string_bytes, ℕ, List, OnOk, subst}
use Rattle.tacho_time.specs.Text.{minute_text}
use Rattle.tacho_sheet.proofs.reports.push_horizon.Goals as goal

pub returns : goal.returns
returns c = subst (λ (t : List ℕ). OnOk c.writeln.result (string_bytes c.writeln.new.self ≡ string_bytes c.args.text.now ++ (codes "EXAMINED TO " ++ (minute_text c.args.horizon.minute ++ (codes " " ++ (t ++ codes "\n"))))))
    c.name_of_cause-cause.ensures (search rules)
