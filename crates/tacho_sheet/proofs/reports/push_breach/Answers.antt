use Rattle.std.proofs.Common.{◌≡◌, ◌++◌, codes, decimal, string_bytes, ℕ, List, OnOk, subst}
use Rattle.tacho_time.specs.Text.{minute_text}
use Rattle.tacho_sheet.proofs.reports.push_breach.Goals as goal

pub returns : goal.returns
returns c = subst (λ (t : List ℕ). OnOk c.writeln.result (string_bytes c.writeln.new.self ≡ string_bytes c.args.text.now ++ (t ++ (codes " at " ++ (minute_text c.args.breach.now.moment ++ (codes " since " ++ (minute_text c.args.breach.now.since ++ (codes " amount " ++ (decimal c.args.breach.now.amount ++ codes "\n")))))))))
    c.name_of_kind-kind.ensures c.writeln.ensures.bytes
