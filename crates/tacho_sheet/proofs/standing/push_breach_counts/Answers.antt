use Rattle.std.proofs.Common.{◌≡◌, ◌++◌, codes, decimal, string_bytes, ℕ}
use Rattle.std.proofs.lemmas.Result.{on_ok_weaker}
use Rattle.tacho_sheet.proofs.RowsLemmas.{two_pieces}
use Rattle.tacho_sheet.proofs.standing.push_breach_counts.Goals as goal

pub returns : goal.returns
returns c =
    let earlier : ℕ = c.in_ok-earlier.earlier in
    let breaches : ℕ = c.in_ok-breaches.breaches in
    on_ok_weaker c.write.result (λ (written : string_bytes c.write.new.self
    ≡ string_bytes c.args.text.now ++ (codes "," ++ (decimal earlier ++ (codes "," ++ decimal breaches)))). (
      earlier,
      breaches,
      c.in_ok-earlier.ensures,
      c.in_ok-breaches.ensures,
      two_pieces (decimal earlier) (decimal breaches) (string_bytes c.args.text.now) _ written,
    )) c.write.ensures.bytes
