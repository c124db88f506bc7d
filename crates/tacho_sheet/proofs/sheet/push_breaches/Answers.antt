use Rattle.std.proofs.Common.{rules, ◌≡◌, ◌<◌, ◌&&◌, nat_le, nat_lt, ◌++◌, ◌∙◌, ap, sym, get_or, string_bytes, length, ℕ, List, Bool, true, false}
use Rattle.tacho_law.specs.declared.breach.Breach.{Breach}
use Rattle.tacho_sheet.specs.Reports.{breach_line}
use Rattle.tacho_sheet.proofs.TextLemmas.{one_more_kept, none_more_kept}
use Rattle.tacho_sheet.proofs.sheet.push_breaches.Goals as goal
use Rattle.tacho_sheet.proofs.sheet.push_breaches.Goals.{then-is_within+in_ok-push_breach, else-is_within}

pub loop-breach-preserved : goal.loop-breach-preserved
loop-breach-preserved c =
    let p : Breach → Bool = λ b. nat_le c.args.start b.moment && nat_lt b.moment c.args.past in
    let xs : List Breach = c.args.breaches.now in
    let i : ℕ = c.loop-breach.breach-index in
    let b : Breach = c.breach-item.result in
    let item : b ≡ get_or xs i b = c.breach-item.is in
    let tested : p (get_or xs i b) ≡ c.is_within.result = ap p (sym item) ∙ sym c.is_within.ensures in
    let within : i < length xs = c.loop-breach-test.true in
    elim c.if-is_within.branch [
      | then-is_within+in_ok-push_breach w ↦
          let pushed : string_bytes c.if-is_within.text ≡ string_bytes c.loop-breach.text ++ breach_line b = search rules in
          let kept : c.is_within.result ≡ true = search rules in
          one_more_kept breach_line p xs i b (string_bytes c.args.text.now) (string_bytes c.loop-breach.text) (string_bytes c.if-is_within.text) within (tested ∙ kept) c.loop-breach.invariant
          (pushed ∙ ap (λ (x : Breach). string_bytes c.loop-breach.text ++ breach_line x) item)
      | else-is_within w ↦
          let same : string_bytes c.if-is_within.text ≡ string_bytes c.loop-breach.text = search rules in
          let left : c.is_within.result ≡ false = search rules in
          none_more_kept breach_line p xs i b (string_bytes c.args.text.now) (string_bytes c.loop-breach.text) (string_bytes c.if-is_within.text) within (tested ∙ left) c.loop-breach.invariant same
    ]
