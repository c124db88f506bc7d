use Rattle.std.proofs.Common.{rules, ◌≡◌, ◌++◌, ◌∙◌, ap, sym, get_or, ℕ, List, [], Bool, true, false, string_bytes}
use Rattle.tacho_state.specs.declared.entry.Entry.{Entry}
use Rattle.tacho_sheet.specs.Text.{entry_line}
use Rattle.tacho_handover.specs.Contents.{has_minute_of}
use Rattle.tacho_sheet.proofs.TextLemmas.{none_more_kept, one_more_kept}
use Rattle.tacho_handover.proofs.contents.entries_text.Goals as goal
use Rattle.tacho_handover.proofs.contents.entries_text.Goals.{then-lt+in_ok-push_entry, else-lt}

pub loop-entry-preserved : goal.loop-entry-preserved
loop-entry-preserved c =
    let p : Entry → Bool = has_minute_of c.args.start c.args.past in
    let xs : List Entry = c.args.entries.now in
    let i : ℕ = c.loop-entry.entry-index in
    let e : Entry = c.entry-item.result in
    let item : e ≡ get_or xs i e = c.entry-item.is in
    let tested : p (get_or xs i e) ≡ c.lt.result = ap p (sym item) ∙ (search rules) in
    let old : List ℕ = string_bytes c.loop-entry.text in
    let new : List ℕ = string_bytes c.if-lt.text in
    elim c.if-lt.branch [
      | then-lt+in_ok-push_entry w ↦
          let pushed : new ≡ old ++ entry_line e = search rules in
          let kept : c.lt.result ≡ true = search rules in
          one_more_kept entry_line p xs i e [] old new c.loop-entry-test.true (tested ∙ kept) c.loop-entry.invariant
          (pushed ∙ ap (λ (x : Entry). old ++ entry_line x) item)
      | else-lt w ↦
          let same : new ≡ old = search rules in
          let left : c.lt.result ≡ false = search rules in
          none_more_kept entry_line p xs i e [] old new c.loop-entry-test.true (tested ∙ left) c.loop-entry.invariant same
    ]
