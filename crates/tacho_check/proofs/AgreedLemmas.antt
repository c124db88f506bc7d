-- Spans that give no minute two marks.
use Rattle.std.proofs.Common.{◌≡◌, ℕ, List, None, Option, Some, subst, sym}
use Rattle.std.specs.Prelude.{Vec}
use Rattle.std.specs.declared.alloc.Global.{Global}
use Rattle.tacho_time.specs.declared.span.Span.{Span}
use Rattle.tacho_state.proofs.DisjointLemmas.{disjoint_canonical, disjoint_agrees}
use Rattle.tacho_check.specs.declared.files.FileRow.{FileRow}
use Rattle.tacho_check.specs.Fits.{Agrees}
use Rattle.tacho_check.specs.Files.{Give, IsGivenBy}
use Rattle.tacho_check.specs.Judged.{AreAgreed, IsAgreed}
use Rattle.tacho_check.specs.Keeping.{IsListOf}
use Rattle.tacho_check.proofs.FileLemmas.{one_given}

-- spans agree exactly if they have a canonical list
pub listed_agree : (spans : List Span) (list : Option (Vec Span Global)) (runs : Vec Span Global) → list ≡ Some runs → IsListOf spans list
    → Agrees spans
listed_agree spans list runs is h m c =
    let it = subst (IsListOf spans) is h in
    disjoint_agrees runs.items m (disjoint_canonical runs.items it.canonical) (c.0, c.1, (it.same m c.0).1 c.2, (it.same m c.1).1 c.3, c.4)

pub unlisted_disagree : (spans : List Span) (list : Option (Vec Span Global)) → list ≡ None → IsListOf spans list → ¬ (Agrees spans)
unlisted_disagree spans list is h agrees = let it = subst (IsListOf spans) is h in agrees it.0 it.1.0

-- ---- card files

-- files that aren't read agree on nothing
pub unread_agree : (holder : List ℕ) (files : List FileRow) → IsGivenBy holder files None → AreAgreed holder files None
unread_agree holder files none all give agrees = none all give

-- what files give, if it agrees
pub given_agree : (holder : List ℕ) (files : List FileRow) (given : Vec Span Global) → IsGivenBy holder files (Some given)
    → (found : Option (Vec Span Global)) → IsAgreed given.items found → AreAgreed holder files found
given_agree holder files given give None agreed = λ all g agrees. agreed
    (subst Agrees (one_given holder files all given.items g give) agrees)
given_agree holder files given give (Some same) agreed = (
  subst (λ (ws : List Span). Give holder files ws) (sym agreed.1) give,
  subst (λ (ws : List Span). Agrees ws)
      (sym agreed.1) agreed.0,
)
