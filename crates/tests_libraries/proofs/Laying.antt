use Rattle.std.proofs.Common.{◌≡◌, ℕ, ◌+◌, ◌<◌, List, [], ◌∷◌, ◌++◌, refl, sym, ◌∙◌, arith, false}
use Rattle.std.specs.List.{All}
use Rattle.std.proofs.lemmas.List.Elements.{All-push}
use Rattle.tacho_time.specs.declared.span.Activity.{Activity}
use Rattle.tacho_time.specs.declared.span.Span.{Span}
use Rattle.tacho_law.specs.Line.{Joined}

-- spans of a driver who is alone, from a Monday to `at` minutes after it
pub record IsLaid (spans : List Span) (at : ℕ) : Type 0 where
  pub joined : Joined spans 28491840 (28491840 + at)
  pub single : All (λ s. s.mark.crew ≡ false) spans

-- a span of a driver who is alone, between two minutes
abbrev pub alone : ℕ → ℕ → Activity → Span
alone start past activity = record { start = 28491840 + start; past = 28491840 + past; mark = record { activity = activity; crew = false } }

-- a span that follows spans which follow one another
joined_push : (spans : List Span) (base past : ℕ) (s : Span) → Joined spans base past → s.start ≡ past → past < s.past → Joined (spans ++ s ∷ []) base s.past
joined_push [] base past s j e some = (e ∙ sym j, let same : base ≡ past = j in omega arith, refl)
joined_push (x ∷ spans) base past s (e, least, rest) f some = (e, least, joined_push spans x.past past s rest f some)

-- one more span
pub laid_push : (spans : List Span) (at to : ℕ) (activity : Activity) → IsLaid spans at → at < to → IsLaid (spans ++ alone at to activity ∷ []) to
laid_push spans at to activity laid some = record {
  joined = joined_push spans 28491840 (28491840 + at) (alone at to activity) laid.joined refl (omega arith);
  single = All-push (λ (s : Span). s.mark.crew ≡ false) spans (alone at to activity) laid.single refl;
}
