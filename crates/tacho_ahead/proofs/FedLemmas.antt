-- A scan that is fed the next span of a plan (specs/Fed).
use Rattle.std.proofs.Common.{◌≡◌, ℕ, ◌<◌, ◌≤◌, ◌⊎◌, inl, inr, List, [], ◌∷◌, ◌++◌, Some, false, refl, ap, ◌∙◌}
use Rattle.std.proofs.lemmas.List.Elements.{All-append, All-cons, All-nil}
use Rattle.tacho_time.specs.declared.span.Mark.{Mark}
use Rattle.tacho_time.specs.declared.span.Span.{Span}
use Rattle.tacho_time.specs.Spans.{Gives}
use Rattle.tacho_line.specs.Line.{Holds}
use Rattle.tacho_line.proofs.MergeLemmas.{append_gives}
use Rattle.tacho_pass.specs.declared.found.Found.{Found}
use Rattle.tacho_rules.specs.declared.scan.Scan.{Scan}
use Rattle.tacho_rules.specs.Scan.{IsScanOf}
use Rattle.tacho_rules.proofs.JoinedLemmas.{joined_next}
use Rattle.tacho_ahead.specs.Fed.{IsFedTo}

-- ---- one more span

abbrev span_of : ℕ → ℕ → Mark → Span
span_of start past k = record { start = start; past = past; mark = k }

-- a scan that is fed the next span of the plan
pub fed_more : (s s' : Scan) (f f' : Found) (plan : List Span) (base start past : ℕ) (k : Mark)
    → start < past → k.crew ≡ false → ((m : ℕ) → start ≤ m → m < past → Holds plan m k)
    → ((b : ℕ) (spans : List Span) → IsScanOf s f b spans
    → IsScanOf s' f' b (spans ++ (record { start = start; past = past; mark = k }) ∷ []))
    → IsFedTo s f plan base start → IsFedTo s' f' plan base past
fed_more s s' f f' plan base start past k some single gives fed is = record {
  monday = is.monday;
  parts = is.parts ++ span_of start past k ∷ [];
  joined = joined_next is.parts (span_of start past k) base start is.joined refl some;
  single =
      All-append (λ (x : Span). x.mark.crew ≡ false) is.parts (span_of start past k ∷ []) is.single
      (All-cons (λ (x : Span). x.mark.crew ≡ false) (span_of start past k) [] single
      (All-nil (λ (x : Span). x.mark.crew ≡ false)));
  held = λ m mark g. held m mark (append_gives is.parts (span_of start past k ∷ []) m mark g);
  scanned = fed base is.parts is.scanned;
} where
  held : (m : ℕ) (mark : Mark) → Gives is.parts m mark ⊎ Gives (span_of start past k ∷ []) m mark → Holds plan m mark
  held m mark (inl g) = is.held m mark g
  held m mark (inr (inl c)) = gives m c.0.0 c.0.1 ∙ ap (λ (x : Mark). Some x) c.1
  held m mark (inr (inr g)) = absurd g
