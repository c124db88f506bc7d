-- Trusted: The card files that cover a period: from the newest to the oldest, each that gives something of it that no newer one gives.
use Rattle.std.specs.Prelude.{◌≡◌, ◌⊎◌, ◌++◌, ℕ, ◌+◌, List, [], ◌∷◌}
use Rattle.tacho_time.specs.declared.span.Span.{Span}
use Rattle.tacho_time.specs.declared.span.Mark.{Mark}
use Rattle.tacho_time.specs.Spans.{Gives}
use Rattle.tacho_line.specs.Line.{IsWithin}
use Rattle.tacho_state.specs.State.{Download}
use Rattle.tacho_state.specs.Steps.{Content}
use Rattle.tacho_state.specs.Content.{HasContent}
use Rattle.tacho_state.specs.Files.{ListedFile, listed_file}

-- the card file gives these spans, by the part that was read
abbrev pub HasSpans : Download → List Span → Type 0
HasSpans d spans = (content : Content) × HasContent d.part d.file content × (spans ≡ content.spans)

-- one of the card files gives the minute this mark
abbrev pub GivenBy : List Download → ℕ → Mark → Type 0
GivenBy [] m mark = ⊥
GivenBy (d ∷ ds) m mark = ((spans : List Span) × HasSpans d spans × Gives spans m mark) ⊎ GivenBy ds m mark

-- spans give a minute and mark of the period that none of the card files gives
abbrev pub AreNeeded : ℕ → ℕ → List Span → List Download → Type 0
AreNeeded start past spans ds =
    (m : ℕ) × (mark : Mark) × IsWithin start past m × Gives spans m mark × ¬ GivenBy ds m mark

-- each minute and mark of the period that spans give is given by one of the card files
abbrev pub AreCovered : ℕ → ℕ → List Span → List Download → Type 0
AreCovered start past spans ds = (m : ℕ) (mark : Mark) → IsWithin start past m → Gives spans m mark → GivenBy ds m mark

-- a card file that is handed over: what is listed of it, and its bytes
pub record Handed : Type 0 where
  pub listed : ListedFile
  pub file : List ℕ

-- a file with this number
abbrev pub handed_file : ℕ → Download → Handed
handed_file number d = record { listed = listed_file number d; file = d.file }

-- the file comes last if it is needed beside the newer ones; if they cover what it gives, it isn't handed over
abbrev pub IsNext : ℕ → ℕ → ℕ → Download → List Download → List Span → List Handed → List Handed → Type 0
IsNext start past number d newer spans before handed =
    (AreNeeded start past spans newer × (handed ≡ before ++ handed_file number d ∷ []))
    ⊎ (AreCovered start past spans newer × (handed ≡ before))

-- the card files that cover the period from `start` to before `past`, the newest first, of those whose first has number `i`
abbrev pub AreHanded : ℕ → ℕ → ℕ → List Download → List Handed → Type 0
AreHanded start past i [] handed = handed ≡ []
AreHanded start past i (d ∷ newer) handed =
    (before : List Handed) × (spans : List Span) × AreHanded start past (i + 1) newer before × HasSpans d spans
    × IsNext start past i d newer spans before handed

-- what a card file that is handed over gives; below, one of several
abbrev pub GivesOf : Handed → ℕ → Mark → Type 0
GivesOf h m mark = (content : Content) × HasContent h.listed.part h.file content × Gives content.spans m mark

abbrev pub HandedGive : List Handed → ℕ → Mark → Type 0
HandedGive [] m mark = ⊥
HandedGive (h ∷ handed) m mark = GivesOf h m mark ⊎ HandedGive handed m mark
