-- Private to tacho_check: Stored card files, and what they give.
use Rattle.std.specs.Prelude.{◌≡◌, ◌≢◌, ℕ, List, [], ◌∷◌, ◌++◌, Option, None, Some, Ok, Vec}
use Rattle.std.specs.declared.alloc.Global.{Global}
use Rattle.tacho_time.specs.declared.span.Span.{Span}
use Rattle.tacho_card.specs.declared.file.Part.{Part}
use Rattle.tacho_state.specs.Content.{FileTells}
use Rattle.tacho_state.specs.declared.content.CardContent.{CardContent}
use Rattle.tacho_state.specs.Numbers.{part_number}
use Rattle.tacho_check.specs.declared.files.FileRow.{FileRow}

-- the file is of this holder's card, and gives these spans for the part
abbrev pub Tells : List ℕ → Part → List ℕ → List Span → Type 0
Tells holder part file spans = FileTells part file (Ok (record { holder = holder; spans = spans }))

-- the spans of a card's content, if it is of this holder's card
abbrev pub IsOwnContent : List ℕ → CardContent → Option (Vec Span Global) → Type 0
IsOwnContent holder content None = content.holder ≢ holder
IsOwnContent holder content (Some spans) = (content.holder ≡ holder) × (content.spans ≡ spans)

-- the spans are what the holder's file gives for the part, or it gives none: it has a fault, or it is of another holder
abbrev pub IsContentOf : List ℕ → Part → List ℕ → Option (Vec Span Global) → Type 0
IsContentOf holder part file None = (spans : List Span) → ¬ (Tells holder part file spans)
IsContentOf holder part file (Some spans) = Tells holder part file spans.items

-- the row's file is of this holder's card, and gives these spans for the row's part
abbrev pub Reads : List ℕ → FileRow → List Span → Type 0
Reads holder r spans = (part : Part) × (part_number part ≡ r.part) × Tells holder part r.file.items spans

-- likewise for a row
abbrev pub IsReadingOf : List ℕ → FileRow → Option (Vec Span Global) → Type 0
IsReadingOf holder r None = (spans : List Span) → ¬ (Reads holder r spans)
IsReadingOf holder r (Some spans) = Reads holder r spans.items

-- the rows' files give these spans together, one after the other
abbrev pub Give : List ℕ → List FileRow → List Span → Type 0
Give holder [] all = all ≡ []
Give holder (r ∷ rows) all =
    (spans : List Span) × (more : List Span) × Reads holder r spans × Give holder rows more × (all ≡ spans ++ more)

-- likewise for rows
abbrev pub IsGivenBy : List ℕ → List FileRow → Option (Vec Span Global) → Type 0
IsGivenBy holder rows None = (all : List Span) → ¬ (Give holder rows all)
IsGivenBy holder rows (Some given) = Give holder rows given.items
