-- Private to tacho_sheet: A text without the end of its last line.
use Rattle.std.specs.Prelude.{◌≡◌, ◌≢◌, ◌⊎◌, ℕ, List, ◌++◌, codes}

-- the text without the CR LF or LF at its end; it is as it was if it has neither
abbrev pub IsCut : List ℕ → List ℕ → Type 0
IsCut text line =
    (text ≡ line ++ codes "\r\n")
    ⊎ (((text ≡ line ++ codes "\n") × ((front : List ℕ) → line ≢ front ++ codes "\r"))
    ⊎ ((text ≡ line) × ((front : List ℕ) → text ≢ front ++ codes "\n")))
