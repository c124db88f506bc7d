-- Trusted: The form for gaps: CSV of the minutes that a driver doesn't hold, for the office to fill in.
use Rattle.std.specs.Prelude.{◌≡◌, ℕ, ◌+◌, ◌-◌, ◌<◌, ◌≤◌, true, List, [], ◌∷◌, ◌++◌, codes, flat_map}
use Rattle.tacho_time.specs.declared.span.Span.{Span}
use Rattle.tacho_time.specs.Text.{activity_name, minute_text}
use Rattle.tacho_line.specs.declared.gap.Gap.{Gap}
use Rattle.tacho_line.specs.Line.{AreGaps}
use Rattle.tacho_state.specs.Batch.{Hours}
use Rattle.tacho_sheet.specs.Entries.{is_author, is_note}

-- the most minutes that a row of hours may have: 366 days
abbrev pub longest_row : ℕ
longest_row = 527040

-- the rows into which the range from `start` to `past` is cut: each has the most minutes, and the last has the rest
abbrev pub AreCut : ℕ → ℕ → List Gap → Type 0
AreCut start past [] = ⊥
AreCut start past (r ∷ []) = (r.start ≡ start) × (r.past ≡ past) × (start < past) × (past - start ≤ longest_row)
AreCut start past (r ∷ rows) = (r.start ≡ start) × (r.past ≡ start + longest_row) × AreCut r.past past rows

-- the rows of all gaps, in their order
abbrev pub AreRows : List Gap → List Gap → Type 0
AreRows [] rows = rows ≡ []
AreRows (g ∷ gaps) rows = (front : List Gap) × (back : List Gap) × (rows ≡ front ++ back) × AreCut g.start g.past front × AreRows gaps back

-- the start and the past; activity, author and note are empty
abbrev pub form_row : Gap → List ℕ
form_row r = minute_text r.start ++ (codes "," ++ (minute_text r.past ++ codes ",,,\n"))

-- a head, and the rows of the gaps of the line from the base to the end
pub record IsForm (line : List Span) (base end : ℕ) (text : List ℕ) : Type 0 where
  pub gaps : List Gap
  pub lacking : AreGaps line base end gaps
  pub rows : List Gap
  pub are_rows : AreRows gaps rows
  pub is : text ≡ codes "start,past,activity,author,note\n" ++ flat_map form_row rows

-- ---- a filled-in form

-- hours that fill in the rows of a form: they have the minutes of the rows, any activity, and an author and a note within their limits
abbrev pub Fills : List Gap → List Hours → Type 0
Fills [] [] = Unit {0}
Fills [] (h ∷ hours) = ⊥
Fills (r ∷ rows) [] = ⊥
Fills (r ∷ rows) (h ∷ hours) =
    (h.start ≡ r.start) × (h.past ≡ r.past) × (is_author h.author ≡ true) × (is_note h.note ≡ true) × Fills rows hours

-- a filled-in row
abbrev pub filled_row : Hours → List ℕ
filled_row h =
    minute_text h.start ++ (codes "," ++ (minute_text h.past ++ (codes "," ++ (activity_name h.activity
    ++ (codes "," ++ (h.author ++ (codes "," ++ (h.note ++ codes "\n"))))))))

-- the same head, and the filled-in rows
abbrev pub filled_form : List Hours → List ℕ
filled_form hours = codes "start,past,activity,author,note\n" ++ flat_map filled_row hours
