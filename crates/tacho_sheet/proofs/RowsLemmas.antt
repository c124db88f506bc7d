-- The rows of all drivers (specs/Standing, specs/Forecast).
use Rattle.std.proofs.Common.{◌≡◌, ℕ, ◌+◌, ◌-◌, ◌/◌, ◌≤◌, inl, inr, nat_eq, Bool, true, false, List, [], ◌∷◌, ◌++◌, append_assoc, codes, decimal, map, Option, None, Some, refl, sym, ap, subst, ◌∙◌, arith}
use Rattle.std.specs.Option.{is_some}
use Rattle.std.specs.Prelude.{max}
use Rattle.std.proofs.lemmas.Bool.Decides.{nat_tests}
use Rattle.std.proofs.lemmas.List.{append-nil}
use Rattle.tacho_time.specs.Text.{day_text}
use Rattle.tacho_time.specs.declared.span.Span.{Span}
use Rattle.tacho_line.specs.declared.gap.Gap.{Gap}
use Rattle.tacho_line.specs.Line.{mark_at, AgreeWithin, AreGaps}
use Rattle.tacho_stretches.specs.declared.stretch.Stretch.{Stretch}
use Rattle.tacho_stretches.specs.Start.{IsEndOfHeld}
use Rattle.tacho_stretches.specs.Stretches.{Judged, judged_of}
use Rattle.tacho_ahead.specs.Plans.{IsInTime}
use Rattle.tacho_state.specs.Summaries.{Summary}
use Rattle.tacho_sheet.specs.Cells.{cells_text, held_to, minute_cell, row_text}
use Rattle.tacho_sheet.specs.Forecast.{no_cells, AreForecastCells, AreOutlookCells, IsForecastRow}
use Rattle.tacho_sheet.specs.Reports.{column_minutes, is_lacking}
use Rattle.tacho_sheet.specs.Standing.{IsCountBefore, IsCountIn, IsCountUnless}
use Rattle.tacho_sheet.proofs.AheadLemmas.{EndsWith}
use Rattle.tacho_sheet.proofs.AmountLemmas.{count_same}
use Rattle.tacho_sheet.proofs.MarkLemmas.{gaps_same}
use Rattle.tacho_sheet.proofs.MonthLemmas.{rows_more}
use Rattle.tacho_sheet.proofs.TextLemmas.{pieces2, pieces3}

-- ---- cells

-- some cells after others
pub cells_more : (xs ys : List (List ℕ)) (t t1 t2 : List ℕ) → t1 ≡ t ++ cells_text xs → t2 ≡ t1 ++ cells_text ys
    → t2 ≡ t ++ cells_text (xs ++ ys)
cells_more xs ys t t1 t2 e1 e2 = rows_more (λ (cell : List ℕ). codes "," ++ cell) xs ys (xs ++ ys) t t1 t2 e1 e2 refl

-- the first cell, the others, and the end of the line
pub row_made : (first : List ℕ) (cells : List (List ℕ)) (t t1 t2 t3 : List ℕ) → t1 ≡ t ++ first → t2 ≡ t1 ++ cells_text cells
    → t3 ≡ t2 ++ codes "\n" → t3 ≡ t ++ row_text first cells
row_made first cells t t1 t2 t3 e1 e2 e3 = pieces3 first (cells_text cells) (codes "\n") t t1 t2 t3 e1 e2 e3

-- the first cell with some others, and then the rest of the line
pub row_ended : (first : List ℕ) (xs ys : List (List ℕ)) (t t1 t2 : List ℕ) → t1 ≡ t ++ (first ++ cells_text xs)
    → t2 ≡ t1 ++ (cells_text ys ++ codes "\n") → t2 ≡ t ++ row_text first (xs ++ ys)
row_ended first xs ys t t1 t2 e1 e2 =
    row_made first (xs ++ ys) t (t ++ first) (t1 ++ cells_text ys) t2 refl
    (cells_more xs ys (t ++ first) t1 (t1 ++ cells_text ys) (e1 ∙ sym (append_assoc t first (cells_text xs))) refl)
    (e2 ∙ sym (append_assoc t1 (cells_text ys) (codes "\n")))

-- ---- pieces that are written one after the other

-- two cells
pub two_pieces : (a b t t1 : List ℕ) → t1 ≡ t ++ (codes "," ++ (a ++ (codes "," ++ b))) → t1 ≡ t ++ cells_text (a ∷ b ∷ [])
two_pieces a b t t1 e = by (codes ",") e where
  by : (k : List ℕ) → t1 ≡ t ++ (k ++ (a ++ (k ++ b))) → t1 ≡ t ++ ((k ++ a) ++ ((k ++ b) ++ []))
  by k e = simp (e, append_assoc, append-nil) refl

-- a number, a name, a day and another cell
pub front_pieces : (number name day held t t1 t2 t3 : List ℕ) → t1 ≡ t ++ (number ++ (codes "," ++ (name ++ codes ","))) → t2 ≡ t1 ++ day
    → t3 ≡ t2 ++ (codes "," ++ held) → t3 ≡ t ++ (number ++ cells_text (name ∷ day ∷ held ∷ []))
front_pieces number name day held t t1 t2 t3 e1 e2 e3 = by (codes ",") e1 e3 where
  by : (k : List ℕ) → t1 ≡ t ++ (number ++ (k ++ (name ++ k))) → t3 ≡ t2 ++ (k ++ held)
      → t3 ≡ t ++ (number ++ ((k ++ name) ++ ((k ++ day) ++ ((k ++ held) ++ []))))
  by k e1 e3 = simp (e3, e2, e1, append_assoc, append-nil) refl

-- a cell, others, and four more with the end of the line
pub outlook_pieces : (start : List ℕ) (cells : List (List ℕ)) (a b c d t t1 t2 t3 : List ℕ) → t1 ≡ t ++ (codes "," ++ start)
    → t2 ≡ t1 ++ cells_text cells
    → t3 ≡ t2 ++ (codes "," ++ (a ++ (codes "," ++ (b ++ (codes "," ++ (c ++ (codes "," ++ (d ++ codes "\n"))))))))
    → t3 ≡ t ++ (cells_text (start ∷ (cells ++ (a ∷ b ∷ c ∷ d ∷ []))) ++ codes "\n")
outlook_pieces start cells a b c d t t1 t2 t3 e1 e2 e3 =
    let last : List (List ℕ) = a ∷ b ∷ c ∷ d ∷ [] in
    let here : t2 ≡ t ++ cells_text (start ∷ cells) =
    cells_more (start ∷ []) cells t t1 t2 (e1 ∙ ap (λ (x : List ℕ). t ++ x) (sym (append-nil (codes "," ++ start)))) e2 in
    let ended : t3 ≡ (t2 ++ cells_text last) ++ codes "\n" = by (codes ",") (codes "\n") e3 in
    pieces2 (cells_text ((start ∷ cells) ++ last)) (codes "\n") t (t2 ++ cells_text last) t3
    (cells_more (start ∷ cells) last t t2 (t2 ++ cells_text last) here refl) ended
  where
    by : (k z : List ℕ) → t3 ≡ t2 ++ (k ++ (a ++ (k ++ (b ++ (k ++ (c ++ (k ++ (d ++ z))))))))
        → t3 ≡ (t2 ++ ((k ++ a) ++ ((k ++ b) ++ ((k ++ c) ++ ((k ++ d) ++ []))))) ++ z
    by k z e = simp (e, append_assoc, append-nil) refl

-- ---- the month before

-- ---- how a driver stands

-- the end of what is held, as it is computed
pub held_end : (o : Option ℕ) (b e base end : ℕ) → o ≡ held_to b e → b ≡ base → e ≡ end → o ≡ held_to base end
held_end o b e base end is first last = rw (first, last) at is

-- the minutes that aren't held are those of a line with the same marks
pub lacking_same : (line held : List Span) (base end : ℕ) → base ≤ end → end ≤ 68428800 → AgreeWithin base 68428800 line held
    → column_minutes line base (end - base) is_lacking ≡ column_minutes held base (end - base) is_lacking
lacking_same line held base end order early agree =
    count_same (λ k. is_lacking (mark_at line k)) (λ k. is_lacking (mark_at held k)) base (end - base)
    (λ m from to. ap is_lacking (agree m (from, omega (arith, to, order, early))))

-- and so are the gaps
pub gaps_of_held : (line held : List Span) (base end : ℕ) (gaps : List Gap) → end ≤ 68428800 → AgreeWithin base 68428800 line held
    → AreGaps line base end gaps → AreGaps held base end gaps
gaps_of_held line held base end gaps early agree is =
    gaps_same line held base end gaps (λ m w. let l = w.0 in let r = w.1 in agree m (l, omega (arith, r, early))) is

-- ---- a forecast

-- the cells are empty where something is held after the last stretch
pub none_after : (held : List Span) (minute : ℕ) (s : Judged) (unseen : Option ℕ) → is_some unseen ≡ true
    → AreForecastCells held minute s unseen no_cells
none_after held minute s None e = absurd (let wrong = e in cc)
none_after held minute s (Some past) e = refl

-- or where the forecast would go past 2099
pub too_late : (held : List Span) (minute start : ℕ) (s : Judged) (unseen : Option ℕ) → unseen ≡ None → start ≡ max minute s.horizon.minute
    → ¬ (IsInTime start) → AreForecastCells held minute s unseen no_cells
too_late held minute start s None e max_is late = inr (subst (λ (m : ℕ). ¬ (IsInTime m)) max_is late, refl)
too_late held minute start s (Some past) e max_is late = absurd (let wrong = e in cc)

pub some_cells : (held : List Span) (minute start : ℕ) (s : Judged) (unseen : Option ℕ) (cells : List (List ℕ)) → unseen ≡ None
    → start ≡ max minute s.horizon.minute → IsInTime start → AreOutlookCells held s.monday start cells
    → AreForecastCells held minute s unseen cells
some_cells held minute start s None cells e max_is early are =
    inl (subst (λ (m : ℕ). IsInTime m × AreOutlookCells held s.monday m cells) max_is (early, are))
some_cells held minute start s (Some past) cells e max_is early are = absurd (let wrong = e in cc)

-- the row with these cells
pub forecast_row : (x : Summary) (held : List Span) (base end : ℕ) (xs : List Stretch) (s : Stretch) (minute : ℕ) (cells : List (List ℕ))
    (to : Option ℕ) (t t1 t2 : List ℕ) → EndsWith xs s → IsEndOfHeld held base end → AreForecastCells held minute (judged_of s) s.unseen cells
    → to ≡ held_to base end → t1 ≡ t ++ (decimal x.number ++ cells_text (x.name ∷ day_text (s.monday / 1440) ∷ minute_cell to ∷ []))
    → t2 ≡ t1 ++ (cells_text cells ++ codes "\n")
    → (row : List ℕ) × (t2 ≡ t ++ row) × IsForecastRow x held base (map judged_of xs) minute row
forecast_row x held base end xs s minute cells to t t1 t2 (front, list) is_end are to_is e1 e2 =
    let first : Option ℕ → List (List ℕ) = λ to. x.name ∷ day_text (s.monday / 1440) ∷ minute_cell to ∷ [] in (
      row_text (decimal x.number) (first (held_to base end) ++ cells),
      row_ended (decimal x.number) (first (held_to base end)) cells t t1 t2
          (e1 ∙ ap (λ (to : Option ℕ). t ++ (decimal x.number ++ cells_text (first to))) to_is) e2,
      record { front = front; last = judged_of s; list = list; end = end; is_end = is_end; cells = cells; are = are; is = refl },
    )
