-- The form for gaps: how a gap is cut into rows, and that a line has only one form.
use Rattle.std.proofs.Common.{◌≡◌, ◌∙◌, ℕ, ◌+◌, ◌-◌, ◌<◌, ◌≤◌, List, [], ◌∷◌, ◌++◌, length, take, get_or, refl, sym, ap, subst, arith, append_assoc, codes}
use Rattle.std.specs.List.{flat_map, All, AllByRecursion}
use Rattle.std.proofs.lemmas.Grind.{flat_map-append}
use Rattle.std.proofs.lemmas.List.Elements.{All-from_recursion}
use Rattle.std.proofs.lemmas.List.{append-nil, flat_map_more}
use Rattle.tacho_time.specs.declared.span.Span.{Span}
use Rattle.tacho_line.specs.declared.gap.Gap.{Gap}
use Rattle.tacho_line.specs.Line.{AreGapsApart, AreGaps}
use Rattle.tacho_sheet.proofs.TextLemmas.{take_more}
use Rattle.tacho_sheet.specs.Form.{AreCut, AreRows, IsForm, form_row}

-- ---- a gap, cut into rows

-- a row of the most minutes, followed by the rows of the rest
pub cut_more : (start past : ℕ) (rows : List Gap) → AreCut (start + 527040) past rows
    → AreCut start past (record { start = start; past = start + 527040 } ∷ rows)
cut_more start past [] cut = absurd cut
cut_more start past (r ∷ rows) cut = (refl, refl, cut)

-- the last row
pub cut_last : (start past : ℕ) → start < past → past - start ≤ 527040 → AreCut start past (record { start = start; past = past } ∷ [])
cut_last start past some few = (refl, refl, some, few)

-- the rows that were written up to `start` become a cut of the gap when the rows of the rest are added
pub record IsCutSoFar (first past : ℕ) (before : List ℕ) (start : ℕ) (after : List ℕ) : Type 0 where
  pub done : List Gap
  pub cut : (rest : List Gap) → AreCut start past rest → AreCut first past (done ++ rest)
  pub is : after ≡ before ++ flat_map form_row done

-- rows, and one more row
rows_more : (before after new : List ℕ) (rows : List Gap) (r : Gap) → after ≡ before ++ flat_map form_row rows → new ≡ after ++ form_row r
    → new ≡ before ++ flat_map form_row (rows ++ r ∷ [])
rows_more before after new rows r e g = g ∙ ap (λ (t : List ℕ). t ++ form_row r) e ∙ flat_map_more form_row before rows r

pub cut_next : (first past : ℕ) (before : List ℕ) (start next : ℕ) (after new : List ℕ) → IsCutSoFar first past before start after
    → next ≡ start + 527040 → new ≡ after ++ form_row (record { start = start; past = next }) → IsCutSoFar first past before next new
cut_next first past before start next after new so at e =
    let r : Gap = record { start = start; past = next } in
    record {
      done = so.done ++ r ∷ [];
      cut = λ rest cut. subst (λ (rows : List Gap). AreCut first past rows) (sym (append_assoc so.done (r ∷ []) rest))
          (so.cut (r ∷ rest) (subst (λ (n : ℕ). AreCut start past (record { start = start; past = n } ∷ rest)) (sym at)
          (cut_more start past rest (subst (λ (n : ℕ). AreCut n past rest) at cut))));
      is = rows_more before after new so.done r so.is e;
    }

pub cut_all : (first past : ℕ) (before : List ℕ) (start : ℕ) (after new : List ℕ) → IsCutSoFar first past before start after
    → start < past → past - start ≤ 527040 → new ≡ after ++ form_row (record { start = start; past = past })
    → (rows : List Gap) × AreCut first past rows × (new ≡ before ++ flat_map form_row rows)
cut_all first past before start after new so some few e =
    let r : Gap = record { start = start; past = past } in
    (so.done ++ r ∷ [], so.cut (r ∷ []) (cut_last start past some few), rows_more before after new so.done r so.is e)

-- ---- all gaps

-- no gap is empty
each_some : (gaps : List Gap) → AreGapsApart gaps → AllByRecursion (λ (g : Gap). g.start < g.past) gaps
each_some [] apart = tt
each_some (g ∷ gaps) apart = (apart.0, each_some gaps apart.2)

pub all_some : (gaps : List Gap) → AreGapsApart gaps → All (λ (g : Gap). g.start < g.past) gaps
all_some gaps apart = All-from_recursion (λ (g : Gap). g.start < g.past) gaps (each_some gaps apart)

-- the rows of gaps, followed by those of one more gap
rows_and : (gaps : List Gap) (g : Gap) (rows more : List Gap) → AreRows gaps rows → AreCut g.start g.past more
    → AreRows (gaps ++ g ∷ []) (rows ++ more)
rows_and [] g rows more are cut =
    (more, [], ap (λ (r : List Gap). r ++ more) are ∙ sym (append-nil more), cut, refl)
rows_and (x ∷ gaps) g rows more are cut =
    let front : List Gap = are.0 in
    let back : List Gap = are.1 in
    (front, back ++ more, ap (λ (r : List Gap). r ++ more) are.2 ∙ append_assoc front back more, are.3, rows_and gaps g back more are.4 cut)

-- the text consists of a head and the rows of the gaps so far
abbrev pub AreWritten : List Gap → List ℕ → List ℕ → Type 0
AreWritten gaps head text = (rows : List Gap) × AreRows gaps rows × (text ≡ head ++ flat_map form_row rows)

-- likewise with one more gap
pub written_more : (gaps : List Gap) (i : ℕ) (g : Gap) (head before after : List ℕ) → i < length gaps → g ≡ get_or gaps i g
    → AreWritten (take i gaps) head before
    → (rows : List Gap) × AreCut g.start g.past rows × (after ≡ before ++ flat_map form_row rows)
    → AreWritten (take (i + 1) gaps) head after
written_more gaps i g head before after within is written more =
    let rows : List Gap = written.0 in
    let new : List Gap = more.0 in
    let front : take (i + 1) gaps ≡ take i gaps ++ g ∷ [] =
    take_more gaps i g within ∙ ap (λ (x : Gap). take i gaps ++ x ∷ []) (sym is) in (
      rows ++ new,
      subst (λ (xs : List Gap). AreRows xs (rows ++ new)) (sym front) (rows_and (take i gaps) g rows new written.1 more.1),
      more.2 ∙ ap (λ (t : List ℕ). t ++ flat_map form_row new) written.2
          ∙ append_assoc head (flat_map form_row rows) (flat_map form_row new)
          ∙ ap (λ (t : List ℕ). head ++ t) (sym (flat_map-append form_row rows new)),
    )

-- so the text is a form
pub form_is : (line : List Span) (base end : ℕ) (gaps lent : List Gap) (text : List ℕ) → lent ≡ gaps → AreGaps line base end gaps
    → AreWritten lent (codes "start,past,activity,author,note\n") text → IsForm line base end text
form_is line base end gaps lent text same lacking written = record {
  gaps = gaps;
  lacking = lacking;
  rows = written.0;
  are_rows = subst (λ (xs : List Gap). AreRows xs written.0) same written.1;
  is = written.2;
}

-- ---- there is one list of rows

same_gap : (x y : Gap) → x.start ≡ y.start → x.past ≡ y.past → x ≡ y
same_gap x y e f =
    ap (λ (n : ℕ). record { start = n; past = x.past }) e ∙ ap (λ (n : ℕ). record { start = y.start; past = n }) f

-- a range that is cut into rows isn't empty
cut_some : (start past : ℕ) (rows : List Gap) → AreCut start past rows → start < past
cut_some start past [] cut = absurd cut
cut_some start past (r ∷ []) cut = cut.2
cut_some start past (r ∷ q ∷ rows) cut =
    let at : r.past ≡ start + 527040 = cut.1 in
    let some : r.past < past = cut_some r.past past (q ∷ rows) cut.2 in
    omega (arith, at, some)

-- minutes that fit one row are not cut into more
not_more : (start past : ℕ) (r q : Gap) (rows : List Gap) → AreCut start past (r ∷ q ∷ rows) → past - start ≤ 527040 → ⊥
not_more start past r q rows cut few =
    let at : r.past ≡ start + 527040 = cut.1 in
    let some : r.past < past = cut_some r.past past (q ∷ rows) cut.2 in
    absurd (omega (arith, at, some, few))

-- a range has only one cut into rows
one_cut : (start past : ℕ) (xs ys : List Gap) → AreCut start past xs → AreCut start past ys → xs ≡ ys
one_cut start past [] ys c d = absurd c
one_cut start past (x ∷ []) [] c d = absurd d
one_cut start past (x ∷ w ∷ xs) [] c d = absurd d
one_cut start past (x ∷ []) (y ∷ []) c d = ap (λ (g : Gap). g ∷ []) (same_gap x y (c.0 ∙ sym d.0) (c.1 ∙ sym d.1))
one_cut start past (x ∷ []) (y ∷ z ∷ ys) c d = absurd (not_more start past y z ys d c.3)
one_cut start past (x ∷ w ∷ xs) (y ∷ []) c d = absurd (not_more start past x w xs c d.3)
one_cut start past (x ∷ w ∷ xs) (y ∷ z ∷ ys) c d =
    let to : x.past ≡ y.past = c.1 ∙ sym d.1 in
    ap (λ (g : Gap). g ∷ w ∷ xs) (same_gap x y (c.0 ∙ sym d.0) to)
    ∙ ap (λ (gs : List Gap). y ∷ gs)
    (one_cut y.past past (w ∷ xs) (z ∷ ys) (subst (λ (n : ℕ). AreCut n past (w ∷ xs)) to c.2) d.2)

pub one_rows : (gaps xs ys : List Gap) → AreRows gaps xs → AreRows gaps ys → xs ≡ ys
one_rows [] xs ys a b = a ∙ sym b
one_rows (g ∷ gaps) xs ys a b =
    let front : List Gap = a.0 in
    let other : List Gap = b.0 in
    let back : List Gap = a.1 in
    let rest : List Gap = b.1 in
    let e : front ≡ other = one_cut g.start g.past front other a.3 b.3 in
    let f : back ≡ rest = one_rows gaps back rest a.4 b.4 in
    a.2 ∙ ap (λ (t : List Gap). t ++ back) e ∙ ap (λ (t : List Gap). other ++ t) f ∙ sym b.2
