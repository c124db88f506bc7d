-- Rows of spans: whether spans that have these rows keep what others give.
use Rattle.std.proofs.Common.{◌≡◌, ◌∙◌, ◌↔◌, ℕ, pos, Bool, false, not, List, [], ◌∷◌, map, None, refl, sym, ap, ap₂, subst}
use Rattle.std.specs.Prelude.{IsTrue}
use Rattle.std.specs.List.Sorted.{IsPermutation}
use Rattle.std.proofs.lemmas.List.Sorted.{IsPermutation-refl}
use Rattle.sqlite.specs.declared.types.Value.TheVariants.{Int}
use Rattle.sqlite.specs.Order.{Row, column}
use Rattle.sqlite_sql.specs.Ops.{is_null}
use Rattle.sqlite_trees.proofs.ListLemmas.{map-map}
use Rattle.tacho_time.specs.declared.span.Span.{Span}
use Rattle.tacho_time.specs.declared.span.Mark.{Mark}
use Rattle.tacho_time.specs.Spans.{Gives}
use Rattle.tacho_time.proofs.CanonicalLemmas.{moved_same}
use Rattle.tacho_state.specs.Disjoint.{GiveExactly}
use Rattle.tacho_state.specs.Numbers.{mark_number}
use Rattle.tacho_state.proofs.OrderLemmas.{disjoint_moved}
use Rattle.tacho_tables.specs.Schema as made
use Rattle.tacho_tables.specs.Rows.{span_columns}
use Rattle.tacho_tables.specs.Ask.{three_shown}
use Rattle.tacho_reading.specs.Standing.{row_span, span_row}
use Rattle.tacho_reading.proofs.RowLemmas.{span_back}
use Rattle.tacho_check.specs.Parsed.{IsParsed, Pairs, HasUnread, AreRead}
use Rattle.tacho_check.specs.Typed.{IsOwnRow, AreShown, IsInCalendar, ShowsSpan, IsSpan}
use Rattle.tacho_check.specs.Fits.{SpansFit}
use Rattle.tacho_check.specs.Judged.{AreKept}
use Rattle.tacho_check.proofs.ParsedLemmas.{IsTyping, stored, unread}
use Rattle.tacho_check.proofs.RowOrderLemmas.{same_stored}
use Rattle.tacho_check.proofs.TypeLemmas.{whole_row}

-- ---- how rows of spans are read

-- the stored row of a driver's span
abbrev columns_of : ℕ → Span → Row
columns_of n s = span_columns (span_row n s)

-- the span of a stored row
span_in : Span → Row → Span
span_in other (Int (pos driver) ∷ Int (pos start) ∷ Int (pos past) ∷ Int (pos mark) ∷ []) =
    row_span (record { driver = driver; start = start; past = past; mark = mark })
span_in other _ = other

one_span : (n : ℕ) (a b : Span) → columns_of n a ≡ columns_of n b → a ≡ b
unfolding span_in
one_span n a b e = sym (span_back n a) ∙ ap (span_in a) e ∙ span_back n b

span_made : (n : ℕ) (w : Row) → IsOwnRow n (made.spans []).columns w → (s : Span) → ShowsSpan (three_shown w) s → w ≡ columns_of n s
span_made n w own s shows =
    let is = whole_row None (made.spans []).columns w 3 own.typed refl (ap (λ v. not (is_null v)) shows.mark) in
    let a = own.driver in
    let b : column w 1 ≡ Int (pos s.start) = shows.start in
    let c : column w 2 ≡ Int (pos s.past) = shows.past in
    let d : column w 3 ≡ Int (pos (mark_number s.mark)) = shows.mark in
    rw (a, b, c, d) at is

typing : (n : ℕ) → IsTyping n (made.spans []).columns ShowsSpan IsSpan (columns_of n) three_shown IsInCalendar (λ s. s.start) (λ s. s.start)
typing n = record {
  made = span_made n;
  back = λ s within. record { start = refl; past = refl; mark = refl; within = within };
  inside = λ row s shows. shows.within;
  alike = λ s t same. ap (λ (x : Span). x.start) same;
  one = one_span n;
}

-- ---- spans in another order

moved_keeps : (xs ys : List Span) (P : ℕ → Mark → Type 0) → IsPermutation xs ys → GiveExactly xs P → GiveExactly ys P
moved_keeps xs ys P moved keeps = record {
  disjoint = disjoint_moved xs ys moved keeps.disjoint;
  same = λ m k.
      let both = moved_same xs ys moved m k in
      (λ g. (keeps.same m k).0 (both.0 g), λ p. both.1 ((keeps.same m k).1 p));
}

same_spans : (xs ys : List Span) → Pairs IsSpan xs ys → xs ≡ ys
same_spans [] [] h = refl
same_spans [] (y ∷ ys) h = absurd h
same_spans (x ∷ xs) [] h = absurd h
same_spans (x ∷ xs) (y ∷ ys) h = ap₂ (λ s ss. s ∷ ss) h.0 (same_spans xs ys h.1)

-- ---- the spans of a driver

module _ (n : ℕ) (own found : List Row) (it : AreShown n (made.spans []).columns three_shown own found) (given : List Span) where
  fit_rows : (spans : List Span) → SpansFit n own given spans → IsPermutation (map (columns_of n) spans) own
  fit_rows spans fit = subst (λ rows. IsPermutation rows own) (map-map span_columns (span_row n) spans) fit.same

  -- rows that show no spans keep nothing
  pub unread_kept : HasUnread (IsParsed ShowsSpan IsSpan) found → (IsTrue false ↔ AreKept n own given)
  unread_kept h = (
    (λ is. absurd (let e = is in cc)),
    (λ kept. absurd (unread (typing n) it h kept.0 kept.1 (fit_rows kept.0 kept.2))),
  )

  -- the spans that rows show keep what others give exactly if spans with these rows do
  pub kept_judged : (spans : List Span) → AreRead (IsParsed ShowsSpan IsSpan) found spans → (kept : Bool)
      → (IsTrue kept ↔ GiveExactly spans (Gives given)) → (IsTrue kept ↔ AreKept n own given)
  kept_judged spans h kept decided =
      let is = stored (typing n) it found spans (IsPermutation-refl found) h in
      let same : spans ≡ is.xs = same_spans spans is.xs is.stands in (
        (λ on. (
          is.xs,
          is.within,
          record {
            same = subst (λ rows. IsPermutation rows own) (sym (map-map span_columns (span_row n) is.xs)) is.rows;
            keeps = subst (λ ss. GiveExactly ss (Gives given)) same (decided.0 on);
          },
        )),
        (λ others. decided.1 (moved_keeps others.0 spans (Gives given)
            (subst (IsPermutation others.0) (sym same) (same_stored (columns_of n) (one_span n) others.0 is.xs own
            (fit_rows others.0 others.2) is.rows))
            others.2.keeps)),
      )
