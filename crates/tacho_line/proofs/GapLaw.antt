-- A range has one list of gaps. Gaps are treated as spans that all have the same mark, and spans have one canonical list.
use Rattle.std.proofs.Common.{◌≡◌, ℕ, inl, inr, false, List, [], ◌∷◌, refl, sym, ap, ◌∙◌, arith, map}
use Rattle.tacho_time.specs.declared.span.Activity.TheVariants.{Rest}
use Rattle.tacho_time.specs.declared.span.Mark.{Mark}
use Rattle.tacho_time.specs.declared.span.Span.{Span}
use Rattle.tacho_time.specs.Spans.{Gives, IsCanonical, GoesOn}
use Rattle.tacho_time.proofs.CanonicalLemmas.{one_list}
use Rattle.tacho_line.specs.declared.gap.Gap.{Gap}
use Rattle.tacho_line.specs.Line.{InGaps, BeginsAfter, AreGapsApart, AreGaps}

-- a fixed mark; a gap as a span with this mark; a span as a gap
abbrev one_mark : Mark
one_mark = record { activity = Rest; crew = false }

abbrev as_span : Gap → Span
as_span g = record { start = g.start; past = g.past; mark = one_mark }

abbrev as_gap : Span → Gap
as_gap s = record { start = s.start; past = s.past }

-- gaps, turned into spans and back, are the same
gaps_again : (gaps : List Gap) → map as_gap (map as_span gaps) ≡ gaps
gaps_again [] = refl
gaps_again (g ∷ gaps) = ap (λ gs. g ∷ gs) (gaps_again gaps)

-- gaps that are apart are canonical as spans
goes_on : (g : Gap) (gaps : List Gap) → BeginsAfter g gaps → GoesOn (as_span g) (map as_span gaps)
goes_on g [] h = tt
goes_on g (next ∷ gaps) h = (omega (arith, h), λ touch. absurd (omega (arith, h, touch)))

canonical : (gaps : List Gap) → AreGapsApart gaps → IsCanonical (map as_span gaps)
canonical [] h = tt
canonical (g ∷ gaps) h = (h.0, goes_on g gaps h.1, canonical gaps h.2)

-- as spans, gaps give their minutes the fixed mark
given : (gaps : List Gap) (m : ℕ) (mark : Mark) → Gives (map as_span gaps) m mark → InGaps gaps m × (one_mark ≡ mark)
given [] m mark h = absurd h
given (g ∷ gaps) m mark (inl h) = (inl h.0, h.1)
given (g ∷ gaps) m mark (inr h) = let rest = given gaps m mark h in (inr rest.0, rest.1)

gives : (gaps : List Gap) (m : ℕ) (mark : Mark) → InGaps gaps m → one_mark ≡ mark → Gives (map as_span gaps) m mark
gives [] m mark h e = absurd h
gives (g ∷ gaps) m mark (inl h) e = inl (h, e)
gives (g ∷ gaps) m mark (inr h) e = inr (gives gaps m mark h e)

-- if one list of gaps has the minutes of another, it gives the same as spans
other_gives : (gaps others : List Gap) → ((m : ℕ) → InGaps gaps m → InGaps others m) → (m : ℕ) (mark : Mark) → Gives (map as_span gaps) m mark → Gives (map as_span others) m mark
other_gives gaps others same m mark h = let of = given gaps m mark h in gives others m mark (same m of.0) of.1

-- a range of a line has one list of gaps
pub one_list_of_gaps : (line : List Span) (start past : ℕ) (gaps others : List Gap) → AreGaps line start past gaps → AreGaps line start past others → gaps ≡ others
one_list_of_gaps line start past gaps others a b =
    let there = other_gives gaps others (λ m h. (b.lacking m).1 ((a.lacking m).0 h)) in
    let back = other_gives others gaps (λ m h. (a.lacking m).1 ((b.lacking m).0 h)) in
    let same = one_list (map as_span gaps) (map as_span others) (canonical gaps a.apart) (canonical others b.apart) (λ m mark. (there m mark, back m mark)) in
    sym (gaps_again gaps) ∙ ap (map as_gap) same ∙ gaps_again others
