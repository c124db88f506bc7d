-- The line of a driver's rows near a range has the marks that the driver holds in it.
use Rattle.std.proofs.Common.{◌≡◌, ◌⊎◌, inl, inr, ℕ, List, map, Option, Some, Result, Ok, Err, IfOk, IfErr, sym, ap, subst}
use Rattle.std.specs.Prelude.{IfSome, MatchResult}
use Rattle.sqlite.specs.Tree.{Trees}
use Rattle.tacho_time.specs.declared.span.Span.{Span}
use Rattle.tacho_time.specs.Spans.{Gives, IsCanonicalOf}
use Rattle.tacho_line.specs.Line.{AgreeWithin}
use Rattle.tacho_state.specs.declared.fault.StoreFault.{StoreFault}
use Rattle.tacho_state.specs.declared.fault.StoreFault.TheVariants.{Memory, Store}
use Rattle.tacho_state.specs.Acts.{Answers}
use Rattle.tacho_state.specs.Disjoint.{near}
use Rattle.tacho_state.specs.Reported.{IsHeldWithin}
use Rattle.tacho_state.specs.State.{Driver, State, Held, driver_of, held_spans}
use Rattle.tacho_state.specs.Steps.{reading_of, report_reading}
use Rattle.tacho_state.proofs.GainLemmas.{kept_line, line_kept}
use Rattle.tacho_state.proofs.MapLemmas.{held_map}
use Rattle.tacho_tables.specs.declared.rows.StoredSpan.{StoredSpan}
use Rattle.tacho_tables.specs.declared.spans.SpanTable.{SpanTable}
use Rattle.tacho_tables.specs.declared.spans.SpanTable.TheVariants as spans
use Rattle.tacho_tables.specs.Spans.{spans_in}
use Rattle.tacho_tables.specs.Tables.{Tables, HasTables}
use Rattle.tacho_reading.specs.Standing.{Represents, TablesRepresent, spans_of, stored_span, IsReadNear}
use Rattle.tacho_reading.specs.Kept.{HasGivenUp}
use Rattle.tacho_reading.proofs.LookUpLemmas.{answers_given_up}
use Rattle.tacho_reading.proofs.ApartLemmas.{card_apart, held_apart}
use Rattle.tacho_reading.proofs.NearRowLemmas.{held_kept, read_line}
use Rattle.tacho_reading.proofs.TimelineLemmas.{same_option}
use Rattle.tacho_reading.specs.Apart.{AreRowsApart, IsLineNear, driver_rows}

-- the line of the rows near a range agrees within it with what the driver holds
pub agreed_of : (t : Tables) (s : State) (n : ℕ) (d : Driver) (a b : ℕ) (line : List Span) → TablesRepresent t s → driver_of n s ≡ Some d
    → IsCanonicalOf (Gives (near a b (spans_of n t.held))) line → AgreeWithin a b line (held_spans d)
agreed_of t s n d a b line of is near m w =
    let keeps = held_kept t s n d of is in
    same_option _ _ (λ k. (
      λ e. (held_map d (spans_of n t.held) m k keeps).0 (line_kept a b (spans_of n t.held) line (Held d) m k keeps.same near e),
      λ e. kept_line a b (spans_of n t.held) line (Held d) m k keeps.same near w ((held_map d (spans_of n t.held) m k keeps).1 e),
    ))

-- so it is the line of what the driver holds in the range; there is a driver to report on, or the call gave up
pub range_told : (db : Trees) (s : State) (n : ℕ) (d : Driver) (a b : ℕ) (r : Result (List Span) StoreFault) → Represents db s
    → driver_of n s ≡ Some d → MatchResult r (IsLineNear db s spans.Held n a b) HasGivenUp
    → Answers (λ _. tt) r (report_reading n s) × IfOk r (IsHeldWithin n a b s)
unfolding Represents
range_told db s n d a b (Ok line) (t, stand, of) is near = (
  ap (reading_of (λ d. Ok tt)) is,
  subst (λ (o : Option Driver). IfSome o (λ d. AgreeWithin a b line (held_spans d))) (sym is)
      (agreed_of t s n d a b line of is (near.is t stand of d is)),
)
range_told db s n d a b (Err fault) stands is up = (answers_given_up {A = List Span} (λ _. tt) fault (report_reading n s) up, tt)

-- the rows of a driver in either table of spans are apart
table_apart : (table : SpanTable) (t : Tables) (s : State) (n : ℕ) (d : Driver) → TablesRepresent t s → driver_of n s ≡ Some d
    → AreRowsApart (driver_rows n (spans_in table t))
table_apart spans.CardSpans t s n d of is = card_apart t s n d of is
table_apart spans.Held t s n d of is = held_apart t s n d of is

-- the line of the rows that were read near a range, or the call gave up
pub near_told : (db : Trees) (s : State) (table : SpanTable) (n a b : ℕ) (found : List StoredSpan) (r : Result (List Span) StoreFault)
    → ((t : Tables) → HasTables db t → AreRowsApart (driver_rows n (spans_in table t)) → IsReadNear (spans_in table t) n a b found)
    → IfOk r (IsCanonicalOf (Gives (map stored_span found))) → IfErr r (λ fault. (fault ≡ Memory) ⊎ (fault ≡ Store))
    → MatchResult r (IsLineNear db s table n a b) HasGivenUp
near_told db s table n a b found (Err fault) read canonical (inl up) = subst HasGivenUp (sym up) tt
near_told db s table n a b found (Err fault) read canonical (inr up) = subst HasGivenUp (sym up) tt
near_told db s table n a b found (Ok line) read canonical up = record {
  is = λ t stand of d is. read_line (spans_in table t) n a b found line (read t stand (table_apart table t s n d of is)) canonical;
}
