-- What the tables have near a file's spans decides the import.
use Rattle.std.proofs.Common.{◌≡◌, inl, inr, ℕ, ◌+◌, List, [], length, Option, Some, None, Result, Ok, Err, sym, ap, subst}
use Rattle.std.specs.Prelude.{MatchOption, MatchResult, IsErr, IsErrAnd}
use Rattle.sqlite.specs.Tree.{Trees}
use Rattle.tacho_time.specs.declared.span.Span.{Span}
use Rattle.tacho_time.specs.Spans.{Gives, IsCanonicalOf}
use Rattle.tacho_line.specs.Line.{AreGains}
use Rattle.tacho_state.specs.declared.fault.StoreFault.{StoreFault}
use Rattle.tacho_state.specs.declared.imported.Imported.{Imported}
use Rattle.tacho_state.specs.declared.imported.Imported.TheVariants.{Repeated}
use Rattle.tacho_state.specs.Acts.{Answers}
use Rattle.tacho_state.specs.Numbers.{part_number}
use Rattle.tacho_state.specs.Steps.{turn_of, import_own}
use Rattle.tacho_state.specs.Disjoint.{AreInRange, HasNews, near}
use Rattle.tacho_state.specs.State.{Driver, State, driver_of, put, with_download}
use Rattle.tacho_state.proofs.StepLemmas.{repeated_import, contradicted_import, added_import, full_import}
use Rattle.tacho_tables.specs.declared.spans.SpanTable.TheVariants as table
use Rattle.tacho_tables.specs.Tables.{Tables, HasTables}
use Rattle.tacho_reading.specs.Apart.{IsLineNear}
use Rattle.tacho_reading.specs.Kept.{HasGivenUp}
use Rattle.tacho_reading.specs.Standing.{Represents, TablesRepresent, spans_of}
use Rattle.tacho_reading.proofs.NearRowLemmas.{card_kept, held_kept}
use Rattle.tacho_reading.specs.Finding.{IsFindingFault}
use Rattle.tacho_reading.proofs.LookUpLemmas.{finding_as, given_up, handed_on}
use Rattle.tacho_state.proofs.PutLemmas.{found_number}
use Rattle.tacho_store.specs.declared.news.News.{News}
use Rattle.tacho_store.specs.News.{AreNews, IsNewsRefused}
use Rattle.tacho_store.specs.Importing.{AreAdded, AreDecided}
use Rattle.tacho_store.proofs.ImportTablesLemmas.{imported_is}
use Rattle.tacho_store.proofs.JoinLemmas.{import_follows}
use Rattle.tacho_store.proofs.OthersLemmas.{is_another, download_changes}

module _ (db : Trees) (s : State) (n : ℕ) (d : Driver) (a b : ℕ) (spans : List Span) (is : driver_of n s ≡ Some d)
    (within : AreInRange a b spans) (t : Tables) (stand : HasTables db t) (of : TablesRepresent t s)
    (card_line line : List Span) (card_near : IsCanonicalOf (Gives (near a b (spans_of n t.card_spans))) card_line)
    (held_near : IsCanonicalOf (Gives (near a b (spans_of n t.held))) line) where
  -- spans that are new can be added
  goes_in : (cards helds : List Span) → AreNews card_line line spans cards helds → AreAdded db s n d spans cards helds
  goes_in cards helds news =
      let new : HasNews card_line spans = inl (news.0, news.1, subst (AreGains card_line spans) news.2 news.3) in
      let given = card_kept t s n d of is in
      let held = held_kept t s n d of is in
      record {
        added = λ part file room. added_import d part file (spans_of n t.card_spans)
            (spans_of n t.held) card_line line spans helds a b given held within card_near held_near new news.4 room;
        full = λ part file most. full_import d part file (spans_of n t.card_spans)
            (spans_of n t.held) card_line line spans helds a b given held within card_near held_near new news.4 most;
        follows = λ part file holder next tells written.
            let after : Driver = with_download (part_number part) file spans d in
            import_follows db next n (1 + length d.downloads) (part_number part) file cards helds t s (put after s) stand of
            (written t stand)
            (imported_is t s n d part file (record { holder = holder; spans = spans }) card_line line cards helds a b of is tells within
            card_near news.3 held_near news.4)
            (is_another n d after s is (found_number n s d is) (download_changes (part_number part) file spans d));
      }

  -- nothing is new, something is new, or there is a contradiction; or the call ran out of memory or the store failed
  by_lines : (r : Result (Option News) StoreFault)
      → MatchResult r (λ found. MatchOption found (AreGains card_line spans [])
      (λ news. AreNews card_line line spans news.card_spans.items news.held.items)) (IsNewsRefused card_line line spans)
      → AreDecided db s n d spans r
  unfolding AreDecided
  by_lines (Ok None) h = λ part file. repeated_import d part file (spans_of n t.card_spans) card_line spans a b
      (card_kept t s n d of is) card_near h
  by_lines (Ok (Some news)) h = goes_in news.card_spans.items news.held.items h
  by_lines (Err fault) (inl e) = subst (λ f. AreDecided db s n d spans (Err f)) (sym e) (λ part file. tt)
  by_lines (Err fault) (inr (inl torn)) = subst (λ f. AreDecided db s n d spans (Err f)) (sym torn.0) (λ part file. tt)
  by_lines (Err fault) (inr (inr it)) =
      subst (λ f. AreDecided db s n d spans (Err f)) (sym it.1)
      (λ part file. contradicted_import d part file (spans_of n t.card_spans) (spans_of n t.held) card_line line spans a b it.0
      (card_kept t s n d of is) (held_kept t s n d of is) within card_near held_near it.2 it.3)

-- the lines of the rows near the spans decide the import
pub decided : (db : Trees) (s : State) (n : ℕ) (d : Driver) (a b : ℕ) (spans card_line line : List Span) (r : Result (Option News) StoreFault)
    → Represents db s → driver_of n s ≡ Some d → IsLineNear db s table.CardSpans n a b card_line → IsLineNear db s table.Held n a b line
    → AreInRange a b spans
    → MatchResult r (λ found. MatchOption found (AreGains card_line spans [])
    (λ news. AreNews card_line line spans news.card_spans.items news.held.items)) (IsNewsRefused card_line line spans)
    → AreDecided db s n d spans r
unfolding Represents
decided db s n d a b spans card_line line r (t, stand, of) is cards helds within h =
    by_lines db s n d a b spans is within t stand of card_line line (cards.is t stand of d is) (helds.is t stand of d is) r h

-- nothing is decided by a call that gave up
pub undecided : (db : Trees) (s : State) (n : ℕ) (d : Driver) (spans : List Span) (fault : StoreFault) (r : Result (Option News) StoreFault)
    → HasGivenUp fault → IsErr r × IsErrAnd r (λ found. found ≡ fault) → AreDecided db s n d spans r
unfolding AreDecided
undecided db s n d spans fault (Ok found) up e = let wrong = e.0 in cc
undecided db s n d spans fault (Err found) up e = λ part file.
    subst (λ f. IsFindingFault f (import_own part file spans d)) (sym e.1) (given_up fault (import_own part file spans d) up)

-- a fault that is passed on is the import's answer
pub handed_fault : (db : Trees) (s : State) (n : ℕ) (d : Driver) (spans : List Span) (fault : StoreFault) (r : Result Imported StoreFault)
    (part : ℕ) (file : List ℕ) → AreDecided db s n d spans (Err fault)
    → IsErr r × IsErrAnd r (λ found. found ≡ fault) → Answers (λ done. done) r (turn_of s (import_own part file spans d)).answer
unfolding AreDecided
handed_fault db s n d spans fault r part file h = handed_on (λ done. done) fault r (turn_of s (import_own part file spans d)).answer
    (finding_as fault (import_own part file spans d) (turn_of s (import_own part file spans d)).answer
    (λ is. ap (λ o. (turn_of s o).answer) is) (h part file))

-- a file that gives nothing new is repeated
pub is_repeated : (db : Trees) (s : State) (n : ℕ) (d : Driver) (spans : List Span) (found : Option News) → found ≡ None
    → AreDecided db s n d spans (Ok found)
    → (part : ℕ) (file : List ℕ) → import_own part file spans d ≡ Ok (Repeated d.number, d)
unfolding AreDecided
is_repeated db s n d spans found is h = subst (λ o. AreDecided db s n d spans (Ok o)) is h

-- a file that gives something new can be added
pub is_new : (db : Trees) (s : State) (n : ℕ) (d : Driver) (spans : List Span) (found : Option News) (news : News) → found ≡ Some news
    → AreDecided db s n d spans (Ok found)
    → AreAdded db s n d spans news.card_spans.items news.held.items
unfolding AreDecided
is_new db s n d spans found news is h = subst (λ o. AreDecided db s n d spans (Ok o)) is h
