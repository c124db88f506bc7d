-- What a withdrawal answers, and what the tables represent after its writes.
use Rattle.std.proofs.Common.{◌≡◌, ◌≢◌, ◌∙◌, ◌==◌, ℕ, ◌++◌, Bool, true, false, cond, List, [], map, filter, Option, Some, None, Result, Ok, Err, not, refl, sym, ap, subst, arith}
use Rattle.std.specs.Borrow.{MutBor}
use Rattle.std.specs.Prelude.{Contains, IfOk, MatchOption, MatchResult, OnOk}
use Rattle.std.proofs.lemmas.Result.{IfOk-weaker, on_ok_weaker}
use Rattle.sqlite.specs.Effect.{Database}
use Rattle.sqlite.specs.Held.{Held, state}
use Rattle.sqlite.specs.State.{HasCleanDisk}
use Rattle.sqlite.specs.Store.{Ghosts}
use Rattle.sqlite.specs.Tree.{Trees}
use Rattle.tacho_time.specs.declared.span.Span.{Span}
use Rattle.tacho_time.specs.Spans.{Gives, IsCanonicalOf}
use Rattle.tacho_line.specs.Line.{IsWithin}
use Rattle.tacho_state.specs.declared.fault.StoreFault.{StoreFault}
use Rattle.tacho_state.specs.declared.fault.StoreFault.TheVariants.{UnknownDriver, UnknownEntry, AlreadyWithdrawn}
use Rattle.tacho_state.specs.Acts.{IsOfNoFile}
use Rattle.tacho_state.specs.Disjoint.{outside}
use Rattle.tacho_state.specs.State.{Driver, Entry, State, driver_of, entry_from, put, with_marked}
use Rattle.tacho_state.specs.Steps.{withdraw_step}
use Rattle.tacho_tables.specs.declared.rows.StoredEntry.{StoredEntry}
use Rattle.tacho_tables.specs.declared.rows.StoredSpan.{StoredSpan}
use Rattle.tacho_tables.specs.declared.fault.TableFault.{TableFault}
use Rattle.tacho_tables.specs.Calls.{Changes, Finds}
use Rattle.tacho_tables.specs.Rows.{EntryRow, SpanRow}
use Rattle.tacho_tables.specs.Tables.{IsArchive, Tables, HasTables, Turns, is_entry, is_row_near, ListedEntry, listed_entry, told_entry, row_of}
use Rattle.tacho_state.proofs.EqualLemmas.{eq_false, eq_true}
use Rattle.tacho_reading.specs.Standing.{Represents, TablesRepresent, span_row, stored_span, entry_row}
use Rattle.tacho_reading.specs.Calls.{ChangesWhere}
use Rattle.tacho_reading.specs.Apart.{AreRowsApart, driver_rows}
use Rattle.tacho_reading.proofs.ApartLemmas.{card_apart, held_apart}
use Rattle.tacho_reading.proofs.EntryLemmas.{entry_none, entry_some}
use Rattle.tacho_reading.proofs.MappedLemmas.{was_ok}
use Rattle.tacho_reading.proofs.SeenLemmas.{still_archive}
use Rattle.tacho_tables.proofs.CallLemmas.{stays_then}
use Rattle.tacho_store.specs.After.{with_renewed}
use Rattle.tacho_store.specs.Withdrawing.{IsEntry, IsThere, AreRowsFor, AreRenewed, IsRenewed, with_mark}
use Rattle.tacho_store.proofs.WithdrawalTablesLemmas.{withdrawn_is}
use Rattle.tacho_store.proofs.JoinLemmas.{renewed, is_renewed}
use Rattle.tacho_store.proofs.StepsLemmas.{keeps_changed}

-- ---- what the step answers

-- an unknown driver: S4
pub no_driver : (n number : ℕ) (s : State) → driver_of n s ≡ None → (withdraw_step n number s).answer ≡ Err UnknownDriver
no_driver n number s none = rw none refl

module _ (n number : ℕ) (s : State) (d : Driver) (is : driver_of n s ≡ Some d) where
  -- an unknown entry: S7
  pub no_entry : entry_from 1 number d.entries ≡ None → (withdraw_step n number s).answer ≡ Err UnknownEntry
  no_entry none = rw (is, none) refl

  -- an entry that is withdrawn already: S8
  pub no_more : (e : Entry) → entry_from 1 number d.entries ≡ Some e → e.withdrawn ≡ true
      → (withdraw_step n number s).answer ≡ Err AlreadyWithdrawn
  no_more e some gone = rw (is, some, gone) refl

  -- the entry is withdrawn
  pub is_marked : (e : Entry) → entry_from 1 number d.entries ≡ Some e → e.withdrawn ≡ false
      → (withdraw_step n number s).answer ≡ Ok tt
  is_marked e some kept = rw (is, some, kept) refl

  -- the state after it has the entry withdrawn
  pub marked_after : (e : Entry) → entry_from 1 number d.entries ≡ Some e → e.withdrawn ≡ false
      → (withdraw_step n number s).after ≡ put (with_marked number d) s
  marked_after e some kept = rw (is, some, kept) refl

-- ---- the entry

-- a look-up by number finds the entry
pub entry_found : (db : Trees) (s : State) (n number : ℕ) (d : Driver) (found : Option StoredEntry)
    → Represents db s → driver_of n s ≡ Some d
    → ((a : Tables) → HasTables db a → MatchOption found (filter (is_entry n number) a.entries ≡ [])
    (λ it. (r : EntryRow) × Contains (filter (is_entry n number) a.entries) r × (told_entry it ≡ listed_entry r)))
    → MatchOption found (entry_from 1 number d.entries ≡ None)
    (λ it. (e : Entry) × (entry_from 1 number d.entries ≡ Some e) × (told_entry it ≡ listed_entry (entry_row n number e)))
unfolding Represents
entry_found db s n number d None (t, stand, of) is h = (entry_none t s n number d of is).0 (h t stand)
entry_found db s n number d (Some it) (t, stand, of) is h =
    let found = h t stand in
    let e = entry_some t s n number d found.0 of is found.1 in
    (e.0, e.1, found.2 ∙ ap listed_entry e.2)

-- a flag is set only for an entry that was withdrawn
flag_gone : (b : Bool) (w : ℕ) → w ≡ cond b 1 0 → w ≢ 0 → b ≡ true
flag_gone true w is other = refl
flag_gone false w is other = absurd (other is)

-- no flag is set for an entry that wasn't
flag_kept : (b : Bool) (w : ℕ) → w ≡ cond b 1 0 → w ≡ 0 → b ≡ false
flag_kept true w is none = absurd (omega (arith, is, none))
flag_kept false w is none = refl

module _ (n number : ℕ) (s : State) (d : Driver) (it : StoredEntry) (is : driver_of n s ≡ Some d) where
  -- the entry is withdrawn already: S8
  pub entry_gone : it.withdrawn ≢ 0
      → (e : Entry) × (entry_from 1 number d.entries ≡ Some e) × (told_entry it ≡ listed_entry (entry_row n number e))
      → (withdraw_step n number s).answer ≡ Err AlreadyWithdrawn
  entry_gone gone (e, some, row) = no_more n number s d is e some
      (flag_gone e.withdrawn it.withdrawn (ap (λ (x : ListedEntry). x.withdrawn) row) gone)

  -- the entry exists, and isn't withdrawn
  pub entry_kept : it.withdrawn ≡ 0
      → (e : Entry) × (entry_from 1 number d.entries ≡ Some e) × (told_entry it ≡ listed_entry (entry_row n number e))
      → (x : Driver) × (e : Entry) × IsThere s n number it x e
  entry_kept kept (e, some, row) = (
    d,
    e,
    record {
      driver = is;
      entry = some;
      kept = flag_kept e.withdrawn it.withdrawn (ap (λ (x : ListedEntry). x.withdrawn) row) kept;
      row = row;
    },
  )

-- a refusal for what was found, or the entry
pub entry_told : (n number : ℕ) (s : State) (d : Driver) → driver_of n s ≡ Some d → (found : Option StoredEntry)
    → (r : Result StoredEntry StoreFault)
    → MatchOption found (r ≡ Err UnknownEntry) (λ it. r ≡ cond (it.withdrawn == 0) (Ok it) (Err AlreadyWithdrawn))
    → MatchOption found (entry_from 1 number d.entries ≡ None)
    (λ it. (e : Entry) × (entry_from 1 number d.entries ≡ Some e) × (told_entry it ≡ listed_entry (entry_row n number e)))
    → IsEntry s n number r
entry_told n number s d is None r decided none =
    subst (IsEntry s n number) (sym decided) (record { found = tt; refused = no_entry n number s d is none })
entry_told n number s d is (Some it) r decided there = subst (IsEntry s n number) (sym decided) (go (it.withdrawn == 0) refl) where
  go : (b : Bool) → (it.withdrawn == 0) ≡ b → IsEntry s n number (cond b (Ok it) (Err AlreadyWithdrawn))
  go true kept = record { found = entry_kept n number s d it is (eq_true it.withdrawn 0 kept) there; refused = tt }
  go false gone = record { found = tt; refused = entry_gone n number s d it is (eq_false it.withdrawn 0 gone) there }

-- it isn't of a card file
pub kept_no_file : (found : Option StoredEntry) (r : Result StoredEntry StoreFault)
    → MatchOption found (r ≡ Err UnknownEntry) (λ it. r ≡ cond (it.withdrawn == 0) (Ok it) (Err AlreadyWithdrawn)) → IsOfNoFile r
kept_no_file None r decided = subst IsOfNoFile (sym decided) tt
kept_no_file (Some it) r decided = subst IsOfNoFile (sym decided) (go (it.withdrawn == 0)) where
  go : (b : Bool) → IsOfNoFile (cond b (Ok it) (Err AlreadyWithdrawn))
  go true = tt
  go false = tt

-- an entry that isn't withdrawn is withdrawn by the step
pub entry_marked : (n number : ℕ) (s : State) (it : StoredEntry) → (d : Driver) × (e : Entry) × IsThere s n number it d e
    → (withdraw_step n number s).answer ≡ Ok tt
entry_marked n number s it (d, e, there) = is_marked n number s d there.driver e there.entry there.kept

-- ---- the new rows

-- the parts outside a range, and what is given inside it
pub rows_are : (cards others helds : List StoredSpan) (start past first end : ℕ) (parts inside whole : List Span)
    (rows : List StoredSpan) → first ≡ start → end ≡ past → parts ≡ outside first end (map stored_span helds)
    → IsCanonicalOf (λ m k. IsWithin first end m × Gives (map stored_span cards ++ map stored_span others) m k) inside
    → ((n : ℕ) → map (row_of n) rows ≡ map (span_row n) whole) → whole ≡ parts ++ inside
    → AreRowsFor cards others helds start past rows
rows_are cards others helds start past first end parts inside whole rows is_first is_end are given stored is =
    subst (λ a. AreRowsFor cards others helds a past rows) is_first
    (subst (λ b. AreRowsFor cards others helds first b rows) is_end (record {
      inside = inside;
      given = given;
      all = λ n. stored n ∙ ap (λ (x : List Span). map (span_row n) x) (is ∙ ap (λ (x : List Span). x ++ inside) are);
    }))

-- ---- the mark

module _ {S : Type 0} {g : Ghosts S} {old mid new : MutBor (Held S)} {A B : Type 0} {w : Result A TableFault} (x : A)
    {r : Result B StoreFault} {step : Tables → Tables} {fact : Tables → B → Type 0} (wrote : Changes g old mid w step)
    (cases : MatchResult w (λ y. ◌≡◌ {A = Result A StoreFault} (Ok x) (Ok y)) (λ _. ⊥)) (read : Finds g mid new r fact) where
  turned : HasCleanDisk (state g mid.now) → IsArchive (state g old.now).now → Turns (state g old.now) (state g mid.now) step
  turned clean schema = was_ok w x _ cases (wrote.turned clean schema)

  -- a reading after a change leaves the tables changed
  pub changed_then : ChangesWhere g old new r (λ _. Unit {0}) step
  changed_then = record {
    stays = stays_then wrote.stays read.reads.stays;
    keeps = keeps_changed _ _ _ read.reads.stays.clean wrote.keeps (λ clean schema. (turned clean schema).schema) read.reads.keeps;
    schema = λ clean schema.
        let done = turned (read.reads.stays.clean clean) schema in
        on_ok_weaker r (λ same. still_archive _ _ same done.schema) (read.reads.same clean done.schema);
    turned = λ clean schema t stand _.
        let done = turned (read.reads.stays.clean clean) schema in
        on_ok_weaker r (λ same. subst (λ (d : Database). HasTables d.trees (step t)) (sym same.0.now_is) (done.stands t stand))
        (read.reads.same clean done.schema);
  }

  -- it finds what the changed tables have
  pub found_then : HasCleanDisk (state g new.now) → IsArchive (state g old.now).now
      → IfOk r (λ y. (t : Tables) → HasTables (state g old.now).now.trees t → fact (step t) y)
  found_then clean schema =
      let done = turned (read.reads.stays.clean clean) schema in
      IfOk-weaker r _ _ (λ y told t stand. told (step t) (done.stands t stand)) (read.found clean done.schema)

-- ---- the writes

-- the tables after the withdrawal represent the state after it
renewed_is : (t : Tables) (s : State) (n number : ℕ) (it : StoredEntry) (rows : List StoredSpan) (d : Driver) (e : Entry)
    → TablesRepresent t s → IsThere s n number it d e → (found : AreRenewed (with_mark n number t) n it.start it.past rows)
    → TablesRepresent (with_renewed n number it.start it.past
    (outside it.start it.past (map stored_span found.helds) ++ found.are_rows.inside) t)
    (put (with_marked number d) s)
renewed_is t s n number it rows d e of there = subst
    (λ (x : ListedEntry). (found : AreRenewed (with_mark n number t) n x.start x.past rows)
    → TablesRepresent (with_renewed n number x.start x.past
    (outside x.start x.past (map stored_span found.helds) ++ found.are_rows.inside) t)
    (put (with_marked number d) s))
    (sym there.row)
    (λ found. withdrawn_is t s n d number e found.cards found.others found.helds found.are_rows.inside of there.driver there.entry
    found.cards_near found.others_near found.helds_near found.are_rows.given)

-- the tables after a withdrawal's writes represent the state after it, and have the spans of all other drivers
pub withdrawal_renews : {E : Type 0} (db marked next : Trees) (t : Tables) (s : State) (n number : ℕ) (it : StoredEntry)
    (rows : List StoredSpan) (r : Result (Unit {0}) E) → (d : Driver) × (e : Entry) × IsThere s n number it d e → HasTables db t
    → TablesRepresent t s
    → ((a : Tables) → HasTables db a → AreRowsApart (driver_rows n a.card_spans) → AreRowsApart (driver_rows n a.held) → AreRenewed (with_mark n number a) n it.start it.past rows)
    → ((a : Tables) → HasTables db a → Unit {0} → HasTables marked (with_mark n number a))
    → ((a : Tables) → HasTables marked a → AreRowsApart (driver_rows n a.held)
    → OnOk r (HasTables next (record a { held = map (row_of n) rows ++ filter (λ r. not (is_row_near n it.start it.past r)) a.held })))
    → OnOk r (IsRenewed n t next (withdraw_step n number s).after)
withdrawal_renews db marked next t s n number it rows r (d, e, there) stand of renew mark rewrite =
    let cards = card_apart t s n d of there.driver in
    let helds = held_apart t s n d of there.driver in
    let found = renew t stand cards helds in
    let spans = outside it.start it.past (map stored_span found.helds) ++ found.are_rows.inside in
    on_ok_weaker r (λ written.
    subst (IsRenewed n t next) (sym (marked_after n number s d there.driver e there.entry there.kept))
    (is_renewed next n number it.start it.past spans t (put (with_marked number d) s)
    (subst (λ (x : List SpanRow). HasTables next (renewed n number it.start it.past x t)) (found.are_rows.all n) written)
    (renewed_is t s n number it rows d e of there found))) (rewrite _ (mark t stand tt) helds)
