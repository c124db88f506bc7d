-- A driver's row in `drivers`, as it was read.
use Rattle.std.proofs.Common.{◌≡◌, ◌≢◌, ◌∙◌, ℤ, pos, ◌<◌, ◌≤◌, not, List, [], ◌∷◌, drop, length, map, true, Some, refl, sym, ap, subst, inl, arith}
use Rattle.std.specs.Prelude.{get_or}
use Rattle.std.specs.List.Sorted.{IsPermutation}
use Rattle.std.proofs.lemmas.Bool.{and_parts}
use Rattle.std.proofs.lemmas.List.Sorted.{IsPermutation-sym}
use Rattle.sqlite_value.specs.declared.value.Value.TheVariants.{Null, Int, Text, Blob}
use Rattle.sqlite_value.specs.Order.{Row, column}
use Rattle.sqlite_sql.specs.Ops.{is_null}
use Rattle.sqlite_schema.specs.Rules.{are_typed}
use Rattle.sqlite_trees.specs.Tree.{Trees}
use Rattle.sqlite_keyed.proofs.KeyedLemmas.{same_int}
use Rattle.sqlite_rules.specs.Lists.{Has}
use Rattle.sqlite_rules.proofs.ListLemmas.{has_filtered}
use Rattle.tacho_tables.specs.Schema.{Layout}
use Rattle.tacho_tables.specs.Schema as made
use Rattle.tacho_tables.specs.Rows.{DriverRow, driver_row}
use Rattle.tacho_tables.specs.Readable.{is_own, stored_rows, IsReadable}
use Rattle.tacho_tables.specs.Ask.{driver_values, own_in}
use Rattle.tacho_tables.specs.declared.table.TableName.{TableName}
use Rattle.tacho_tables.specs.declared.table.TableName.TheVariants.{Drivers, Downloads, CardSpans, EntryRows, Held}
use Rattle.tacho_tables.proofs.UniqueLemmas.{downloads_have, card_spans_have, entries_have, held_have}
use Rattle.tacho_check.specs.declared.own.OwnRows.{OwnRows}
use Rattle.tacho_check.specs.declared.registered.Basis.{Basis}
use Rattle.tacho_check.specs.Judged.{IsJudged, IsReadDriver}
use Rattle.tacho_check.specs.Own.{AreOwnRows}
use Rattle.tacho_check.specs.Parsed.{IsParsed}
use Rattle.tacho_check.specs.Registered.{HasOwnColumns, ShowsDriver, IsBasis}
use Rattle.tacho_check.proofs.AbsentLemmas.{unfit_judged}
use Rattle.tacho_check.proofs.ShownLemmas.{one_mapped, some_shown, own_rows_are}
use Rattle.tacho_check.proofs.SpreadLemmas.{single}
use Rattle.tacho_check.proofs.TypeLemmas.{whole_row, null_of, drivers_types, downloads_types, card_spans_types, entries_types, held_types}

-- ---- lists by their length

pub one_element : {X : Type 0} (xs : List X) (x : X) → 1 ≤ length xs → length xs < 2 → x ≡ get_or xs 0 x → xs ≡ x ∷ []
one_element [] x some few is = absurd (omega (arith, some))
one_element (y ∷ []) x some few is = ap (λ z. z ∷ []) (sym is)
one_element (y ∷ z ∷ xs) x some few is = absurd (omega (arith, few))

pub not_none : {X : Type 0} (xs : List X) → 1 ≤ length xs → xs ≢ []
not_none xs some none = let e = ap (λ ys. length ys) none in omega (arith, e, some)

pub not_one : {X : Type 0} (xs : List X) (x : X) → 2 ≤ length xs → xs ≢ x ∷ []
not_one xs x some one = let e = ap (λ ys. length ys) one in omega (arith, e, some)

-- ---- the stored row

-- a stored row is typed: NULL stands in the place of its number
driver_made : (w : Row) → are_typed (Some 0) 0 made.drivers.columns (drop 1 w) ≡ true → (r : DriverRow) → ShowsDriver (driver_values w) r
    → w ≡ driver_row r
driver_made [] typed r shows = absurd (let e = shows.number in cc)
driver_made (v ∷ []) typed r shows = absurd (let e = shows.entries in cc)
driver_made (v ∷ k ∷ w) typed r shows =
    let is = whole_row (Some 0) made.drivers.columns (k ∷ w) 6 typed refl (ap (λ u. not (is_null u)) shows.entries) in
    let a : v ≡ Int (pos r.driver) = shows.number in
    let b : k ≡ Null = null_of k (and_parts (is_null k) (are_typed (Some 0) 1 (drop 1 made.drivers.columns) w) typed).0 in
    let c : column w 0 ≡ Blob r.holder = shows.holder in
    let d : column w 1 ≡ Text r.secret = shows.secret in
    let e : column w 2 ≡ Int (pos r.base) = shows.base in
    let f : column w 3 ≡ Text r.name = shows.name in
    let g : column w 4 ≡ Int (pos r.downloads) = shows.downloads in
    let h : column w 5 ≡ Int (pos r.entries) = shows.entries in
    ap (λ u. u ∷ k ∷ w) a ∙ ap (λ us. Int (pos r.driver) ∷ us) (rw (c, d, e, f, g, h) at is)
    ∙ ap (λ u. Int (pos r.driver) ∷ u ∷ drop 2 (driver_row r)) b

-- a driver's row shows the driver
pub shows_driver : (r : DriverRow) → HasOwnColumns r → ShowsDriver (driver_values (driver_row r)) r
shows_driver r has = record {
  number = refl;
  holder = refl;
  secret = refl;
  base = refl;
  name = refl;
  downloads = refl;
  entries = refl;
  within = has;
}

module _ (layout : Layout) (db : Trees) (n : ℤ) (ready : IsReadable layout db) (found : OwnRows)
    (shown : AreOwnRows (own_in layout db n) found) where
  abbrev own : TableName → List Row
  own = own_in layout db n

  -- other rows than one of a driver within their limits aren't sound
  pub unfit : found.drivers.items ≢ [] → ((r : DriverRow) → HasOwnColumns r → found.drivers.items ≢ driver_values (driver_row r) ∷ [])
      → IsJudged own n (Some Drivers)
  unfit some other = unfit_judged own n (some_shown driver_values (own Drivers) found.drivers.items (shown Drivers) some)
      (λ r has one. other r has (single (driver_values (driver_row r)) found.drivers.items
      (subst (λ rows. IsPermutation (map driver_values rows) found.drivers.items) one (shown Drivers))))

  -- a row that shows such a driver is theirs
  pub fit : (row : Row) (basis : Basis) → found.drivers.items ≡ row ∷ [] → IsParsed ShowsDriver IsBasis row (Some basis)
      → (r : DriverRow) × (n ≡ pos r.driver) × IsReadDriver own r basis found
  fit row basis one (r, shows, judged_by) = (
    r,
    number,
    record {
      own = is;
      columns = shows.within;
      judged_by = judged_by;
      downloads = record {
        same = shown Downloads;
        each = own_rows_are n r.driver number made.downloads.columns (db made.download_rows) (downloads_have layout db ready.sound)
            (downloads_types layout db ready.sound);
      };
      card_spans = record {
        same = shown CardSpans;
        each = own_rows_are n r.driver number (made.spans []).columns (db made.card_span_rows) (card_spans_have layout db ready.sound)
            (card_spans_types layout db ready.sound);
      };
      entries = record {
        same = shown EntryRows;
        each = own_rows_are n r.driver number made.entry_rows.columns (db (made.entry_tree layout)) (entries_have layout db ready.sound)
            (entries_types layout db ready.sound);
      };
      held = record {
        same = shown Held;
        each = own_rows_are n r.driver number (made.spans []).columns (db made.held_rows) (held_have layout db ready.sound)
            (held_types layout db ready.sound);
      };
    },
  ) where
    alone : (w : Row) × (own Drivers ≡ w ∷ []) × (driver_values w ≡ row)
    alone = one_mapped driver_values (own Drivers) row (single row (map driver_values (own Drivers))
        (IsPermutation-sym (map driver_values (own Drivers)) (row ∷ [])
        (subst (IsPermutation (map driver_values (own Drivers))) one (shown Drivers))))

    there : Has (own Drivers) alone.0
    there = subst (λ rows. Has rows alone.0) (sym alone.1) (inl refl)

    kept : Has (stored_rows layout Drivers db) alone.0 × (is_own n alone.0 ≡ true)
    kept = has_filtered (is_own n) (stored_rows layout Drivers db) alone.0 there

    stored : alone.0 ≡ driver_row r
    stored = driver_made alone.0 (drivers_types layout db ready.sound alone.0 kept.0) r (subst (λ v. ShowsDriver v r) (sym alone.2) shows)

    is : own Drivers ≡ driver_row r ∷ []
    is = alone.1 ∙ ap (λ w. w ∷ []) stored

    number : n ≡ pos r.driver
    number = sym (same_int (pos r.driver) n (subst (λ w. is_own n w ≡ true) stored kept.1))
