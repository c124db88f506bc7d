-- Rows that are sound for each driver represent a state.
use Rattle.std.proofs.Common.{◌≡◌, ◌≢◌, ◌∙◌, ℕ, ℤ, pos, ◌≤◌, inl, inr, Bool, true, false, cond, true≢false, List, [], ◌∷◌, drop, map, length, refl, sym, ap, subst, arith}
use Rattle.std.specs.List.{AllByRecursion}
use Rattle.std.specs.List.Sorted.{IsPermutation}
use Rattle.sqlite_value.specs.declared.value.Value.TheVariants.{Int}
use Rattle.sqlite_value.specs.Order.{Row, column}
use Rattle.sqlite_trees.specs.Tree.{Trees}
use Rattle.sqlite_trees.proofs.ListLemmas.{map-map, IsPermutation-same}
use Rattle.sqlite_rules.specs.Lists.{Has}
use Rattle.sqlite_rules.proofs.ListLemmas.{has_filtered, has_kept}
use Rattle.sqlite_rules.proofs.ProbeLemmas.{has_mapped}
use Rattle.tacho_state.specs.Distinct.{HasNot, HasNoKey, IsHolderFree, AreDistinct}
use Rattle.tacho_state.specs.State.{State}
use Rattle.tacho_state.specs.Within.{AreWithinLimits}
use Rattle.tacho_tables.specs.Schema.{Layout}
use Rattle.tacho_tables.specs.Schema as made
use Rattle.tacho_tables.specs.Rows.{span_columns, download_columns, entry_columns, driver_row}
use Rattle.tacho_tables.specs.declared.table.TableName.{TableName}
use Rattle.tacho_tables.specs.declared.table.TableName.TheVariants.{Drivers, Downloads, CardSpans, EntryRows, Held}
use Rattle.tacho_tables.specs.Readable.{is_number, is_own, own_rows, stored_rows, IsReadable}
use Rattle.tacho_tables.specs.Ask.{own_in}
use Rattle.tacho_tables.proofs.UniqueLemmas.{HasDriver, downloads_have, card_spans_have, entries_have, held_have, holders_differ, keys_differ}
use Rattle.tacho_reading.specs.Standing.{Represents, driver_columns}
use Rattle.tacho_check.specs.Check.{IsSoundAt, IsWithinUpTo}
use Rattle.tacho_check.specs.Member.{Member, IsWhole, downloads_in, cards_in, entries_in, held_in, member_rows, state_of, tables_of, HasMember, IsOwnSound}
use Rattle.std.proofs.lemmas.List.{nil_from_length}
use Rattle.tacho_check.proofs.MemberLemmas.{not_there, members_represent}
use Rattle.tacho_check.proofs.OwnLemmas.{sound_own}
use Rattle.tacho_check.proofs.AbsentLemmas.{before_last}
use Rattle.tacho_check.proofs.SpreadLemmas.{single, int_self, table_stands}

-- ---- members that are distinct

-- the stored row of a member's driver
abbrev row_of : Member → Row
row_of m = driver_row (driver_columns m.driver)

-- a row of a driver is their own
own_row : (m : Member) → is_own (pos m.driver.number) (row_of m) ≡ true
own_row m = int_self (pos m.driver.number)

-- where a number has no row, no member has it
never : (n : ℕ) (ms : List Member) → own_rows (pos n) (map row_of ms) ≡ [] → HasNot n (state_of ms)
never n [] e = tt
never n (m ∷ ms) e = go (is_own (pos n) (row_of m)) refl e (never n ms) where
  go : (b : Bool) → is_own (pos n) (row_of m) ≡ b → cond b (row_of m ∷ own_rows (pos n) (map row_of ms))
      (own_rows (pos n) (map row_of ms)) ≡ []
      → (own_rows (pos n) (map row_of ms) ≡ [] → HasNot n (state_of ms)) → HasNot n (state_of (m ∷ ms))
  go true is f more = absurd (let g = f in cc)
  go false is f more = (
    (λ same. true≢false (sym (subst (λ (k : ℕ). is_own (pos k) (row_of m) ≡ true) same (own_row m)) ∙ is)),
    more f,
  )

-- a list with an element less isn't longer
shorter : (b : Bool) (x : Row) (xs : List Row) → length (cond b (x ∷ xs) xs) ≤ 1 → length xs ≤ 1
shorter true x xs h = omega (arith, h)
shorter false x xs h = h

-- members with one row for each number, whose keys and holders differ with their numbers, are distinct
distinct : (ms : List Member) → ((n : ℤ) → length (own_rows n (map row_of ms)) ≤ 1)
    → ((a b : Member) → Has ms a → Has ms b → a.driver.number ≢ b.driver.number → (a.driver.key ≢ b.driver.key)
    × (a.driver.holder ≢ b.driver.holder))
    → AreDistinct (state_of ms)
distinct [] once apart = tt
distinct (m ∷ ms) once apart = (
  numbers,
  keys ms (λ x has. has),
  holders ms (λ x has. has),
  distinct ms (λ n. shorter (is_own n (row_of m)) (row_of m) (own_rows n (map row_of ms)) (once n)) (λ a b p q. apart a b (inr p) (inr q)),
) where
  n : ℕ
  n = m.driver.number

  numbers : HasNot n (state_of ms)
  numbers =
      let rest : List Row = own_rows (pos n) (map row_of ms) in
      let more : length (row_of m ∷ rest) ≤ 1 = subst (λ (b : Bool). length (cond b (row_of m ∷ rest) rest) ≤ 1) (own_row m)
      (once (pos n)) in
      never n ms (nil_from_length rest (omega (arith, more)))

  other : (x : Member) → Has ms x → (m.driver.key ≢ x.driver.key) × (m.driver.holder ≢ x.driver.holder)
  other x has = apart m x (inl refl) (inr has) (λ e. not_there n ms x numbers has (sym e))

  keys : (some : List Member) → ((x : Member) → Has some x → Has ms x) → HasNoKey m.driver.key (state_of some)
  keys [] within = tt
  keys (x ∷ some) within = ((λ e. (other x (within x (inl refl))).0 (sym e)), keys some (λ y later. within y (inr later)))

  holders : (some : List Member) → ((x : Member) → Has some x → Has ms x) → IsHolderFree m.driver.holder (state_of some)
  holders [] within = tt
  holders (x ∷ some) within = ((λ e. (other x (within x (inl refl))).1 (sym e)), holders some (λ y later. within y (inr later)))

module _ (layout : Layout) (db : Trees) (it : IsReadable layout db) (sounds : (n : ℤ) → IsSoundAt layout db n Held) where
  own : (n : ℤ) → IsOwnSound (own_in layout db n) n Held
  own n = sound_own layout db Held n (sounds n)

  -- a member whose rows are stored
  record IsStored (m : Member) : Type 0 where
    whole : IsWhole m
    within : IsWithinUpTo Held m.driver
    rows : (j : TableName) → IsPermutation (member_rows j m) (own_rows (pos m.driver.number) (stored_rows layout j db))

  -- the one row of a driver in `drivers`
  one_driver : (n : ℤ) (m : HasMember (own_in layout db n) n Held) → own_rows n (db made.driver_rows) ≡ row_of m.member ∷ []
  one_driver n m = single (row_of m.member) (own_rows n (db made.driver_rows)) (m.same Drivers (before_last Drivers))

  -- each row of `drivers` is that of a member
  row_member : (r : Row) → Has (db made.driver_rows) r → (m : Member) × IsStored m × (row_of m ≡ r)
  row_member r has = go (own id) where
    id : ℤ
    id = (it.numbered.drivers.numbered r has).0

    mine : Has (own_rows id (db made.driver_rows)) r
    mine = has_kept (is_own id) (db made.driver_rows) r has (ap (is_number id) (it.numbered.drivers.numbered r has).1 ∙ int_self id)

    go : IsOwnSound (own_in layout db id) id Held → (m : Member) × IsStored m × (row_of m ≡ r)
    go (inl none) = absurd (subst (λ (xs : List Row). Has xs r) (none Drivers (before_last Drivers)) mine)
    go (inr m) = (
      m.member,
      record {
        whole = m.whole;
        within = m.within;
        rows = λ j. subst (λ (z : ℤ). IsPermutation (member_rows j m.member) (own_rows z (stored_rows layout j db))) m.number
            (m.same j (before_last j));
      },
      only (subst (λ (xs : List Row). Has xs r) (one_driver id m) mine),
    ) where
      only : Has (row_of m.member ∷ []) r → row_of m.member ≡ r
      only (inl is) = sym is
      only (inr none) = absurd none

  -- so there are members with these rows
  row_members : (rows : List Row) → ((r : Row) → Has rows r → Has (db made.driver_rows) r)
      → (ms : List Member) × AllByRecursion IsStored ms × (map row_of ms ≡ rows)
  row_members [] within = ([], tt, refl)
  row_members (r ∷ rows) within =
      let first = row_member r (within r (inl refl)) in
      let more = row_members rows (λ x later. within x (inr later)) in
      (first.0 ∷ more.0, (first.1, more.1), ap (λ (x : Row). x ∷ map row_of more.0) first.2 ∙ ap (λ (xs : List Row). r ∷ xs) more.2)

  members : (ms : List Member) × AllByRecursion IsStored ms × (map row_of ms ≡ db made.driver_rows)
  members = row_members (db made.driver_rows) (λ r has. has)

  -- at most one row has a number
  once : (n : ℤ) → length (own_rows n (db made.driver_rows)) ≤ 1
  once n = go (own n) where
    go : IsOwnSound (own_in layout db n) n Held → length (own_rows n (db made.driver_rows)) ≤ 1
    go (inl none) = let e = ap (λ (xs : List Row). length xs) (none Drivers (before_last Drivers)) in omega (arith, e)
    go (inr m) = let e = ap (λ (xs : List Row). length xs) (one_driver n m) in omega (arith, e)

  -- a member's row is stored
  stored_row : (m : Member) → Has members.0 m → Has (db made.driver_rows) (row_of m)
  stored_row m has = subst (λ (xs : List Row). Has xs (row_of m)) members.2 (mapped members.0 has) where
    mapped : (ms : List Member) → Has ms m → Has (map row_of ms) (row_of m)
    mapped [] h = absurd h
    mapped (x ∷ ms) (inl is) = inl (ap row_of is)
    mapped (x ∷ ms) (inr later) = inr (mapped ms later)

  are_distinct : AreDistinct (state_of members.0)
  are_distinct = distinct members.0 (λ n. subst (λ (xs : List Row). length (own_rows n xs) ≤ 1) (sym members.2) (once n))
      (λ a b p q other. (
        keys_differ layout db it.sound (driver_columns a.driver) (driver_columns b.driver) (stored_row a p) (stored_row b q) other,
        holders_differ layout db it.sound (driver_columns a.driver) (driver_columns b.driver) (stored_row a p) (stored_row b q) other,
      ))

  -- each row of a table with hidden numbers is that of a member
  covered : (j : TableName) (rows : List Row) → stored_rows layout j db ≡ map (drop 1) rows → HasDriver rows
      → (y : Row) → Has (map (drop 1) rows) y → (m : Member) × Has members.0 m × (is_own (pos m.driver.number) y ≡ true)
  covered j rows same has_driver y has = go (own number) where
    row : (r : Row) × Has rows r × (y ≡ drop 1 r)
    row = has_mapped (drop 1) rows y has

    number : ℤ
    number = (has_driver row.0 row.1).0

    first : column y 0 ≡ Int number
    first = ap (λ (z : Row). column z 0) row.2 ∙ (has_driver row.0 row.1).1

    mine : Has (own_rows number (stored_rows layout j db)) y
    mine = subst (λ (xs : List Row). Has (own_rows number xs) y) (sym same)
        (has_kept (is_own number) (map (drop 1) rows) y has (ap (is_number number) first ∙ int_self number))

    go : IsOwnSound (own_in layout db number) number Held → (m : Member) × Has members.0 m × (is_own (pos m.driver.number) y ≡ true)
    go (inl none) = absurd (subst (λ (xs : List Row). Has xs y) (none j (before_last j)) mine)
    go (inr m) =
        let there : Has (own_rows number (db made.driver_rows)) (row_of m.member) =
        subst (λ (xs : List Row). Has xs (row_of m.member)) (sym (one_driver number m)) (inl refl) in
        let listed : Has (map row_of members.0) (row_of m.member) =
        subst (λ (xs : List Row). Has xs (row_of m.member)) (sym members.2)
        (has_filtered (is_own number) (db made.driver_rows) (row_of m.member) there).0 in
        let one = has_mapped row_of members.0 (row_of m.member) listed in
        let alike : m.member.driver.number ≡ one.0.driver.number = let e = one.2 in cc in
        let is : Int number ≡ Int (pos one.0.driver.number) = ap Int (m.number ∙ ap pos alike) in
        (one.0, one.1, ap (is_number (pos one.0.driver.number)) (first ∙ is) ∙ int_self (pos one.0.driver.number))

  -- all rows represent the members' state
  pub all_rows : (s : State) × Represents db s × AreWithinLimits s
  unfolding Represents
  all_rows = (
    state_of members.0,
    (
      tables_of members.0,
      record {
        layout = layout;
        sound = it.sound;
        meta = it.meta;
        drivers = record {
          apart = it.numbered.drivers.apart;
          same = IsPermutation-same _ _ (map-map driver_row (λ (m : Member). driver_columns m.driver) members.0 ∙ members.2);
        };
        downloads = table_stands download_columns downloads_in (db made.download_rows) members.0 are_distinct it.numbered.downloads
            (stored_in Downloads)
            (covered Downloads (db made.download_rows) refl (downloads_have layout db it.sound));
        card_spans =
            table_stands span_columns cards_in (db made.card_span_rows) members.0 are_distinct it.numbered.card_spans (stored_in CardSpans)
            (covered CardSpans (db made.card_span_rows) refl (card_spans_have layout db it.sound));
        entries = table_stands entry_columns entries_in (db (made.entry_tree layout)) members.0 are_distinct it.numbered.entries
            (stored_in EntryRows)
            (covered EntryRows (db (made.entry_tree layout)) refl (entries_have layout db it.sound));
        old_entries = it.old_entries;
        held = table_stands span_columns held_in (db made.held_rows) members.0 are_distinct it.numbered.held (stored_in Held)
            (covered Held (db made.held_rows) refl (held_have layout db it.sound));
      },
      members_represent members.0 (whole members.0 members.1) are_distinct,
    ),
    limits members.0 members.1,
  ) where
    whole : (ms : List Member) → AllByRecursion IsStored ms → AllByRecursion IsWhole ms
    whole [] h = tt
    whole (m ∷ ms) h = (h.0.whole, whole ms h.1)

    limits : (ms : List Member) → AllByRecursion IsStored ms → AreWithinLimits (state_of ms)
    limits [] h = tt
    limits (m ∷ ms) h =
        let w = h.0.within in
        (record { columns = w.columns; files = w.files (omega arith); entries = w.entries (omega arith) }, limits ms h.1)

    rows : (j : TableName) (ms : List Member) → AllByRecursion IsStored ms
        → AllByRecursion (λ (m : Member). IsPermutation (member_rows j m) (own_rows (pos m.driver.number) (stored_rows layout j db))) ms
    rows j [] h = tt
    rows j (m ∷ ms) h = (h.0.rows j, rows j ms h.1)

    stored_in : (j : TableName)
        → AllByRecursion (λ (m : Member). IsPermutation (member_rows j m) (own_rows (pos m.driver.number) (stored_rows layout j db)))
        members.0
    stored_in j = rows j members.0 members.1

-- the rows of each driver are sound, so all of them represent a state within its limits
pub all_represent : (layout : Layout) (db : Trees) → IsReadable layout db → ((n : ℤ) → IsSoundAt layout db n Held)
    → (s : State) × Represents db s × AreWithinLimits s
all_represent layout db it sounds = all_rows layout db it sounds
