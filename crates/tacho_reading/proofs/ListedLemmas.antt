-- A driver's entries are listed in the order of their numbers.
use Rattle.std.proofs.Common.{◌≡◌, ◌∙◌, ℕ, ◌+◌, ◌<◌, ◌==◌, Bool, true, false, cond, not, List, [], ◌∷◌, map, filter, Ordering, Less, Some, Ok, refl, sym, ap, subst, arith}
use Rattle.std.specs.Cmp.{IsTotalOrder}
use Rattle.std.specs.List.{AllByRecursion}
use Rattle.std.specs.List.Sorted.{IsPermutation, IsSorted}
use Rattle.std.specs.Ordering.{nat_cmp}
use Rattle.std.proofs.lemmas.Bool.Decides.{nat_tests}
use Rattle.std.proofs.lemmas.Cmp.{nat_cmp_total}
use Rattle.sqlite.specs.Tree.{Trees}
use Rattle.sqlite_keyed.proofs.SortLemmas.{sorted_unique}
use Rattle.sqlite_trees.specs.Tree.{IsAscending}
use Rattle.tacho_time.specs.declared.span.Activity.{Activity}
use Rattle.tacho_state.specs.declared.entry.Entry.{Entry as Listed}
use Rattle.tacho_state.specs.State.{Driver, Entry, State, driver_of}
use Rattle.tacho_state.specs.Steps.{numbered_from, entries_reading, reading_of}
use Rattle.tacho_tables.specs.Rows.{EntryRow}
use Rattle.tacho_tables.specs.Tables.{Tables, HasTables, ListedEntry, is_entry_of, listed_entry}
use Rattle.tacho_reading.specs.Standing.{Represents, entry_row, rows_of_entries, listed_as}
use Rattle.tacho_state.proofs.NumberLemmas.{activity_back}
use Rattle.tacho_reading.proofs.EntryLemmas.{entry_all}

-- ---- order

-- the order of stored entries by number
abbrev by_number : ListedEntry → ListedEntry → Ordering
by_number x y = nat_cmp x.number y.number

total : IsTotalOrder by_number
total = record {
  antisymm = λ x y. nat_cmp_total.antisymm x.number y.number;
  trans = λ x y z. nat_cmp_total.trans x.number y.number z.number;
  congr = λ x y z. nat_cmp_total.congr x.number y.number z.number;
}

-- a smaller number comes before a greater one
less_is : (i j : ℕ) → i < j → nat_cmp i j ≡ Less
less_is i j h = grind (arith, nat_tests)

-- the numbers of a driver's rows increase
rows_above : (n i j : ℕ) (es : List Entry) → i < j
    → AllByRecursion (λ (x : ListedEntry). nat_cmp i x.number ≡ Less) (map listed_entry (rows_of_entries n j es))
rows_above n i j [] h = tt
rows_above n i j (e ∷ es) h = (less_is i j h, rows_above n i (j + 1) es (omega (arith, h)))

rows_rise : (n i : ℕ) (es : List Entry) → IsAscending (λ x y. by_number x y ≡ Less) (map listed_entry (rows_of_entries n i es))
rows_rise n i [] = tt
rows_rise n i (e ∷ es) = (rows_above n i (i + 1) es (omega arith), rows_rise n (i + 1) es)

-- ---- rows as entries

-- the number that marks a withdrawn entry gives the mark
flag_is : (b : Bool) → not (cond b 1 0 == 0) ≡ b
flag_is true = refl
flag_is false = refl

-- the listed entry with this number, the hours of `Entry`, this activity, and withdrawn or not
listed_with : ℕ → Entry → Activity → Bool → Listed
listed_with i e a w = record {
  number = i;
  line = record { start = e.start; past = e.past; activity = a; author = e.author; note = e.note };
  withdrawn = w;
}

-- a row is listed as its entry
row_listed : (n i : ℕ) (e : Entry) → listed_as (listed_entry (entry_row n i e)) ≡ listed_with i e e.activity e.withdrawn
unfolding listed_with
row_listed n i e =
    ap (λ (a : Activity). listed_with i e a (not (cond e.withdrawn 1 0 == 0))) (activity_back e.activity)
    ∙ ap (listed_with i e e.activity) (flag_is e.withdrawn)

rows_listed : (n i : ℕ) (es : List Entry) → map listed_as (map listed_entry (rows_of_entries n i es)) ≡ numbered_from i es
unfolding listed_with
rows_listed n i [] = refl
rows_listed n i (e ∷ es) =
    ap (λ (x : Listed). x ∷ map listed_as (map listed_entry (rows_of_entries n (i + 1) es))) (row_listed n i e)
    ∙ ap (λ (x : List Listed). listed_with i e e.activity e.withdrawn ∷ x) (rows_listed n (i + 1) es)

-- ---- what is read

-- a driver's rows ordered by number are listed as the driver's entries
pub entries_told : (db : Trees) (n : ℕ) (s : State) (d : Driver) (found : List ListedEntry) → Represents db s → driver_of n s ≡ Some d
    → ((a : Tables) → HasTables db a → IsPermutation (map listed_entry (filter (is_entry_of n) a.entries)) found)
    → ((a : Tables) → HasTables db a → IsSorted by_number found) → entries_reading n s ≡ Ok (map listed_as found)
unfolding Represents
entries_told db n s d found (t, stand, of) is same sorted =
    let rows : IsPermutation (map listed_entry (rows_of_entries n 1 d.entries)) found =
    subst (λ (x : List EntryRow). IsPermutation (map listed_entry x) found) (entry_all t s n d of is) (same t stand) in
    ap (reading_of (λ (d : Driver). Ok (numbered_from 1 d.entries))) is
    ∙ ap Ok (sym (rows_listed n 1 d.entries)
    ∙ ap (map listed_as) (sym (sorted_unique by_number total _ found (rows_rise n 1 d.entries) rows (sorted t stand))))
