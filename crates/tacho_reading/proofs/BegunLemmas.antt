-- The start from which a driver's rows are read.
use Rattle.std.proofs.Common.{◌≡◌, ◌∙◌, ℕ, ◌+◌, ◌*◌, ◌<◌, ◌==◌, ◌&&◌, Bool, true, false, cond, List, [], filter, Option, Some, None, refl, sym, ap, subst, arith}
use Rattle.std.specs.Prelude.{min, nat_lt, nat_le, MatchOption}
use Rattle.std.proofs.lemmas.Bool.Decides.{nat_tests}
use Rattle.sqlite.specs.Tree.{Trees}
use Rattle.sqlite_rules.specs.Lists.{Has}
use Rattle.sqlite_rules.proofs.ListLemmas.{all_from, has_filtered, has_kept, has_contained}
use Rattle.sqlite_trees.proofs.ListLemmas.{filter_same}
use Rattle.tacho_state.specs.State.{Driver, State, driver_of}
use Rattle.tacho_tables.specs.declared.rows.StoredDriver.{StoredDriver}
use Rattle.tacho_tables.specs.declared.rows.StoredSpan.{StoredSpan}
use Rattle.tacho_tables.specs.Rows.{SpanRow}
use Rattle.tacho_tables.specs.Tables.{Tables, HasTables, IsLatest, is_before, is_of, is_onward, span_of}
use Rattle.tacho_reading.specs.Apart.{AreRowsApart, driver_rows, near_from}
use Rattle.tacho_reading.specs.Begun.{is_after, IsBegun}
use Rattle.tacho_reading.specs.Finding.{IsStored}
use Rattle.tacho_reading.proofs.ApartLemmas.{IsFrom, from_found, held_apart}

module _ (n base : ℕ) (rows : List SpanRow) (apart : AreRowsApart (driver_rows n rows)) where
  -- the latest row before the base, if there is one
  abbrev Latest : Option StoredSpan → Type 0
  Latest b = MatchOption b (filter (is_before n base) rows ≡ [])
      (λ s. (r : SpanRow) × IsLatest r (filter (is_before n base) rows) × (s ≡ span_of r))

  -- the start of the rows near a range doesn't depend on the range's end
  near_same : (past : ℕ) (b : Option StoredSpan) → base < past → Latest b
      → near_from base past b ≡ near_from base (base + 1) b
  near_same past None m none = refl
  near_same past (Some s) m (r, latest, is) = ap (λ (b : Bool). cond (b && nat_lt base s.past) s.start base)
      (early past m ∙ sym (early (base + 1) (omega arith))) where
        in_list : is_before n base r ≡ true
        in_list =
            (has_filtered (is_before n base) rows r (has_contained (filter (is_before n base) rows) r latest.one)).1

        before : s.start < base
        before =
            let a = s.start in
            let e : s.start ≡ r.start = ap (λ (x : StoredSpan). x.start) is in
            let c = r.start in
            let l : nat_lt c base ≡ true = second (r.driver == n) (nat_lt c base) in_list in
            let k : c < base = grind (arith, nat_tests) in omega arith where
              second : (a b : Bool) → (a && b) ≡ true → b ≡ true
              second true b e = e
              second false b e = absurd (let wrong = e in cc)

        early : (past : ℕ) → base < past → nat_lt s.start past ≡ true
        early past m = let a = s.start in let l : a < base = before in grind (arith, nat_tests)

  -- a row begins from there on iff it ends after the base
  begins_after : (b : Option StoredSpan) → Latest b → (x : SpanRow) → Has (driver_rows n rows) x
      → nat_le (near_from base (base + 1) b) x.start ≡ nat_lt base x.past
  begins_after b h x c =
      let past = base + x.start + 1 in
      let from : IsFrom base past (near_from base past b) x = from_found n base past rows apart b h x c in
      let start = x.start in
      let within : nat_lt start past ≡ true = grind (arith, nat_tests) in
      whole (nat_le (near_from base (base + 1) b) x.start) (nat_lt base x.past) (nat_lt x.start past) within
      (subst (λ (k : ℕ). IsFrom base past k x) (near_same past b (omega arith) h) from) where
        whole : (u v w : Bool) → w ≡ true → (u && w) ≡ (w && v) → u ≡ v
        whole true v true e f = f
        whole false v true e f = f
        whole u v false e f = absurd (let wrong = e in cc)

  -- so the rows that begin from there on are those that end after the base
  onward_after : (b : Option StoredSpan) → Latest b
      → filter (is_onward n (near_from base (base + 1) b)) rows ≡ filter (is_after n base) rows
  onward_after b h = filter_same (is_onward n (near_from base (base + 1) b)) (is_after n base) rows
      (all_from _ rows (λ x c. go x c (x.driver == n) refl)) where
        go : (x : SpanRow) → Has rows x → (o : Bool) → (x.driver == n) ≡ o
            → (o && nat_le (near_from base (base + 1) b) x.start) ≡ (o && nat_lt base x.past)
        go x c true e = begins_after b h x (has_kept (is_of n) rows x c e)
        go x c false e = refl

-- the start is that of the first row that ends after the base, or after a minute that is earlier
pub is_begun : (db : Trees) (n : ℕ) (s : State) (d : Driver) (it : StoredDriver) (base from minute start : ℕ)
    (b : Option StoredSpan) → driver_of n s ≡ Some d → IsStored it d
    → base ≡ 1440 * it.base → minute ≡ min base from → start ≡ near_from minute (minute + 1) b
    → ((t : Tables) → HasTables db t → MatchOption b (filter (is_before n minute) t.held ≡ [])
    (λ s. (r : SpanRow) × IsLatest r (filter (is_before n minute) t.held) × (s ≡ span_of r)))
    → IsBegun db n from s (record { base = base; start = start })
is_begun db n s d it base from minute start b is stored at least first h = record {
  driver = d;
  is = is;
  base = at ∙ ap (λ (k : ℕ). 1440 * k) stored.base;
  rows = λ t stand of.
      subst (λ (k : ℕ). filter (is_onward n k) t.held ≡ filter (is_after n (min base from)) t.held) (sym first)
      (subst (λ (k : ℕ). filter (is_onward n (near_from minute (minute + 1) b)) t.held ≡ filter (is_after n k) t.held) least
      (onward_after n minute t.held (held_apart t s n d of is) b (h t stand)));
}
