-- Rows of entries: what the hours of all of them give, or that no entries have these rows.
use Rattle.std.proofs.Common.{◌≡◌, ◌∙◌, ℕ, zero, suc, pos, ◌+◌, ◌<◌, ◌==◌, Bool, true, false, not, cond, List, [], ◌∷◌, ◌++◌, map, length, Option, None, Some, refl, sym, ap, ap₂, subst, arith}
use Rattle.std.specs.Prelude.{Vec}
use Rattle.std.specs.declared.alloc.Global.{Global}
use Rattle.std.specs.List.{AllByRecursion}
use Rattle.std.specs.List.Sorted.{IsPermutation}
use Rattle.std.proofs.lemmas.List.{length-map}
use Rattle.sqlite.specs.declared.types.Value.TheVariants.{Int, Text}
use Rattle.sqlite.specs.Order.{Row, column}
use Rattle.sqlite_sql.specs.Ops.{is_null}
use Rattle.tacho_time.specs.declared.span.Span.{Span}
use Rattle.tacho_state.specs.State.{Entry, entered_spans, entry_span}
use Rattle.tacho_state.specs.Within.{IsEntry}
use Rattle.tacho_state.specs.Numbers.{activity_number, numbered_activity}
use Rattle.tacho_state.proofs.NumberLemmas.{activity_back}
use Rattle.tacho_tables.specs.Schema as made
use Rattle.tacho_tables.specs.Rows.{entry_columns}
use Rattle.tacho_tables.specs.Ask.{seven_shown}
use Rattle.tacho_reading.specs.Standing.{entry_row, rows_of_entries}
use Rattle.tacho_check.specs.declared.hours.HoursRow.{HoursRow}
use Rattle.tacho_check.specs.Hours.{hours_span, entered_hours}
use Rattle.tacho_check.specs.Parsed.{IsParsed, Pairs, GoOn, AreNumbered}
use Rattle.tacho_check.specs.Typed.{IsOwnRow, AreShown, NumberedEntry, ShowsEntry, AreHours}
use Rattle.tacho_check.specs.Fits.{Agrees, EntriesFit}
use Rattle.tacho_check.specs.Judged.{IsAgreed, AreEntries}
use Rattle.tacho_check.proofs.ParsedLemmas.{IsTyping, AreRows, AreAllRows, unnumbered, numbered}
use Rattle.tacho_check.proofs.TypeLemmas.{whole_row}

-- ---- the number that says whether an entry is withdrawn

pub flag_there : (n : ℕ) → n < 2 → cond (not (n == 0)) 1 0 ≡ n
flag_there zero h = refl
flag_there (suc zero) h = refl
flag_there (suc (suc n)) h = absurd (omega (arith, h))

flag_back : (b : Bool) → not (cond b 1 0 == 0) ≡ b
flag_back true = refl
flag_back false = refl

-- ---- how rows of entries are read

-- the stored row of a driver's entry
abbrev columns_of : ℕ → NumberedEntry → Row
columns_of n x = entry_columns (entry_row n x.number x.entry)

-- the entry of a stored row
entry_in : NumberedEntry → Row → NumberedEntry
entry_in other (Int driver ∷ Int (pos number) ∷ Int (pos start) ∷ Int (pos past) ∷ Int (pos mark) ∷ Int (pos withdrawn)
    ∷ Text author ∷ Text note ∷ []) = record {
      number = number;
      entry = record {
        start = start;
        past = past;
        activity = numbered_activity mark;
        author = author;
        note = note;
        withdrawn = not (withdrawn == 0);
      };
    }
entry_in other _ = other

entry_back : (n : ℕ) (other x : NumberedEntry) → entry_in other (columns_of n x) ≡ x
unfolding entry_in
entry_back n other x =
    ap₂ (λ a w. record x { entry = record x.entry { activity = a; withdrawn = w } })
    (activity_back x.entry.activity) (flag_back x.entry.withdrawn)

entry_made : (n : ℕ) (w : Row) → IsOwnRow n made.entry_rows.columns w → (x : NumberedEntry) → ShowsEntry (seven_shown w) x
    → w ≡ columns_of n x
entry_made n w own x shows =
    let is = whole_row None made.entry_rows.columns w 7 own.typed refl (ap (λ v. not (is_null v)) shows.note) in
    let a = own.driver in
    let b : column w 1 ≡ Int (pos x.number) = shows.number in
    let c : column w 2 ≡ Int (pos x.entry.start) = shows.start in
    let d : column w 3 ≡ Int (pos x.entry.past) = shows.past in
    let e : column w 4 ≡ Int (pos (activity_number x.entry.activity)) = shows.mark in
    let f : column w 5 ≡ Int (pos (cond x.entry.withdrawn 1 0)) = shows.withdrawn in
    let g : column w 6 ≡ Text x.entry.author = shows.author in
    let h : column w 7 ≡ Text x.entry.note = shows.note in
    rw (a, b, c, d, e, f, g, h) at is

typing : (n : ℕ) → IsTyping n made.entry_rows.columns ShowsEntry AreHours (columns_of n) seven_shown (λ x. IsEntry x.entry) (λ h. h.number)
    (λ x. x.number)
typing n = record {
  made = entry_made n;
  back = λ x within. record {
    number = refl;
    start = refl;
    past = refl;
    mark = refl;
    withdrawn = refl;
    author = refl;
    note = refl;
    within = within;
  };
  inside = λ row x shows. shows.within;
  alike = λ h x same. ap (λ (r : HoursRow). r.number) same;
  one = λ x y same. sym (entry_back n x x) ∙ ap (entry_in x) same ∙ entry_back n x y;
}

-- ---- numbered entries

abbrev entries_in : List NumberedEntry → List Entry
entries_in xs = map (λ x. x.entry) xs

-- entries numbered from i on
abbrev numbered_from : ℕ → List Entry → List NumberedEntry
numbered_from i [] = []
numbered_from i (e ∷ es) = record { number = i; entry = e } ∷ numbered_from (i + 1) es

numbers_go_on : (i : ℕ) (es : List Entry) → GoOn i (map (λ x. x.number) (numbered_from i es))
numbers_go_on i [] = tt
numbers_go_on i (e ∷ es) = (refl, numbers_go_on (i + 1) es)

entries_back : (i : ℕ) (es : List Entry) → entries_in (numbered_from i es) ≡ es
entries_back i [] = refl
entries_back i (e ∷ es) = ap (λ xs. e ∷ xs) (entries_back (i + 1) es)

numbers_back : (i : ℕ) (xs : List NumberedEntry) → GoOn i (map (λ x. x.number) xs) → numbered_from i (entries_in xs) ≡ xs
numbers_back i [] h = refl
numbers_back i (x ∷ xs) h = ap₂ (λ k us. record { number = k; entry = x.entry } ∷ us) (sym h.0) (numbers_back (i + 1) xs h.1)

rows_are : (n i : ℕ) (es : List Entry) → map (columns_of n) (numbered_from i es) ≡ map entry_columns (rows_of_entries n i es)
rows_are n i [] = refl
rows_are n i (e ∷ es) = ap (λ rows. entry_columns (entry_row n i e) ∷ rows) (rows_are n (i + 1) es)

all_within : (i : ℕ) (es : List Entry) → AllByRecursion IsEntry es → AllByRecursion (λ x. IsEntry x.entry) (numbered_from i es)
all_within i [] h = tt
all_within i (e ∷ es) h = (h.0, all_within (i + 1) es h.1)

entries_within : (xs : List NumberedEntry) → AllByRecursion (λ x. IsEntry x.entry) xs → AllByRecursion IsEntry (entries_in xs)
entries_within [] h = tt
entries_within (x ∷ xs) h = (h.0, entries_within xs h.1)

-- entries give what their hours give
give_one : (b : Bool) (here : Span) (spans rest : List Span) → spans ≡ rest
    → cond b spans (here ∷ spans) ≡ cond b [] (here ∷ []) ++ rest
give_one true here spans rest same = same
give_one false here spans rest same = ap (λ xs. here ∷ xs) same

entries_give : (hours : List HoursRow) (xs : List NumberedEntry) → Pairs AreHours hours xs
    → entered_spans (entries_in xs) ≡ entered_hours hours
entries_give [] [] h = refl
entries_give [] (x ∷ xs) h = absurd h
entries_give (h ∷ hours) [] stands = absurd stands
entries_give (h ∷ hours) (x ∷ xs) stands =
    give_one x.entry.withdrawn (entry_span x.entry) (entered_spans (entries_in xs)) (entered_hours hours) (entries_give hours xs stands.1)
    ∙ ap (λ r. cond r.withdrawn [] (hours_span r ∷ []) ++ entered_hours hours) (sym stands.0)

-- ---- the entries of a driver

module _ (n count : ℕ) (own found : List Row) (it : AreShown n made.entry_rows.columns seven_shown own found) (given : List Span) where
  rows_of : (es : List Entry) → EntriesFit n count own given es → AreRows (typing n) it count (numbered_from 1 es)
  rows_of es fit = record {
    counted = (
      length-map (numbered_from 1 es) (λ x. x.number) ∙ sym (length-map (numbered_from 1 es) (λ x. x.entry))
          ∙ ap (λ xs. length xs) (entries_back 1 es) ∙ fit.count_is,
      numbers_go_on 1 es,
    );
    rows = subst (λ rows. IsPermutation rows own) (sym (rows_are n 1 es)) fit.same;
  }

  pub none_fit : AreNumbered {Y = HoursRow} (IsParsed ShowsEntry AreHours) (λ h. h.number) count found None
      → AreEntries n count own given None
  none_fit h es fit = unnumbered (typing n) it count h (numbered_from 1 es) (all_within 1 es fit.within) (rows_of es fit)

  pub entries_judged : (hours : Vec HoursRow Global) → AreNumbered (IsParsed ShowsEntry AreHours) (λ h. h.number) count found (Some hours)
      → (all : List Span) → all ≡ given ++ entered_hours hours.items → (r : Option (Vec Span Global)) → IsAgreed all r
      → AreEntries n count own given r
  entries_judged hours h all sum r agreed = go r agreed where
    is : AreAllRows (typing n) it count hours.items
    is = numbered (typing n) it count hours h

    es : List Entry
    es = entries_in is.typed.xs

    unique : (fs : List Entry) → EntriesFit n count own given fs → given ++ entered_spans fs ≡ all
    unique fs fit =
        let same : fs ≡ es = sym (entries_back 1 fs) ∙ ap entries_in (is.only (numbered_from 1 fs) (rows_of fs fit)) in
        ap (λ xs. given ++ entered_spans xs) same
        ∙ ap (λ spans. given ++ spans) (entries_give hours.items is.typed.xs is.typed.stands) ∙ sym sum

    fit : Agrees all → EntriesFit n count own given es
    fit agrees =
        let numbers = numbers_back 1 is.typed.xs is.counted.1 in record {
          within = entries_within is.typed.xs is.typed.within;
          same = subst (λ rows. IsPermutation rows own) (sym (ap (map (columns_of n)) numbers) ∙ rows_are n 1 es) is.typed.rows;
          count_is = length-map is.typed.xs (λ x. x.entry) ∙ sym (length-map is.typed.xs (λ x. x.number)) ∙ is.counted.0;
          agrees = subst Agrees (sum ∙ ap (λ spans. given ++ spans) (sym (entries_give hours.items is.typed.xs is.typed.stands))) agrees;
        }

    go : (r : Option (Vec Span Global)) → IsAgreed all r → AreEntries n count own given r
    go None agreed = λ fs fits. agreed (subst Agrees (unique fs fits) fits.agrees)
    go (Some list) agreed = ((es, fit agreed.0), λ fs fits. unique fs fits ∙ sym agreed.1)
