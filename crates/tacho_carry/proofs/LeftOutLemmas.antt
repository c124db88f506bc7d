-- A driver who is left out, by what is listed of them.
use Rattle.std.proofs.Common.{◌≡◌, ◌∙◌, ℕ, ◌+◌, ◌*◌, ◌==◌, ◌&&◌, ◌||◌, nat_lt, not, Bool, true, false, cond, List, [], ◌∷◌, filter}
use Rattle.std.proofs.Common.{length, map, refl, sym, ap, arith}
use Rattle.std.specs.List.{list_any}
use Rattle.std.proofs.lemmas.Bool.Decides.{nat_tests}
use Rattle.tacho_state.specs.Content.{AreRead}
use Rattle.tacho_state.specs.Files.{listed_file, listed_from, told_file}
use Rattle.tacho_state.specs.State.{Download, Driver, Entry}
use Rattle.tacho_state.specs.Steps.{numbered_from}
use Rattle.tacho_state.specs.declared.entry.Entry.{Entry as Listed}
use Rattle.tacho_state.specs.declared.file.FileSummary.{FileSummary}
use Rattle.tacho_carry.specs.Carried.{carried_entries, carried_files, is_left_out, is_nil, reaches}
use Rattle.tacho_carry.proofs.EntryLemmas.{is_listed_carried}
use Rattle.tacho_carry.proofs.FileLemmas.{IsReadAs, reaches_listed}

-- a listed card file is one that is carried exactly if its past is after `start`
abbrev pub is_late : ℕ → FileSummary → Bool
is_late start f = nat_lt start f.past

-- a filtered list has an element exactly if the first passes or the rest has one
some_kept : {A : Type 0} (p : A → Bool) (x : A) (xs : List A) (b : Bool) → p x ≡ b
    → not (is_nil (filter p (x ∷ xs))) ≡ b || not (is_nil (filter p xs))
some_kept p x xs true e = ap (λ c. not (is_nil (cond c (x ∷ filter p xs) (filter p xs)))) e
some_kept p x xs false e = ap (λ c. not (is_nil (cond c (x ∷ filter p xs) (filter p xs)))) e

-- one of the card files is carried exactly if one of those that are listed is late
pub any_file : (start i : ℕ) (ds : List Download) (files : List FileSummary) → AreRead ds → map told_file files ≡ listed_from i ds
    → list_any (is_late start) files ≡ not (is_nil (carried_files start ds))
any_file start i [] [] read listed = refl
any_file start i [] (f ∷ files) read listed = absurd (let wrong = listed in cc)
any_file start i (d ∷ ds) [] read listed = absurd (let wrong = listed in cc)
any_file start i (d ∷ ds) (f ∷ files) read listed =
    let first : told_file f ≡ listed_file i d = cc in
    let rest : map told_file files ≡ listed_from (i + 1) ds = cc in
    let own : IsReadAs d = record { part = read.0.0; holder = read.0.1; is = read.0.2; tells = read.0.3 } in
    ap (λ b. nat_lt start f.past || b) (any_file start (i + 1) ds files read.1 rest)
    ∙ sym (some_kept (λ (x : Download). reaches start x.spans) d ds (nat_lt start f.past) (reaches_listed start i f d own first))

-- likewise of the entries
pub any_entry : (start i : ℕ) (es : List Entry)
    → list_any (is_listed_carried start) (numbered_from i es) ≡ not (is_nil (carried_entries start es))
any_entry start i [] = refl
any_entry start i (e ∷ es) =
    ap (λ b. (not e.withdrawn && nat_lt start e.past) || b) (any_entry start (i + 1) es)
    ∙ sym (some_kept (λ (x : Entry). not x.withdrawn && nat_lt start x.past) e es (not e.withdrawn && nat_lt start e.past) refl)

-- as many are listed as there are: none or some
no_file : (i : ℕ) (ds : List Download) (files : List FileSummary) → map told_file files ≡ listed_from i ds → is_nil files ≡ is_nil ds
no_file i [] [] listed = refl
no_file i [] (f ∷ files) listed = absurd (let wrong = listed in cc)
no_file i (d ∷ ds) [] listed = absurd (let wrong = listed in cc)
no_file i (d ∷ ds) (f ∷ files) listed = refl

no_entry : (i : ℕ) (es : List Entry) → is_nil (numbered_from i es) ≡ is_nil es
no_entry i [] = refl
no_entry i (e ∷ es) = refl

-- two negations cancel
not_not : (b : Bool) → not (not b) ≡ b
not_not true = refl
not_not false = refl

-- a driver is left out exactly if they had card files or entries, and none of those that are listed is carried
pub left_out_listed : (day : ℕ) (d : Driver) (files : List FileSummary) (entries : List Listed)
    → map told_file files ≡ listed_from 1 d.downloads
    → entries ≡ numbered_from 1 d.entries → AreRead d.downloads
    → not (is_nil files && is_nil entries) &&
    (not (list_any (is_late (1440 * day)) files) && not (list_any (is_listed_carried (1440 * day)) entries))
    ≡ is_left_out day d
left_out_listed day d files entries listed entered read =
    rw (
      any_file (1440 * day) 1 d.downloads files read listed,
      no_file 1 d.downloads files listed,
      entered,
      any_entry (1440 * day) 1 d.entries,
      no_entry 1 d.entries,
      not_not (is_nil (carried_files (1440 * day) d.downloads)),
      not_not (is_nil (carried_entries (1440 * day) d.entries)),
    ) refl

-- a list without elements is empty, by its length
pub nil_length : {A : Type 0} (xs : List A) → is_nil xs ≡ (length xs == 0)
nil_length [] = grind (arith, nat_tests)
nil_length (x ∷ xs) = grind (arith, nat_tests)
