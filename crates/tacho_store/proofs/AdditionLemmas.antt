-- An import that adds a download, and an import that adds none.
use Rattle.std.proofs.Common.{◌≡◌, ◌∙◌, ℕ, ◌+◌, ◌<◌, ◌≤◌, ◌==◌, Bool, true, false, cond, List, [], ◌∷◌, length, Some, None, Ok, Err, refl, sym, ap, subst, arith}
use Rattle.std.specs.Prelude.{nat_le}
use Rattle.std.proofs.lemmas.Bool.Decides.{nat_tests}
use Rattle.tacho_time.specs.declared.span.Span.{Span}
use Rattle.tacho_state.specs.declared.imported.Imported.TheVariants.{Added, Repeated}
use Rattle.tacho_state.specs.declared.fault.StoreFault.TheVariants.{Full}
use Rattle.tacho_state.specs.Limits.{next_number}
use Rattle.tacho_state.specs.State.{Driver, State, driver_of, put, with_download}
use Rattle.tacho_state.specs.Steps.{turn_of, import_own, most_records}
use Rattle.tacho_state.proofs.PutLemmas.{found_number}
use Rattle.tacho_store.specs.declared.import.Importer.{Importer}
use Rattle.tacho_store.specs.Importing.{IsImporterOf, AreAdded}
use Rattle.sqlite.specs.Tree.{Trees}

-- ---- numbers

-- a number that is given out is the next one, and at most `most_records`
pub numbered : (given n : ℕ) → next_number given 1 ≡ Some n → (given < most_records) × (n ≡ 1 + given)
numbered given n is = go (nat_le (given + 1) 1000000) refl is where
  go : (b : Bool) → nat_le (given + 1) 1000000 ≡ b → cond b (Some (given + 1)) None ≡ Some n → (given < most_records) × (n ≡ 1 + given)
  go true room e = (grind (arith, nat_tests), (let both : given + 1 ≡ n = (let same = e in cc) in omega (arith, both)))
  go false full e = absurd (let same = e in cc)

-- no number is given out only if all are used
pub unnumbered : (given : ℕ) → next_number given 1 ≡ None → most_records ≤ given
unnumbered given is = go (nat_le (given + 1) 1000000) refl is where
  go : (b : Bool) → nat_le (given + 1) 1000000 ≡ b → cond b (Some (given + 1)) None ≡ None → most_records ≤ given
  go true room e = absurd (let same = e in cc)
  go false full e = grind (arith, nat_tests)

-- ---- a repeated file

-- putting a driver in their own place changes nothing
put_self : (d : Driver) (s : State) → driver_of d.number s ≡ Some d → put d s ≡ s
put_self d [] e = refl
put_self d (x ∷ s) e = go (x.number == d.number) refl e (put_self d s) where
  go : (b : Bool) → (x.number == d.number) ≡ b → cond b (Some x) (driver_of d.number s) ≡ Some d
      → (driver_of d.number s ≡ Some d → put d s ≡ s) → cond b (d ∷ s) (x ∷ put d s) ≡ x ∷ s
  go true o f more = let same : x ≡ d = (let both = f in cc) in ap (λ y. y ∷ s) (sym same)
  go false o f more = ap (λ y. x ∷ y) (more f)

-- the driver has the importer's number
pub own_number : (s : State) (d : Driver) (it : Importer) → IsImporterOf s d it → d.number ≡ it.number
own_number s d it is = found_number it.number s d is.found

-- a repeated file is answered as repeated, and the state stays as it is
pub repeated_answer : (s : State) (d : Driver) (it : Importer) (part : ℕ) (file : List ℕ) (spans : List Span) → IsImporterOf s d it
    → import_own part file spans d ≡ Ok (Repeated d.number, d)
    → (turn_of s (import_own part file spans d)).answer ≡ Ok (Repeated it.number)
repeated_answer s d it part file spans is own = ap (λ r. (turn_of s r).answer) own ∙ ap (λ n. Ok (Repeated n)) (own_number s d it is)

pub repeated_after : (s : State) (d : Driver) (it : Importer) (part : ℕ) (file : List ℕ) (spans : List Span) → IsImporterOf s d it
    → import_own part file spans d ≡ Ok (Repeated d.number, d)
    → (turn_of s (import_own part file spans d)).after ≡ s
repeated_after s d it part file spans is own = ap (λ r. (turn_of s r).after) own
    ∙ put_self d s (subst (λ n. driver_of n s ≡ Some d) (sym (own_number s d it is)) is.found)

-- ---- a download that is added

module _ (db : Trees) (s : State) (d : Driver) (it : Importer) (part : ℕ) (file : List ℕ) (spans cards helds : List Span)
    (is : IsImporterOf s d it) (new : AreAdded db s it.number d spans cards helds) where
  -- no number is left: S14
  pub full_answer : next_number it.downloads 1 ≡ None → (turn_of s (import_own part file spans d)).answer ≡ Err Full
  full_answer none = ap (λ r. (turn_of s r).answer) (new.full part file (subst (λ n. most_records ≤ n) is.downloads (unnumbered it.downloads none)))

  -- a number is left: the download is added
  own_added : (n : ℕ) → next_number it.downloads 1 ≡ Some n
      → import_own part file spans d ≡ Ok (Added d.number (1 + length d.downloads), with_download part file spans d)
  own_added n some = new.added part file (subst (λ m. m < most_records) is.downloads (numbered it.downloads n some).0)

  -- the number is that of the new download
  pub count_is : (n : ℕ) → next_number it.downloads 1 ≡ Some n → n ≡ 1 + length d.downloads
  count_is n some = (numbered it.downloads n some).1 ∙ ap (λ m. 1 + m) is.downloads

  -- the answer gives this number
  pub added_answer : (n : ℕ) → next_number it.downloads 1 ≡ Some n
      → (turn_of s (import_own part file spans d)).answer ≡ Ok (Added it.number n)
  added_answer n some = ap (λ r. (turn_of s r).answer) (own_added n some)
      ∙ ap (λ m. Ok (Added m (1 + length d.downloads))) (own_number s d it is) ∙ ap (λ m. Ok (Added it.number m)) (sym (count_is n some))

  -- the state after the import has the download
  pub added_after : (n : ℕ) → next_number it.downloads 1 ≡ Some n
      → (turn_of s (import_own part file spans d)).after ≡ put (with_download part file spans d) s
  added_after n some = ap (λ r. (turn_of s r).after) (own_added n some)
