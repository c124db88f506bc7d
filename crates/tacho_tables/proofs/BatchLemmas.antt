-- Rows that are added to a table in several calls, a few in each.
use Rattle.std.proofs.Common.{◌≡◌, ◌∙◌, ℕ, ◌+◌, ◌<◌, ◌≤◌, List, [], ◌∷◌, ◌++◌, Ok, ap, drop, get_or, length}
use Rattle.std.proofs.Common.{◌*◌, ◌/◌, ap₂, arith, refl, subst, sym}
use Rattle.std.specs.Borrow.{MutBor}
use Rattle.std.specs.List.Sorted.{IsPermutation}
use Rattle.std.specs.Simd.{first_chunks}
use Rattle.std.proofs.lemmas.List.{drop_all}
use Rattle.std.proofs.lemmas.List.Sorted.{IsPermutation-refl, IsPermutation-trans, IsPermutation-map}
use Rattle.sqlite.specs.Order.{Row}
use Rattle.sqlite.specs.State.{State, HasCleanDisk, KeepsCommit}
use Rattle.sqlite.specs.Store.{Ghosts}
use Rattle.sqlite.specs.Held.{Held, state}
use Rattle.sqlite.specs.Term.{Term}
use Rattle.sqlite_schema.specs.declared.schema.Column.{Column}
use Rattle.tacho_tables.specs.Schema.{Layout}
use Rattle.tacho_tables.specs.Rows.{AreRowsOf}
use Rattle.tacho_tables.specs.Tables.{Tables, HasTables, IsArchive, Turns}
use Rattle.tacho_tables.specs.Calls.{Stays, Changes}
use Rattle.tacho_tables.proofs.CallLemmas.{stays_then}
use Rattle.tacho_tables.proofs.Inside.{keeps_then}
use Rattle.tacho_tables.proofs.Stored.{stands_shuffled}
use Rattle.tacho_tables.proofs.Firsts.{by_places, chunk_long, chunks_joined, chunks_many, joined, moved, next_there}
use Rattle.tacho_tables.proofs.Kept.{kept_itself}
use Rattle.tacho_tables.proofs.TableLemmas.{IsTable}

-- the rows `left` together with the present rows are `all` together with the old rows, up to order
pub record HasLeft {R : Type 0} (get : Tables → List R) (put : List R → Tables → Tables) (all left : List R) (old now : State) : Type 0 where
  pub schema : IsArchive now.now
  pub rows : (a : Tables) → HasTables old.now.trees a
      → (some : List R) × HasTables now.now.trees (put some a) × IsPermutation (all ++ get a) (left ++ some)

-- the calls so far added all rows of `all` except `others`
pub record HasStill {S : Type 0} (g : Ghosts S) {R : Type 0} (get : Tables → List R) (put : List R → Tables → Tables) (all others : List R)
    (old now : MutBor (Held S)) : Type 0 where
  pub stays : Stays g old now
  pub keeps : HasCleanDisk (state g now.now) → KeepsCommit (state g old.now) (state g now.now)
  pub left : HasCleanDisk (state g now.now) → IsArchive (state g old.now).now → HasLeft get put all others (state g old.now) (state g now.now)

module _ {R : Type 0} {columns : R → Row} {name : List ℕ} {kinds : List Column} {checks : List Term} {place tree : Layout → ℕ}
    {get : Tables → List R} {put : List R → Tables → Tables} (table : IsTable columns name kinds checks place tree get put) where
  -- before the first call, all rows are left to add
  all_left : (all : List R) (old : State) → IsArchive old.now → HasLeft get put all all old old
  all_left all old is = record {
    schema = is;
    rows = λ a s. (get a, subst (HasTables old.now.trees) (sym (table.same a)) s, IsPermutation-refl (all ++ get a));
  }

  -- a step adds `some`, so that `left` is left to add
  leaves_some : (all some left : List R) (old mid now : State) → HasLeft get put all (some ++ left) old mid
      → Turns mid now (λ a. put (some ++ get a) a) → HasLeft get put all left old now
  leaves_some all some left old mid now was turned = record {
    schema = turned.schema;
    rows = λ a stood.
        let it = was.rows a stood in (
          some ++ it.0,
          rw (table.again it.0 (some ++ get (put it.0 a)) a, table.got it.0 a) at (turned.stands (put it.0 a) it.1),
          IsPermutation-trans _ _ _ it.2 (moved some left it.0),
        );
  }

  -- once no row is left, all were added
  all_added : (all : List R) (old now : State) → HasLeft get put all [] old now → Turns old now (λ a. put (all ++ get a) a)
  all_added all old now last = record {
    schema = last.schema;
    stands = λ a s.
        let it = last.rows a s in
        let db = now.now.trees in
        let layout = it.1.layout in
        let more = all ++ get a in
        let some = subst (AreRowsOf columns (db (tree layout))) (table.got it.0 a) (table.stands layout db (put it.0 a) it.1 refl) in
        subst (HasTables db) (table.again it.0 more a)
        (table.changed layout db db (put it.0 a) it.1.sound it.1 refl (kept_itself layout (tree layout) db) more
        (stands_shuffled columns (db (tree layout)) it.0 more some (IsPermutation-map columns more it.0 it.2)));
  }

  -- the rows of a list, whose numbers may count up from a first number
  module _ {X : Type 0} (row : ℕ → X → R) (rows : ℕ → List X → List R) (nothing : (n : ℕ) → rows n [] ≡ [])
      (follows : (n : ℕ) (x : X) (xs : List X) → rows n (x ∷ xs) ≡ row n x ∷ rows (n + 1) xs) where
    -- the rows of a list are those of a part of it, and then those of the rest
    split : (n : ℕ) (part rest : List X) → rows n (part ++ rest) ≡ rows n part ++ rows (n + length part) rest
    split n [] rest =
        let same : n ≡ n + 0 = omega arith in
        ap (λ k. rows k rest) same ∙ ap (λ l. l ++ rows (n + 0) rest) (sym (nothing n))
    split n (x ∷ part) rest =
        let last : n + 1 + length part ≡ n + length (x ∷ part) = omega arith in
        follows n x (part ++ rest)
        ∙ ap (λ l. row n x ∷ l) (split (n + 1) part rest ∙ ap (λ k. rows (n + 1) part ++ rows k rest) last)
        ∙ ap (λ l. l ++ rows (n + length (x ∷ part)) rest) (sym (follows n x part))

    -- the rows of four elements
    four_rows : (n : ℕ) (a b c d : X) → rows n (a ∷ b ∷ c ∷ d ∷ []) ≡ row n a ∷ row (n + 1) b ∷ row (n + 2) c ∷ row (n + 3) d ∷ []
    four_rows n a b c d =
        let two : n + 1 + 1 ≡ n + 2 = omega arith in
        let three : n + 2 + 1 ≡ n + 3 = omega arith in
        follows n a (b ∷ c ∷ d ∷ [])
        ∙ ap (λ l. row n a ∷ l) (follows (n + 1) b (c ∷ d ∷ []) ∙ ap (λ k. row (n + 1) b ∷ rows k (c ∷ d ∷ [])) two)
        ∙ ap (λ l. row n a ∷ row (n + 1) b ∷ l) (follows (n + 2) c (d ∷ []) ∙ ap (λ k. row (n + 2) c ∷ rows k (d ∷ [])) three)
        ∙ ap (λ l. row n a ∷ row (n + 1) b ∷ row (n + 2) c ∷ l)
        (follows (n + 3) d [] ∙ ap (λ l. row (n + 3) d ∷ l) (nothing (n + 3 + 1)))

    -- before the first chunk, all chunks and `rest` are left to add
    pub left_in_chunks : (n first : ℕ) (xs : List X) {chunks : List (List X)} {rest : List X} (old : State)
        → chunks ≡ first_chunks n (length xs / n) xs → rest ≡ drop (length xs / n * n) xs → IsArchive old.now
        → HasLeft get put (rows first xs) (rows first (joined chunks rest)) old old
    left_in_chunks n first xs {chunks} {rest} old front back is =
        subst (λ l. HasLeft get put (rows first xs) (rows first l) old old)
        (sym (ap₂ joined front back ∙ chunks_joined n (length xs / n) xs)) (all_left (rows first xs) old is)

    module _ {S : Type 0} {g : Ghosts S} {all : List R} where
      -- once all chunks are added, only `rest` is left to add
      pub added_chunks : (chunks : List (List X)) (rest : List X) {count number : ℕ} {old now : MutBor (Held S)}
          → HasStill g get put all (rows number (joined (drop count chunks) rest)) old now → length chunks ≤ count
          → HasStill g get put all (rows number rest) old now
      added_chunks chunks rest {count} {number} {old} {now} was past =
          subst (λ l. HasStill g get put all (rows number (joined l rest)) old now) (drop_all count chunks past) was

    module _ {S : Type 0} {g : Ghosts S} {all : List R} {A E : Type 0} {x : A} where
      -- one call adds some rows, so that `others` are left to add
      adds_some : (some others : List R) {old mid now : MutBor (Held S)} → HasStill g get put all (some ++ others) old mid
          → Changes g mid now {A = A} {E = E} (Ok x) (λ a. put (some ++ get a) a) → HasStill g get put all others old now
      adds_some some others {old} {mid} {now} was it = record {
        stays = stays_then was.stays it.stays;
        keeps = λ clean. keeps_then (state g old.now) (state g mid.now) (state g now.now) (was.keeps (it.stays.clean clean)) (it.keeps clean);
        left = λ clean is.
            let had = was.left (it.stays.clean clean) is in
            leaves_some all some others (state g old.now) (state g mid.now) (state g now.now) had (it.turned clean had.schema);
      }

      -- one call adds the next chunk; the later chunks and `rest` are left to add
      pub adds_chunk : (d : List X) (chunks : List (List X)) (rest : List X) {count number : ℕ} {old mid now : MutBor (Held S)}
          → HasStill g get put all (rows number (joined (drop count chunks) rest)) old mid → count < length chunks
          → Changes g mid now {A = A} {E = E} (Ok x) (λ a. put (rows number (get_or chunks count d) ++ get a) a)
          → HasStill g get put all (rows (number + length (get_or chunks count d)) (joined (drop (count + 1) chunks) rest)) old now
      adds_chunk d chunks rest {count} {number} {old} {mid} {now} was within it =
          let chunk = get_or chunks count d in
          let others = joined (drop (count + 1) chunks) rest in
          adds_some (rows number chunk) (rows (number + length chunk) others)
          (subst (λ l. HasStill g get put all l old mid)
          (ap (λ l. rows number (joined l rest)) (next_there d count chunks within) ∙ split number chunk others) was) it

      -- one call adds the next four; the later chunks and `rest` are left to add
      pub adds_four : (d : X) (xs rest : List X) {fours : List (List X)} {count number : ℕ} {p q r s : R}
          {old mid now : MutBor (Held S)}
          → HasStill g get put all (rows number (joined (drop count fours) rest)) old mid
          → fours ≡ first_chunks 4 (length xs / 4) xs → count < length fours
          → p ≡ row number (get_or (get_or fours count []) 0 d) → q ≡ row (number + 1) (get_or (get_or fours count []) 1 d)
          → r ≡ row (number + 2) (get_or (get_or fours count []) 2 d) → s ≡ row (number + 3) (get_or (get_or fours count []) 3 d)
          → Changes g mid now {A = A} {E = E} (Ok x) (λ a. put (p ∷ q ∷ r ∷ s ∷ get a) a)
          → HasStill g get put all (rows (number + 4) (joined (drop (count + 1) fours) rest)) old now
      adds_four d xs rest {fours} {count} {number} {p} {q} {r} {s} {old} {mid} {now} was front within first second third fourth it =
          let four = get_or fours count [] in
          let many : length fours ≡ length xs / 4 = ap length front ∙ chunks_many 4 (length xs / 4) xs in
          let long : length four ≡ 4 = ap (λ l. length (get_or l count [])) front
          ∙ chunk_long [] 4 (length xs / 4) xs (omega arith) count (omega (arith, within, many)) in
          let same : rows number four ≡ p ∷ q ∷ r ∷ s ∷ [] =
          ap (rows number) (by_places d 4 four long) ∙ four_rows number (get_or four 0 d) (get_or four 1 d) (get_or four 2 d) (get_or four 3 d)
          ∙ ap₂ (λ x y. x ∷ y ∷ row (number + 2) (get_or four 2 d) ∷ row (number + 3) (get_or four 3 d) ∷ []) (sym first) (sym second)
          ∙ ap₂ (λ x y. p ∷ q ∷ x ∷ y ∷ []) (sym third) (sym fourth) in
          subst (λ k. HasStill g get put all (rows (number + k) (joined (drop (count + 1) fours) rest)) old now) long
          (adds_chunk [] fours rest was within (subst (λ l. Changes g mid now {A = A} {E = E} (Ok x) (λ a. put (l ++ get a) a)) (sym same) it))

      -- one call adds the next row that is left
      pub adds_one : (d : X) (left : List X) {count number : ℕ} {r : R} {old mid now : MutBor (Held S)}
          → HasStill g get put all (rows number (drop count left)) old mid → count < length left → r ≡ row number (get_or left count d)
          → Changes g mid now {A = A} {E = E} (Ok x) (λ a. put (r ∷ get a) a)
          → HasStill g get put all (rows (number + 1) (drop (count + 1) left)) old now
      adds_one d left {count} {number} {r} {old} {mid} {now} was within is it =
          let others = rows (number + 1) (drop (count + 1) left) in
          adds_some (r ∷ []) others
          (subst (λ l. HasStill g get put all l old mid)
          (ap (rows number) (next_there d count left within) ∙ follows number (get_or left count d) (drop (count + 1) left)
          ∙ ap (λ x. x ∷ others) (sym is)) was) it

      -- once no row is left, all were added
      pub added_all : (left : List X) {count number : ℕ} {old now : MutBor (Held S)}
          → HasStill g get put all (rows number (drop count left)) old now → length left ≤ count
          → Changes g old now {A = A} {E = E} (Ok x) (λ a. put (all ++ get a) a)
      added_all left {count} {number} {old} {now} was past = record {
        stays = was.stays;
        keeps = was.keeps;
        turned = λ clean is. all_added all (state g old.now) (state g now.now)
            (subst (λ l. HasLeft get put all l (state g old.now) (state g now.now)) (ap (rows number) (drop_all count left past) ∙ nothing number)
            (was.left clean is));
      }
