-- Three and five fields of a record, and the lines of one more row.
use Rattle.std.proofs.Common.{◌≡◌, ◌<◌, ◌+◌, ◌++◌, ◌∷◌, ℕ, List, [], Some, None, Result, Ok, Err, Vec, IsErrAnd, length, refl, sym, ap, arith, suc, zero, append_assoc, codes, ◌∙◌, ◌⊎◌, inl, inr}
use Rattle.std.specs.declared.alloc.Global.{Global}
use Rattle.std.proofs.lemmas.List.{append-nil}
use Rattle.std.specs.Option.{option_map}
use Rattle.csv.specs.Records.{field_at}
use Rattle.tacho_sheet.specs.Rows.{IsReaderFault, Row, three_of, five_of}
use Rattle.tacho_sheet.specs.Entries.{RowAnswer, Lines, file_answer, head_of, row_answer, lines_from, lines_told, put_first, texts_of}
use Rattle.tacho_sheet.specs.declared.entries.Head.{Head}
use Rattle.tacho_sheet.specs.declared.entries.Head.TheVariants as head
use Rattle.tacho_sheet.specs.declared.fault.SheetFault.{SheetFault}
use Rattle.tacho_sheet.specs.declared.fault.SheetFault.TheVariants as fault
use Rattle.tacho_state.specs.Batch.{Hours}
use Rattle.tacho_state.specs.declared.entry.EntryLine.{EntryLine}

-- three fields, by their places
pub three_at : (fields : List (List ℕ)) (a b c : List ℕ) → length fields ≡ 3 → Some a ≡ field_at fields 0 → Some b ≡ field_at fields 1
    → Some c ≡ field_at fields 2 → three_of fields ≡ Some (a, b, c)
unfolding field_at
three_at [] a b c n x y z = absurd (omega arith)
three_at (p ∷ []) a b c n x y z = absurd (omega arith)
three_at (p ∷ q ∷ []) a b c n x y z = absurd (omega arith)
three_at (p ∷ q ∷ r ∷ []) a b c n x y z = let e : a ≡ p = cc in let f : b ≡ q = cc in let g : c ≡ r = cc in rw (e, f, g)
three_at (p ∷ q ∷ r ∷ s ∷ more) a b c n x y z = absurd (omega arith)

-- a field exists at each index below the length
pub field_there : (fields : List (List ℕ)) (i : ℕ) → i < length fields → None ≡ field_at fields i → ⊥
unfolding field_at
field_there [] i h e = omega arith
field_there (p ∷ rest) zero h e = cc e
field_there (p ∷ rest) (suc i) h e = field_there rest i (omega arith) e

-- lines are prepended to a line and those after it
pub put_first-append : (front : List Hours) (line : Hours) (r : Lines)
    → put_first front (put_first (line ∷ []) r) ≡ put_first (front ++ line ∷ []) r
put_first-append front line (Ok rest) = ap Ok (sym (append_assoc front (line ∷ []) rest))
put_first-append front line (Err e) = refl

-- one more row that has a line
pub lines_more : (head : Head) (front : List Hours) (row before : ℕ) (fields : Row) (rows : List Row) (line : Hours)
    → row_answer head row before fields ≡ Ok line → put_first front (lines_from head row before (fields ∷ rows))
    ≡ put_first (front ++ line ∷ []) (lines_from head (row + 1) line.past rows)
unfolding lines_from
lines_more head front row before fields rows line e = rw e (put_first-append front line (lines_from head (row + 1) line.past rows))

-- a row that has a fault
pub lines_stop : (head : Head) (front : List Hours) (row before : ℕ) (fields : Row) (rows : List Row) (found : SheetFault)
    → row_answer head row before fields ≡ Err found → put_first front (lines_from head row before (fields ∷ rows)) ≡ Err found
unfolding lines_from
lines_stop head front row before fields rows found e = rw e refl

-- if the first row is no head, the answer is E1
pub head_wrong : (first : Row) (rows : List Row) → head_of first ≡ None → Err fault.Head ≡ file_answer (first ∷ rows)
head_wrong first rows h = rw h refl

-- if the first row is a head, the answer is that of the rows after it
pub head_right : (head : Head) (first : Row) (rows : List Row) (told : Lines) → head_of first ≡ Some head → told ≡ lines_from head 2 0 rows
    → told ≡ file_answer (first ∷ rows)
head_right head first rows told h e = rw h e

-- an answer that is a fault
pub told_fault : (answer : Result (Vec EntryLine Global) SheetFault) (found : SheetFault) → IsErrAnd answer (λ e. e ≡ found)
    → lines_told answer ≡ Err found
told_fault (Ok lines) found h = absurd h
told_fault (Err e) found h = ap Err h

-- an answer that is out of memory
pub told_memory : (answer : Result (Vec EntryLine Global) SheetFault) (line : RowAnswer) (found : SheetFault)
    → IsErrAnd answer (λ e. e ≡ found) → line ≡ Err found → IsErrAnd line (λ e. e ≡ fault.Memory) → IsErrAnd answer IsReaderFault
told_memory (Ok lines) line found h is memory = absurd h
told_memory (Err e) line found h is memory = let same : e ≡ fault.Memory = h ∙ (rw is at memory) in rw same tt

-- an answer that is a line
pub told_line : (P : SheetFault → Type 0) (answer told : RowAnswer) (line : Hours) → IsErrAnd answer P ⊎ (answer ≡ told) → answer ≡ Ok line
    → told ≡ Ok line
told_line P (Ok x) told line (inl h) is = absurd h
told_line P (Err e) told line (inl h) is = absurd (cc is)
told_line P answer told line (inr h) is = sym h ∙ is

-- no row remains
pub lines_end : (head : Head) (front : List Hours) (row before : ℕ) → put_first front (lines_from head row before []) ≡ Ok front
unfolding lines_from
lines_end head front row before = ap Ok (append-nil front)

-- no line yet
pub put_none : (told : Lines) → told ≡ put_first [] told
put_none (Ok lines) = refl
put_none (Err e) = refl

-- five fields, by their places
pub five_at : (fields : List (List ℕ)) (a b c d e : List ℕ) → length fields ≡ 5 → Some a ≡ field_at fields 0 → Some b ≡ field_at fields 1
    → Some c ≡ field_at fields 2 → Some d ≡ field_at fields 3 → Some e ≡ field_at fields 4
    → five_of fields ≡ Some (a, b, c, d, e)
unfolding field_at
five_at [] a b c d e n va vb vc vd ve = absurd (omega arith)
five_at (p ∷ []) a b c d e n va vb vc vd ve = absurd (omega arith)
five_at (p ∷ q ∷ []) a b c d e n va vb vc vd ve = absurd (omega arith)
five_at (p ∷ q ∷ r ∷ []) a b c d e n va vb vc vd ve = absurd (omega arith)
five_at (p ∷ q ∷ r ∷ s ∷ []) a b c d e n va vb vc vd ve = absurd (omega arith)
five_at (p ∷ q ∷ r ∷ s ∷ t ∷ []) a b c d e n va vb vc vd ve =
    let ea : a ≡ p = cc in let eb : b ≡ q = cc in let ec : c ≡ r = cc in let ed : d ≡ s = cc in let ee : e ≡ t = cc in
    rw (ea, eb, ec, ed, ee)
five_at (p ∷ q ∷ r ∷ s ∷ t ∷ u ∷ more) a b c d e n va vb vc vd ve = absurd (omega arith)

-- the texts of a row with three columns are its fields
pub three_texts : (row : Row) → texts_of head.Three row
    ≡ option_map (λ t. record { start = t.0; past = t.1; activity = t.2; author = codes "office"; note = [] }) (three_of row)
three_texts [] = refl
three_texts (a ∷ []) = refl
three_texts (a ∷ b ∷ []) = refl
three_texts (a ∷ b ∷ c ∷ []) = refl
three_texts (a ∷ b ∷ c ∷ d ∷ more) = refl

-- the texts of a row with five columns are its fields
pub five_texts : (row : Row) → texts_of head.Five row
    ≡ option_map (λ f. record { start = f.0; past = f.1; activity = f.2; author = f.3; note = f.4 }) (five_of row)
five_texts [] = refl
five_texts (a ∷ []) = refl
five_texts (a ∷ b ∷ []) = refl
five_texts (a ∷ b ∷ c ∷ []) = refl
five_texts (a ∷ b ∷ c ∷ d ∷ []) = refl
five_texts (a ∷ b ∷ c ∷ d ∷ e ∷ []) = refl
five_texts (a ∷ b ∷ c ∷ d ∷ e ∷ f ∷ more) = refl
