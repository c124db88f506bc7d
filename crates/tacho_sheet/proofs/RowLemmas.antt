-- What a reader has yet to read after a row, and that every text has rows.
use Rattle.std.proofs.Common.{Bor, ◌≡◌, ◌<◌, ◌≤◌, ◌+◌, ◌++◌, ◌∷◌, ◌∙◌, ◌==◌, ℕ, Bool, true, false, cond, List, [], Option, Some, None, length, refl, arith, zero, suc, inl}
use Rattle.csv.specs.Machine.{Read, ends_at_end, ends_with, field_after, fields_after, in_field, is_end, next_record, start_field, start_record, step}
use Rattle.csv.specs.Reading.{AreRecords, Reached, ReadRecord, Ready, default_config, is_bom, is_flexible, reader_state, reader_trim, source_of, strip_bom, took_first}
use Rattle.csv.specs.declared.parser.Action.{Action}
use Rattle.csv.specs.declared.parser.State.{State}
use Rattle.csv.specs.declared.parser.State.TheVariants as st
use Rattle.csv.specs.declared.parser.Terminator.TheVariants as term
use Rattle.csv.specs.declared.reader.Reader.{Reader}
use Rattle.csv.specs.declared.reader.Trim.TheVariants as trim
use Rattle.csv.proofs.ReadFacts.{rows-more, rows-end}
use Rattle.tacho_sheet.specs.Rows.{AreLeft, HasLeft, Row}

-- a step that ends a record leads to a state between two records
record Between (next : State × Action) : Type 0 where
  pub between : is_end next.1 ≡ true → ends_at_end next.0 ≡ false

between_if : (b : Bool) (x y : State × Action) → Between x → Between y → Between (cond b x y)
between_if true x y h g = h
between_if false x y h g = g

between_other : (s : State) (a : Action) → is_end a ≡ false → Between (s, a)
between_other s a h = record { between = λ e. absurd (cc (h, e)) }

between_after : (b : Bool) → ends_at_end (cond b st.AfterCr st.StartRecord) ≡ false
between_after true = refl
between_after false = refl

between_field : (c : ℕ) → Between (in_field default_config c)
between_field c =
    between_if (c == 44) _ _ (between_other _ _ refl)
    (between_if (ends_with term.CRLF c) _ _ (record { between = λ e. between_after (c == 13) }) (between_other _ _ refl))

between_start : (c : ℕ) → Between (start_field default_config c)
between_start c = between_if (c == 34) _ _ (between_other _ _ refl) (between_field c)

between_first : (c : ℕ) → Between (start_record default_config c)
between_first c = between_if (ends_with term.CRLF c) _ _ (between_other _ _ refl) (between_start c)

between_step : (s : State) (c : ℕ) → Between (step default_config s c)
between_step st.StartRecord c = between_first c
between_step st.StartField c = between_start c
between_step st.InField c = between_field c
between_step st.InQuoted c = between_if (c == 34) _ _ (between_other _ _ refl) (between_other _ _ refl)
between_step st.InEscape c = between_other _ _ refl
between_step st.AfterQuote c = between_if (c == 34) _ _ (between_other _ _ refl) (between_field c)
between_step st.InComment c = between_if (c == 10) _ _ (between_other _ _ refl) (between_other _ _ refl)
between_step st.AfterCr c = between_if (c == 10) _ _ (between_other _ _ refl) (between_first c)

-- reading a record consumes at least one byte, and leads to a state between two records
record Takes (s : State) (text : List ℕ) (read : Read) : Type 0 where
  pub between : ends_at_end read.1 ≡ false
  pub less : length read.2 ≤ length text
  pub some : ends_at_end s ≡ false → length read.2 < length text

takes : (s : State) (fields : List (List ℕ)) (field text : List ℕ) (read : Read) → next_record default_config s fields field text ≡ Some read → Takes s text read
unfolding next_record
takes s fields field [] read e = go (ends_at_end s) refl e where
  go : (b : Bool) → ends_at_end s ≡ b → cond b (Some (fields ++ (field ∷ []), st.StartRecord, [])) None ≡ Some read → Takes s [] read
  go true t h =
      let same : read ≡ (fields ++ (field ∷ []), st.StartRecord, []) = cc in
      rw same (record { between = refl; less = omega arith; some = λ f. absurd (cc (t, f)) })
  go false t h = absurd (cc h)
takes s fields field (c ∷ rest) read e =
    go (takes (step default_config s c).0 (fields_after (step default_config s c).1 fields field) (field_after (step default_config s c).1 c field) rest read)
    (is_end (step default_config s c).1) refl e where
      Later : Option Read
      Later = next_record default_config (step default_config s c).0 (fields_after (step default_config s c).1 fields field) (field_after (step default_config s c).1 c field) rest

      go : (Later ≡ Some read → Takes (step default_config s c).0 rest read) → (b : Bool) → is_end (step default_config s c).1 ≡ b
          → cond b (Some (fields_after (step default_config s c).1 fields field, (step default_config s c).0, rest)) Later ≡ Some read
          → Takes s (c ∷ rest) read
      go deep true t h =
          let same : read ≡ (fields_after (step default_config s c).1 fields field, (step default_config s c).0, rest) = cc in
          rw same (record { between = (between_step s c).between t; less = omega arith; some = λ f. omega arith })
      go deep false t h =
          let more = deep h in
          record { between = more.between; less = let l = more.less in omega arith; some = λ f. let l = more.less in omega arith }

-- if no record is read, there are no more rows
pub no_row : (s : State) (text : List ℕ) → next_record default_config s [] [] text ≡ None → AreRecords default_config s text []
unfolding Reached
no_row s text e = (s, text, (refl, refl), e)

-- a row, and those after it
row_more : (s : State) (text : List ℕ) (read : Read) (rows : List Row) → next_record default_config s [] [] text ≡ Some read
    → AreRecords default_config read.1 read.2 rows → AreRecords default_config s text (read.0 ∷ rows)
unfolding Reached
row_more s text read rows e h = (h.0, h.1, (read, e, refl, h.2), h.3)

-- every text has rows
rows_below : (n : ℕ) (s : State) (text : List ℕ) → length text < n → ends_at_end s ≡ false → (rows : List Row) × AreRecords default_config s text rows
rows_below zero s text h b = absurd (omega arith)
rows_below (suc n) s text h b = go (rows_below n) (next_record default_config s [] [] text) refl where
  Deep : Type 0
  Deep = (s2 : State) (rest : List ℕ) → length rest < n → ends_at_end s2 ≡ false → (rows : List Row) × AreRecords default_config s2 rest rows

  go : Deep → (o : Option Read) → next_record default_config s [] [] text ≡ o → (rows : List Row) × AreRecords default_config s text rows
  go deep None e = ([], no_row s text e)
  go deep (Some read) e =
      let t = takes s [] [] text read e in
      let l = t.some b in
      let more = deep read.1 read.2 (omega arith) t.between in
      (read.0 ∷ more.0, row_more s text read more.0 e more.1)

-- the rows that a reader has yet to read
pub left_rows : (reader : Reader (Bor (List ℕ))) (text : List ℕ) → HasLeft reader text → (rows : List Row) × AreLeft reader rows
left_rows reader text h =
    let there = rows_below (length text + 1) reader.state text (omega arith) h.between in
    (there.0, (text, h.source, there.1))

-- likewise, by the state and the text after the row
row_goes : (s : State) (text : List ℕ) (read : Read) (fields : Row) (rows : List Row) (s2 : State) (after : List ℕ) → next_record default_config s [] [] text ≡ Some read
    → fields ≡ read.0 → read.1 ≡ s2 → read.2 ≡ after → AreRecords default_config s2 after rows → AreRecords default_config s text (fields ∷ rows)
row_goes s text read fields rows s2 after e f state rest there =
    rw f (row_more s text read rows e (rw (state, rest) there))

-- what a reader has yet to read after a row
pub record IsRowRead (a b : Reader (Bor (List ℕ))) (before : List ℕ) (fields : Row) (after : List ℕ) : Type 0 where
  pub left : HasLeft b after
  pub less : length after < length before
  pub more : (rows : List Row) → AreLeft b rows → AreLeft a (fields ∷ rows)

-- the rows that a reader has yet to read are those of the rest of its text
left_of : (b : Reader (Bor (List ℕ))) (text : List ℕ) (rows : List Row) → source_of (λ s. Some s.now) b ≡ Some text → AreLeft b rows
    → AreRecords default_config b.state text rows
left_of b text rows e there = let same : there.0 ≡ text = cc (e, there.1) in rw same at there.2

-- a read that found a row
pub row_read : (a b : Reader (Bor (List ℕ))) (before : List ℕ) (found : Bool) (fields : Row) → HasLeft a before
    → (reader_trim a ≡ trim.None → Ready a → ReadRecord (λ s. Some s.now) a b found fields) → (reader_trim a ≡ trim.None → took_first b ≡ true)
    → is_flexible b ≡ is_flexible a → found ≡ true → (after : List ℕ) × IsRowRead a b before fields after
unfolding Reached
row_read a b before found fields h reads first kept is =
    let r = rw is at (reads h.trims h.ready) in
    let m = rows-more (λ (s : Bor (List ℕ)). Some s.now) a b fields default_config a.state before before [] h.config h.source (refl, refl) r in
    let read : Read = m.2.0 in
    let t = takes a.state [] [] before read m.2.1 in
    let state : read.1 ≡ b.state = m.2.3.0 in
    let rest : read.2 ≡ m.0 = m.2.3.1 in (
      m.0,
      record {
        left = record { trims = r.3 ∙ h.trims; ready = inl (first h.trims); config = r.2 ∙ h.config; source = m.1; between = rw state at t.between; flexible = kept ∙ h.flexible };
        less = let l = t.some h.between in rw rest at l;
        more = λ rows there. (before, h.source, row_goes a.state before read fields rows b.state m.0 m.2.1 m.2.2 state rest (left_of b m.0 rows m.1 there));
      },
    )

-- a read that found no row
pub row_missing : (a b : Reader (Bor (List ℕ))) (text : List ℕ) (found : Bool) (fields : Row) → HasLeft a text
    → (reader_trim a ≡ trim.None → Ready a → ReadRecord (λ s. Some s.now) a b found fields) → found ≡ false → AreLeft a []
row_missing a b text found fields h reads is =
    let r = rw is at (reads h.trims h.ready) in
    (text, h.source, no_row a.state text (rows-end (λ (s : Bor (List ℕ)). Some s.now) a b fields default_config text h.config h.source r))

-- the rows of a text that a reader has yet to read
pub start_rows : (reader : Reader (Bor (List ℕ))) (text : List ℕ) (rows : List Row) → HasLeft reader text → reader_state reader ≡ st.StartRecord → AreLeft reader rows
    → AreRecords default_config st.StartRecord text rows
start_rows reader text rows h state there = rw state at (left_of reader text rows h.source there)

-- a text without its byte order mark is no longer than with it
pub strip_bom_short : (text : List ℕ) → length (strip_bom text) ≤ length text
unfolding strip_bom
strip_bom_short [] = omega arith
strip_bom_short (a ∷ []) = omega arith
strip_bom_short (a ∷ b ∷ []) = omega arith
strip_bom_short (a ∷ b ∷ c ∷ rest) = go (is_bom a b c) where
  go : (marked : Bool) → length (cond marked rest (a ∷ b ∷ c ∷ rest)) ≤ length (a ∷ b ∷ c ∷ rest)
  go true = omega arith
  go false = omega arith
