use Rattle.std.proofs.Common.{◌∙◌, ◌∷◌, [], sym, refl, inl, inr, arith}
use Rattle.csv.specs.Reading.{strip_bom}
use Rattle.csv.specs.Records.{fields_of}
use Rattle.tacho_sheet.specs.Rows.{AreLeft, IsReaderFault}
use Rattle.tacho_sheet.proofs.BatchLemmas.{told_fits}
use Rattle.tacho_sheet.proofs.EntryLemmas.{head_wrong, head_right}
use Rattle.tacho_sheet.proofs.RowLemmas.{row_read, row_missing, left_rows, start_rows, strip_bom_short}
use Rattle.tacho_sheet.proofs.entries.read_entries.Goals as goal

pub returns-then-not-branch-clause-read : goal.returns-then-not-branch-clause-read
returns-then-not-branch-clause-read c =
    let reader = c.row_reader-reader.ensures in
    let read = c.in_ok-read_byte_record.ensures in
    let none =
    row_missing c.row_reader-reader.result c.read_byte_record.new.self (strip_bom c.args.text.now) c.in_ok-read_byte_record.field-0
    (fields_of c.read_byte_record.new.row) reader.text read.reads c.if-not-branch.true in
    inr ([], start_rows c.row_reader-reader.result (strip_bom c.args.text.now) [] reader.text reader.state none, refl)

pub returns-in_default-clause-read : goal.returns-in_default-clause-read
returns-in_default-clause-read c =
    let reader = c.row_reader-reader.ensures in
    let read = c.in_ok-read_byte_record.ensures in
    let first = fields_of c.read_byte_record.new.row in
    let after =
    row_read c.row_reader-reader.result c.read_byte_record.new.self (strip_bom c.args.text.now) c.in_ok-read_byte_record.field-0 first
    reader.text read.reads read.ready read.flexible c.if-not-branch.false in
    let rest = left_rows c.read_byte_record.new.self after.0 after.1.left in
    let all = after.1.more rest.0 rest.1 in
    inr (
      first ∷ rest.0,
      start_rows c.row_reader-reader.result (strip_bom c.args.text.now) _ reader.text reader.state all,
      head_wrong first rest.0 (sym c.head_row.ensures ∙ c.in_default.is),
    )

pub lines_of_rows-requires : goal.lines_of_rows-requires
lines_of_rows-requires c =
    let reader = c.row_reader-reader.ensures in
    let read = c.in_ok-read_byte_record.ensures in
    let after =
    row_read c.row_reader-reader.result c.read_byte_record.new.self (strip_bom c.args.text.now) c.in_ok-read_byte_record.field-0
    (fields_of c.read_byte_record.new.row) reader.text read.reads read.ready read.flexible c.if-not-branch.false in
    let less = after.1.less in
    let short = strip_bom_short c.args.text.now in
    (after.0, after.1.left, omega arith)

pub returns-clause-read : goal.returns-clause-read
returns-clause-read c =
    let reader = c.row_reader-reader.ensures in
    let read = c.in_ok-read_byte_record.ensures in
    let first = fields_of c.read_byte_record.new.row in
    let after =
    row_read c.row_reader-reader.result c.read_byte_record.new.self (strip_bom c.args.text.now) c.in_ok-read_byte_record.field-0 first
    reader.text read.reads read.ready read.flexible c.if-not-branch.false in
    elim c.lines_of_rows.ensures [
      | inl fault ↦ inl fault
      | inr told ↦
          let all = after.1.more told.0 told.1 in
          inr (
            first ∷ told.0,
            start_rows c.row_reader-reader.result (strip_bom c.args.text.now) _ reader.text reader.state all,
            head_right c.in-Some.head first told.0 _ (sym c.head_row.ensures ∙ c.in-Some.is) told.2,
          )
    ]

pub returns-clause-batch : goal.returns-clause-batch
returns-clause-batch c =
    told_fits IsReaderFault (AreLeft c.read_byte_record.new.self) c.lines_of_rows.result c.in-Some.head 2 0 c.lines_of_rows.ensures
