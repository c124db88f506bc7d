use Rattle.std.proofs.Common.{rules, ◌≡◌, ◌∙◌, [], ◌∷◌, ◌++◌, sym, arith, inl, inr, true}
use Rattle.std.specs.Result.{is_ok}
use Rattle.csv.specs.Records.{fields_of}
use Rattle.tacho_sheet.specs.Entries.{lines_from}
use Rattle.tacho_sheet.specs.declared.fault.SheetFault.TheVariants as fault
use Rattle.tacho_sheet.proofs.EntryLemmas.{lines_more, lines_stop, lines_end, put_none, told_fault, told_line, told_memory}
use Rattle.tacho_sheet.proofs.RowLemmas.{row_read, row_missing, left_rows}
use Rattle.tacho_sheet.proofs.entries.lines_of_rows.Goals as goal

pub loop-lines-init : goal.loop-lines-init
loop-lines-init c = (
  c.requires.0,
  c.requires.1,
  omega arith,
  λ rows there. (rows, there, rw (c.new-lines.ensures.items, c.new-before.ensures) (put_none (lines_from c.args.head 2 0 rows))),
)

pub returns-in_err-line : goal.returns-in_err-line
returns-in_err-line c =
    let inv = c.loop-lines.invariant in
    let read = c.in_ok-read_byte_record.ensures in
    let fields = fields_of c.read_byte_record.new.row in
    let after =
    row_read c.loop-lines.reader c.read_byte_record.new.self inv.0 c.in_ok-read_byte_record.field-0 fields
    inv.1 read.reads read.ready read.flexible c.if-branch.true in
    let rest = left_rows c.read_byte_record.new.self after.0 after.1.left in
    let all = inv.3 (fields ∷ rest.0) (after.1.more rest.0 rest.1) in
    let found = c.in_err-line.field-0.0 in
    let answer = c.from_residual-in_err-line.result in
    let is = c.from_residual-in_err-line.ensures.1 in
    elim c.line_of_row.ensures [
      | inl memory ↦ inl (told_memory answer c.line_of_row.result found is c.in_err-line.was memory)
      | inr told ↦
          let stop = lines_stop c.args.head c.loop-lines.lines.items c.loop-lines.row c.loop-lines.before fields rest.0 found
          (sym told ∙ c.in_err-line.was) in
          inr (all.0, all.1, told_fault answer found is ∙ sym (all.2 ∙ stop))
    ]

pub overflow_add-row : goal.overflow_add-row
overflow_add-row c =
    let inv = c.loop-lines.invariant in
    let bound = inv.2 in
    omega arith

pub loop-lines-smaller : goal.loop-lines-smaller
loop-lines-smaller c =
    let inv = c.loop-lines.invariant in
    let read = c.in_ok-read_byte_record.ensures in
    let after =
    row_read c.loop-lines.reader c.read_byte_record.new.self inv.0 c.in_ok-read_byte_record.field-0 (fields_of c.read_byte_record.new.row)
    inv.1 read.reads read.ready read.flexible c.if-branch.true in
    let less = after.1.less in
    rw (inv.1.source, after.1.left.source) less

pub loop-lines-preserved : goal.loop-lines-preserved
loop-lines-preserved c =
    let inv = c.loop-lines.invariant in
    let read = c.in_ok-read_byte_record.ensures in
    let fields = fields_of c.read_byte_record.new.row in
    let line = c.in_ok-line.line in
    let after =
    row_read c.loop-lines.reader c.read_byte_record.new.self inv.0 c.in_ok-read_byte_record.field-0 fields
    inv.1 read.reads read.ready read.flexible c.if-branch.true in
    let less = after.1.less in
    let bound = inv.2 in
    let good : is_ok c.push.result ≡ true = search rules in
    let items : c.push.new.self.items ≡ c.loop-lines.lines.items ++ line ∷ [] = rw good at c.push.ensures.items in
    let told = told_line (λ e. e ≡ fault.Memory) c.line_of_row.result _ line c.line_of_row.ensures c.in_ok-line.was in (
      after.0,
      after.1.left,
      omega arith,
      λ rows there.
          let all = inv.3 (fields ∷ rows) (after.1.more rows there) in
          let more = lines_more c.args.head c.loop-lines.lines.items c.loop-lines.row c.loop-lines.before fields rows line told in
          (all.0, all.1, all.2 ∙ rw (items, c.past-before.ensures) more),
    )

pub returns : goal.returns
returns c =
    let inv = c.loop-lines.invariant in
    let read = c.in_ok-read_byte_record.ensures in
    let fields = fields_of c.read_byte_record.new.row in
    let none =
    row_missing c.loop-lines.reader c.read_byte_record.new.self inv.0 c.in_ok-read_byte_record.field-0 fields
    inv.1 read.reads c.if-branch.false in
    let all = inv.3 [] none in
    inr (all.0, all.1, sym (all.2 ∙ lines_end c.args.head c.loop-lines.lines.items c.loop-lines.row c.loop-lines.before))
