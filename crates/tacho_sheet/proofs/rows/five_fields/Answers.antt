use Rattle.std.proofs.Common.{rules, arith}
use Rattle.csv.specs.Records.{fields_of}
use Rattle.tacho_sheet.proofs.EntryLemmas.{five_at, field_there}
use Rattle.tacho_sheet.proofs.rows.five_fields.Goals as goal

pub returns-in_err-first : goal.returns-in_err-first
returns-in_err-first c = absurd (field_there (fields_of c.args.fields.now) 0 (omega arith) c.in_err-first.ensures.value)

pub returns-in_err-second : goal.returns-in_err-second
returns-in_err-second c = absurd (field_there (fields_of c.args.fields.now) 1 (omega arith) c.in_err-second.ensures.value)

pub returns-in_err-third : goal.returns-in_err-third
returns-in_err-third c = absurd (field_there (fields_of c.args.fields.now) 2 (omega arith) c.in_err-third.ensures.value)

pub returns-in_err-fourth : goal.returns-in_err-fourth
returns-in_err-fourth c = absurd (field_there (fields_of c.args.fields.now) 3 (omega arith) c.in_err-fourth.ensures.value)

pub returns-in_err-fifth : goal.returns-in_err-fifth
returns-in_err-fifth c = absurd (field_there (fields_of c.args.fields.now) 4 (omega arith) c.in_err-fifth.ensures.value)

pub returns : goal.returns
returns c =
    five_at (fields_of c.args.fields.now) c.in_ok-first.first.now c.in_ok-second.second.now c.in_ok-third.third.now
    c.in_ok-fourth.fourth.now c.in_ok-fifth.fifth.now (search rules) c.in_ok-first.ensures.value c.in_ok-second.ensures.value
    c.in_ok-third.ensures.value c.in_ok-fourth.ensures.value c.in_ok-fifth.ensures.value
