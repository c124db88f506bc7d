use Rattle.std.proofs.Common.{rules, ◌≡◌, ◌<◌, length, get_or}
use Rattle.tacho_sheet.proofs.NumberLemmas.{number_written, written_number}
use Rattle.tacho_sheet.proofs.number.read_number.Goals as goal

pub returns-then-is_empty : goal.returns-then-is_empty
returns-then-is_empty c = λ n h. let s : 0 < length c.args.text.now = (number_written c.args.most n c.args.text.now (search rules) h).some in search rules

pub returns-then-text-eq48 : goal.returns-then-text-eq48
returns-then-text-eq48 c = λ n h. let s : 48 < get_or c.args.text.now 0 0 = (number_written c.args.most n c.args.text.now (search rules) h).first in search rules

pub returns-then-text-eq43 : goal.returns-then-text-eq43
returns-then-text-eq43 c = λ n h. let s : 48 < get_or c.args.text.now 0 0 = (number_written c.args.most n c.args.text.now (search rules) h).first in search rules

pub returns-in_default : goal.returns-in_default
returns-in_default c = λ n h. let w = number_written c.args.most n c.args.text.now (search rules) h in let u = rw c.in_default.is at c.from_utf8.ensures.cases in u.0 w.utf8

pub returns-in_default-parse : goal.returns-in_default-parse
returns-in_default-parse c = λ n h.
    let w = number_written c.args.most n c.args.text.now (search rules) h in
    let d : c.in-Ok.digits.now ≡ c.args.text.now = (rw c.in-Ok.is at c.from_utf8.ensures.cases).0 in
    let p = rw (c.in_default-parse.is, d) at c.parse.ensures.value.0 in
    p (w.numeral, rw w.value (let g = h.greatest in search rules))

pub returns-then-number-most : goal.returns-then-number-most
returns-then-number-most c = λ n h.
    let w = number_written c.args.most n c.args.text.now (search rules) h in
    let d : c.in-Ok.digits.now ≡ c.args.text.now = (rw c.in-Ok.is at c.from_utf8.ensures.cases).0 in
    let p = rw (c.in-Ok-parse.is, d) at c.parse.ensures.value.0 in
    let v : c.in-Ok-parse.number ≡ n = rw (p.1) (w.value) in
    let g = h.greatest in search rules

pub returns : goal.returns
returns c =
    let d : c.in-Ok.digits.now ≡ c.args.text.now = (rw c.in-Ok.is at c.from_utf8.ensures.cases).0 in
    let p = rw (c.in-Ok-parse.is, d) at c.parse.ensures.value.0 in
    written_number c.args.most c.in-Ok-parse.number c.args.text.now (search rules) (search rules) (search rules) p.0.0 p.0.1 p.1 (search rules)
