use Rattle.std.proofs.Common.{◌<◌, ◌-◌, length, get_or, arith}
use Rattle.tacho_message.proofs.FieldLemmas.{ten_more, digit_at}
use Rattle.tacho_message.proofs.fields.number_of_digits.Goals as goal

pub overflow_mul-value : goal.overflow_mul-value
overflow_mul-value c =
    let h = ten_more c.loop-digit.value 0 c.loop-digit.digit-index (length c.args.text.now) (omega arith) c.loop-digit.invariant.2 (omega arith) (omega arith) in
    omega arith

pub overflow_add-value : goal.overflow_add-value
overflow_add-value c =
    let d : get_or c.args.text.now c.loop-digit.digit-index 0 - 48 < 10 = digit_at c.args.text.now c.loop-digit.digit-index (omega arith) c.loop-digit.invariant.1 in
    let f = c.from.ensures in
    let h = ten_more c.loop-digit.value c.from.result c.loop-digit.digit-index (length c.args.text.now) (omega arith) c.loop-digit.invariant.2 (omega arith) (omega arith) in
    omega arith
