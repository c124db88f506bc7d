use Rattle.std.proofs.Common.{◌∙◌, sym}
use Rattle.tacho_time.proofs.ReadLemmas.{minute_parts}
use Rattle.tacho_time.proofs.minute.Minute.read.Goals as goal

pub returns : goal.returns
returns c =
    let date = sym c.date_parts.ensures.value ∙ c.in-Some.is in
    let hour = sym c.digits.ensures.value ∙ c.in-Some-digits.is in
    let minute = sym c.digits-2.ensures.value ∙ c.in-Some-digits-2.is in
    c.minute_of_parts.ensures ∙ sym (minute_parts c.args.text.now c.in-Some.date c.in-Some-digits.hour c.in-Some-digits-2.minute c.if-text-ne16.false c.if-text-ne32.false c.if-text-ne58.false date hour minute)
