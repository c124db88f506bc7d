use Rattle.std.proofs.Common.{◌≡◌, ◌<◌, ◌^◌, true, drop}
use Rattle.std.specs.Str.{all_ascii_digits}
use Rattle.std.specs.Str.Parse.{digits_value, digits_value_after}
use Rattle.tacho_message.proofs.fields.number_of_digits.Given as goal

abbrev pub invariant-loop-digit : goal.invariant-loop-digit
invariant-loop-digit l =
    (digits_value_after 10 l.value (drop l.digit-index l.text) ≡ digits_value 10 l.text)
    × (all_ascii_digits (drop l.digit-index l.text) ≡ true)
    × (l.value < 10 ^ l.digit-index)
