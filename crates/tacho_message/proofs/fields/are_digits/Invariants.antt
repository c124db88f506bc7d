use Rattle.std.proofs.Common.{◌≡◌, drop}
use Rattle.std.specs.Str.{all_ascii_digits}
use Rattle.tacho_message.proofs.fields.are_digits.Given as goal

-- the remaining bytes decide
abbrev pub invariant-loop-digit : goal.invariant-loop-digit
invariant-loop-digit l = all_ascii_digits l.text ≡ all_ascii_digits (drop l.digit-index l.text)
