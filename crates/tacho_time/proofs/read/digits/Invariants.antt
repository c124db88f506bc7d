use Rattle.std.proofs.Common.{◌≡◌, ◌<◌, ◌^◌, drop}
use Rattle.tacho_time.specs.Reading.{digits_from, digits_at}
use Rattle.tacho_time.proofs.read.digits.Given as goal

-- reading the remaining bytes after the number so far gives the number of the whole text
abbrev pub invariant-loop-byte : goal.invariant-loop-byte
invariant-loop-byte l = record { rest : digits_from l.number (drop l.byte-index l.text) ≡ digits_at l.text; bound : l.number < 10 ^ l.byte-index }
