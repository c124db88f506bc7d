use Rattle.std.proofs.Common.{map, take}
use Rattle.httparse.specs.Spans.{header_bytes}
use Rattle.tacho_message.specs.Fields.{values_under, AreValues}
use Rattle.tacho_message.proofs.fields.values_of.Given as goal

abbrev pub invariant-loop-field : goal.invariant-loop-field
invariant-loop-field l = AreValues (values_under l.name (map (header_bytes l.buffer) (take l.field-index l.fields))) l.found
