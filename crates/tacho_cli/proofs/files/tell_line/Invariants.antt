use Rattle.std.proofs.Common.{take}
use Rattle.std.specs.Io.KnownBytes.{Appends}
use Rattle.tacho_cli.specs.Files.{shown_name}
use Rattle.tacho_cli.proofs.files.tell_line.Given as goal

-- the bytes so far
abbrev pub invariant-loop-byte : goal.invariant-loop-byte
invariant-loop-byte g l = Appends (g.W.Sink.written l.fn.writer) (g.W.Sink.written l.writer) (shown_name (take l.byte-index l.name))
