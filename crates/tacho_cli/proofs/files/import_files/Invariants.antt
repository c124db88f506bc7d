use Rattle.std.proofs.Common.{◌≡◌, ◌+◌, false, map, string_bytes, take}
use Rattle.tacho_cli.proofs.FilesLemmas.{AreTold, GoOn, Imported}
use Rattle.tacho_cli.proofs.files.import_files.Given as goal

-- the files so far
abbrev pub invariant-loop-name : goal.invariant-loop-name
invariant-loop-name g l = record {
  so_far : Imported (g.F.CardFiles.gives l.fn.files) g.K.Keeper.stands g.K.Keeper.is_clean g.K.Keeper.leaves l.fn.keeper l.keeper l.part
      (AreTold (GoOn (take l.name-index (map string_bytes l.names))) (g.W.Sink.written l.fn.writer) (g.W.Sink.written l.writer) l.tally);
  goes_on : l.tally.ended ≡ false;
  count : l.tally.added + l.tally.repeated + l.tally.refused ≡ l.name-index;
}
