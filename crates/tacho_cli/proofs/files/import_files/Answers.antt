use Rattle.std.proofs.Common.{◌≡◌, ◌∙◌, ◌≤◌, arith, length, map, string_bytes, sym}
use Rattle.std.proofs.lemmas.List.{length-map}
use Rattle.tacho_cli.specs.Files.{AreBegun}
use Rattle.tacho_cli.proofs.FilesLemmas.{AreTold, all_begun, begun_first, ends_all, goes_on, imported_as, imported_more, imports_files}
use Rattle.tacho_cli.proofs.FilesLemmas.{named_at, told_more, told_out, told_short}
use Rattle.tacho_cli.proofs.files.import_files.Goals as goal
use Rattle.tacho_cli.proofs.files.import_files.Goals.{else-loop-name-test, then-loop-name-test+in-Ok+then-tally}

pub loop-name-preserved : goal.loop-name-preserved
loop-name-preserved g c =
    let at = named_at string_bytes c.args.names.now c.loop-name.name-index c.name-item.result c.loop-name-test.true c.name-item.is in
    record {
      so_far = imported_more c.loop-name.invariant.so_far _ _ (rw (c.deref.ensures ∙ at.1) at c.answer_to-answer.ensures)
          (λ files t. record {
            are = goes_on _ _ files _ at.0 t.are (sym (c.count.ensures.ended c.loop-name.invariant.goes_on) ∙ c.if-tally.false);
            told = told_more files _ _ _ t.told _ (rw (c.as_bytes-in-loop-name.ensures.value ∙ at.1) at c.in-Ok.ensures.all);
            counted = c.count.ensures.tally files _ t.counted;
          });
      goes_on = c.if-tally.false;
      count = omega arith;
    }

pub returns-in_default-tell_line-clause-imported : goal.returns-in_default-tell_line-clause-imported
returns-in_default-tell_line-clause-imported g c p part =
    let at = named_at string_bytes c.args.names.now c.loop-name.name-index c.name-item.result c.loop-name-test.true c.name-item.is in
    let same : p ≡ c.in-Some.part = cc in
    rw (same, c.in_default-tell_line.ensures.failed)
    (imports_files (imported_more c.loop-name.invariant.so_far _ _ (rw (c.deref.ensures ∙ at.1) at c.answer_to-answer.ensures)
    (λ files t. told_short files _ _ _ t.told _ _ (begun_first _ _ files _ at.0 t.are)
    (rw (c.as_bytes-in-loop-name.ensures.value ∙ at.1) at c.in_default-tell_line.ensures.beginning))) (λ files told. told))

pub returns-clause-imported : goal.returns-clause-imported
returns-clause-imported g c p part =
    let names = map string_bytes c.args.names.now in
    let so_far = c.loop-name.invariant.so_far in
    let same : p ≡ c.in-Some.part = cc in
    let written = g.W.Sink.written in
    let Are = AreTold (AreBegun names) (written c.args.writer.now) (written c.loop-name-test.writer) c.loop-name-test.tally in
    rw same (imports_files {Are = Are} (elim c.loop-name-test.branch [
      | else-loop-name-test w ↦
          let past : length names ≤ c.loop-name.name-index = simp length-map (omega arith) in
          rw (w.keeper-is, w.writer-is, w.tally-is)
          (imported_as so_far _ (λ files t. record { are = all_begun names _ files past t.are; told = t.told; counted = t.counted }))
      | then-loop-name-test+in-Ok+then-tally w ↦
          let at = named_at string_bytes c.args.names.now c.loop-name.name-index w.name-item.result w.loop-name-test.true w.name-item.is in
          rw (w.keeper-is, w.writer-is, w.tally-is)
          (imported_more so_far _ _ (rw (w.deref.ensures ∙ at.1) at w.answer_to-answer.ensures) (λ files t. record {
            are = ends_all names _ files _ at.0 t.are (sym (w.count.ensures.ended c.loop-name.invariant.goes_on) ∙ w.if-tally.true);
            told = told_more files _ _ _ t.told _ (rw (w.as_bytes-in-loop-name.ensures.value ∙ at.1) at w.in-Ok.ensures.all);
            counted = w.count.ensures.tally files _ t.counted;
          }))
    ]) (λ files t. told_out files _ _ _ t.told names _ c.tell.result t.are
    (rw (c.as_bytes-2.ensures.value ∙ c.deref-2.ensures.0 ∙ c.line.ensures files t.counted, c.status.ensures files t.counted)
    at c.tell.ensures)))
