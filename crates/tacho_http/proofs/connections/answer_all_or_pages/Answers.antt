use Rattle.std.proofs.Common.{◌∙◌, ◌<◌, length, arith}
use Rattle.std.proofs.lemmas.List.{take_all}
use Rattle.tacho_http.proofs.RunLemmas.{counts, rest_next, run_next, same_item, went, went_kept}
use Rattle.tacho_http.proofs.connections.answer_all_or_pages.Goals as goal

pub answer_or_page-served-requires-clause-reader : goal.answer_or_page-served-requires-clause-reader
answer_or_page-served-requires-clause-reader g c =
    let i = c.loop-reader.reader-index in
    let e = c.connections-item.result in
    rw (same_item c.loop-reader.connections c.args.connections.now i e c.loop-reader.invariant.rest (omega arith) (omega arith))
    (c.requires i e (omega arith)).0

pub answer_or_page-served-requires-clause-writer : goal.answer_or_page-served-requires-clause-writer
answer_or_page-served-requires-clause-writer g c =
    let i = c.loop-reader.reader-index in
    let e = c.connections-item.result in
    rw (same_item c.loop-reader.connections c.args.connections.now i e c.loop-reader.invariant.rest (omega arith) (omega arith))
    (c.requires i e (omega arith)).1

pub loop-reader-preserved : goal.loop-reader-preserved
loop-reader-preserved g c =
    let i = c.loop-reader.reader-index in
    let k : i < length c.loop-reader.connections = omega arith in
    let h : i < length c.args.connections.now = omega arith in
    let inv = c.loop-reader.invariant in
    let did = c.answer_or_page-served.ensures in
    let counted = counts c.answer_or_page-served.result in
    let count = (rw c.is_ok.ensures.value at c.from-count.ensures) ∙ counted.0 in
    record {
      bound = (let low = inv.bound in let most = counted.1 in omega arith);
      rest = rest_next _ _ i _ inv.rest;
      clean = λ x. inv.clean (did.clean x);
      run = λ clean s st.
          let r = inv.run (did.clean clean) s st in
          let w = went did.exchanged.exchanged did.read did.write clean r.0 r.1 in
          (w.0, w.1, rw count (run_next _ _ _ i c.connections-item.result _ _ _ h k inv.rest r.2 w.2));
      crash = λ clean a st l.
          let r = inv.crash (did.clean clean) a st l in
          let w = went_kept did.exchanged.exchanged did.read did.write clean r.0 r.1 r.2 in
          (w.0, w.1, w.2, rw count (run_next _ _ _ i c.connections-item.result _ _ _ h k inv.rest r.3 w.3));
    }

pub returns-clause-run : goal.returns-clause-run
returns-clause-run g c =
    let i = c.loop-reader.reader-index in
    rw (take_all i c.args.connections.now (omega arith), take_all i c.loop-reader.connections (omega arith)) at c.loop-reader.invariant.run

pub returns-clause-crash : goal.returns-clause-crash
returns-clause-crash g c =
    let i = c.loop-reader.reader-index in
    rw (take_all i c.args.connections.now (omega arith), take_all i c.loop-reader.connections (omega arith))
    at c.loop-reader.invariant.crash
