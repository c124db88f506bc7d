use Rattle.std.proofs.Common.{◌≡◌, ◌≤◌, ◌++◌, List, [], ℕ, arith, codes, get_or, length, append_assoc, append-nil, rules, sym, ◌∙◌}
use Rattle.std.proofs.KnownBytes.{Appends-trans}
use Rattle.std.proofs.lemmas.List.{take_all}
use Rattle.std.proofs.lemmas.Result.{err_from_is_err_and}
use Rattle.tacho_desk.specs.Told.{answer_of}
use Rattle.tacho_cli.specs.Office.{reply_of_answer}
use Rattle.tacho_cli.specs.Files.{shown_byte, shown_name}
use Rattle.tacho_cli.proofs.FilesLemmas.{begun, begun_at}
use Rattle.tacho_cli.proofs.files.tell_line.Goals as goal

pub returns-in_err-write_all-clause-beginning : goal.returns-in_err-write_all-clause-beginning
returns-in_err-write_all-clause-beginning g c =
    let p = err_from_is_err_and c.from_residual.result c.from_residual.ensures.1 in
    let is : c.if-is_ascii_control.shown ≡ shown_byte (get_or c.args.name.now c.loop-byte.byte-index 0) = search rules in
    let h = rw is at c.write_all.ensures.beginning in
    rw p.1 (begun_at _ _ _ shown_byte c.args.name.now _ c.loop-byte.byte-index h.0 c.loop-byte-test.true c.loop-byte.invariant h.2)

pub returns-in_err-write_all-2-clause-beginning : goal.returns-in_err-write_all-2-clause-beginning
returns-in_err-write_all-2-clause-beginning g c =
    let p = err_from_is_err_and c.from_residual-in_err-write_all-2.result c.from_residual-in_err-write_all-2.ensures.1 in
    let past : length c.args.name.now ≤ c.loop-byte.byte-index = omega arith in
    let h = c.write_all-2.ensures.beginning in
    let t = begun _ _ _ _ (codes ": ") _ h.0 (rw take_all at c.loop-byte.invariant) h.2 in
    rw p.1 (t.0, t.2)

pub returns-then-failed-clause-beginning : goal.returns-then-failed-clause-beginning
returns-then-failed-clause-beginning g c =
    let past : length c.args.name.now ≤ c.loop-byte.byte-index = omega arith in
    let told = rw (sym c.failed.ensures ∙ c.if-failed.true) at c.tell_answer.ensures in
    let text : List ℕ = (reply_of_answer (answer_of c.args.answer.now)).text in
    let before = Appends-trans _ _ _ _ (codes ": ") (rw take_all at c.loop-byte.invariant) c.in_ok-write_all-2.ensures.all in
    let t = begun _ _ _ (shown_name c.args.name.now ++ codes ": ") text [] told.0.0 before told.0.1 in
    (t.0, simp (append_assoc, append-nil) at t.2)
