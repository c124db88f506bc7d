use Rattle.std.proofs.Common.{rules, ◌≡◌, ◌∙◌, ◌+◌, ◌-◌, ◌<◌, arith, get_or, inl, length, refl, string_bytes, subst, ℕ}
use Rattle.std.specs.Prelude.{IfErr}
use Rattle.tacho_state.specs.State.{State}
use Rattle.tacho_state.specs.Steps.{file_reading}
use Rattle.tacho_sheet.specs.Fault.{IsFailure, fault_of_store}
use Rattle.tacho_desk.specs.Version.{program_line}
use Rattle.tacho_desk.proofs.HandoverLemmas.{IsSoFar, begun, gave_up, handed_over, one_more, there}
use Rattle.tacho_state.proofs.ReadLemmas.{read_first, read_on}
use Rattle.tacho_desk.proofs.handover.handover.Goals as goal

pub returns-in_err-files-clause-serves : goal.returns-in_err-files-clause-serves
returns-in_err-files-clause-serves g c =
    let same = g.K.Keeper.same_then in
    let read = read_on same (read_first c.driver.ensures) c.files.ensures in
    search rules

pub returns-in_err-entered-clause-serves : goal.returns-in_err-entered-clause-serves
returns-in_err-entered-clause-serves g c =
    let same = g.K.Keeper.same_then in
    let read = read_on same (read_on same (read_first c.driver.ensures) c.files.ensures) c.entries.ensures in
    search rules

pub returns-in_err-entries-clause-serves : goal.returns-in_err-entries-clause-serves
returns-in_err-entries-clause-serves g c =
    let same = g.K.Keeper.same_then in
    let read = read_on same (read_on same (read_first c.driver.ensures) c.files.ensures) c.entries.ensures in
    search rules

pub returns-in_err-line-clause-serves : goal.returns-in_err-line-clause-serves
returns-in_err-line-clause-serves g c =
    let same = g.K.Keeper.same_then in
    let read = read_on same (read_on same (read_on same (read_first c.driver.ensures) c.files.ensures) c.entries.ensures) c.line_within.ensures.reads in
    search rules

pub returns-in_err-missing-clause-serves : goal.returns-in_err-missing-clause-serves
returns-in_err-missing-clause-serves g c =
    let same = g.K.Keeper.same_then in
    let read = read_on same (read_on same (read_on same (read_first c.driver.ensures) c.files.ensures) c.entries.ensures) c.line_within.ensures.reads in
    search rules

pub returns-in_err-parcel-clause-serves : goal.returns-in_err-parcel-clause-serves
returns-in_err-parcel-clause-serves g c =
    let same = g.K.Keeper.same_then in
    let read = read_on same (read_on same (read_on same (read_first c.driver.ensures) c.files.ensures) c.entries.ensures) c.line_within.ensures.reads in
    search rules

pub loop-place-init : goal.loop-place-init
loop-place-init g c =
    let same = g.K.Keeper.same_then in
    let driver = c.in_ok-listed.ensures in
    let files = c.in_ok-files.ensures in
    let entries = c.in_ok-entered.ensures in
    let line = c.in_ok-line.ensures in
    let one = read_first driver in
    let two = read_on same one files in
    let three = read_on same two entries in
    let parcel = c.in_ok-parcel.ensures in
    let gaps = c.in_ok-missing.ensures in
    record {
      read = read_on same three line.reads;
      live = search rules;
      start = parcel.start ∙ c.start-start.ensures;
      past = parcel.past ∙ c.end-end.ensures;
      so_far = λ clean s st.
          let at_entries = line.reads.clean clean in
          let at_files = entries.clean at_entries in
          let at_driver = files.clean at_files in
          begun c.args.driver s c.args.period c.in_ok-listed.listed c.in_ok-files.files.items (string_bytes c.in_ok-entries.entries)
          (string_bytes c.in_ok-missing.missing) c.in_ok-entered.entered.items _ gaps.0 c.len-place.result c.in_ok-parcel.parcel
          (driver.answer at_driver s st) (files.answer at_files s (one.state at_driver s st)) (entries.answer at_entries s (two.state at_files s st))
          (search rules) (rw (c.start-start.ensures, c.end-end.ensures) at (line.within clean s (three.state at_entries s st))) (search rules)
          gaps.2 (search rules) parcel.files;
    }

pub returns-in_err-bytes-clause-serves : goal.returns-in_err-bytes-clause-serves
returns-in_err-bytes-clause-serves g c =
    let read = read_on g.K.Keeper.same_then c.loop-place.invariant.read c.download.ensures in
    let place = c.loop-place.place - 1 in
    let files = c.in_ok-files.files.items in
    let file = c.index-file.result.now in
    let within : place < length files = search rules in
    let item : file ≡ get_or files place file = search rules in
    let fails : g.K.Keeper.is_clean c.download.new.self → (s : State) → g.K.Keeper.stands c.args.keeper.now s
    → IfErr c.download.result (λ f. IsFailure (fault_of_store f)) =
    λ clean s st.
    let before = c.download.ensures.clean clean in
    let far = c.loop-place.invariant.so_far before s st in
    gave_up (λ bytes. bytes.items) c.download.result (file_reading c.args.driver file.number s) _
    (there c.args.driver s c.args.period c.in_ok-listed.listed files (string_bytes c.in_ok-entries.entries)
    (string_bytes c.in_ok-missing.missing) far.read place file within item)
    (c.download.ensures.answer clean s (c.loop-place.invariant.read.state before s st)) in
    search rules

pub returns-in_err-offer-clause-serves : goal.returns-in_err-offer-clause-serves
returns-in_err-offer-clause-serves g c =
    let read = read_on g.K.Keeper.same_then c.loop-place.invariant.read c.download.ensures in
    search rules

pub loop-place-preserved : goal.loop-place-preserved
loop-place-preserved g c =
    let place = c.loop-place.place - 1 in
    let files = c.in_ok-files.files.items in
    let file = c.index-file.result.now in
    let within : place < length files = search rules in
    let item : file ≡ get_or files place file = search rules in
    let counted : c.loop-place.place ≡ place + 1 = omega (arith, c.loop-place-test.true) in
    let given = rw (c.deref-in-loop-place.ensures.value, c.deref-in-loop-place-2.ensures.value) at c.in_ok-offer.ensures.offered in
    record {
      read = read_on g.K.Keeper.same_then c.loop-place.invariant.read c.download.ensures;
      live = search rules;
      start = search rules;
      past = search rules;
      so_far = λ clean s st.
          let before = c.download.ensures.clean clean in
          let far = c.loop-place.invariant.so_far before s st in
          one_more c.args.driver s c.args.period c.in_ok-listed.listed files (string_bytes c.in_ok-entries.entries)
          (string_bytes c.in_ok-missing.missing) far.read place file within item c.loop-place.place c.in_ok-bytes.bytes.items _ _ counted
          (c.in_ok-bytes.ensures.answer clean s (c.loop-place.invariant.read.state before s st)) far.taken
          given;
    }

pub returns-in_err-tar-clause-serves : goal.returns-in_err-tar-clause-serves
returns-in_err-tar-clause-serves g c =
    let read = c.loop-place.invariant.read in
    search rules

pub returns-clause-serves : goal.returns-clause-serves
returns-clause-serves g c =
    let read = c.loop-place.invariant.read in
    let last : c.loop-place.place ≡ 0 = omega (arith, c.loop-place-test.false) in
    let closed = rw (c.program_line.ensures, c.from.ensures, c.past.ensures, c.as_bytes.ensures.value, c.as_bytes-2.ensures.value) at c.in_ok-tar.ensures.closed in
    record {
      clean = read.clean;
      live = λ clean. c.loop-place.invariant.live clean;
      done = λ clean s stands.
          let far = c.loop-place.invariant.so_far clean s stands in (
            s,
            read.state clean s stands,
            (
              handed_over c.args.driver s c.args.period c.in_ok-listed.listed c.in_ok-files.files.items (string_bytes c.in_ok-entries.entries)
                  (string_bytes c.in_ok-missing.missing) program_line c.in_ok-tar.tar.items c.loop-place.parcel c.loop-place.invariant.start
                  c.loop-place.invariant.past (subst (λ (j : ℕ). IsSoFar c.args.driver s c.args.period c.in_ok-listed.listed c.in_ok-files.files.items (string_bytes c.in_ok-entries.entries) (string_bytes c.in_ok-missing.missing) j c.loop-place.parcel) last far) closed,
              refl,
            ),
          );
      same = λ reads clean s stands. read.same clean s stands;
      kept = λ command. cc;
      crash = λ clean s past stands left. inl (read.crash clean past left);
    }
