use Rattle.std.proofs.Common.{rules, inl, refl}
use Rattle.tacho_state.specs.State.{driver_of}
use Rattle.tacho_state.proofs.ReadLemmas.{read_first, read_on}
use Rattle.tacho_desk.proofs.ShownLemmas.{form_of}
use Rattle.tacho_desk.proofs.readings.form.Goals as goal

pub returns-in_err-line-clause-serves : goal.returns-in_err-line-clause-serves
returns-in_err-line-clause-serves g c =
    let read = read_on g.K.Keeper.same_then (read_first c.stretches.ensures.reads) c.line_within.ensures.reads in
    search rules

pub returns-clause-serves : goal.returns-clause-serves
returns-clause-serves g c =
    let read = read_on g.K.Keeper.same_then (read_first c.stretches.ensures.reads) c.line_within.ensures.reads in
    let stretches = c.in_ok-stretches.ensures in
    let line = c.in_ok-line.ensures in
    let end = c.cut_at-end.ensures in
    record {
      clean = read.clean;
      live = λ clean. line.reads.live clean tt;
      done = λ clean s stands.
          let before = line.reads.clean clean in (
            s,
            read.state clean s stands,
            (
              form_of c.args.before (driver_of c.args.driver s) _ _ _ _ _ (stretches.reads.answer before s stands)
                  (stretches.stretches before s stands) (rw c.deref.ensures.value at c.range_of-base.ensures)
                  (rw end at (line.within clean s (stretches.reads.state before s stands))) (rw end at c.in_ok-form_text.ensures),
              refl,
            ),
          );
      same = λ reads clean s stands. read.same clean s stands;
      kept = λ command. cc;
      crash = λ clean s past stands left. inl (read.crash clean past left);
    }
