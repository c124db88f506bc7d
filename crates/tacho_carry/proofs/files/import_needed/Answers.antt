use Rattle.std.proofs.Common.{rules, ◌≡◌, [], drop, length, subst, true, false, nat_lt}
use Rattle.tacho_state.proofs.ListedLemmas.{as_many}
use Rattle.tacho_state.proofs.ReadLemmas.{not_read, read_on}
use Rattle.tacho_carry.specs.Carrying.{IsAt}
use Rattle.tacho_carry.proofs.FileLemmas.{IsImportedUpTo, all_imported, none_imported, passed_over, taken_over}
use Rattle.tacho_carry.proofs.files.import_needed.Goals.{then-gt+in_ok-bytes+in_ok-import_new, else-gt}
use Rattle.tacho_carry.proofs.files.import_needed.Goals as goal

pub loop-file-init : goal.loop-file-init
loop-file-init g c = record {
  read = not_read g.K.Keeper.same_self;
  live = λ clean live. live;
  clean = λ clean. clean;
  so_far = λ old new s t d x st is listed read found here. none_imported c.args.driver c.args.start d x t found _ here;
}

pub loop-file-preserved : goal.loop-file-preserved
loop-file-preserved g c =
    let i = c.loop-file.file-index in
    let f = c.file-item.result in
    let before = c.loop-file.invariant in
    elim c.if-gt.branch [
      | then-gt+in_ok-bytes+in_ok-import_new w ↦ record {
        read = rw w.old-is (read_on g.K.Keeper.same_then before.read w.download.ensures);
        live = λ clean live.
            let is_clean = rw w.old-is at clean in
            before.live (w.download.ensures.clean is_clean) (w.download.ensures.was_live is_clean (rw w.old-is at live));
        clean = λ clean. before.clean (w.in_ok-import_new.ensures.clean (rw w.new-is at clean));
        so_far = λ old new s t d x st is listed read found here.
            let late : nat_lt c.args.start f.past ≡ true = search rules in
            let was_old = w.download.ensures.clean (rw w.old-is at old) in
            let is_new = rw w.new-is at new in
            let got = rw (← w.deref.ensures.value) at
            (w.in_ok-bytes.ensures.answer (rw w.old-is at old) s (before.read.state was_old s st)) in
            rw w.new-is (taken_over c.args.driver c.args.start s t d x is read found c.args.files.now listed i f c.loop-file-test.true
            c.file-item.is _ _ _ late got
            (λ y z content theirs tells at. w.in_ok-import_new.ensures.imported is_new y z content theirs tells at)
            (before.so_far was_old (w.in_ok-import_new.ensures.clean is_new) s t d x st is listed read found here));
      }
      | else-gt w ↦ record {
        read = rw w.old-is before.read;
        live = λ clean live. before.live (rw w.old-is at clean) (rw w.old-is at live);
        clean = λ clean. before.clean (rw w.new-is at clean);
        so_far = λ old new s t d x st is listed read found here.
            let early : nat_lt c.args.start f.past ≡ false = search rules in
            rw w.new-is (passed_over c.args.driver c.args.start s t d x is read found c.args.files.now listed i f c.loop-file-test.true
            c.file-item.is
            _ early (before.so_far (rw w.old-is at old) (rw w.new-is at new) s t d x st is listed read found here));
      }
    ]

pub returns-clause-imported : goal.returns-clause-imported
returns-clause-imported g c old new s t d x st is listed read found here =
    let so_far = c.loop-file.invariant.so_far old new s t d x st is listed read found here in
    let end : c.loop-file.file-index ≡ length c.args.files.now = search rules in
    let none : drop c.loop-file.file-index d.downloads ≡ [] = rw end (as_many 1 d.downloads c.args.files.now listed) in
    all_imported c.args.driver c.args.start d x t found _
    (subst (λ ds. IsImportedUpTo c.args.driver c.args.start ds d x t
    (IsAt (g.L.Keeper.stands c.loop-file.new) (g.L.Keeper.leaves c.loop-file.new))) none so_far)

pub returns-in_err-bytes-clause-old : goal.returns-in_err-bytes-clause-old
returns-in_err-bytes-clause-old g c = read_on g.K.Keeper.same_then c.loop-file.invariant.read c.download.ensures

pub returns-in_err-import_new-clause-old : goal.returns-in_err-import_new-clause-old
returns-in_err-import_new-clause-old g c = read_on g.K.Keeper.same_then c.loop-file.invariant.read c.download.ensures
