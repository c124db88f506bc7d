use Rattle.std.proofs.Common.{rules, ◌≡◌, ◌+◌, ℕ, arith, cond, length}
use Rattle.tacho_state.proofs.ReadLemmas.{read_first}
use Rattle.tacho_carry.proofs.EachLemmas.{driver_more, driver_there, each_carried, found_listed, none_carried, one_or_none}
use Rattle.tacho_carry.proofs.StaysLemmas.{stays_then}
use Rattle.tacho_carry.proofs.archive.carry_each.Goals.{else-branch, then-branch}
use Rattle.tacho_carry.proofs.archive.carry_each.Goals as goal

pub loop-driver-init : goal.loop-driver-init
loop-driver-init g c = record {
  read = read_first c.drivers.ensures.reads;
  live = c.drivers.ensures.reads.was_live;
  clean = λ clean. clean;
  counted = omega arith;
  listed = λ clean s st. rw (← c.deref-driver-items.ensures.value) at (c.in_ok-drivers.ensures.drivers clean s st);
  so_far = λ old new s st is here.
      none_carried c.args.from s c.deref-driver-items.result.now _
      (rw (← c.deref-driver-items.ensures.value) at (c.in_ok-drivers.ensures.drivers old s st)) here;
}

pub returns-in_err-carry_driver-clause-old : goal.returns-in_err-carry_driver-clause-old
returns-in_err-carry_driver-clause-old g c =
    (stays_then g.K.Keeper.same_then (record { read = c.loop-driver.invariant.read; live = c.loop-driver.invariant.live })
    (record { read = c.carry_driver.ensures.old; live = c.carry_driver.ensures.live })).read

pub loop-driver-preserved : goal.loop-driver-preserved
loop-driver-preserved g c =
    let before = c.loop-driver.invariant in
    let items = c.deref-driver-items.result.now in
    let i = c.loop-driver.driver-index in
    let x = c.driver-item.result in
    let done = c.in_ok-carry_driver.ensures in
    let more : ℕ = cond c.in_ok-carry_driver.field-0 1 0 in
    let counted : c.if-branch.carried ≡ c.loop-driver.carried + more =
    elim c.if-branch.branch [
      | then-branch w ↦ rw w.if-branch.true w.carried-is
      | else-branch w ↦ let same = w.carried-is in rw w.if-branch.false (omega (arith, same))
    ] in
    let both = stays_then g.K.Keeper.same_then (record { read = before.read; live = before.live })
    (record { read = done.old; live = done.live }) in
    record {
      read = both.read;
      live = both.live;
      clean = λ clean. before.clean (done.clean clean);
      counted =
          elim c.if-branch.branch [
            | then-branch w ↦ let less = before.counted in rw w.carried-is (omega (arith, less))
            | else-branch w ↦ let less = before.counted in rw w.carried-is (omega (arith, less))
          ];
      listed = λ clean. before.listed (done.old.clean clean);
      so_far = λ old new s st is here.
          let so_far = before.so_far (done.old.clean old) (done.clean new) s st is here in
          let next = driver_there c.args.from s items _ i c.loop-driver.carried x is so_far c.loop-driver-test.true c.driver-item.is in
          let found = found_listed s so_far.drivers i x next in
          let here = done.carried old new s _ next.driver (before.read.state (done.old.clean old) s st) found next.summary next.holds.read
          so_far.here in
          rw counted (driver_more c.args.from s items _ _ i c.loop-driver.carried more x so_far next here.1
          (one_or_none c.args.from next.driver _ here.0));
    }

pub returns-clause-old : goal.returns-clause-old
returns-clause-old g c = c.loop-driver.invariant.read

pub returns-clause-carried : goal.returns-clause-carried
returns-clause-carried g c old new s st is here =
    let items = c.deref-driver-items.result.now in
    let last : c.loop-driver.driver-index ≡ length items = search rules in
    each_carried c.args.from s items _ _ _ c.loop-driver.driver-index last (search rules) (c.loop-driver.invariant.listed old s st)
    (c.loop-driver.invariant.so_far old new s st is here)
