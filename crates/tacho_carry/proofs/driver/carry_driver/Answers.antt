use Rattle.std.proofs.Common.{◌≡◌, ◌∙◌, ◌*◌, false, sym, ap, not}
use Rattle.tacho_state.specs.State.{State}
use Rattle.tacho_state.specs.Summaries.{Summary}
use Rattle.tacho_carry.specs.Carried.{is_left_out}
use Rattle.tacho_carry.specs.Carrying.{IsAt}
use Rattle.tacho_carry.proofs.CarriedLemmas.{carried_at, known_entries, known_files, known_key, registered_as}
use Rattle.tacho_carry.proofs.StaysLemmas.{stays, stays_on, stays_then}
use Rattle.tacho_carry.proofs.driver.carry_driver.Goals as goal

pub returns-in_err-entries-clause-old : goal.returns-in_err-entries-clause-old
returns-in_err-entries-clause-old g c = (stays_on g.K.Keeper.same_then (stays c.files.ensures) c.entries.ensures).read

pub returns-in_err-entries-clause-live : goal.returns-in_err-entries-clause-live
returns-in_err-entries-clause-live g c = (stays_on g.K.Keeper.same_then (stays c.files.ensures) c.entries.ensures).live

pub returns-then-is_left_out-clause-old : goal.returns-then-is_left_out-clause-old
returns-then-is_left_out-clause-old g c = (stays_on g.K.Keeper.same_then (stays c.files.ensures) c.entries.ensures).read

pub returns-in_err-key-clause-old : goal.returns-in_err-key-clause-old
returns-in_err-key-clause-old g c =
    let same = g.K.Keeper.same_then in (stays_on same (stays_on same (stays c.files.ensures) c.entries.ensures) c.key.ensures).read

pub returns-in_err-registration-clause-old : goal.returns-in_err-registration-clause-old
returns-in_err-registration-clause-old g c =
    let same = g.K.Keeper.same_then in (stays_on same (stays_on same (stays c.files.ensures) c.entries.ensures) c.key.ensures).read

pub returns-in_err-register_new-clause-old : goal.returns-in_err-register_new-clause-old
returns-in_err-register_new-clause-old g c =
    let same = g.K.Keeper.same_then in (stays_on same (stays_on same (stays c.files.ensures) c.entries.ensures) c.key.ensures).read

pub returns-in_err-import_needed-clause-old : goal.returns-in_err-import_needed-clause-old
returns-in_err-import_needed-clause-old g c =
    let same = g.K.Keeper.same_then in
    let three = stays_on same (stays_on same (stays c.files.ensures) c.entries.ensures) c.key.ensures in
    (stays_then same three (record { read = c.import_needed.ensures.old; live = c.import_needed.ensures.live })).read

pub returns-in_err-enter_kept-clause-old : goal.returns-in_err-enter_kept-clause-old
returns-in_err-enter_kept-clause-old g c =
    let same = g.K.Keeper.same_then in
    let three = stays_on same (stays_on same (stays c.files.ensures) c.entries.ensures) c.key.ensures in
    (stays_then same three (record { read = c.import_needed.ensures.old; live = c.import_needed.ensures.live })).read

pub returns-clause-old : goal.returns-clause-old
returns-clause-old g c =
    let same = g.K.Keeper.same_then in
    let three = stays_on same (stays_on same (stays c.files.ensures) c.entries.ensures) c.key.ensures in
    (stays_then same three (record { read = c.import_needed.ensures.old; live = c.import_needed.ensures.live })).read

pub returns-clause-carried : goal.returns-clause-carried
returns-clause-carried g c old new s t d st is summary read here =
    let with_key = c.in_ok-import_needed.ensures.old.clean old in
    let with_entries = c.key.ensures.clean with_key in
    let with_files = c.entries.ensures.clean with_entries in
    let imported = c.in_ok-enter_kept.ensures.clean new in
    let registered = c.in_ok-import_needed.ensures.clean imported in
    let st_1 = c.files.ensures.state with_files s st in
    let st_2 = c.entries.ensures.state with_entries s st_1 in
    let st_3 = c.key.ensures.state with_key s st_2 in
    let files = known_files c.args.driver.now.number s d is _ (c.in_ok-files.ensures.answer with_files s st) in
    let entries = known_entries c.args.driver.now.number s d is _ (c.in_ok-entries.ensures.answer with_entries s st_1) in
    let key = known_key c.args.driver.now.number s d is _ (c.in_ok-key.ensures.answer with_key s st_2) in
    let first = c.in_ok-register_new.ensures.registered registered t here in
    let start : c.new-start.result ≡ 1440 * c.args.from = c.new-start.ensures ∙ ap (λ n. 1440 * n) c.number.ensures.value in
    let left_out = c.is_left_out.ensures c.args.from d start (rw c.deref.ensures.value files) (rw c.deref-2.ensures.value entries) read in
    let stays : is_left_out c.args.from d ≡ false = sym left_out ∙ c.if-is_left_out.false in
    let at : _ → State → Type 0 = λ keeper. IsAt (g.L.Keeper.stands keeper) (g.L.Keeper.leaves keeper) in (
      ap not (sym stays),
      carried_at (at c.register_new-2.new.new) (at c.import_needed.new.new) (at c.enter_kept.new.new) c.args.from c.new-start.result
          c.args.driver.now.number t d c.in_ok-registration.field-0 start (ap (λ (x : Summary). x.number) summary)
          (registered_as c.args.from d _ _ c.in_ok-registration.field-0 c.in_ok-registration.ensures summary key) first.0 first.1
          (λ y x found here. c.in_ok-import_needed.ensures.imported old imported s y d x st_3 is (rw c.deref-3.ensures.value files) read
          found here)
          (λ y x found here. c.in_ok-enter_kept.ensures.entered new y d x entries found here) stays,
    )
