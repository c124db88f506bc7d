use Rattle.std.proofs.Common.{◌∷◌, ◌++◌, ◌≤◌, [], ℕ, List, append-nil, append_assoc, arith, get_or, refl, sym, subst}
use Rattle.std.proofs.lemmas.List.{take_all}
use Rattle.std.proofs.lemmas.List.Elements.{Contains-get_or}
use Rattle.tacho_law.specs.declared.run.Run.{Run}
use Rattle.tacho_law.specs.Debts.{minutes_before}
use Rattle.tacho_law.specs.Runs.{Before}
use Rattle.tacho_periods.proofs.KeptLemmas.{kept_none, kept_add_at, kept_skip_at}
use Rattle.tacho_periods.proofs.RunsLemmas.{no_run}
use Rattle.tacho_evidence.proofs.DebtLinesLemmas.{HaveLines, rooms_push}
use Rattle.tacho_evidence.proofs.debts.append_rooms.Goals as goal
use Rattle.tacho_evidence.proofs.debts.append_rooms.Goals.{then-known_minutes-ge-DAILY_REST+in_ok-push, else-known_minutes-ge-DAILY_REST}

pub loop-rest-init : goal.loop-rest-init
loop-rest-init c = λ line are rests. record {
  long = [];
  rooms = [];
  kept = kept_none Run Before (λ run. 540 ≤ minutes_before c.args.horizon run);
  are = refl;
  is = sym (append-nil c.args.lines.now.items);
}

pub loop-rest-preserved : goal.loop-rest-preserved
loop-rest-preserved c = λ line are rests.
    let xs : List Run = c.args.rests.now in
    let i : ℕ = c.loop-rest.rest-index in
    let x : Run = get_or xs i no_run in
    let so_far = c.loop-rest.invariant line are rests in
    elim c.if-known_minutes-ge-DAILY_REST.branch [
      | then-known_minutes-ge-DAILY_REST+in_ok-push w ↦ record {
        long = so_far.long ++ x ∷ [];
        rooms = so_far.rooms ++ w.room_of.result ∷ [];
        kept = kept_add_at Run Before (λ run. 540 ≤ minutes_before c.args.horizon run) xs i no_run c.loop-rest-test.true
            c.requires.rests.in_order so_far.long so_far.kept (omega arith);
        are = rooms_push line c.args.horizon c.args.older.now c.args.deadline so_far.long x so_far.rooms w.room_of.result
            so_far.are (w.room_of.ensures line are (rests x (Contains-get_or xs i no_run c.loop-rest-test.true)));
        is = rw (w.lines-is, w.in_ok-push.ensures.items, so_far.is) (append_assoc c.args.lines.now.items so_far.rooms (w.room_of.result ∷ []));
      }
      | else-known_minutes-ge-DAILY_REST w ↦ record {
        long = so_far.long;
        rooms = so_far.rooms;
        kept = kept_skip_at Run Before (λ run. 540 ≤ minutes_before c.args.horizon run) xs i no_run c.loop-rest-test.true
            c.requires.rests.in_order so_far.long so_far.kept (λ enough. omega arith);
        are = so_far.are;
        is = rw w.lines-is so_far.is;
      }
    ]

pub returns : goal.returns
returns c = λ line are rests.
    let xs : List Run = c.args.rests.now in
    let all : HaveLines line c.args.horizon c.args.older.now c.args.deadline xs c.args.lines.now.items c.loop-rest.lines.items =
    subst (λ (seen : List Run). HaveLines line c.args.horizon c.args.older.now c.args.deadline seen c.args.lines.now.items
    c.loop-rest.lines.items) (take_all c.loop-rest.rest-index xs c.loop-rest-test.false) (c.loop-rest.invariant line are rests) in
    (all.long, all.rooms, all.kept, all.are, all.is)
