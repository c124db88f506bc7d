use Rattle.std.proofs.Common.{◌≡◌, ◌≢◌, ◌<◌, ◌≤◌, ◌+◌, ℕ, List, get_or, take, arith, subst, sym, refl, inl, inr, ◌∙◌}
use Rattle.std.proofs.lemmas.Bool.{cases_lt}
use Rattle.std.proofs.lemmas.List.Elements.{All-contains, Contains-get_or}
use Rattle.tacho_law.specs.declared.days.DutyDay.{DutyDay}
use Rattle.tacho_law.specs.declared.breach.Kind.TheVariants.{B3}
use Rattle.tacho_law.specs.Days.{IsReduced}
use Rattle.tacho_law.specs.Breaches.{IsB3}
use Rattle.tacho_plain.specs.DayBreaches.{IsInTime}
use Rattle.tacho_plain.proofs.DayFoundLemmas.{no_day, found_none, found_add_at, found_skip_at, found_exactly}
use Rattle.tacho_plain.proofs.TallyLemmas.{Tallied, tally_none, tally_at, tally_skip_at, index_below}
use Rattle.tacho_plain.proofs.OrdinalLemmas.{SinceWeekly, weekly_keys, B3Of, b3_is, b3_to}
use Rattle.tacho_plain.proofs.OrdinalLemmas.{b3_back, b3_add, b3_few, b3_none, b3_key}
use Rattle.tacho_plain.proofs.daily_rests.often_reduced.Goals as goal
use Rattle.tacho_plain.proofs.daily_rests.often_reduced.Goals.{then-tally-gt-REDUCED_DAILY_RESTS+in_ok-push}
use Rattle.tacho_plain.proofs.daily_rests.often_reduced.Goals.{else-tally-gt-REDUCED_DAILY_RESTS}

pub loop-day-init : goal.loop-day-init
loop-day-init c = record {
  few = omega arith;
  tallied = λ line runs all weekly are. tally_none (SinceWeekly line);
  seen = λ line runs all weekly are. rw c.new-found.ensures.items (found_none (B3Of line) (b3_is line runs all));
}

pub counted-tally-requires : goal.counted-tally-requires
counted-tally-requires c =
    let xs : List DutyDay = c.args.reduced.now in
    let i : ℕ = c.loop-day.day-index in
    let few : c.loop-day.tally.count ≤ i = c.loop-day.invariant.few in
    let low : i ≤ (get_or xs i no_day).start =
    index_below xs c.requires.by_day c.requires.in_time i c.loop-day-test.true in
    let t : IsInTime (get_or xs i no_day) = c.requires.in_time i no_day c.loop-day-test.true in
    let a : (get_or xs i no_day).start < (get_or xs i no_day).past = t.some in
    let b : (get_or xs i no_day).past ≤ 68374080 = t.ended in
    omega arith

-- a tally's count is at most the number of days
next_few : (key k count n i : ℕ) → count ≤ i → (key ≡ k → n ≡ count + 1) → (key ≢ k → n ≡ 1) → n ≤ i + 1
next_few key k count n i few same other = elim (cases_lt key k) [
  | inl lt ↦ let e : n ≡ 1 = other (omega arith) in omega arith
  | inr ge ↦ elim (cases_lt k key) [
    | inl gt ↦ let e : n ≡ 1 = other (omega arith) in omega arith
    | inr le ↦ let e : n ≡ count + 1 = same (omega arith) in omega arith
  ]
]

pub loop-day-preserved : goal.loop-day-preserved
loop-day-preserved c =
    let xs : List DutyDay = c.args.reduced.now in
    let i : ℕ = c.loop-day.day-index in
    let key : ℕ = c.counted-tally.result.key in
    let count : ℕ = c.counted-tally.result.count in
    let k : ℕ = c.in-Some.since in
    let same : key ≡ k = c.counted-tally.ensures.key in
    record {
      few =
          next_few c.loop-day.tally.key k c.loop-day.tally.count count i c.loop-day.invariant.few
          c.counted-tally.ensures.same c.counted-tally.ensures.other;
      tallied = λ line runs all weekly are.
          (let m : IsReduced line (get_or xs i no_day) =
          (are.each (get_or xs i no_day)).0 (Contains-get_or xs i no_day c.loop-day-test.true) in
          let is : SinceWeekly line (get_or xs i no_day) k =
          b3_key line runs all c.args.weekly.now weekly (get_or xs i no_day) k m.duty c.in-Some.ensures in
          subst (λ (z : ℕ). Tallied (SinceWeekly line) (take (i + 1) xs) z count) (sym same)
          (tally_at (IsReduced line) (SinceWeekly line) (weekly_keys line runs all)
          xs are c.requires.in_time i c.loop-day-test.true c.loop-day.tally.key
          c.loop-day.tally.count k count (c.loop-day.invariant.tallied line runs all weekly are)
          is c.counted-tally.ensures.same c.counted-tally.ensures.other));
      seen = λ line runs all weekly are.
          (let m : IsReduced line (get_or xs i no_day) =
          (are.each (get_or xs i no_day)).0 (Contains-get_or xs i no_day c.loop-day-test.true) in
          let is : SinceWeekly line (get_or xs i no_day) k =
          b3_key line runs all c.args.weekly.now weekly (get_or xs i no_day) k m.duty c.in-Some.ensures in
          let tallied : Tallied (SinceWeekly line) (take (i + 1) xs) k count =
          tally_at (IsReduced line) (SinceWeekly line) (weekly_keys line runs all)
          xs are c.requires.in_time i c.loop-day-test.true c.loop-day.tally.key
          c.loop-day.tally.count k count (c.loop-day.invariant.tallied line runs all weekly are)
          is c.counted-tally.ensures.same c.counted-tally.ensures.other in
          let time : IsInTime (get_or xs i no_day) = c.requires.in_time i no_day c.loop-day-test.true in
          elim c.if-tally-gt-REDUCED_DAILY_RESTS.branch [
            | then-tally-gt-REDUCED_DAILY_RESTS+in_ok-push w ↦
                rw (w.found-is, w.in_ok-push.ensures.items)
                (found_add_at (B3Of line) (b3_is line runs all) xs i c.loop-day-test.true are.in_order
                c.loop-day.found.items (c.loop-day.invariant.seen line runs all weekly are)
                _ (b3_add line runs all xs are c.requires.in_time i c.loop-day-test.true k count tallied
                is w.if-tally-gt-REDUCED_DAILY_RESTS.true _ refl (w.new.ensures ∙ time.rests)
                w.new-then-tally-gt-REDUCED_DAILY_RESTS.ensures (omega arith)))
            | else-tally-gt-REDUCED_DAILY_RESTS w ↦
                rw w.found-is
                (found_skip_at (B3Of line) (b3_is line runs all) xs i c.loop-day-test.true are.in_order
                c.loop-day.found.items (c.loop-day.invariant.seen line runs all weekly are)
                (b3_few line runs all xs are c.requires.in_time i c.loop-day-test.true
                k count tallied is w.if-tally-gt-REDUCED_DAILY_RESTS.false))
          ]);
    }

pub returns : goal.returns
returns c = λ line runs all weekly are.
    let xs : List DutyDay = c.args.reduced.now in
    found_exactly (B3Of line) (b3_is line runs all) (λ breach. (breach.kind ≡ B3) × IsB3 line breach)
    xs c.loop-day.day-index c.loop-day.found.items c.loop-day-test.false
    (c.loop-day.invariant.seen line runs all weekly are) (b3_to line)
    (b3_back line xs are (λ x in'. All-contains (λ (y : DutyDay). IsInTime y) xs x c.requires.in_time in'))

pub loop-day-preserved-in_default : goal.loop-day-preserved-in_default
loop-day-preserved-in_default c =
    let xs : List DutyDay = c.args.reduced.now in
    let i : ℕ = c.loop-day.day-index in
    record {
      few = let f : c.loop-day.tally.count ≤ i = c.loop-day.invariant.few in omega arith;
      tallied = λ line runs all weekly are.
          (let m : IsReduced line (get_or xs i no_day) =
          (are.each (get_or xs i no_day)).0 (Contains-get_or xs i no_day c.loop-day-test.true) in
          tally_skip_at (IsReduced line) (SinceWeekly line) (weekly_keys line runs all)
          xs are c.requires.in_time i c.loop-day-test.true c.loop-day.tally.key
          c.loop-day.tally.count (c.loop-day.invariant.tallied line runs all weekly are)
          (b3_none line runs all c.args.weekly.now weekly (get_or xs i no_day) m.duty c.in_default.ensures));
      seen = λ line runs all weekly are.
          (let m : IsReduced line (get_or xs i no_day) =
          (are.each (get_or xs i no_day)).0 (Contains-get_or xs i no_day c.loop-day-test.true) in
          found_skip_at (B3Of line) (b3_is line runs all) xs i c.loop-day-test.true are.in_order c.loop-day.found.items
          (c.loop-day.invariant.seen line runs all weekly are) (λ b p.
          b3_none line runs all c.args.weekly.now weekly (get_or xs i no_day)
          m.duty c.in_default.ensures p.weekly.past (p.weekly, p.last, refl)));
    }
