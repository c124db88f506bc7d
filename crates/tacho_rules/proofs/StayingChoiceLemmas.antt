-- If no choice of weeks serves all weeks up to one that has ended, none does when the line continues after its horizon; weeks that were
-- served before that one still are (`laws::breaches_stay`).
use Rattle.std.proofs.Common.{◌≡◌, ◌≢◌, ℕ, ◌+◌, ◌-◌, ◌<◌, ◌≤◌, ◌⊎◌, inl, inr, refl, sym, ap, subst, ◌∙◌, arith}
use Rattle.std.proofs.Common.{cond, leb, ltb, ◌/◌}
use Rattle.std.proofs.lemmas.Bool.{cases_lt, le-leb, lt-leb, lt-ltb, le-ltb, cond-true, cond-false}
use Rattle.tacho_time.specs.declared.span.Activity.TheVariants.{Rest}
use Rattle.tacho_law.specs.declared.run.Run.{Run}
use Rattle.tacho_law.specs.declared.run.TheConstants.{FAR}
use Rattle.tacho_law.specs.declared.breach.Breach.{Breach}
use Rattle.tacho_law.specs.declared.breach.Kind.TheVariants.{B9}
use Rattle.tacho_law.specs.Line.{Line}
use Rattle.tacho_law.specs.Limits.{latest, weekly_rest, regular_weekly_rest, minutes_of_week, first_week}
use Rattle.tacho_law.specs.Runs.{IsRestRun, IsRestOf, minutes_of}
use Rattle.tacho_law.specs.Weeks.{week_start, Touches, IsWhollyAtRest, IsWeeklyRest}
use Rattle.tacho_law.specs.Choice.{IsChoice, IsCounted, Serves, CanServe}
use Rattle.tacho_law.specs.Anew.{FailsFrom, Fails, EndedBy}
use Rattle.tacho_law.specs.Anew.Fails.{at_first, anew}
use Rattle.tacho_law.specs.Breaches.{IsB9}
use Rattle.tacho_law.proofs.CoveringLemmas.{EndsAfter, ends_after}
use Rattle.tacho_rules.proofs.StayingLemmas.{GoesOn}
use Rattle.tacho_rules.proofs.StayingHoursLemmas.{HasSame}

-- the first week in which a run has a minute
abbrev first_of : Run → ℕ
first_of run = (run.start - first_week) / minutes_of_week

-- the line is at rest from `h` to before `x`; `x` is `FAR`, or the line isn't at rest there
record RestsOn (line : Line) (h x : ℕ) : Type 0 where
  later : h ≤ x
  rest : (m : ℕ) → h ≤ m → m < x → line m ≡ Rest
  until : (x ≡ FAR) ⊎ (line x ≢ Rest)
  after : (m : ℕ) → FAR ≤ m → line m ≡ Rest

-- a run that has minute `h - 1` ends at `x`
module _ (line : Line) (h x : ℕ) (on : RestsOn line h x) where
  ends_by : x ≤ FAR
  ends_by = elim on.until [
    | inl far ↦ omega arith
    | inr busy ↦ elim (cases_lt FAR x) [ inl over ↦ absurd (busy (on.after x (omega arith))) | inr le ↦ le ]
  ]

  ends_at : (run : Run) → IsRestRun line run → run.start < h → h ≤ run.past → run.past ≡ x
  ends_at run is start above =
      let le : x ≤ FAR = ends_by in
      let later : h ≤ x = on.later in
      elim (cases_lt run.past x) [
        | inl early ↦ elim is.until [
          | inl far ↦ absurd (omega arith)
          | inr busy ↦ absurd (busy (on.rest run.past above early))
        ]
        | inr ge ↦ elim (cases_lt x run.past) [
          | inl late ↦ elim on.until [
            | inl far ↦ elim is.until [
              | inl far' ↦ absurd (omega arith)
              | inr busy ↦ absurd (busy (on.after run.past (omega arith)))
            ]
            | inr busy ↦ absurd (busy (is.rest x (omega arith) late))
          ]
          | inr le' ↦ omega arith
        ]
      ]

-- a run with another end
abbrev with_end : Run → ℕ → Run
with_end run past = record { start = run.start; past = past }

-- a run that reaches `h` gets the end `y`; any other run is unchanged
abbrev turn : ℕ → ℕ → Run → Run
turn h y run = with_end run (cond (leb h run.past) y run.past)

short_turn : (h y : ℕ) (run : Run) → run.past < h → turn h y run ≡ run
short_turn h y run below =
    ap (with_end run) (cond-false (leb h run.past) y run.past (lt-leb h run.past below))

long_turn : (h y : ℕ) (run : Run) → h ≤ run.past → turn h y run ≡ with_end run y
long_turn h y run above =
    ap (with_end run) (cond-true (leb h run.past) y run.past (le-leb h run.past above))

-- week `w` if the run ends after the week's start, else the run's first week
abbrev pick_begun : Run → ℕ → ℕ
pick_begun run w = cond (ltb (week_start w) run.past) w (first_of run)

-- week `w` if the run touches it, else the run's first week
abbrev pick : Run → ℕ → ℕ
pick run w = cond (ltb run.start (week_start (w + 1))) (pick_begun run w) (first_of run)

pick_is : (run : Run) (w : ℕ) → run.start < week_start (w + 1) → pick run w ≡ pick_begun run w
pick_is run w before =
    cond-true (ltb run.start (week_start (w + 1))) (pick_begun run w) (first_of run)
    (lt-ltb run.start (week_start (w + 1)) before)

picked : (run : Run) (w : ℕ) → Touches run w → pick run w ≡ w
picked run w (before, behind) =
    pick_is run w before
    ∙ cond-true (ltb (week_start w) run.past) w (first_of run) (lt-ltb (week_start w) run.past behind)

picks : (run : Run) (w : ℕ) → Touches run (first_of run) → Touches run (pick run w)
picks run w first = elim (cases_lt run.start (week_start (w + 1))) [
  | inl before ↦ elim (cases_lt (week_start w) run.past) [
    | inl behind ↦ subst (Touches run) (sym (picked run w (before, behind))) (before, behind)
    | inr ended ↦
        let e : pick_begun run w ≡ first_of run =
        cond-false (ltb (week_start w) run.past) w (first_of run) (le-ltb (week_start w) run.past ended) in
        subst (Touches run) (sym (pick_is run w before ∙ e)) first
  ]
  | inr late ↦
      let e : pick run w ≡ first_of run =
      cond-false (ltb run.start (week_start (w + 1))) (pick_begun run w) (first_of run)
      (le-ltb run.start (week_start (w + 1)) late) in
      subst (Touches run) (sym e) first
]

-- a run that ends before `h` is a run of each line that agrees before `h`
run_same : (line other : Line) (h : ℕ) (run : Run) → ((m : ℕ) → m < h → line m ≡ other m) → run.past < h
    → IsRestRun line run → IsRestRun other run
run_same line other h run agree below is =
    let some : run.start < run.past = is.some in
    record {
      some = some;
      rest = λ m above under. sym (agree m (omega arith)) ∙ is.rest m above under;
      from = elim is.from [
        | inl none ↦ inl none
        | inr busy ↦ inr (λ m e r. busy m e (agree m (omega arith) ∙ r))
      ];
      until = elim is.until [ inl far ↦ inl far | inr busy ↦ inr (λ r. busy (agree run.past below ∙ r)) ];
    }

-- two lines that agree before `h`, and are at rest from there to before `x` and to before `y`
module _ (line other : Line) (h x y : ℕ) (agree : (m : ℕ) → m < h → line m ≡ other m)
    (on : RestsOn line h x) (goes : RestsOn other h y) where
  -- a run of `line` that starts before `h` is a run of `other`, with the end that it has there
  turned : (run : Run) → IsRestRun line run → run.start < h → IsRestRun other (turn h y run)
  turned run is start = elim (cases_lt run.past h) [
    | inl below ↦ subst (IsRestRun other) (sym (short_turn h y run below)) (run_same line other h run agree below is)
    | inr above ↦
        let later : h ≤ y = goes.later in
        subst (IsRestRun other) (sym (long_turn h y run above)) (record {
          some = omega arith;
          rest = λ m a b. elim (cases_lt m h) [
            | inl before ↦ sym (agree m before) ∙ is.rest m a (omega arith)
            | inr behind ↦ goes.rest m behind b
          ];
          from = elim is.from [
            | inl none ↦ inl none
            | inr busy ↦ inr (λ m e r. busy m e (agree m (omega arith) ∙ r))
          ];
          until = goes.until;
        })
  ]

  turned_back : (run : Run) → IsRestRun line run → run.start < h → turn h x (turn h y run) ≡ run
  turned_back run is start = elim (cases_lt run.past h) [
    | inl below ↦ ap (turn h x) (short_turn h y run below) ∙ short_turn h x run below
    | inr above ↦
        let later : h ≤ y = goes.later in
        ap (turn h x) (long_turn h y run above)
        ∙ (long_turn h x (with_end run y) later
        ∙ ap (with_end run) (sym (ends_at line h x on run is start above)))
  ]

  -- such a run doesn't end earlier in `other`, or it reaches past the week after `u`
  module _ (u : ℕ) (ended : week_start (u + 1) ≤ h) (grows : (x ≤ y) ⊎ (week_start (u + 2) ≤ h)) where
    grown : (run : Run) → IsRestRun line run → run.start < h
        → (run.past ≤ (turn h y run).past) ⊎ (week_start (u + 2) ≤ (turn h y run).past)
    grown run is start = elim (cases_lt run.past h) [
      | inl below ↦
          let e : (turn h y run).past ≡ run.past = ap (λ (r : Run). r.past) (short_turn h y run below) in
          inl (omega arith)
      | inr above ↦
          let e : (turn h y run).past ≡ y = ap (λ (r : Run). r.past) (long_turn h y run above) in
          let f : run.past ≡ x = ends_at line h x on run is start above in
          let later : h ≤ y = goes.later in
          elim grows [ inl le ↦ inl (omega arith) | inr le ↦ inr (omega arith) ]
    ]

    rest_on : (least : ℕ) (run : Run) → least ≤ minutes_of_week → run.start < week_start (u + 1)
        → IsRestOf line least run → IsRestOf other least (turn h y run)
    rest_on least run small start is =
        let enough : least ≤ minutes_of run = is.enough in
        let before : run.start < h = omega arith in
        record {
          rests = turned run is.rests before;
          enough = elim (grown run is.rests before) [ inl a ↦ omega arith | inr b ↦ omega arith ];
        }

    touches_on : (run : Run) (w : ℕ) → w ≤ u → IsRestRun line run → Touches run w → Touches (turn h y run) w
    touches_on run w le is (before, behind) = (
      before,
      elim (grown run is (omega arith)) [ inl a ↦ omega arith | inr b ↦ omega arith ],
    )

    module _ (week_of : Run → ℕ) (choice : IsChoice line week_of) where
      -- in `other`, each rest is counted in the week of the run with its start in `line`, if it touches that week
      abbrev now : Run → ℕ
      now run = pick run (week_of (turn h x run))

      now_choice : IsChoice other now
      now_choice run is = elim (cases_lt run.past h) [
        | inl below ↦
            let ours : IsWeeklyRest line run = record {
              rests = run_same other line h run (λ m b. sym (agree m b)) below is.rests;
              enough = is.enough;
            } in
            let t : Touches run (week_of (turn h x run)) =
            subst (λ (r : Run). Touches run (week_of r)) (sym (short_turn h x run below)) (choice run ours) in
            subst (Touches run) (sym (picked run (week_of (turn h x run)) t)) t
        | inr above ↦
            let some : run.start < run.past = is.rests.some in
            picks run (week_of (turn h x run)) (omega arith, omega arith)
      ]

      -- what is counted in a week up to `u` in `line` is counted in that week in `other`
      module _ (run : Run) (is : IsWeeklyRest line run) (w : ℕ) (le : w ≤ u) (at : week_of run ≡ w) where
        touched : Touches run w
        touched = subst (Touches run) at (choice run is)

        begun : run.start < week_start (u + 1)
        begun = let before : run.start < week_start (w + 1) = touched.0 in omega arith

        counted_on : now (turn h y run) ≡ w
        counted_on =
            let start : run.start < week_start (u + 1) = begun in
            let same : week_of (turn h x (turn h y run)) ≡ w =
            ap week_of (turned_back run is.rests (omega arith)) ∙ at in
            ap (pick (turn h y run)) same ∙ picked (turn h y run) w (touches_on run w le is.rests touched)

      module _ (v : ℕ) (le : v + 1 ≤ u) where
        began : (run : Run) → IsWeeklyRest line run → IsCounted week_of v run → run.start < week_start (u + 1)
        began run is counted = elim counted [
          | inl a ↦ begun run is v (omega arith) a
          | inr b ↦ begun run is (v + 1) le b
        ]

        pair_on : (run : Run) → IsWeeklyRest line run → IsCounted week_of v run → IsCounted now v (turn h y run)
        pair_on run is counted = elim counted [
          | inl a ↦ inl (counted_on run is v (omega arith) a)
          | inr b ↦ inr (counted_on run is (v + 1) le b)
        ]

        wholly : (w : ℕ) → w ≤ u → IsWhollyAtRest line w → IsWhollyAtRest other w
        wholly w below whole m within =
            let b : m < week_start (w + 1) = within.1 in sym (agree m (omega arith)) ∙ whole m within

        serves_on : Serves line week_of v → Serves other now v
        serves_on (inl whole) = inl (wholly v (omega arith) whole)
        serves_on (inr (inl whole)) = inr (inl (wholly (v + 1) le whole))
        serves_on (inr (inr two)) =
            let enough : regular_weekly_rest ≤ minutes_of two.long = two.enough.enough in
            let weekly : IsWeeklyRest line two.long = record { rests = two.enough.rests; enough = omega arith } in
            let a : two.long.start < week_start (u + 1) = began two.long weekly two.long_counted in
            let b : two.other.start < week_start (u + 1) = began two.other two.weekly two.other_counted in
            inr (inr (record {
              long = turn h y two.long;
              other = turn h y two.other;
              enough = rest_on regular_weekly_rest two.long (omega arith) a two.enough;
              weekly = rest_on weekly_rest two.other (omega arith) b two.weekly;
              different = λ same. two.different
                  (sym (turned_back two.long weekly.rests (omega arith))
                  ∙ (ap (turn h x) same ∙ turned_back two.other two.weekly.rests (omega arith)));
              long_counted = pair_on two.long weekly two.long_counted;
              other_counted = pair_on two.other two.weekly two.other_counted;
            }))

    -- if the weeks up to `u` can be served in `line`, they can be in `other`
    serves_there : (a : ℕ) → CanServe line a u → CanServe other a u
    serves_there a s = record {
      week_of = now s.week_of s.choice;
      choice = now_choice s.week_of s.choice;
      each = λ v above below. serves_on s.week_of s.choice v below (s.each v above below);
    }

module _ (line other : Line) (h k : ℕ) (g : GoesOn line other h k) where
  far : h ≤ FAR
  far = let a : h ≤ k = g.later in let b : k ≤ latest = g.early in omega arith

  ours : RestsOn line h FAR
  ours = record {
    later = far;
    rest = λ m above below. g.rest m above;
    until = inl refl;
    after = λ m above. let f : h ≤ FAR = far in g.rest m (omega arith);
  }

  theirs : (x : ℕ) × RestsOn other h x
  theirs =
      let f : h ≤ FAR = far in
      let early : k ≤ latest = g.early in
      let e : EndsAfter other h = ends_after other (FAR - h) h (omega arith) in (
        e.past,
        record {
          later = e.above;
          rest = e.rest;
          until = e.until;
          after = λ m above. g.other_rest m (omega arith);
        },
      )

  -- ended weeks that can't be served can't be served however the line continues: rests only become shorter
  serves_back : (a u : ℕ) → EndedBy h u → CanServe other a u → CanServe line a u
  serves_back a u ended =
      serves_there other line h theirs.0 FAR (λ m below. sym (g.agree m below)) theirs.1 ours u ended
      (inl (ends_by other h theirs.0 theirs.1)) a

  -- weeks before an ended week that can be served stay so: a rest that reaches the ended week is long enough in both lines
  serves_further : (a u : ℕ) → EndedBy h (u + 1) → CanServe line a u → CanServe other a u
  serves_further a u ended =
      let next : week_start (u + 1 + 1) ≤ h = ended in
      let later : week_start (u + 2) ≤ h = omega arith in
      serves_there line other h FAR theirs.0 g.agree ours theirs.1 u (omega arith) (inr later) a

  fails_from : (a u : ℕ) → FailsFrom (CanServe line) (EndedBy h) a u → FailsFrom (CanServe other) (EndedBy k) a u
  fails_from a u f =
      let ended : week_start (u + 1) ≤ h = f.ended in
      let later : h ≤ k = g.later in
      record {
        later = f.later;
        ended = omega arith;
        none = λ s. f.none (serves_back a u ended s);
        before = λ v above under. serves_further a v (omega arith) (f.before v above under);
      }

  -- a week at which the rule is broken in `line` is one in `other`
  fails_stay : (first u : ℕ) → Fails (CanServe line) (EndedBy h) first u → Fails (CanServe other) (EndedBy k) first u
  fails_stay first u (at_first f) = at_first (fails_from first u f)
  fails_stay first u (anew {a = a} before f) = anew (fails_stay first a before) (fails_from a u f)

  -- a B9 breach stays
  pub b9_stays : (base : ℕ) (breach : Breach) → IsB9 line base h breach
      → HasSame (λ b. (b.kind ≡ B9) × IsB9 other base k b) (record breach { kind = B9 })
  b9_stays base breach is = (
    record { kind = B9; moment = breach.moment; since = breach.since; amount = breach.amount },
    (
      refl,
      record {
        first = is.first;
        week = is.week;
        monday = is.monday;
        fails = fails_stay is.first (is.week + 1) is.fails;
        moment = is.moment;
        since = is.since;
        amount = is.amount;
      },
    ),
    record { moment = refl; kind = refl; since = refl },
  )

-- in a line that is always at rest, all weeks can be served
served_at_rest : (line : Line) → ((m : ℕ) → line m ≡ Rest) → (a u : ℕ) → CanServe line a u
served_at_rest line rest a u = record {
  week_of = first_of;
  choice = λ run is.
      let start : run.start ≡ 0 = elim is.rests.from [
        | inl none ↦ none
        | inr busy ↦ elim (cases_lt 0 run.start) [
          | inl some ↦ absurd (busy (run.start - 1) (omega arith) (rest (run.start - 1)))
          | inr none ↦ omega arith
        ]
      ] in
      let past : run.past ≡ FAR = elim is.rests.until [ inl far ↦ far | inr busy ↦ absurd (busy (rest run.past)) ] in
      (omega arith, omega arith);
  each = λ w above below. inl (λ m within. rest m);
}

-- so the rule is never broken there
pub none_at_rest : (line : Line) → ((m : ℕ) → line m ≡ Rest) → (h first u : ℕ)
    → Fails (CanServe line) (EndedBy h) first u → ⊥
none_at_rest line rest h first u (at_first f) = f.none (served_at_rest line rest first u)
none_at_rest line rest h first u (anew {a = a} before f) = f.none (served_at_rest line rest a u)
