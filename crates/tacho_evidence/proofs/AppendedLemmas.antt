-- What a loop appends for those things of a list that have a property (`append_rests`, `append_reduced`, `append_extended`).
use Rattle.std.proofs.Common.{◌≡◌, ℕ, ◌+◌, ◌<◌, ◌≤◌, List, [], ◌∷◌, ◌++◌, length, get_or, take, map, sym, ap, subst}
use Rattle.std.proofs.Common.{◌∙◌, arith, append_assoc, length-append}
use Rattle.std.specs.Prelude.{◌↔◌}
use Rattle.std.specs.List.{AllPairs, Contains}
use Rattle.std.proofs.lemmas.List.{take_all, append-nil, map-append}
use Rattle.tacho_law.specs.declared.run.Run.{Run}
use Rattle.tacho_law.specs.declared.days.DutyDay.{DutyDay}
use Rattle.tacho_law.specs.Days.{EarlierDay, HasReducedRest, IsDuty}
use Rattle.tacho_law.specs.Driving.{driving}
use Rattle.tacho_law.specs.Exactly.{AreExactly}
use Rattle.tacho_law.specs.Line.{Line}
use Rattle.tacho_law.specs.Runs.{minutes_of, AreRestRuns, AreRestsOf, Before}
use Rattle.tacho_law.specs.Weeks.{week_start, IsInWeek}
use Rattle.tacho_law.proofs.DaysLemmas.{reduced_by_parts}
use Rattle.tacho_law.proofs.ExactlyLemmas.{exactly_as}
use Rattle.tacho_periods.specs.DutyDays.{AreDutyDays}
use Rattle.tacho_periods.proofs.KeptLemmas.{AreKept, kept_none, kept_add_at, kept_skip_at}
use Rattle.tacho_evidence.specs.declared.line.EvidenceLine.{EvidenceLine}
use Rattle.tacho_evidence.specs.declared.line.EvidenceLine.TheVariants.{Extended, Reduced, Rest}
use Rattle.tacho_evidence.specs.Evidence.{extended_lines, reduced_lines, IsExtendedUpTo, IsReducedSince, IsRestWithin}

-- after some lines there are those of the things seen that have a property
pub record Appended {A : Type 0} (R : A → A → Type 0) (P : A → Type 0) (lines_of : List A → List EvidenceLine)
    (seen : List A) (before lines : List EvidenceLine) (count : ℕ) : Type 0 where
  pub kept : List A
  pub exactly : AreKept A R P seen kept
  pub lines_are : lines ≡ before ++ lines_of kept
  pub count_is : count ≡ length kept

module _ {A : Type 0} (R : A → A → Type 0) (P : A → Type 0) (lines_of : List A → List EvidenceLine)
    (before : List EvidenceLine) where
  -- before the first
  pub appended_none : lines_of [] ≡ [] → Appended R P lines_of [] before before 0
  appended_none none = record {
    kept = [];
    exactly = kept_none A R P;
    lines_are = sym (ap (λ (xs : List EvidenceLine). before ++ xs) none ∙ append-nil before);
    count_is = omega arith;
  }

  module _ (xs : List A) (i : ℕ) (d : A) (within : i < length xs) (order : AllPairs R xs) (lines : List EvidenceLine)
      (count : ℕ) (r : Appended R P lines_of (take i xs) before lines count) where
    -- the next has the property
    pub appended_add : (line : EvidenceLine)
        → ((ys : List A) → count ≡ length ys → lines_of (ys ++ get_or xs i d ∷ []) ≡ lines_of ys ++ line ∷ [])
        → P (get_or xs i d) → Appended R P lines_of (take (i + 1) xs) before (lines ++ line ∷ []) (count + 1)
    appended_add line more holds = record {
      kept = r.kept ++ get_or xs i d ∷ [];
      exactly = kept_add_at A R P xs i d within order r.kept r.exactly holds;
      lines_are =
          ap (λ (ys : List EvidenceLine). ys ++ line ∷ []) r.lines_are
          ∙ (append_assoc before (lines_of r.kept) (line ∷ [])
          ∙ ap (λ (ys : List EvidenceLine). before ++ ys) (sym (more r.kept r.count_is)));
      count_is =
          let n : count ≡ length r.kept = r.count_is in
          omega (arith, length-append r.kept (get_or xs i d ∷ []));
    }

    -- it doesn't
    pub appended_skip : (P (get_or xs i d) → ⊥) → Appended R P lines_of (take (i + 1) xs) before lines count
    appended_skip fails = record {
      kept = r.kept;
      exactly = kept_skip_at A R P xs i d within order r.kept r.exactly fails;
      lines_are = r.lines_are;
      count_is = r.count_is;
    }

  -- after the last
  pub appended_all : (xs : List A) (i : ℕ) (lines : List EvidenceLine) (count : ℕ) → length xs ≤ i
      → Appended R P lines_of (take i xs) before lines count → Appended R P lines_of xs before lines count
  appended_all xs i lines count past r =
      subst (λ (seen : List A). Appended R P lines_of seen before lines count) (take_all i xs past) r

-- one more rest
pub rests_more : (run : Run) (runs : List Run) → map Rest (runs ++ run ∷ []) ≡ map Rest runs ++ Rest run ∷ []
rests_more run runs = map-append Rest runs (run ∷ [])

-- one more reduced rest
pub reduced_more : (day : DutyDay) (i n : ℕ) (days : List DutyDay) → n ≡ i + length days
    → reduced_lines i (days ++ day ∷ []) ≡ reduced_lines i days ++ Reduced n day.rest day.start ∷ []
reduced_more day i n [] e = ap (λ (k : ℕ). Reduced k day.rest day.start ∷ []) (let f : i ≡ n = omega arith in f)
reduced_more day i n (first ∷ days) e =
    ap (λ (lines : List EvidenceLine). Reduced i first.rest first.start ∷ lines)
    (reduced_more day (i + 1) n days (omega arith))

-- one more extended day
pub extended_more : (line : Line) (day : DutyDay) (i n : ℕ) (days : List DutyDay) → n ≡ i + length days
    → extended_lines line i (days ++ day ∷ [])
    ≡ extended_lines line i days ++ Extended n day.start day.past (driving line day.start day.past) ∷ []
extended_more line day i n [] e =
    ap (λ (k : ℕ). Extended k day.start day.past (driving line day.start day.past) ∷ []) (let f : i ≡ n = omega arith in f)
extended_more line day i n (first ∷ days) e =
    ap (λ (lines : List EvidenceLine). Extended i first.start first.past (driving line first.start first.past) ∷ lines)
    (extended_more line day (i + 1) n days (omega arith))

-- what `is_rest_within` tests
abbrev pub LongWithin : DutyDay → Run → Type 0
LongWithin day run = (day.start ≤ run.start) × (run.past ≤ day.past) × (180 ≤ minutes_of run)

-- of the rests with a minute in a day, those that are appended are those within it
pub rests_within_are : (line : Line) (runs near : List Run) (day : DutyDay) (rests : List Run) → AreRestRuns line runs
    → ((run : Run) → Contains near run ↔ (Contains runs run × (run.start < day.past) × (day.start < run.past)))
    → AreExactly (λ run. Contains near run × LongWithin day run) Before rests → AreExactly (IsRestWithin line day) Before rests
rests_within_are line runs near day rests are part =
    exactly_as (λ run. Contains near run × LongWithin day run) (IsRestWithin line day) Before rests
    (λ run. (
      λ h. record {
        rest = record { rests = (are.each run).0 ((part run).0 h.0).0; enough = h.1.2 };
        after = h.1.0;
        before = h.1.1;
      },
      λ h. (let some : run.start < run.past = h.rest.rests.some in
          let from : day.start ≤ run.start = h.after in
          let to : run.past ≤ day.past = h.before in (
            (part run).1 ((are.each run).1 h.rest.rests, omega (arith, some, to), omega (arith, some, from)),
            (h.after, h.before, h.rest.enough),
          )),
    ))

-- of the days that end in a range, those that are appended are those with a reduced rest
pub reduced_appended : (line : Line) (days near : List DutyDay) (parts : List Run) (weekly : Run) (moment : ℕ)
    (before lines : List EvidenceLine) (count : ℕ) → AreDutyDays line days → AreRestsOf line 180 parts
    → ((day : DutyDay) → Contains near day ↔ (Contains days day × (weekly.past < day.past) × (day.past ≤ moment)))
    → Appended EarlierDay (HasReducedRest parts) (reduced_lines 1) near before lines count
    → (reduced : List DutyDay) × AreExactly (IsReducedSince line weekly moment) EarlierDay reduced
    × (lines ≡ before ++ reduced_lines 1 reduced)
reduced_appended line days near parts weekly moment before lines count are rests part r = (
  r.kept,
  exactly_as (λ day. Contains near day × HasReducedRest parts day) (IsReducedSince line weekly moment) EarlierDay r.kept
      (λ day. (
        λ h. (let (among, a, b) = (part day).0 h.0 in
            let duty : IsDuty line day = (are.each day).0 among in
            let p : day.past ≡ day.rest.start = duty.past in
            record {
              reduced = (reduced_by_parts line parts day rests duty).0 h.1;
              after = omega (arith, a, p);
              before = omega (arith, b, p);
            }),
        λ h. (let duty : IsDuty line day = h.reduced.duty in
            let p : day.past ≡ day.rest.start = duty.past in
            let a : weekly.past < day.rest.start = h.after in
            let b : day.rest.start ≤ moment = h.before in (
              (part day).1 ((are.each day).1 duty, omega (arith, a, p), omega (arith, b, p)),
              (reduced_by_parts line parts day rests duty).1 h.reduced,
            )),
      ))
      r.exactly,
  r.lines_are,
)

-- what makes a day of the week an extended one
abbrev pub HasLongDriving : Line → DutyDay → Type 0
HasLongDriving line day = 540 < driving line day.start day.past

-- of the days that begin in a range, those that are appended are the extended ones
pub extended_appended : (line : Line) (days near : List DutyDay) (week since : ℕ) (before lines : List EvidenceLine)
    (count : ℕ) → AreDutyDays line days → IsInWeek week since
    → ((day : DutyDay) → Contains near day ↔ (Contains days day × (week_start week ≤ day.start) × (day.start ≤ since)))
    → Appended EarlierDay (HasLongDriving line) (extended_lines line 1) near before lines count
    → (extended : List DutyDay) × AreExactly (IsExtendedUpTo line week since) EarlierDay extended
    × (lines ≡ before ++ extended_lines line 1 extended)
extended_appended line days near week since before lines count are in' part r = (
  r.kept,
  exactly_as (λ day. Contains near day × HasLongDriving line day) (IsExtendedUpTo line week since) EarlierDay r.kept
      (λ day. (
        λ h. (let (among, a, b) = (part day).0 h.0 in
            let d : since < week_start (week + 1) = in'.1 in
            record {
              extended = record { duty = (are.each day).0 among; week = (a, omega (arith, b, d)); over = h.1 };
              before = b;
            }),
        λ h. (
          (part day).1 ((are.each day).1 h.extended.duty, h.extended.week.0, h.before),
          h.extended.over,
        ),
      ))
      r.exactly,
  r.lines_are,
)
