-- Trusted in part: What is counted in a week, given its weekly rests, and whether the rest that crosses its start is counted before
-- it and the one that crosses its end is counted by its end (Regulation (EC) No 561/2006, Articles 8(6), first subparagraph, and 8(9)).
use Rattle.std.specs.Prelude.{◌≡◌, ◌+◌, ◌&&◌, ◌||◌, not, ℕ, Bool, true, false, List, Option, Some, None, is_some}
use Rattle.std.specs.Prelude.{if◌then◌else◌, slice_index_or, nat_lt, nat_le}
use Rattle.tacho_choice.specs.declared.counted.Counted.{Counted}
use Rattle.tacho_choice.specs.declared.counted.Counted.TheVariants.{Nothing, One, More}
use Rattle.tacho_choice.specs.declared.outcome.Outcome.{Outcome}
use Rattle.tacho_choice.specs.declared.weekly_rests.WeeklyRests.{WeeklyRests}

-- true for one rest or more
abbrev pub has_one : Counted → Bool
has_one Nothing = false
has_one (One regular) = true
has_one (More regular) = true

-- true for two rests or more
abbrev pub has_two : Counted → Bool
has_two Nothing = false
has_two (One regular) = false
has_two (More regular) = true

-- true if a regular rest is among them
abbrev pub has_regular : Counted → Bool
has_regular Nothing = false
has_regular (One regular) = regular
has_regular (More regular) = regular

-- with one more rest
abbrev pub plus : Counted → Bool → Counted
plus Nothing regular = One regular
plus (One before) regular = More (before || regular)
plus (More before) regular = More (before || regular)

-- with one more rest, if there is one and it is taken
abbrev pub plus_where : Bool → Option Bool → Counted → Counted
plus_where taken None counted = counted
plus_where true (Some regular) counted = plus counted regular
plus_where false (Some regular) counted = counted

-- what is counted in a week: the rests inside it; the one that crosses its start, if it isn't counted before but is by the week's end; and
-- the one that starts in it and crosses its end, if it is counted by then
abbrev pub counted_of : WeeklyRests → Bool → Bool → Counted
counted_of week before after =
    plus_where after week.starting
    (plus_where (not before && (not week.through || after)) week.entering week.inside)

-- only a rest that crosses the week's end can be counted by then; if it also crosses the week's start and is counted before it, it is
abbrev pub may : WeeklyRests → Bool → Bool → Bool
may week before after =
    (not after || (week.through || is_some week.starting)) && (not (week.through && before) || after)

-- Article 8(6), first subparagraph: two rests in two weeks, one of them regular
abbrev pub serves : Counted → Counted → Bool
serves a b = (has_regular a || has_regular b) && ((has_two a || has_two b) || (has_one a && has_one b))

-- an outcome of a week, following the outcome `old` of the week before
pub record IsNext (week : WeeklyRests) (asks : Bool) (old new : Outcome) : Type 0 where
  pub allowed : may week old.crossing new.crossing ≡ true
  pub counted : new.counted ≡ counted_of week old.crossing new.crossing
  pub served : asks ≡ true → serves old.counted new.counted ≡ true

-- an outcome of a week, if nothing is required of the week before
pub record IsFirst (week : WeeklyRests) (new : Outcome) : Type 0 where
  pub before : Bool
  pub comes : before ≡ true → is_some week.entering ≡ true
  pub allowed : may week before new.crossing ≡ true
  pub counted : new.counted ≡ counted_of week before new.crossing

-- an outcome's place among the ten
abbrev pub place_of_counted : Counted → ℕ
place_of_counted Nothing = 0
place_of_counted (One false) = 1
place_of_counted (One true) = 2
place_of_counted (More false) = 3
place_of_counted (More true) = 4

abbrev pub first_place : Bool → ℕ
first_place crossing = if crossing then 5 else 0

abbrev pub place_of : Outcome → ℕ
place_of outcome = place_of_counted outcome.counted + first_place outcome.crossing

-- the outcome is in the set
abbrev pub HasOutcome : List Bool → Outcome → Type 0
HasOutcome outcomes outcome = slice_index_or outcomes (place_of outcome) false ≡ true

-- an outcome reached from one of these with `crossing ≡ before`, where the rest that crosses the week's end is counted by then iff `after`
abbrev pub IsLedTo : WeeklyRests → Bool → List Bool → Bool → Bool → Outcome → Type 0
IsLedTo week asks outcomes before after new =
    (new.crossing ≡ after)
    × ((old : Outcome) × (HasOutcome outcomes old × (old.crossing ≡ before) × IsNext week asks old new))

-- a week with one more rest, given by its first and its last week
abbrev pub with_rest : WeeklyRests → ℕ → ℕ → ℕ → Bool → WeeklyRests
with_rest week w first last regular =
    if nat_lt first w
    then (if nat_le w last
    then record {
      entering = Some regular;
      inside = week.inside;
      starting = week.starting;
      through = week.through || nat_lt w last;
    }
    else week)
    else (if nat_lt w first
    then week
    else (if nat_lt w last
    then record {
      entering = week.entering;
      inside = week.inside;
      starting = Some regular;
      through = week.through;
    }
    else record {
      entering = week.entering;
      inside = plus week.inside regular;
      starting = week.starting;
      through = week.through;
    }))
