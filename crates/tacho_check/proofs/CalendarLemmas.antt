-- The minutes that card files and entries give lie within the calendar.
use Rattle.std.proofs.Common.{◌≡◌, ℕ, zero, suc, ◌+◌, ◌-◌, ◌*◌, ◌/◌, ◌<◌, ◌≤◌, ◌==◌, nat_lt, not, inl, inr, Bool, true, false, cond, List, [], ◌∷◌, ◌++◌}
use Rattle.std.proofs.Common.{length, Option, None, Some, Result, Ok, Err, refl, subst, arith}
use Rattle.std.specs.List.{AllByRecursion}
use Rattle.std.proofs.lemmas.Bool.Decides.{nat_tests}
use Rattle.tacho_time.specs.Spans.{Gives}
use Rattle.tacho_time.specs.declared.span.Span.{Span}
use Rattle.tacho_time.specs.declared.span.Mark.{Mark}
use Rattle.tacho_line.proofs.MergeLemmas.{append_gives}
use Rattle.tacho_card.specs.CardFile.{FileBlock, ReadsChosen, card_file, chosen_activity, those_there}
use Rattle.tacho_card.specs.Chain.{chain_from, followed_by, has_no_records}
use Rattle.tacho_card.specs.DailyRecord.{DailyRecord, fault_or, is_length, is_read_day, length_at, record_at, record_day, words_fault}
use Rattle.tacho_card.specs.DriverActivity.{DriverActivity, wrap_place}
use Rattle.tacho_card.specs.Reading.{ActivitiesGive, ItemsGive}
use Rattle.tacho_card.specs.declared.fault.CardFault.{CardFault}
use Rattle.tacho_card.specs.declared.file.Part.{Part}
use Rattle.tacho_card.specs.declared.fault.CardFault.TheVariants.{RecordLength, Chain, DayRange}
use Rattle.tacho_state.specs.State.{Download, Entry, entered_spans, entry_span, given_spans}
use Rattle.tacho_state.specs.Disjoint.{AreDisjoint, GiveExactly}
use Rattle.tacho_state.specs.Steps.{Content}
use Rattle.tacho_state.specs.Content.{ReadTells}
use Rattle.tacho_state.specs.Within.{IsEntry, IsOf}
use Rattle.tacho_check.specs.Typed.{IsInCalendar}

-- ---- card files

-- a record that is read has a day of the years that are read
item_read : (buffer : List ℕ) (place left : ℕ) (r : DailyRecord) → record_at buffer place left ≡ Ok r
    → record_day r.buffer r.place ≤ 47481
unfolding record_at
item_read buffer place left r e =
    go (not (is_length (length buffer) len)) (nat_lt left len) (is_read_day (record_day buffer place)) refl
    (words_fault buffer place 0 0 ((len - 12) / 2)) e
  where
    len : ℕ
    len = length_at buffer place

    here : DailyRecord
    here = record { buffer = buffer; place = place; count = (len - 12) / 2 }

    go : (t u v : Bool) → is_read_day (record_day buffer place) ≡ v → (o : Option CardFault)
        → cond t (Err (RecordLength place)) (cond u (Err (Chain place)) (cond (not v) (Err (DayRange place)) (fault_or o here))) ≡ Ok r
        → record_day r.buffer r.place ≤ 47481
    go true u v day o f = cc
    go false true v day o f = cc
    go false false false day o f = cc
    go false false true day (Some fault) f = cc
    go false false true day None f =
        let same : here ≡ r = cc in
        let last : record_day buffer place ≤ 47481 = grind (arith, nat_tests) in
        subst (λ (x : DailyRecord). record_day x.buffer x.place ≤ 47481) same last

module _ (newest m : ℕ) (mark : Mark) where
  -- so its minutes end with the last of these days
  rest_early : (b : Bool) (rest : List (Result DailyRecord CardFault)) → (ItemsGive newest rest m mark → m < 68374080)
      → ItemsGive newest (cond b [] rest) m mark → m < 68374080
  rest_early true rest more g = absurd g
  rest_early false rest more g = more g

  items_early : (fuel : ℕ) (buffer : List ℕ) (last place left : ℕ) → ItemsGive newest (chain_from fuel buffer last place left) m mark
      → m < 68374080
  unfolding chain_from
  items_early zero buffer last place left g = absurd g
  items_early (suc fuel) buffer last place left g =
      go (record_at buffer place left) refl g
      (rest_early (place == last) (chain_from fuel buffer last (wrap_place buffer (place + len)) (left - len))
      (items_early fuel buffer last (wrap_place buffer (place + len)) (left - len)))
    where
      len : ℕ
      len = length_at buffer place

      rest : List (Result DailyRecord CardFault)
      rest = cond (place == last) [] (chain_from fuel buffer last (wrap_place buffer (place + len)) (left - len))

      go : (item : Result DailyRecord CardFault) → record_at buffer place left ≡ item → ItemsGive newest (followed_by item rest) m mark
          → (ItemsGive newest rest m mark → m < 68374080) → m < 68374080
      go (Err fault) e h more = absurd h
      go (Ok r) e (inl given) more =
          let day = item_read buffer place left r e in
          let early : m < 1440 * (record_day r.buffer r.place + 1) = given.in_day in
          omega (arith, day, early)
      go (Ok r) e (inr later) more = more later

activities_early : (activities : List DriverActivity) (m : ℕ) (mark : Mark) → ActivitiesGive activities m mark → m < 68374080
activities_early [] m mark g = absurd g
activities_early (activity ∷ activities) m mark (inl g) =
    rest_early activity.newest m mark (has_no_records activity)
    (chain_from (suc (length activity.buffer)) activity.buffer activity.newest activity.oldest (length activity.buffer))
    (items_early activity.newest m mark (suc (length activity.buffer)) activity.buffer activity.newest activity.oldest
    (length activity.buffer)) g
activities_early (activity ∷ activities) m mark (inr g) = activities_early activities m mark g

chosen_early : (chosen : Result (List (Option DriverActivity)) CardFault) (spans : List Span) (m : ℕ) (k : Mark)
    → ReadsChosen chosen (Ok spans) → Gives spans m k → m < 68374080
chosen_early (Ok chosen) spans m k read g = activities_early (those_there chosen) m k ((read.1.same m k).0 g)
chosen_early (Err fault) spans m k read g = cc

told_early : (part : Part) (blocks : Result (List FileBlock) CardFault) (content : Content) (m : ℕ) (k : Mark)
    → ReadTells part blocks (Ok content) → Gives content.spans m k → m < 68374080
told_early part (Ok blocks) content m k tells g = chosen_early (chosen_activity part blocks) content.spans m k tells.1 g
told_early part (Err fault) content m k tells g = cc

-- ---- what a driver is given and holds

pub given_early : (holder : List ℕ) (ds : List Download) → AllByRecursion (IsOf holder) ds → (m : ℕ) (k : Mark) → Gives (given_spans ds) m k
    → m < 68374080
given_early holder [] own m k g = absurd g
given_early holder (d ∷ ds) own m k g =
    let file = own.0 in
    elim (append_gives d.spans (given_spans ds) m k g) [
      | inl here ↦ told_early file.0 (card_file d.file) (record { holder = holder; spans = d.spans }) m k file.2 here
      | inr later ↦ given_early holder ds own.1 m k later
    ]

entered_early : (es : List Entry) → AllByRecursion IsEntry es → (m : ℕ) (k : Mark) → Gives (entered_spans es) m k → m < 68374080
entered_early [] within m k g = absurd g
entered_early (e ∷ es) within m k g = go e.withdrawn g (entered_early es within.1 m k) where
  go : (b : Bool) → Gives (cond b (entered_spans es) (entry_span e ∷ entered_spans es)) m k → (Gives (entered_spans es) m k → m < 68374080)
      → m < 68374080
  go true h more = more h
  go false (inl here) more = let last = within.0.line.last in let at = here.0.1 in omega (arith, last, at)
  go false (inr later) more = more later

pub held_early : (holder : List ℕ) (ds : List Download) (es : List Entry) → AllByRecursion (IsOf holder) ds → AllByRecursion IsEntry es
    → (m : ℕ) (k : Mark) → Gives (given_spans ds ++ entered_spans es) m k → m < 68374080
held_early holder ds es own within m k g = elim (append_gives (given_spans ds) (entered_spans es) m k g) [
  | inl given ↦ given_early holder ds own m k given
  | inr entered ↦ entered_early es within m k entered
]

-- ---- spans that keep early minutes

disjoint_in_calendar : (xs : List Span) → AreDisjoint xs → ((m : ℕ) (k : Mark) → Gives xs m k → m < 68374080)
    → AllByRecursion IsInCalendar xs
disjoint_in_calendar [] apart early = tt
disjoint_in_calendar (s ∷ ss) apart early =
    let full : s.start < s.past = apart.0 in
    let last : s.past - 1 < 68374080 = early (s.past - 1) s.mark (inl ((omega (arith, full), omega (arith, full)), refl)) in (
      record { start = omega (arith, full, last); past = omega (arith, full, last) },
      disjoint_in_calendar ss apart.2 (λ m k g. early m k (inr g)),
    )

pub keeps_in_calendar : (xs : List Span) (P : ℕ → Mark → Type 0) → GiveExactly xs P → ((m : ℕ) (k : Mark) → P m k → m < 68374080)
    → AllByRecursion IsInCalendar xs
keeps_in_calendar xs P keeps early = disjoint_in_calendar xs keeps.disjoint (λ m k g. early m k ((keeps.same m k).0 g))
