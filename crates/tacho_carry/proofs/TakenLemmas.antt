-- What a sound driver has, an archive takes one after the other: nothing is refused.
use Rattle.std.proofs.Common.{◌≡◌, ℕ, ◌+◌, ◌*◌, ◌<◌, ◌≤◌, nat_lt, max, true, false, List, [], ◌∷◌, ◌++◌, length, None}
use Rattle.std.proofs.Common.{Result, Ok, refl, sym, ap, ◌∙◌, subst, arith, append_assoc, append-nil, length-append}
use Rattle.std.specs.List.{AllByRecursion}
use Rattle.std.proofs.lemmas.Bool.Decides.{nat_tests}
use Rattle.std.proofs.lemmas.List.Sorted.{IsPermutation-middle}
use Rattle.tacho_time.specs.declared.span.Span.{Span}
use Rattle.tacho_time.specs.Spans.{Gives}
use Rattle.tacho_card.specs.declared.fault.CardFault.{CardFault}
use Rattle.tacho_card.specs.declared.file.Part.{Part}
use Rattle.tacho_line.proofs.MergeLemmas.{front_gives}
use Rattle.tacho_state.specs.declared.imported.Imported.TheVariants.{Added}
use Rattle.tacho_state.specs.Content.{FileTells}
use Rattle.tacho_state.specs.Numbers.{part_number}
use Rattle.tacho_state.specs.Disjoint.{AllWithin}
use Rattle.tacho_state.specs.Least.{least_conflict}
use Rattle.tacho_state.specs.State.{Download, Driver, Entry, Held, State, entered_spans, given_spans, with_batch, with_download}
use Rattle.tacho_state.specs.Steps.{Content, enter_own, import_own, register_step}
use Rattle.tacho_state.proofs.ContentLemmas.{one_content, one_part}
use Rattle.tacho_state.proofs.GainLemmas.{entered_append}
use Rattle.tacho_state.proofs.LeastLemmas.{none_is, not_within}
use Rattle.tacho_state.specs.Within.{IsOf}
use Rattle.tacho_carry.specs.Carried.{carried, carried_driver, carried_entries, carried_files, monday_of}
use Rattle.tacho_carry.specs.Sound.{IsSound, IsSoundDriver}
use Rattle.tacho_carry.proofs.DayLemmas.{later_monday}
use Rattle.tacho_carry.proofs.DriverLemmas.{IsOther, all_carried, apart_none, first_apart}
use Rattle.tacho_carry.proofs.HeldLemmas.{each_part}
use Rattle.tacho_carry.proofs.ListLemmas.{all_parts}
use Rattle.tacho_carry.proofs.SoundLemmas.{agrees_within, carried_driver_sound, ordered_sound}

-- the spans of two lists of card files joined are their spans joined
given_append : (xs ys : List Download) → given_spans (xs ++ ys) ≡ given_spans xs ++ given_spans ys
given_append [] ys = refl
given_append (d ∷ xs) ys =
    ap (λ (l : List Span). d.spans ++ l) (given_append xs ys) ∙ sym (append_assoc d.spans (given_spans xs) (given_spans ys))

-- the search finds no minute with two marks in spans of which a sound driver holds all pairs
none_found : (d : Driver) (spans : List Span) → IsSoundDriver d → AllWithin (Gives spans) (Held d) → least_conflict spans ≡ None
none_found d spans h w = none_is spans (agrees_within (Gives spans) (Held d) w h.agreed)

-- a card file of a sound driver is taken after those before it
file_taken : (d : Driver) (before later : List Download) (f : Download) → IsSoundDriver d → d.downloads ≡ before ++ f ∷ later
    → let now = record d { downloads = before; entries = [] } in
    import_own f.part f.file f.spans now ≡ Ok (Added d.number (1 + length before), with_download f.part f.file f.spans now)
file_taken d before later f h e =
    let new = not_within f.spans (given_spans before) (h.news before later f e) in
    let none = none_found d ((given_spans before ++ []) ++ f.spans) h within in
    let long = ap length e ∙ length-append before (f ∷ later) in
    let few = h.few_files in
    let less : length before < 1000000 = omega (arith, long, few) in
    let room : nat_lt (length before) 1000000 ≡ true = grind (arith, nat_tests) in
    rw (new, none, room) refl where
      all : given_spans before ++ (f.spans ++ given_spans later) ≡ given_spans d.downloads
      all = sym (ap given_spans e ∙ given_append before (f ∷ later))

      within : AllWithin (Gives ((given_spans before ++ []) ++ f.spans)) (Held d)
      within m k g =
          front_gives (given_spans d.downloads) (entered_spans d.entries) m k (subst (λ (l : List Span). Gives l m k) all
          (each_part m k (given_spans before ++ []) f.spans (given_spans before) (f.spans ++ given_spans later)
          (subst (λ (l : List Span). Gives l m k) (append-nil (given_spans before))) (front_gives f.spans (given_spans later) m k) g))

-- entries of a sound driver are taken after those before them
batch_taken : (d : Driver) (before batch later : List Entry) → IsSoundDriver d → d.entries ≡ before ++ (batch ++ later)
    → let now = record d { entries = before } in enter_own batch now ≡ Ok (1 + length before, with_batch batch now)
batch_taken d before batch later h e =
    let none = none_found d ((given_spans d.downloads ++ entered_spans before) ++ entered_spans batch) h within in
    let long = ap length e ∙ length-append before (batch ++ later) in
    let rest = length-append batch later in
    let few = h.few_entries in
    let less : length before + length batch ≤ 1000000 = omega (arith, long, rest, few) in
    let room : nat_lt 1000000 (length before + length batch) ≡ false = grind (arith, nat_tests) in
    rw (none, room) refl where
      gs : List Span
      gs = given_spans d.downloads

      front : List Span
      front = entered_spans before

      own : List Span
      own = entered_spans batch

      back : List Span
      back = entered_spans later

      all : front ++ (own ++ back) ≡ entered_spans d.entries
      all =
          let rest = ap (λ (l : List Span). front ++ l) (entered_append batch later) in
          sym (ap entered_spans e ∙ entered_append before (batch ++ later) ∙ rest)

      within : AllWithin (Gives ((gs ++ front) ++ own)) (Held d)
      within m k g =
          subst (λ (l : List Span). Gives (gs ++ l) m k) all (each_part m k gs (front ++ own) gs (front ++ (own ++ back)) (λ x. x)
          (each_part m k front own front (own ++ back) (λ x. x) (front_gives own back m k))
          (subst (λ (l : List Span). Gives l m k) (append_assoc gs front own) g))

-- a driver of a sound state is registered after those before them
pub driver_taken : (day : ℕ) (before later : State) (d : Driver) → IsSound (before ++ d ∷ later)
    → register_step d.number d.holder d.key (max d.base (monday_of day)) d.name (carried day before) ≡ record {
      answer = Ok tt;
      after = carried day before ++ record (carried_driver day d) { downloads = []; entries = [] } ∷ [];
    }
driver_taken day before later d h =
    let all = ordered_sound (before ++ d ∷ later) (d ∷ (before ++ later)) (IsPermutation-middle before d later) h in
    let apart = (all_parts (IsOther d) before later (first_apart d (before ++ later) all.distinct)).0 in
    let none = apart_none d (carried day before) (all_carried day (IsOther d) before (λ x a. a) apart) in
    let monday = later_monday d.base day all.each.0.monday in
    rw (none.0, none.1, none.2, monday) refl

-- a card file that is carried, read by its part, is of the driver's card and gives its spans
pub carried_file_read : (day : ℕ) (d : Driver) (before later : List Download) (f : Download) (part : Part)
    → (told : Result Content CardFault) → IsSoundDriver d → carried_files (1440 * day) d.downloads ≡ before ++ f ∷ later
    → part_number part ≡ f.part → FileTells part f.file told → told ≡ Ok (record { holder = d.holder; spans = f.spans })
carried_file_read day d before later f part told h e is tells =
    let files = subst (AllByRecursion (IsOf d.holder)) e (carried_driver_sound day d h).files in
    let own = (all_parts (IsOf d.holder) before (f ∷ later) files).1.0 in
    let content : Result Content CardFault = Ok (record { holder = d.holder; spans = f.spans }) in
    let same = one_part own.0 part (own.1 ∙ sym is) in
    one_content part f.file told content tells (subst (λ (p : Part). FileTells p f.file content) same own.2)

-- a card file that is carried is taken after those before it
pub carried_file_taken : (day : ℕ) (d : Driver) (before later : List Download) (f : Download) → IsSoundDriver d
    → carried_files (1440 * day) d.downloads ≡ before ++ f ∷ later
    → let now = record (carried_driver day d) { downloads = before; entries = [] } in
    import_own f.part f.file f.spans now ≡ Ok (Added d.number (1 + length before), with_download f.part f.file f.spans now)
carried_file_taken day d before later f h e = file_taken (carried_driver day d) before later f (carried_driver_sound day d h) e

-- entries that are carried are taken after the card files and the entries before them
pub carried_batch_taken : (day : ℕ) (d : Driver) (before batch later : List Entry) → IsSoundDriver d
    → carried_entries (1440 * day) d.entries ≡ before ++ (batch ++ later)
    → let now = record (carried_driver day d) { entries = before } in enter_own batch now ≡ Ok (1 + length before, with_batch batch now)
carried_batch_taken day d before batch later h e = batch_taken (carried_driver day d) before batch later (carried_driver_sound day d h) e
