-- Sound drivers, and changes that leave them sound.
use Rattle.std.proofs.Common.{◌≡◌, ℕ, ◌+◌, ◌*◌, ◌<◌, ◌≤◌, ◌⊎◌, inl, inr, ◌&&◌, not, nat_lt, true, false}
use Rattle.std.proofs.Common.{List, [], ◌∷◌, ◌++◌, length, None, sym, subst, arith, length-append}
use Rattle.std.specs.List.Sorted.{IsPermutation}
use Rattle.tacho_time.specs.declared.span.Span.{Span}
use Rattle.tacho_time.specs.declared.span.Mark.{Mark}
use Rattle.tacho_time.specs.Spans.{Conflicts, Gives, IsCanonicalOf, IsFirstConflict}
use Rattle.tacho_time.proofs.ExistenceLemmas.{list_or_conflict}
use Rattle.tacho_line.proofs.MergeLemmas.{front_gives, back_gives}
use Rattle.tacho_state.specs.Disjoint.{AllWithin, With}
use Rattle.tacho_state.specs.Least.{is_within, least_conflict}
use Rattle.tacho_state.specs.State.{Download, Driver, Entry, Held, State, entered_spans, given_spans, held_spans, with_batch, with_download}
use Rattle.tacho_state.specs.Steps.{is_monday, most_records}
use Rattle.tacho_state.proofs.DisjointLemmas.{disjoint_agrees, disjoint_canonical}
use Rattle.tacho_state.proofs.GainLemmas.{batch_held, download_held}
use Rattle.tacho_state.proofs.LeastLemmas.{least_is, within_is}
use Rattle.tacho_state.specs.Within.{IsOf}
use Rattle.tacho_carry.specs.Carried.{carried, carried_driver, carried_files, reaches}
use Rattle.tacho_carry.specs.Sound.{AreNews, IsSound, IsSoundDriver}
use Rattle.tacho_carry.proofs.DayLemmas.{later_monday}
use Rattle.tacho_carry.proofs.DriverLemmas.{all_carried, distinct_carried, distinct_ordered}
use Rattle.tacho_carry.proofs.HeldLemmas.{each_part, files_within, held_within}
use Rattle.tacho_carry.proofs.ListLemmas.{all_end, all_filter, all_ordered, filter_length, kept_place, last_or_before}

-- ---- contradictions

-- if no minute has two marks in a set, none has in a smaller one
pub agrees_within : (P Q : ℕ → Mark → Type 0) → AllWithin P Q → ((m : ℕ) → ¬ (Conflicts Q m)) → (m : ℕ) → ¬ (Conflicts P m)
agrees_within P Q w h m c = h m (c.0, c.1, w m c.0 c.2, w m c.1 c.3, c.4)

-- if the search finds no minute with two marks, there is none
none_agrees : (spans : List Span) → least_conflict spans ≡ None → (m : ℕ) → ¬ (Conflicts (Gives spans) m)
none_agrees spans e = go (list_or_conflict spans) where
  go : ((runs : List Span) × IsCanonicalOf (Gives spans) runs) ⊎ ((n : ℕ) × IsFirstConflict (Gives spans) n)
      → (m : ℕ) → ¬ (Conflicts (Gives spans) m)
  go (inl (runs, is)) =
      agrees_within (Gives spans) (Gives runs) (λ n k. (is.same n k).1) (λ n. disjoint_agrees runs n (disjoint_canonical runs is.canonical))
  go (inr (n, first)) = let found = least_is spans n first in cc

-- if it finds none in what is held and in spans, none has two marks by both
with_agrees : (d : Driver) (spans : List Span) (P : ℕ → Mark → Type 0) → least_conflict (held_spans d ++ spans) ≡ None
    → AllWithin P (With (Held d) spans) → (m : ℕ) → ¬ (Conflicts P m)
with_agrees d spans P e w =
    agrees_within P (Gives (held_spans d ++ spans)) (λ n k p. to n k (w n k p)) (none_agrees (held_spans d ++ spans) e) where
      to : (n : ℕ) (k : Mark) → With (Held d) spans n k → Gives (held_spans d ++ spans) n k
      to n k (inl x) = front_gives (held_spans d) spans n k x
      to n k (inr y) = back_gives (held_spans d) spans n k y

-- ---- a driver who is carried

-- each card file that is carried gives something new
carried_news : (start : ℕ) (ds : List Download) → AreNews ds → AreNews (carried_files start ds)
carried_news start ds h before later f e w =
    let it = kept_place (λ (x : Download). reaches start x.spans) ds before later f e in
    h it.front it.back f it.whole
    (λ m k g. files_within m k start it.front (subst (λ (xs : List Download). Gives (given_spans xs) m k) (sym it.kept) (w m k g)))

-- a sound driver who is carried is sound
pub carried_driver_sound : (day : ℕ) (d : Driver) → IsSoundDriver d → IsSoundDriver (carried_driver day d)
carried_driver_sound day d h = record {
  monday = later_monday d.base day h.monday;
  files = all_filter (IsOf d.holder) (λ (f : Download). reaches (1440 * day) f.spans) d.downloads h.files;
  news = carried_news (1440 * day) d.downloads h.news;
  agreed = agrees_within (Held (carried_driver day d)) (Held d) (held_within day d) h.agreed;
  few_files =
      let fewer = filter_length (λ (f : Download). reaches (1440 * day) f.spans) d.downloads in
      let few = h.few_files in
      omega (arith, fewer, few);
  few_entries =
      let fewer = filter_length (λ (e : Entry). not e.withdrawn && nat_lt (1440 * day) e.past) d.entries in
      let few = h.few_entries in
      omega (arith, fewer, few);
}

-- ---- a state that is carried or ordered

-- a sound state that is carried is sound
pub carried_sound : (day : ℕ) (s : State) → IsSound s → IsSound (carried day s)
carried_sound day s h = record {
  distinct = distinct_carried day s h.distinct;
  each = all_carried day IsSoundDriver s (carried_driver_sound day) h.each;
}

-- a sound state is sound in another order
pub ordered_sound : (s t : State) → IsPermutation s t → IsSound s → IsSound t
ordered_sound s t same h =
    record { distinct = distinct_ordered s t same h.distinct; each = all_ordered IsSoundDriver s t same h.each }

-- ---- a driver who has changed

-- a sound driver is sound with one more card file that is new and contradicts nothing
pub download_sound : (part : ℕ) (file : List ℕ) (spans : List Span) (d : Driver) → IsSoundDriver d
    → IsOf d.holder (record { part = part; file = file; spans = spans }) → is_within spans (given_spans d.downloads) ≡ false
    → least_conflict (held_spans d ++ spans) ≡ None → length d.downloads < most_records → IsSoundDriver (with_download part file spans d)
download_sound part file spans d h own new none room = record {
  monday = h.monday;
  files = all_end (IsOf d.holder) d.downloads one h.files own;
  news = λ before later f e w. news before later f w (last_or_before d.downloads before later one f e);
  agreed = with_agrees d spans (Held (with_download part file spans d)) none (λ n k. (download_held part file spans d n k).1);
  few_files = let l = length-append d.downloads (one ∷ []) in omega (arith, l, room);
  few_entries = h.few_entries;
} where
  one : Download
  one = record { part = part; file = file; spans = spans }

  news : (before later : List Download) (f : Download) → AllWithin (Gives f.spans) (Gives (given_spans before))
      → ((before ≡ d.downloads) × (f ≡ one)) ⊎ ((rest : List Download) × (d.downloads ≡ before ++ f ∷ rest)) → ⊥
  news before later f w (inr it) = h.news before it.0 f it.1 w
  news before later f w (inl it) =
      let is = within_is f.spans (given_spans before) w in
      let same : is_within f.spans (given_spans before) ≡ false = rw (it.0, it.1) new in
      cc

-- a sound driver is sound with more entries that contradict nothing
pub batch_sound : (batch : List Entry) (d : Driver) → IsSoundDriver d → least_conflict (held_spans d ++ entered_spans batch) ≡ None
    → length d.entries + length batch ≤ most_records → IsSoundDriver (with_batch batch d)
batch_sound batch d h none room = record {
  monday = h.monday;
  files = h.files;
  news = h.news;
  agreed = with_agrees d (entered_spans batch) (Held (with_batch batch d)) none (λ n k. (batch_held batch d n k).1);
  few_files = h.few_files;
  few_entries = let l = length-append d.entries batch in omega (arith, l, room);
}

-- a sound driver is sound with entries that give no more than theirs
pub fewer_sound : (d : Driver) (es : List Entry) → IsSoundDriver d → AllWithin (Gives (entered_spans es)) (Gives (entered_spans d.entries))
    → length es ≡ length d.entries → IsSoundDriver (record d { entries = es })
fewer_sound d es h w same = record {
  monday = h.monday;
  files = h.files;
  news = h.news;
  agreed = agrees_within (Held (record d { entries = es })) (Held d) within h.agreed;
  few_files = h.few_files;
  few_entries = let few = h.few_entries in omega (arith, same, few);
} where
  gs : List Span
  gs = given_spans d.downloads

  within : AllWithin (Held (record d { entries = es })) (Held d)
  within m k = each_part m k gs (entered_spans es) gs (entered_spans d.entries) (λ x. x) (w m k)

-- a sound driver is sound with another Monday, another key and another name
pub other_sound : (base : ℕ) (key name : List ℕ) (d : Driver) → IsSoundDriver d → is_monday base ≡ true
    → IsSoundDriver (record d { base = base; key = key; name = name })
other_sound base key name d h monday =
    record { monday = monday; files = h.files; news = h.news; agreed = h.agreed; few_files = h.few_files; few_entries = h.few_entries }

-- a driver without card files and entries is sound, if the base is a Monday
pub new_sound : (d : Driver) → is_monday d.base ≡ true → IsSoundDriver (record d { downloads = []; entries = [] })
new_sound d monday = record {
  monday = monday;
  files = tt;
  news = no_news;
  agreed = λ m c. c.2;
  few_files = omega arith;
  few_entries = omega arith;
} where
  no_news : AreNews []
  no_news [] later f e w = cc
  no_news (x ∷ before) later f e w = cc
