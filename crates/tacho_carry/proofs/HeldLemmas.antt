-- What a driver who is carried holds.
use Rattle.std.proofs.Common.{◌≡◌, ℕ, ◌*◌, ◌<◌, ◌≤◌, ◌⊎◌, inl, inr, ◌↔◌, ◌&&◌, ◌||◌, not, nat_lt, max, Bool}
use Rattle.std.proofs.Common.{true, false, cond, List, [], ◌∷◌, ◌++◌, refl, sym, ap, ◌∙◌, subst, arith}
use Rattle.std.proofs.lemmas.Bool.Decides.{nat_tests}
use Rattle.tacho_time.specs.declared.span.Span.{Span}
use Rattle.tacho_time.specs.declared.span.Mark.{Mark}
use Rattle.tacho_time.specs.Spans.{Gives}
use Rattle.tacho_time.proofs.CanonicalLemmas.{both_true}
use Rattle.tacho_line.proofs.MergeLemmas.{append_gives, front_gives, back_gives}
use Rattle.tacho_state.specs.Disjoint.{AllWithin}
use Rattle.tacho_state.specs.State.{Download, Driver, Entry, Held, entered_spans, entry_span, given_spans}
use Rattle.tacho_carry.specs.Carried.{carried_driver, carried_entries, carried_files, is_left_out, is_nil, reaches}

-- ---- spans that reach a minute

-- spans that reach a minute give one at or after it
reach_given : (start : ℕ) (spans : List Span) → reaches start spans ≡ true → (m : ℕ) × (mark : Mark) × (start ≤ m) × Gives spans m mark
reach_given start [] e = cc
reach_given start (s ∷ spans) e = go (nat_lt (max start s.start) s.past) refl e (reach_given start spans) where
  go : (t : Bool) → nat_lt (max start s.start) s.past ≡ t → t || reaches start spans ≡ true
      → (reaches start spans ≡ true → (m : ℕ) × (mark : Mark) × (start ≤ m) × Gives spans m mark)
      → (m : ℕ) × (mark : Mark) × (start ≤ m) × Gives (s ∷ spans) m mark
  go true o f more = (max start s.start, s.mark, omega arith, inl ((omega arith, grind (arith, nat_tests)), refl))
  go false o f more = let it = more f in (it.0, it.1, it.2, inr it.3)

-- spans that give a minute at or after one reach this
given_reach : (start : ℕ) (spans : List Span) (m : ℕ) (mark : Mark) → start ≤ m → Gives spans m mark → reaches start spans ≡ true
given_reach start [] m mark l g = absurd g
given_reach start (s ∷ spans) m mark l (inl c) =
    let past : max start s.start < s.past = omega (arith, l, c.0.0, c.0.1) in
    let test : nat_lt (max start s.start) s.past ≡ true = grind (arith, nat_tests) in
    ap (λ (t : Bool). t || reaches start spans) test
given_reach start (s ∷ spans) m mark l (inr g) = go (nat_lt (max start s.start) s.past) (given_reach start spans m mark l g) where
  go : (t : Bool) → reaches start spans ≡ true → t || reaches start spans ≡ true
  go true more = refl
  go false more = more

-- spans reach a minute exactly if they give one at or after it
pub reach_is : (start : ℕ) (spans : List Span) → (reaches start spans ≡ true) ↔ ((m : ℕ) × (mark : Mark) × (start ≤ m) × Gives spans m mark)
reach_is start spans = (reach_given start spans, λ h. given_reach start spans h.0 h.1 h.2 h.3)

-- the spans of the card files that are carried
abbrev file_spans : ℕ → List Download → List Span
file_spans start ds = given_spans (carried_files start ds)

-- the spans of the entries that are carried
abbrev entry_spans : ℕ → List Entry → List Span
entry_spans start es = entered_spans (carried_entries start es)

-- ---- pairs, at one minute and mark

module _ (m : ℕ) (k : Mark) where
  -- a pair of two lists of spans is one of two others, if it is so of each
  pub each_part : (xs ys us vs : List Span) → (Gives xs m k → Gives us m k) → (Gives ys m k → Gives vs m k) → Gives (xs ++ ys) m k
      → Gives (us ++ vs) m k
  each_part xs ys us vs f g h = go (append_gives xs ys m k h) where
    go : Gives xs m k ⊎ Gives ys m k → Gives (us ++ vs) m k
    go (inl x) = front_gives us vs m k (f x)
    go (inr y) = back_gives us vs m k (g y)

  -- the card files that are carried give nothing new
  pub files_within : (start : ℕ) (ds : List Download) → Gives (file_spans start ds) m k → Gives (given_spans ds) m k
  files_within start [] g = g
  files_within start (d ∷ ds) g = go (reaches start d.spans) g (files_within start ds) where
    go : (t : Bool) → Gives (given_spans (cond t (d ∷ carried_files start ds) (carried_files start ds))) m k
        → (Gives (file_spans start ds) m k → Gives (given_spans ds) m k) → Gives (d.spans ++ given_spans ds) m k
    go true x more = each_part d.spans (file_spans start ds) d.spans (given_spans ds) (λ y. y) more x
    go false x more = back_gives d.spans (given_spans ds) m k (more x)

  -- from the minute on, they give all that the card files give
  files_from : (start : ℕ) (ds : List Download) → start ≤ m → Gives (given_spans ds) m k → Gives (file_spans start ds) m k
  files_from start [] l g = g
  files_from start (d ∷ ds) l g = go (reaches start d.spans) refl (files_from start ds l) where
    go : (t : Bool) → reaches start d.spans ≡ t → (Gives (given_spans ds) m k → Gives (file_spans start ds) m k)
        → Gives (given_spans (cond t (d ∷ carried_files start ds) (carried_files start ds))) m k
    go true o more = each_part d.spans (given_spans ds) d.spans (file_spans start ds) (λ y. y) more g
    go false o more = late (append_gives d.spans (given_spans ds) m k g) where
      late : Gives d.spans m k ⊎ Gives (given_spans ds) m k → Gives (file_spans start ds) m k
      late (inl x) = let wrong : true ≡ false = sym (given_reach start d.spans m k l x) ∙ o in cc
      late (inr y) = more y

  -- what entries give is given with one more before them
  entered_rest : (e : Entry) (es : List Entry) → Gives (entered_spans es) m k → Gives (entered_spans (e ∷ es)) m k
  entered_rest e es g = go e.withdrawn where
    go : (w : Bool) → Gives (cond w (entered_spans es) (entry_span e ∷ entered_spans es)) m k
    go true = g
    go false = inr g

  -- if entries give a pair as soon as others do, they do so with one more before both
  entered_more : (e : Entry) (es fs : List Entry) → (Gives (entered_spans es) m k → Gives (entered_spans fs) m k)
      → Gives (entered_spans (e ∷ es)) m k → Gives (entered_spans (e ∷ fs)) m k
  entered_more e es fs more g = go e.withdrawn g where
    go : (w : Bool) → Gives (cond w (entered_spans es) (entry_span e ∷ entered_spans es)) m k
        → Gives (cond w (entered_spans fs) (entry_span e ∷ entered_spans fs)) m k
    go true x = more x
    go false (inl c) = inl c
    go false (inr x) = inr (more x)

  -- the entries that are carried give nothing new
  pub entries_within : (start : ℕ) (es : List Entry) → Gives (entry_spans start es) m k → Gives (entered_spans es) m k
  entries_within start [] g = g
  entries_within start (e ∷ es) g = go (not e.withdrawn && nat_lt start e.past) g (entries_within start es) where
    go : (t : Bool) → Gives (entered_spans (cond t (e ∷ carried_entries start es) (carried_entries start es))) m k
        → (Gives (entry_spans start es) m k → Gives (entered_spans es) m k) → Gives (entered_spans (e ∷ es)) m k
    go true x more = entered_more e (carried_entries start es) es more x
    go false x more = entered_rest e es (more x)

  -- from the minute on, they give all that the entries give
  entries_from : (start : ℕ) (es : List Entry) → start ≤ m → Gives (entered_spans es) m k → Gives (entry_spans start es) m k
  entries_from start [] l g = g
  entries_from start (e ∷ es) l g = go (not e.withdrawn && nat_lt start e.past) refl (entries_from start es l) where
    late : (w : Bool) → not w && nat_lt start e.past ≡ false → (Gives (entered_spans es) m k → Gives (entry_spans start es) m k)
        → Gives (cond w (entered_spans es) (entry_span e ∷ entered_spans es)) m k → Gives (entry_spans start es) m k
    late true o more x = more x
    late false o more (inl c) = let past = c.0.1 in let wrong : ⊥ = grind (arith, nat_tests) in absurd wrong
    late false o more (inr x) = more x

    go : (t : Bool) → not e.withdrawn && nat_lt start e.past ≡ t → (Gives (entered_spans es) m k → Gives (entry_spans start es) m k)
        → Gives (entered_spans (cond t (e ∷ carried_entries start es) (carried_entries start es))) m k
    go true o more = entered_more e es (carried_entries start es) more g
    go false o more = late e.withdrawn o more g

-- a driver who is carried holds nothing new
pub held_within : (day : ℕ) (d : Driver) → AllWithin (Held (carried_driver day d)) (Held d)
held_within day d m k =
    each_part m k (file_spans (1440 * day) d.downloads) (entry_spans (1440 * day) d.entries)
    (given_spans d.downloads) (entered_spans d.entries)
    (files_within m k (1440 * day) d.downloads) (entries_within m k (1440 * day) d.entries)

-- from the day on, they hold what they held
held_from : (day m : ℕ) (d : Driver) (k : Mark) → 1440 * day ≤ m → Held d m k → Held (carried_driver day d) m k
held_from day m d k l =
    each_part m k (given_spans d.downloads) (entered_spans d.entries)
    (file_spans (1440 * day) d.downloads) (entry_spans (1440 * day) d.entries)
    (files_from m k (1440 * day) d.downloads l) (entries_from m k (1440 * day) d.entries l)

-- from the day on, a driver who is carried holds just what they held
pub held_stays : (day m : ℕ) (d : Driver) (mark : Mark) → 1440 * day ≤ m → Held (carried_driver day d) m mark ↔ Held d m mark
held_stays day m d mark l = (held_within day d m mark, held_from day m d mark l)

-- a list that passes the test is empty
nil_is : {A : Type 0} (xs : List A) → is_nil xs ≡ true → xs ≡ []
nil_is [] e = refl
nil_is (x ∷ xs) e = cc

-- from the day on, a driver who is left out held nothing
pub left_out_held : (day m : ℕ) (d : Driver) (mark : Mark) → is_left_out day d ≡ true → 1440 * day ≤ m → ¬ (Held d m mark)
left_out_held day m d mark e l g =
    go (append_gives (file_spans (1440 * day) d.downloads) (entry_spans (1440 * day) d.entries) m mark (held_from day m d mark l g)) where
      none : (is_nil (carried_files (1440 * day) d.downloads) ≡ true) × (is_nil (carried_entries (1440 * day) d.entries) ≡ true)
      none =
          both_true (is_nil (carried_files (1440 * day) d.downloads)) (is_nil (carried_entries (1440 * day) d.entries))
          (both_true (not (is_nil d.downloads && is_nil d.entries))
          (is_nil (carried_files (1440 * day) d.downloads) && is_nil (carried_entries (1440 * day) d.entries)) e).1

      go : Gives (file_spans (1440 * day) d.downloads) m mark ⊎ Gives (entry_spans (1440 * day) d.entries) m mark → ⊥
      go (inl x) = subst (λ (ds : List Download). Gives (given_spans ds) m mark) (nil_is (carried_files (1440 * day) d.downloads) none.0) x
      go (inr y) = subst (λ (es : List Entry). Gives (entered_spans es) m mark) (nil_is (carried_entries (1440 * day) d.entries) none.1) y
