-- The chain by places is the chain by recursion.
use Rattle.std.proofs.Common.{◌≡◌, ◌≢◌, ℕ, zero, suc, ◌+◌, ◌-◌, ◌<◌, ◌⊎◌, inl, inr, ◌↔◌, ◌==◌, Bool, true, false, cond, List, [], ◌∷◌, ◌++◌, length, Result, Ok, Err, is_ok, is_err, IsOk, IsErr, refl, sym, ap, ◌∙◌, subst, arith, append_assoc, append-nil}
use Rattle.std.proofs.lemmas.Bool.Decides.{nat_tests}
use Rattle.tacho_card.specs.declared.fault.CardFault.{CardFault}
use Rattle.tacho_card.specs.DriverActivity.{DriverActivity, wrap_place}
use Rattle.tacho_card.specs.DailyRecord.{DailyRecord, length_at}
use Rattle.tacho_card.specs.Chain.{has_no_records, lengths, read_after, IsFront, readings, EndsChain, IsChain, chain_from, chain}
use Rattle.tacho_card.proofs.ChainLemmas.{read_length, chain_fault, chain_last, chain_more}

-- ---- a chain's steps

-- the bytes of the buffer that the records at these places leave
abbrev left : DriverActivity → List ℕ → ℕ
left activity front = length activity.buffer - lengths activity.buffer front

-- the place after the record at a place
abbrev after : DriverActivity → ℕ → ℕ
after activity place = wrap_place activity.buffer (place + length_at activity.buffer place)

-- a chain ends at the newest record, or at one with a fault
abbrev Ends : DriverActivity → List ℕ → ℕ → Type 0
Ends activity front last = (last ≡ activity.newest) ⊎ IsErr (read_after activity front last)

-- after the places of a front, the chain continues through these places and ends
abbrev Goes : DriverActivity → List ℕ → ℕ → List ℕ → Type 0
Goes activity front place [] = Ends activity front place
Goes activity front place (next ∷ rest) = (place ≢ activity.newest) × IsOk (read_after activity front place) × (next ≡ after activity place) × Goes activity (front ++ place ∷ []) next rest

-- adding a record to a front adds its length
lengths_more : (buffer front : List ℕ) (place : ℕ) → lengths buffer (front ++ place ∷ []) ≡ lengths buffer front + length_at buffer place
lengths_more buffer [] place = omega arith
lengths_more buffer (x ∷ xs) place = let more = lengths_more buffer xs place in omega (arith, more)

-- so it leaves fewer bytes
left_more : (activity : DriverActivity) (front : List ℕ) (place : ℕ) → left activity (front ++ place ∷ []) ≡ left activity front - length_at activity.buffer place
left_more activity front place = let more = lengths_more activity.buffer front place in omega (arith, more)

-- two places are the same or differ
same_place : (a b : ℕ) → (a ≡ b) ⊎ (a ≢ b)
same_place a b = go (a == b) refl where
  go : (t : Bool) → (a == b) ≡ t → (a ≡ b) ⊎ (a ≢ b)
  go true h = inl (grind (arith, nat_tests))
  go false h = inr (λ e. grind (arith, nat_tests))

-- ---- steps of the chain are read by the recursion

-- the recursion from a place after a front
abbrev from : DriverActivity → List ℕ → ℕ → List (Result DailyRecord CardFault)
from activity front place = chain_from (left activity front + 1) activity.buffer activity.newest place (left activity front)

-- the last record, or the fault, is the last one that is read
read_last : (activity : DriverActivity) (front : List ℕ) (place : ℕ) (r : Result DailyRecord CardFault) → read_after activity front place ≡ r → (place ≡ activity.newest) ⊎ IsErr r → r ∷ [] ≡ from activity front place
read_last activity front place (Err fault) e h = sym (chain_fault activity.buffer activity.newest place (left activity front) fault e)
read_last activity front place (Ok r) e (inl h) = sym (chain_last activity.buffer activity.newest place (left activity front) r e h)
read_last activity front place (Ok r) e (inr h) = cc

-- a record that isn't the last is followed by others
read_more : (activity : DriverActivity) (front : List ℕ) (place : ℕ) (r : Result DailyRecord CardFault) → read_after activity front place ≡ r → IsOk r → (place ≢ activity.newest) → r ∷ from activity (front ++ place ∷ []) (after activity place) ≡ from activity front place
read_more activity front place (Err fault) e h other = cc
read_more activity front place (Ok r) e h other =
    ap (λ n. Ok r ∷ chain_from (n + 1) activity.buffer activity.newest (after activity place) n) (left_more activity front place)
    ∙ sym (chain_more activity.buffer activity.newest place (left activity front) r e other)

-- reading the places of the steps gives what the recursion gives
read_steps : (activity : DriverActivity) (front : List ℕ) (place : ℕ) (rest : List ℕ) → Goes activity front place rest → readings activity front (place ∷ rest) ≡ from activity front place
read_steps activity front place [] h = read_last activity front place (read_after activity front place) refl h
read_steps activity front place (next ∷ rest) h =
    let others = read_steps activity (front ++ place ∷ []) next rest h.3 in
    ap (λ xs. read_after activity front place ∷ xs) (others ∙ ap (λ n. from activity (front ++ place ∷ []) n) h.2)
    ∙ read_more activity front place (read_after activity front place) refl h.1 h.0

-- ---- there are steps from each place

-- the steps from a place on
abbrev Steps : DriverActivity → List ℕ → ℕ → Type 0
Steps activity front place = (rest : List ℕ) × Goes activity front place rest

-- a record that is read leaves fewer bytes
less : (activity : DriverActivity) (front : List ℕ) (place : ℕ) (r : DailyRecord) → read_after activity front place ≡ Ok r → left activity (front ++ place ∷ []) < left activity front
less activity front place r e =
    let len = read_length activity.buffer place (left activity front) r e in
    let more = left_more activity front place in
    omega (arith, len.0, len.1, more)

-- a place ends the chain, or a place follows that leaves fewer bytes
one_step : (activity : DriverActivity) (front : List ℕ) (place : ℕ) → (left activity (front ++ place ∷ []) < left activity front → Steps activity (front ++ place ∷ []) (after activity place)) → Steps activity front place
one_step activity front place more = go (read_after activity front place) refl (same_place place activity.newest) where
  go : (r : Result DailyRecord CardFault) → read_after activity front place ≡ r → (place ≡ activity.newest) ⊎ (place ≢ activity.newest) → Steps activity front place
  go (Err fault) e d = ([], inr (ap is_err e))
  go (Ok r) e (inl d) = ([], inl d)
  go (Ok r) e (inr d) = let others = more (less activity front place r e) in (after activity place ∷ others.0, (d, ap is_ok e, refl, others.1))

-- if the fuel exceeds the remaining bytes, there are steps from the place on
steps : (fuel : ℕ) (activity : DriverActivity) (front : List ℕ) (place : ℕ) → left activity front < fuel → Steps activity front place
steps zero activity front place h = absurd (omega arith)
steps (suc fuel) activity front place h =
    one_step activity front place (λ l. steps fuel activity (front ++ place ∷ []) (after activity place) (omega (arith, h, l)))

-- ---- the places of steps

-- moves a place from the head of a list to the end of the list before it
moved : (front : List ℕ) (place : ℕ) (rest : List ℕ) → front ++ place ∷ rest ≡ (front ++ place ∷ []) ++ rest
moved front place rest = sym (append_assoc front (place ∷ []) rest)

-- equal lists have equal heads
heads : (a b : ℕ) (xs ys : List ℕ) → a ∷ xs ≡ b ∷ ys → a ≡ b
heads a b xs ys h = cc

-- equal lists have equal tails
tails : (a b : ℕ) (xs ys : List ℕ) → a ∷ xs ≡ b ∷ ys → xs ≡ ys
tails a b xs ys h = cc

-- equal lists have equal last places, and are equal without them
lasts : (xs ys : List ℕ) (a b : ℕ) → xs ++ a ∷ [] ≡ ys ++ b ∷ [] → (xs ≡ ys) × (a ≡ b)
lasts [] [] a b h = (refl, heads a b [] [] h)
lasts [] (y ∷ []) a b h = cc
lasts [] (y ∷ z ∷ ys) a b h = cc
lasts (x ∷ []) [] a b h = cc
lasts (x ∷ z ∷ xs) [] a b h = cc
lasts (x ∷ xs) (y ∷ ys) a b h =
    let rest = lasts xs ys a b (tails x y _ _ h) in
    let head = heads x y _ _ h in
    (cc, rest.1)

-- what holds of a place if another follows it
abbrev Follows : DriverActivity → List ℕ → ℕ → ℕ → Type 0
Follows activity front place next = (place ≢ activity.newest) × IsOk (read_after activity front place) × (next ≡ after activity place)

-- each step goes to the place that follows
goes_follows : (activity : DriverActivity) (before : List ℕ) (start : ℕ) (others : List ℕ) → Goes activity before start others → (front rest : List ℕ) (place next : ℕ) → start ∷ others ≡ front ++ place ∷ next ∷ rest → Follows activity (before ++ front) place next
goes_follows activity before start [] h [] rest place next e = cc
goes_follows activity before start [] h (x ∷ []) rest place next e = cc
goes_follows activity before start [] h (x ∷ y ∷ front) rest place next e = cc
goes_follows activity before start (n ∷ others) h [] rest place next e =
    let one : start ≡ place = heads start place _ _ e in
    let two : n ≡ next = heads n next _ _ (tails start place _ _ e) in
    subst (λ (p : ℕ). Follows activity (before ++ []) p next) one
    (subst (λ (p : ℕ). Follows activity (before ++ []) start p) two
    (subst (λ (f : List ℕ). Follows activity f start n) (sym (append-nil before)) (h.0, h.1, h.2)))
goes_follows activity before start (n ∷ others) h (x ∷ front) rest place next e =
    let one : start ≡ x = heads start x _ _ e in
    let more = goes_follows activity (before ++ start ∷ []) n others h.3 front rest place next (tails start x _ _ e) in
    subst (λ (f : List ℕ). Follows activity f place next) (sym (moved before start front) ∙ ap (λ (p : ℕ). before ++ p ∷ front) one) more

-- steps end at a last place
goes_ends : (activity : DriverActivity) (before : List ℕ) (start : ℕ) (others : List ℕ) → Goes activity before start others → (front : List ℕ) × (last : ℕ) × (start ∷ others ≡ front ++ last ∷ []) × Ends activity (before ++ front) last
goes_ends activity before start [] h = ([], start, refl, subst (λ (f : List ℕ). Ends activity f start) (sym (append-nil before)) h)
goes_ends activity before start (n ∷ others) h =
    let more = goes_ends activity (before ++ start ∷ []) n others h.3 in
    (start ∷ more.0, more.1, ap (λ xs. start ∷ xs) more.2, subst (λ (f : List ℕ). Ends activity f more.1) (sym (moved before start more.0)) more.3)

-- places of a chain that ends are steps
ends_goes : (activity : DriverActivity) (front : List ℕ) (last : ℕ) → IsFront activity (front ++ last ∷ []) → Ends activity front last → (before : List ℕ) (place : ℕ) (rest : List ℕ) → front ++ last ∷ [] ≡ before ++ place ∷ rest → Goes activity before place rest
ends_goes activity front last whole ends before place [] e =
    let same = lasts front before last place e in
    subst (λ (p : ℕ). Ends activity before p) same.1 (subst (λ (f : List ℕ). Ends activity f last) same.0 ends)
ends_goes activity front last whole ends before place (next ∷ rest) e =
    let here = whole.goes_on before rest place next e in
    (here.0, here.1, here.2, ends_goes activity front last whole ends (before ++ place ∷ []) next rest (e ∙ moved before place (next ∷ rest)))

-- ---- the law

-- if there are records, the recursion from the oldest one on is the chain
from_oldest : (activity : DriverActivity) → has_no_records activity ≡ false → from activity [] activity.oldest ≡ chain activity
from_oldest activity h =
    let size : length activity.buffer - 0 ≡ length activity.buffer = omega arith in
    let fuel : length activity.buffer + 1 ≡ suc (length activity.buffer) = omega arith in
    ap (λ n. chain_from (n + 1) activity.buffer activity.newest activity.oldest n) size
    ∙ ap (λ n. chain_from n activity.buffer activity.newest activity.oldest (length activity.buffer)) fuel
    ∙ ap (λ b. cond b [] (chain_from (suc (length activity.buffer)) activity.buffer activity.newest activity.oldest (length activity.buffer))) (sym h)

-- if places end the chain, reading them gives the chain
ends_chain : (activity : DriverActivity) (front : List ℕ) (last : ℕ) (items : List (Result DailyRecord CardFault)) → has_no_records activity ≡ false → EndsChain activity front last items → items ≡ chain activity
ends_chain activity front last items some h =
    let rest = h.whole.begins in
    let goes = ends_goes activity front last h.whole h.ends [] activity.oldest rest.0 rest.1 in
    h.read ∙ ap (λ places. readings activity [] places) rest.1 ∙ read_steps activity [] activity.oldest rest.0 goes ∙ from_oldest activity some

-- the steps from the oldest record on are places that end the chain
goes_chain : (activity : DriverActivity) (others : List ℕ) → Goes activity [] activity.oldest others → (front : List ℕ) × (last : ℕ) × EndsChain activity front last (readings activity [] (activity.oldest ∷ others))
goes_chain activity others h =
    let ends = goes_ends activity [] activity.oldest others h in (
      ends.0,
      ends.1,
      record {
        whole = record {
          begins = (others, sym ends.2);
          goes_on = λ front rest place next e. goes_follows activity [] activity.oldest others h front rest place next (ends.2 ∙ e);
        };
        ends = ends.3;
        read = ap (λ places. readings activity [] places) ends.2;
      },
    )

-- the chain ends at some place
chain_ends : (activity : DriverActivity) → has_no_records activity ≡ false → (front : List ℕ) × (last : ℕ) × EndsChain activity front last (chain activity)
chain_ends activity some =
    let rest = steps (left activity [] + 1) activity [] activity.oldest (omega arith) in
    let made = goes_chain activity rest.0 rest.1 in
    let same = read_steps activity [] activity.oldest rest.0 rest.1 ∙ from_oldest activity some in
    (made.0, made.1, subst (λ (items : List (Result DailyRecord CardFault)). EndsChain activity made.0 made.1 items) same made.2)

-- a boolean that isn't true is false
not_true : (b : Bool) → (b ≢ true) → b ≡ false
not_true true h = absurd (h refl)
not_true false h = refl

-- the chain by places is the chain by recursion
pub by_places : (activity : DriverActivity) (items : List (Result DailyRecord CardFault)) → IsChain activity items ↔ (items ≡ chain activity)
by_places activity items = (there, back (has_no_records activity) refl) where
  none : has_no_records activity ≡ true → [] ≡ chain activity
  none e = ap (λ b. cond b [] (chain_from (suc (length activity.buffer)) activity.buffer activity.newest activity.oldest (length activity.buffer))) (sym e)

  there : IsChain activity items → items ≡ chain activity
  there (inl h) = h.1 ∙ none h.0
  there (inr h) = ends_chain activity h.1.0 h.1.1 items (not_true _ h.0) h.1.2

  back : (b : Bool) → has_no_records activity ≡ b → items ≡ chain activity → IsChain activity items
  back true e h = inl (e, h ∙ sym (none e))
  back false e h =
      let made = chain_ends activity e in
      inr ((λ t. let no : true ≡ false = sym t ∙ e in cc), (made.0, made.1, subst (λ (xs : List (Result DailyRecord CardFault)). EndsChain activity made.0 made.1 xs) (sym h) made.2))
