-- A tally counts the days so far that have its key (`days`).
use Rattle.std.proofs.Common.{◌≡◌, ◌≢◌, ℕ, zero, suc, ◌+◌, ◌<◌, ◌≤◌, ◌⊎◌, inl, inr, List, [], ◌∷◌, ◌++◌}
use Rattle.std.proofs.Common.{length, get_or, take, length-append, refl, sym, ap, subst, ◌∙◌, arith}
use Rattle.std.specs.List.{All, AllPairs, Contains}
use Rattle.std.proofs.lemmas.Bool.{cases_lt}
use Rattle.std.proofs.lemmas.List.{take_more, length-take-le, get_or-take, get_or_default}
use Rattle.std.proofs.lemmas.List.Elements.{Contains-push, Contains-append_left, Contains-push_cases, Contains-get_or}
use Rattle.tacho_law.specs.declared.days.DutyDay.{DutyDay}
use Rattle.tacho_law.specs.Days.{EarlierDay}
use Rattle.tacho_law.specs.Exactly.{HasCount}
use Rattle.tacho_periods.proofs.KeptLemmas.{AreKept, kept_none, kept_nothing, kept_add}
use Rattle.tacho_periods.proofs.KeptLemmas.{kept_skip, seen_before}
use Rattle.tacho_law.proofs.ExactlyLemmas.{how_many_as}
use Rattle.tacho_plain.specs.DayBreaches.{IsInTime, AreTheDays}
use Rattle.tacho_plain.proofs.DayFoundLemmas.{no_day}

-- how many of the days that were seen have the key `key`, which is the latest
pub record Tallied (K : DutyDay → ℕ → Type 0) (seen : List DutyDay) (key count : ℕ) : Type 0 where
  pub tally : HasCount (λ other. Contains seen other × K other key) EarlierDay count
  pub few : count ≤ length seen
  pub latest : (other : DutyDay) (k : ℕ) → Contains seen other → K other k → k ≤ key
  pub known : (key ≡ 0) ⊎ ((other : DutyDay) × Contains seen other × K other key)

-- the days with this key that satisfy `M`, up to this day by their starts
pub record IsTallied (M : DutyDay → Type 0) (K : DutyDay → ℕ → Type 0) (key : ℕ) (day other : DutyDay) : Type 0 where
  pub holds : M other
  pub has : K other key
  pub upto : other.start ≤ day.start

-- later days have greater keys, or the same, and each day has at most one
pub record AreKeys (M : DutyDay → Type 0) (K : DutyDay → ℕ → Type 0) : Type 0 where
  pub rise : (x y : DutyDay) (a b : ℕ) → M x → M y → EarlierDay x y → K x a → K y b → a ≤ b
  pub one : (x : DutyDay) (a b : ℕ) → M x → K x a → K x b → a ≡ b

-- before the first day
pub tally_none : (K : DutyDay → ℕ → Type 0) → Tallied K [] 0 0
tally_none K = record {
  tally = record { all = []; exactly = kept_none DutyDay EarlierDay (λ x. K x 0); count = refl };
  few = omega arith;
  latest = λ other k (n, within, e) h. absurd (omega arith);
  known = inl refl;
}

module _ (M : DutyDay → Type 0) (K : DutyDay → ℕ → Type 0) (keys : AreKeys M K) where
  module _ (seen : List DutyDay) (day : DutyDay) (key count : ℕ) (r : Tallied K seen key count)
      (later : (x : DutyDay) → Contains seen x → EarlierDay x day) (hold : (x : DutyDay) → Contains seen x → M x) where
    -- a day without a key changes nothing
    pub tally_skip : ((k : ℕ) → K day k → ⊥) → Tallied K (seen ++ day ∷ []) key count
    tally_skip none = record {
      tally = record {
        all = r.tally.all;
        exactly = kept_skip DutyDay EarlierDay (λ x. K x key) seen r.tally.all day r.tally.exactly (none key);
        count = r.tally.count;
      };
      few = let f : count ≤ length seen = r.few in omega (arith, length-append seen (day ∷ []));
      latest = λ other k in' has. elim (Contains-push_cases seen day other in') [
        | inl old ↦ r.latest other k old has
        | inr same ↦ absurd (none k (subst (λ (z : DutyDay). K z k) (sym same) has))
      ];
      known = elim r.known [
        | inl e ↦ inl e
        | inr (other, in', has) ↦ inr (other, Contains-append_left seen (day ∷ []) other in', has)
      ];
    }

    module _ (k : ℕ) (is : K day k) (mine : M day) where
      -- no day so far has a greater key than this day
      upto : (x : DutyDay) (a : ℕ) → Contains (seen ++ day ∷ []) x → K x a → a ≤ k
      upto x a in' has = elim (Contains-push_cases seen day x in') [
        | inl old ↦ keys.rise x day a k (hold x old) mine (later x old) has is
        | inr same ↦
            let e : a ≡ k = keys.one day a k mine (subst (λ (z : DutyDay). K z a) (sym same) has) is in omega arith
      ]

      -- one more day with the same key
      tally_same : (n : ℕ) → key ≡ k → n ≡ count + 1 → Tallied K (seen ++ day ∷ []) k n
      tally_same n e f =
          let had : AreKept DutyDay EarlierDay (λ x. K x k) seen r.tally.all =
          subst (λ (z : ℕ). AreKept DutyDay EarlierDay (λ x. K x z) seen r.tally.all) e r.tally.exactly in
          record {
            tally = record {
              all = r.tally.all ++ day ∷ [];
              exactly = kept_add DutyDay EarlierDay (λ x. K x k) seen r.tally.all day had later is;
              count =
                  let m : length r.tally.all ≡ count = r.tally.count in
                  omega (arith, length-append r.tally.all (day ∷ []));
            };
            few = let m : count ≤ length seen = r.few in omega (arith, length-append seen (day ∷ []));
            latest = upto;
            known = inr (day, Contains-push seen day, is);
          }

      -- the first day with a key
      tally_other : (n : ℕ) → key ≢ k → n ≡ 1 → Tallied K (seen ++ day ∷ []) k n
      tally_other n ne f =
          let none : (x : DutyDay) → Contains seen x → K x k → ⊥ = λ x in' has.
          (let low : k ≤ key = r.latest x k in' has in
          let high : key ≤ k = elim r.known [
            | inl zero' ↦ omega arith
            | inr (other, in'', has') ↦ keys.rise other day key k (hold other in'') mine (later other in'') has' is
          ] in
          omega arith) in
          record {
            tally = record {
              all = day ∷ [];
              exactly =
                  kept_add DutyDay EarlierDay (λ x. K x k) seen [] day
                  (kept_nothing DutyDay EarlierDay (λ x. K x k) seen none) later is;
              count = sym f;
            };
            few = omega (arith, length-append seen (day ∷ []));
            latest = upto;
            known = inr (day, Contains-push seen day, is);
          }

      -- a day with a key is added
      pub tally_next : (n : ℕ) → (key ≡ k → n ≡ count + 1) → (key ≢ k → n ≡ 1) → Tallied K (seen ++ day ∷ []) k n
      tally_next n same other = elim (cases_lt key k) [
        | inl lt ↦ let ne : key ≢ k = omega arith in tally_other n ne (other ne)
        | inr ge ↦ elim (cases_lt k key) [
          | inl gt ↦ let ne : key ≢ k = omega arith in tally_other n ne (other ne)
          | inr le ↦ let e : key ≡ k = omega arith in tally_same n e (same e)
        ]
      ]

  -- in a list of days, at an index
  module _ (xs : List DutyDay) (are : AreTheDays M xs)
      (times : All (λ (x : DutyDay). IsInTime x) xs) (i : ℕ) (within : i < length xs) where
    -- days that start no later than the day at i have indices up to i
    low_index : (j : ℕ) → j < length xs → (get_or xs j no_day).start ≤ (get_or xs i no_day).start → j < i + 1
    low_index j in' le = elim (cases_lt i j) [
      | inl lt ↦
          let e : (get_or xs i no_day).rest.past ≤ (get_or xs j no_day).start = are.in_order i j no_day lt in' in
          let t = times i no_day within in
          let a : (get_or xs i no_day).start < (get_or xs i no_day).past = t.some in
          let b : (get_or xs i no_day).past + 540 ≤ (get_or xs i no_day).rest.past = t.enough in
          absurd (omega arith)
      | inr ge ↦ omega arith
    ]

    -- days with indices up to i start no later than the day at i
    high_index : (j : ℕ) → j < i + 1 → (get_or xs j no_day).start ≤ (get_or xs i no_day).start
    high_index j below = elim (cases_lt j i) [
      | inl lt ↦
          let e : (get_or xs j no_day).rest.past ≤ (get_or xs i no_day).start = are.in_order j i no_day lt within in
          let t = times j no_day (omega arith) in
          let a : (get_or xs j no_day).start < (get_or xs j no_day).past = t.some in
          let b : (get_or xs j no_day).past + 540 ≤ (get_or xs j no_day).rest.past = t.enough in
          omega arith
      | inr ge ↦
          let e : j ≡ i = omega arith in
          let f : (get_or xs j no_day).start ≡ (get_or xs i no_day).start =
          ap (λ (z : ℕ). (get_or xs z no_day).start) e in
          omega arith
    ]

    -- each day that was seen satisfies `M`
    pub seen_holds : (n : ℕ) (x : DutyDay) → n ≤ length xs → Contains (take n xs) x → M x
    seen_holds n x most (j, below, is) =
        let l : length (take n xs) ≡ n = length-take-le n xs most in
        let e : get_or (take n xs) j x ≡ get_or xs j x = get_or-take n xs j x (omega arith) in
        (are.each x).0 (j, omega arith, sym e ∙ is)

    -- the tally counts the days with this key up to this day
    pub tally_counts : (key count : ℕ) → Tallied K (take (i + 1) xs) key count
        → HasCount (IsTallied M K key (get_or xs i no_day)) EarlierDay count
    tally_counts key count r =
        let l : length (take (i + 1) xs) ≡ i + 1 = length-take-le (i + 1) xs (omega arith) in
        how_many_as (λ other. Contains (take (i + 1) xs) other × K other key)
        (IsTallied M K key (get_or xs i no_day)) EarlierDay count
        (λ other. (
          λ ((j, below, e), has).
              (let f : get_or (take (i + 1) xs) j other ≡ get_or xs j other =
              get_or-take (i + 1) xs j other (omega arith) in
              let g : get_or xs j no_day ≡ other = get_or_default xs j no_day other (omega arith) ∙ (sym f ∙ e) in
              let s : (get_or xs j no_day).start ≡ other.start = ap (λ (z : DutyDay). z.start) g in
              let u : (get_or xs j no_day).start ≤ (get_or xs i no_day).start = high_index j (omega arith) in
              record { holds = (are.each other).0 (j, omega arith, sym f ∙ e); has = has; upto = omega arith }),
          λ h.
              (let (j, in', e) = (are.each other).1 h.holds in
              let g : get_or xs j no_day ≡ other = get_or_default xs j no_day other in' ∙ e in
              let s : (get_or xs j no_day).start ≡ other.start = ap (λ (z : DutyDay). z.start) g in
              let u : other.start ≤ (get_or xs i no_day).start = h.upto in
              let low : j < i + 1 = low_index j in' (omega arith) in
              let f : get_or (take (i + 1) xs) j other ≡ get_or xs j other = get_or-take (i + 1) xs j other low in
              ((j, omega arith, f ∙ e), h.has)),
        ))
        r.tally

    -- the day at i has a key, and is tallied
    pub tally_at : (key count k n : ℕ) → Tallied K (take i xs) key count → K (get_or xs i no_day) k
        → (key ≡ k → n ≡ count + 1) → (key ≢ k → n ≡ 1) → Tallied K (take (i + 1) xs) k n
    tally_at key count k n r is same other =
        let mine : M (get_or xs i no_day) = (are.each (get_or xs i no_day)).0 (Contains-get_or xs i no_day within) in
        rw (take_more xs i no_day within)
        (tally_next (take i xs) (get_or xs i no_day) key count r
        (seen_before DutyDay EarlierDay M xs i no_day within are.in_order)
        (λ x h. seen_holds i x (omega arith) h) k is mine n same other)

    -- the day at i has no key, and is skipped
    pub tally_skip_at : (key count : ℕ) → Tallied K (take i xs) key count
        → ((k : ℕ) → K (get_or xs i no_day) k → ⊥) → Tallied K (take (i + 1) xs) key count
    tally_skip_at key count r none =
        rw (take_more xs i no_day within)
        (tally_skip (take i xs) (get_or xs i no_day) key count r
        (seen_before DutyDay EarlierDay M xs i no_day within are.in_order)
        (λ x h. seen_holds i x (omega arith) h) none)

-- each day starts at least a minute after the one before
pub index_below : (xs : List DutyDay) → AllPairs EarlierDay xs
    → All (λ (x : DutyDay). IsInTime x) xs → (i : ℕ) → i < length xs → i ≤ (get_or xs i no_day).start
index_below xs order times zero within = omega arith
index_below xs order times (suc i) within =
    let h : i ≤ (get_or xs i no_day).start = index_below xs order times i (omega arith) in
    let e : (get_or xs i no_day).rest.past ≤ (get_or xs (suc i) no_day).start =
    order i (suc i) no_day (omega arith) within in
    let t : IsInTime (get_or xs i no_day) = times i no_day (omega arith) in
    let a : (get_or xs i no_day).start < (get_or xs i no_day).past = t.some in
    let b : (get_or xs i no_day).past + 540 ≤ (get_or xs i no_day).rest.past = t.enough in
    omega arith

-- a tally's count is at most 68374080
pub tally_fits : (K : DutyDay → ℕ → Type 0) (xs : List DutyDay)
    → AllPairs EarlierDay xs → All (λ (x : DutyDay). IsInTime x) xs → (i key count : ℕ)
    → i < length xs → Tallied K (take i xs) key count → count ≤ 68374080
tally_fits K xs order times i key count within r =
    let l : length (take i xs) ≡ i = length-take-le i xs (omega arith) in
    let f : count ≤ length (take i xs) = r.few in
    let h : i ≤ (get_or xs i no_day).start = index_below xs order times i within in
    let t : IsInTime (get_or xs i no_day) = times i no_day within in
    let a : (get_or xs i no_day).start < (get_or xs i no_day).past = t.some in
    let b : (get_or xs i no_day).past ≤ 68374080 = t.ended in
    omega arith
