-- What a plan holds (specs/Plans).
use Rattle.std.proofs.Common.{◌≡◌, ℕ, suc, ◌+◌, ◌-◌, ◌≤◌, List, [], ◌∷◌, ◌++◌, None, inl, inr, length, length-append, take, drop, refl, sym, ap, subst, ◌∙◌, arith}
use Rattle.std.specs.List.{All, Contains}
use Rattle.std.proofs.lemmas.Bool.{cases_lt}
use Rattle.std.proofs.lemmas.List.{take-append-le, take_all, drop-append-le, drop_all}
use Rattle.std.proofs.lemmas.List.Elements.{Contains-append_left, Contains-append_right, Contains-append_cases}
use Rattle.std.proofs.lemmas.List.Elements.{All-append, All-cons, All-nil}
use Rattle.tacho_time.specs.declared.span.Activity.TheVariants.{Rest, Work, Drive}
use Rattle.tacho_time.specs.declared.span.Mark.{Mark}
use Rattle.tacho_time.specs.declared.span.Span.{Span}
use Rattle.tacho_time.specs.Spans.{Gives, IsCanonical}
use Rattle.tacho_line.specs.Line.{mark_at}
use Rattle.tacho_line.proofs.LineLemmas.{first_holds, rest_holds, given_held}
use Rattle.tacho_law.specs.declared.breach.Breach.{Breach}
use Rattle.tacho_law.specs.declared.breach.Kind.{Kind}
use Rattle.tacho_law.specs.declared.breach.Kind.TheVariants.{B1, B2, B3, B4, B5, B6, B7, B8, B9, B10}
use Rattle.tacho_pass.specs.declared.found.Found.{Found}
use Rattle.tacho_rules.specs.declared.scan.Scan.{Scan}
use Rattle.tacho_rules.proofs.JoinedLemmas.{held_first, held_after}
use Rattle.tacho_ahead.specs.Plans.{single, plan, daily_plan, plan_for, rested}
use Rattle.tacho_ahead.specs.Ahead.{Breaks}
use Rattle.tacho_ahead.specs.Fed.{IsFedTo, GivesAll, GoesToRest, GoesToWork, AreReported, IsReady, IsKnown, HasSame}

-- what was fed of the spans was fed of the spans and others
pub fed_first : (s : Scan) (f : Found) (held more : List Span) (base place : ℕ) → IsFedTo s f held base place
    → IsFedTo s f (held ++ more) base place
fed_first s f held more base place is = record {
  monday = is.monday;
  parts = is.parts;
  joined = is.joined;
  single = is.single;
  held = λ m k g. held_first held more m k (is.held m k g);
  scanned = is.scanned;
}

-- nothing is held from `start` on
module _ (held : List Span) (start : ℕ) (none : (m : ℕ) → start ≤ m → mark_at held m ≡ None)
    (within : All (λ (x : Span). x.past ≤ 68374080) held) (x : ℕ) (forward : start ≤ x) where
  within_all : (more : List Span) → All (λ (s : Span). s.past ≤ 68374080) more → All (λ (s : Span). s.past ≤ 68374080) (held ++ more)
  within_all more all = All-append (λ (s : Span). s.past ≤ 68374080) held more within all

  pub rests : x + 50400 ≤ 68374080 → GoesToRest (plan held start x) start x
  rests early =
      let d : Span = single start x Drive in
      let r : Span = single x (x + 50400) Rest in
      record {
        drives = λ m l h. held_after held (d ∷ r ∷ []) m (none m l) ∙ first_holds d (r ∷ []) m l h;
        rests = λ m l h.
            held_after held (d ∷ r ∷ []) m (none m (omega (arith, forward, l))) ∙ rest_holds d (r ∷ []) m l
            ∙ first_holds r [] m l h;
        ends = record {
          none =
              held_after held (d ∷ r ∷ []) (x + 50400) (none (x + 50400) (omega (arith, forward)))
              ∙ rest_holds d (r ∷ []) (x + 50400) (omega arith) ∙ rest_holds r [] (x + 50400) (omega arith);
          within =
              within_all (d ∷ r ∷ [])
              (All-cons (λ (s : Span). s.past ≤ 68374080) d (r ∷ []) (omega (arith, early))
              (All-cons (λ (s : Span). s.past ≤ 68374080) r [] early (All-nil (λ (s : Span). s.past ≤ 68374080))));
        };
      }

  pub works : x + 51061 ≤ 68374080 → GoesToWork (daily_plan held start x) start x
  works early =
      let d : Span = single start x Drive in
      let n : Span = single x (x + 660) Rest in
      let w : Span = single (x + 660) (x + 661) Work in
      let r : Span = single (x + 661) (x + 51061) Rest in
      record {
        drives = λ m l h. held_after held (d ∷ n ∷ w ∷ r ∷ []) m (none m l) ∙ first_holds d (n ∷ w ∷ r ∷ []) m l h;
        sleeps = λ m l h.
            held_after held (d ∷ n ∷ w ∷ r ∷ []) m (none m (omega (arith, forward, l))) ∙ rest_holds d (n ∷ w ∷ r ∷ []) m l
            ∙ first_holds n (w ∷ r ∷ []) m l h;
        works = λ m l h.
            held_after held (d ∷ n ∷ w ∷ r ∷ []) m (none m (omega (arith, forward, l)))
            ∙ rest_holds d (n ∷ w ∷ r ∷ []) m (omega (arith, l)) ∙ rest_holds n (w ∷ r ∷ []) m l ∙ first_holds w (r ∷ []) m l h;
        rests = λ m l h.
            held_after held (d ∷ n ∷ w ∷ r ∷ []) m (none m (omega (arith, forward, l)))
            ∙ rest_holds d (n ∷ w ∷ r ∷ []) m (omega (arith, l)) ∙ rest_holds n (w ∷ r ∷ []) m (omega (arith, l))
            ∙ rest_holds w (r ∷ []) m l ∙ first_holds r [] m l h;
        ends = record {
          none =
              held_after held (d ∷ n ∷ w ∷ r ∷ []) (x + 51061) (none (x + 51061) (omega (arith, forward)))
              ∙ rest_holds d (n ∷ w ∷ r ∷ []) (x + 51061) (omega arith) ∙ rest_holds n (w ∷ r ∷ []) (x + 51061) (omega arith)
              ∙ rest_holds w (r ∷ []) (x + 51061) (omega arith) ∙ rest_holds r [] (x + 51061) (omega arith);
          within =
              within_all (d ∷ n ∷ w ∷ r ∷ [])
              (All-cons (λ (s : Span). s.past ≤ 68374080) d (n ∷ w ∷ r ∷ []) (omega (arith, early))
              (All-cons (λ (s : Span). s.past ≤ 68374080) n (w ∷ r ∷ []) (omega (arith, early))
              (All-cons (λ (s : Span). s.past ≤ 68374080) w (r ∷ []) (omega (arith, early))
              (All-cons (λ (s : Span). s.past ≤ 68374080) r [] early (All-nil (λ (s : Span). s.past ≤ 68374080))))));
        };
      }

-- ---- the plan that judges a kind

pub plan_b3 : (k : Kind) (held : List Span) (start x : ℕ) → k ≡ B3 → plan_for k held start x ≡ daily_plan held start x
plan_b3 k held start x e = rw e refl

pub plan_others : (k : Kind) (held : List Span) (start x : ℕ) → (k ≡ B3 → ⊥) → plan_for k held start x ≡ plan held start x
plan_others B1 held start x not = refl
plan_others B2 held start x not = refl
plan_others B3 held start x not = absurd (not refl)
plan_others B4 held start x not = refl
plan_others B5 held start x not = refl
plan_others B6 held start x not = refl
plan_others B7 held start x not = refl
plan_others B8 held start x not = refl
plan_others B9 held start x not = refl
plan_others B10 held start x not = refl

-- what a call finds of any plan, it finds of the one that judges a kind
module _ (s : Scan) (f : Found) (held : List Span) (base start : ℕ) (is : IsReady s f held base start) (x : ℕ) (forward : start ≤ x)
  where
    pub rests_reported : x + 50400 ≤ 68374080 → (k : Kind) → (k ≡ B3 → ⊥) → (found : List Breach)
        → ((p : List Span) (b : ℕ) → IsFedTo s f p b start → GoesToRest p start x → AreReported p b found)
        → AreReported (plan_for k held start x) base found
    rests_reported early k not found finds =
        subst (λ (p : List Span). AreReported p base found) (sym (plan_others k held start x not))
        (finds (plan held start x) base (fed_first s f held (single start x Drive ∷ single x (x + 50400) Rest ∷ []) base start is.fed)
        (rests held start is.none is.within x forward early))

    pub works_reported : x + 51061 ≤ 68374080 → (k : Kind) → k ≡ B3 → (found : List Breach)
        → ((p : List Span) (b : ℕ) → IsFedTo s f p b start → GoesToWork p start x → AreReported p b found)
        → AreReported (plan_for k held start x) base found
    works_reported early k e found finds =
        subst (λ (p : List Span). AreReported p base found) (sym (plan_b3 k held start x e))
        (finds (daily_plan held start x) base
        (fed_first s f held
        (single start x Drive ∷ single x (x + 660) Rest ∷ single (x + 660) (x + 661) Work ∷ single (x + 661) (x + 51061) Rest ∷ []) base
        start is.fed)
        (works held start is.none is.within x forward early))

-- if no minute is driven, the breaches that are found are those of the plan
pub known_of : (s : Scan) (f : Found) (held : List Span) (base start : ℕ) → IsReady s f held base start → start + 50400 ≤ 68374080
    → (found : List Breach) → ((p : List Span) (b : ℕ) → IsFedTo s f p b start → GoesToRest p start start → AreReported p b found)
    → (more : List Breach) → found ≡ f.breaches.items ++ more → (had : List Breach) → had ≡ found
    → IsKnown s f had held base start
known_of s f held base start is early found finds more longer had same = record {
  ready = is;
  rested = subst (AreReported (plan held start start) base) (sym same)
      (finds (plan held start start) base
      (fed_first s f held (single start start Drive ∷ single start (start + 50400) Rest ∷ []) base start is.fed)
      (rests held start is.none is.within start (omega arith) early));
  before = λ breach in'.
      subst (λ (xs : List Breach). Contains xs breach) (sym (same ∙ longer))
      (Contains-append_left f.breaches.items more breach in');
}

-- ---- what was found before

-- the scan with the same findings is as ready
pub same_ready : (s : Scan) (f f' : Found) (held : List Span) (base start : ℕ) → HasSame f f' → IsReady s f held base start
    → IsReady s f' held base start
same_ready s f f' held base start same is = record {
  fed = record {
    monday = is.fed.monday;
    parts = is.fed.parts;
    joined = is.fed.joined;
    single = is.fed.single;
    held = is.fed.held;
    scanned = record { stands = rw (same.breaches, same.debts) is.fed.scanned.stands };
  };
  none = is.none;
  within = is.within;
}

pub same_known : (s : Scan) (f f' : Found) (had : List Breach) (held : List Span) (base start : ℕ) → HasSame f f'
    → IsKnown s f had held base start → IsKnown s f' had held base start
same_known s f f' had held base start same is = record {
  ready = same_ready s f f' held base start same is.ready;
  rested = is.rested;
  before = λ breach in'. is.before breach (subst (λ (xs : List Breach). Contains xs breach) same.breaches in');
}

pub same_then : (f g h : Found) → HasSame f g → HasSame g h → HasSame f h
same_then f g h a b = record { breaches = b.breaches ∙ a.breaches; debts = b.debts ∙ a.debts }

-- what was appended is removed again
pub taken : {A : Type 0} (xs more : List A) (n : ℕ) → n ≡ length xs → take n (xs ++ more) ≡ xs
taken xs more n e = take-append-le n xs more (omega (arith, e)) ∙ take_all n xs (omega (arith, e))

pub dropped : {A : Type 0} (xs more : List A) (n : ℕ) → n ≡ length xs → drop n (xs ++ more) ≡ more
dropped xs more n e =
    drop-append-le n xs more (omega (arith, e)) ∙ ap (λ ys. ys ++ more) (drop_all n xs (omega (arith, e)))

pub rest_of : {A : Type 0} (v xs more : List A) (n : ℕ) → v ≡ xs ++ more → n ≡ length xs → take (length v - n) (drop n v) ≡ more
rest_of v xs more n e l =
    let d : drop n v ≡ more = ap (λ ys. drop n ys) e ∙ dropped xs more n l in
    let k : length v ≡ length xs + length more = ap (λ ys. length ys) e ∙ length-append xs more in
    ap (λ ys. take (length v - n) ys) d ∙ take_all (length v - n) more (omega (arith, k, l))

-- ---- a new breach

module _ (s : Scan) (f : Found) (had : List Breach) (held : List Span) (base start : ℕ) (is : IsKnown s f had held base start)
    (k : Kind) (x : ℕ) (all more : List Breach) (longer : all ≡ f.breaches.items ++ more)
    (reported : AreReported (plan_for k held start x) base all) where
  pub breaks_some : (breach : Breach) → Contains more breach → breach.kind ≡ k → (Contains had breach → ⊥) → Breaks held base start k x
  breaks_some breach in' kind new = (
    breach,
    record {
      kind_is = kind;
      reported =
          (reported breach).0
          (subst (λ (xs : List Breach). Contains xs breach) (sym longer) (Contains-append_right f.breaches.items more breach in'));
      new = λ told. new ((is.rested breach).1 told);
    },
  )

  pub breaks_none : Breaks held base start k x → (breach : Breach) × Contains more breach × (breach.kind ≡ k) × (Contains had breach → ⊥)
  breaks_none (breach, b) =
      let not : Contains had breach → ⊥ = λ in'. b.new ((is.rested breach).0 in') in
      let among : Contains (f.breaches.items ++ more) breach =
      subst (λ (xs : List Breach). Contains xs breach) longer ((reported breach).1 b.reported) in (
        breach,
        elim (Contains-append_cases f.breaches.items more breach among) [
          | inl before ↦ absurd (not (is.before breach before))
          | inr after ↦ after
        ],
        b.kind_is,
        not,
      )

-- ---- what is held up to the horizon, and rest up to `start`

-- rest is fed to `start`, if the scan was fed what is held
pub ready_of : (s s' : Scan) (f f' : Found) (held : List Span) (base horizon start : ℕ)
    → ((m : ℕ) → horizon ≤ m → mark_at held m ≡ None) → All (λ (x : Span). x.past ≤ 68374080) held → horizon ≤ start
    → start ≤ 68374080 → IsFedTo s f held base horizon
    → ((p : List Span) (b : ℕ) → IsFedTo s f p b horizon → GivesAll p horizon start Rest → IsFedTo s' f' p b start)
    → IsReady s' f' (rested held horizon start) base start
ready_of s s' f f' held base horizon start none within forward early is fed =
    let r : Span = single horizon start Rest in
    record {
      fed = fed (held ++ r ∷ []) base (fed_first s f held (r ∷ []) base horizon is)
          (λ m l h. held_after held (r ∷ []) m (none m l) ∙ first_holds r [] m l h);
      none = λ m l. held_after held (r ∷ []) m (none m (omega (arith, forward, l))) ∙ rest_holds r [] m l;
      within =
          All-append (λ (x : Span). x.past ≤ 68374080) held (r ∷ []) within
          (All-cons (λ (x : Span). x.past ≤ 68374080) r [] early (All-nil (λ (x : Span). x.past ≤ 68374080)));
    }

-- ---- nothing is held from a minute on

-- spans that end by a minute hold nothing from there on
pub none_from : (held : List Span) (end m : ℕ) → All (λ (x : Span). x.past ≤ end) held → end ≤ m → mark_at held m ≡ None
none_from [] end m all l = refl
none_from (s ∷ held) end m all l =
    rest_holds s held m (let e : s.past ≤ end = all 0 s (omega arith) in omega (arith, e, l))
    ∙ none_from held end m (λ k d within. all (suc k) d (omega arith)) l

-- spans that give nothing from a minute on end by it
ended_by : (held : List Span) (end : ℕ) → IsCanonical held → ((m : ℕ) (mark : Mark) → end ≤ m → Gives held m mark → ⊥)
    → All (λ (x : Span). x.past ≤ end) held
ended_by [] end canonical none = All-nil (λ (x : Span). x.past ≤ end)
ended_by (s ∷ held) end canonical none =
    All-cons (λ (x : Span). x.past ≤ end) s held first (ended_by held end canonical.2 (λ m mark l g. none m mark l (inr g))) where
      first : s.past ≤ end
      first = elim (cases_lt end s.past) [
        | inl lt ↦ elim (cases_lt s.start end) [
          | inl early ↦ absurd (none end s.mark (omega arith) (inl ((omega (arith, early), lt), refl)))
          | inr late ↦ absurd (none s.start s.mark late (inl ((omega arith, canonical.0), refl)))
        ]
        | inr ge ↦ ge
      ]

-- canonical spans that hold nothing from a minute on end by it
pub all_by : (held : List Span) (end : ℕ) → IsCanonical held → ((m : ℕ) → end ≤ m → mark_at held m ≡ None)
    → All (λ (x : Span). x.past ≤ end) held
all_by held end canonical none =
    ended_by held end canonical
    (λ m mark l g. let some = given_held held m mark canonical g in let no = none m l in cc)
