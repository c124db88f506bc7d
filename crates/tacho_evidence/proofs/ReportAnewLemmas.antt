-- From which week the choice was made anew before each breach of a report (`report::evidence_within`).
use Rattle.std.proofs.Common.{◌≡◌, ◌≢◌, ℕ, ◌+◌, ◌-◌, ◌<◌, ◌≤◌, ◌⊎◌, inl, inr, List, [], ◌∷◌, ◌++◌, refl, ap, subst, ◌∙◌, arith}
use Rattle.std.specs.List.{Contains}
use Rattle.std.proofs.lemmas.Bool.{cases_lt}
use Rattle.std.proofs.lemmas.List.Elements.{Contains-push, Contains-append_left, Contains-push_cases}
use Rattle.tacho_law.specs.declared.breach.Breach.{Breach}
use Rattle.tacho_law.specs.declared.breach.Kind.TheVariants.{B9}
use Rattle.tacho_law.specs.Anew.{EndedBy, Fails, FailsFrom}
use Rattle.tacho_law.specs.Breaches.{IsB9}
use Rattle.tacho_law.specs.Choice.{CanServe}
use Rattle.tacho_law.specs.Line.{Line}
use Rattle.tacho_law.specs.Order.{Earlier, place_of_kind}
use Rattle.tacho_law.specs.Weeks.{week_start}
use Rattle.tacho_law.proofs.AnewLemmas.{starts_late, ended_by}
use Rattle.tacho_law.proofs.LackingWeekLemmas.{serves_less}
use Rattle.tacho_evidence.specs.Anew.{IsAnew, IsNextFailure}
use Rattle.tacho_evidence.proofs.ChoiceLemmas.{fails_from, not_before}

module _ (line : Line) (base horizon : ℕ) where
  -- one of these breaches is a B9 whose later week is this one
  pub record HasFailed (seen : List Breach) (first : ℕ) : Type 0 where
    pub breach : Breach
    pub among : Contains seen breach
    pub kind : breach.kind ≡ B9
    pub is : IsB9 line base horizon breach
    pub since : breach.since + 10080 ≡ week_start first

  -- after these breaches the choice was made anew from `first`: the last week at which the rule failed, or else that of the base
  pub record IsLast (seen : List Breach) (first : ℕ) : Type 0 where
    pub begin : ℕ
    pub monday : base ≡ week_start begin
    pub from : (first ≡ begin) ⊎ HasFailed seen first
    pub late : (b : Breach) → Contains seen b → b.kind ≡ B9 → b.since + 10080 ≤ week_start first

  -- the rule fails at a breach's later week, counted from the week of the base
  fails_of : (begin : ℕ) → base ≡ week_start begin → (b : Breach) (h : IsB9 line base horizon b)
      → Fails (CanServe line) (EndedBy horizon) begin (h.week + 1)
  fails_of begin monday b h =
      let m : base ≡ week_start h.first = h.monday in
      let e : h.first ≡ begin = omega arith in
      subst (λ (a : ℕ). Fails (CanServe line) (EndedBy horizon) a (h.week + 1)) e h.fails

  -- so that week is later than the one of the base
  fails_late : (begin : ℕ) → base ≡ week_start begin → (b : Breach) (h : IsB9 line base horizon b) → begin < h.week + 1
  fails_late begin monday b h =
      starts_late (CanServe line) (EndedBy horizon) begin (serves_less line) (h.week + 1) (fails_of begin monday b h)

  -- a week at which the rule failed is the later week of its breach
  failed_week : (seen : List Breach) (first : ℕ) (f : HasFailed seen first) → f.is.week + 1 ≡ first
  failed_week seen first f =
      let a : f.breach.since ≡ week_start f.is.week = f.is.since in
      let b : f.breach.since + 10080 ≡ week_start first = f.since in
      omega arith

  -- the choice is made anew from such a week
  pub last_anew : (seen : List Breach) (first : ℕ) → IsLast seen first → IsAnew line base horizon first
  last_anew seen first l = record {
    begin = l.begin;
    monday = l.monday;
    anew = elim l.from [
      | inl e ↦ inl e
      | inr f ↦ inr (subst (λ (u : ℕ). Fails (CanServe line) (EndedBy horizon) l.begin u) (failed_week seen first f)
          (fails_of l.begin l.monday f.breach f.is))
    ];
  }

  -- it isn't before the week of the base
  last_from : (seen : List Breach) (first : ℕ) (l : IsLast seen first) → l.begin ≤ first
  last_from seen first l = elim l.from [
    | inl e ↦ omega arith
    | inr f ↦
        let e : f.is.week + 1 ≡ first = failed_week seen first f in
        let lt : l.begin < f.is.week + 1 = fails_late l.begin l.monday f.breach f.is in
        omega arith
  ]

  -- of two breaches B9 the earlier has the earlier weeks
  earlier_week : (b x : Breach) → b.kind ≡ B9 → x.kind ≡ B9 → (h : IsB9 line base horizon b) (k : IsB9 line base horizon x)
      → Earlier b x → h.week < k.week
  earlier_week b x kind kind' h k order =
      let p : place_of_kind b.kind ≡ 9 = ap place_of_kind kind in
      let q : place_of_kind x.kind ≡ 9 = ap place_of_kind kind' in
      let s : b.since ≡ week_start h.week = h.since in
      let t : x.since ≡ week_start k.week = k.since in
      let m : b.moment ≡ week_start (h.week + 2) = h.moment in
      let n : x.moment ≡ week_start (k.week + 2) = k.moment in
      elim order [
        | inl lt ↦ omega arith
        | inr (same, more) ↦ elim more [ inl lt ↦ absurd (omega arith) | inr (also, lt) ↦ omega arith ]
      ]

  -- the breach for a week at which the rule failed
  abbrev breach_at : ℕ → Breach
  breach_at a = record { kind = B9; moment = week_start (a + 1); since = week_start (a - 1); amount = 0 }

  -- it is a B9
  is_breach_at : (begin a : ℕ) → base ≡ week_start begin → Fails (CanServe line) (EndedBy horizon) begin a
      → IsB9 line base horizon (breach_at a)
  is_breach_at begin a monday f =
      let lt : begin < a = starts_late (CanServe line) (EndedBy horizon) begin (serves_less line) a f in
      let e : a ≡ a - 1 + 1 = omega arith in
      record {
        first = begin;
        week = a - 1;
        monday = monday;
        fails = subst (λ (u : ℕ). Fails (CanServe line) (EndedBy horizon) begin u) e f;
        moment = omega arith;
        since = refl;
        amount = refl;
      }

  -- a B9 that comes after exactly the earlier breaches
  module _ (seen : List Breach) (first : ℕ) (l : IsLast seen first) (x : Breach) (kind : x.kind ≡ B9)
      (h : IsB9 line base horizon x) (earlier : (b : Breach) → Contains seen b → Earlier b x)
      (behind : (b : Breach) → b.kind ≡ B9 → IsB9 line base horizon b → b.moment < x.moment → Contains seen b) where
    -- the choice was made anew before its later week
    last_below : first < h.week + 1
    last_below = elim l.from [
      | inl e ↦ let lt : l.begin < h.week + 1 = fails_late l.begin l.monday x h in omega arith
      | inr f ↦
          let e : f.is.week + 1 ≡ first = failed_week seen first f in
          let lt : f.is.week < h.week = earlier_week f.breach x f.kind kind f.is h (earlier f.breach f.among) in
          omega arith
    ]

    -- a week before it at which the rule failed isn't after the last one
    not_after : (a : ℕ) → (a ≡ l.begin) ⊎ Fails (CanServe line) (EndedBy horizon) l.begin a → a < h.week + 1 → a ≤ first
    not_after a start below = elim start [
      | inl e ↦ let le : l.begin ≤ first = last_from seen first l in omega arith
      | inr f ↦
          let lt : l.begin < a = starts_late (CanServe line) (EndedBy horizon) l.begin (serves_less line) a f in
          let m : x.moment ≡ week_start (h.week + 2) = h.moment in
          let among : Contains seen (breach_at a) =
          behind (breach_at a) refl (is_breach_at l.begin a l.monday f) (omega arith) in
          let le : week_start (a - 1) + 10080 ≤ week_start first = l.late (breach_at a) among refl in
          omega arith
    ]

    -- so the choice was made anew from the last one
    pub next_failure : IsNextFailure line horizon first x
    unfolding last_anew
    next_failure =
        let (a, (start, f)) = fails_from line horizon l.begin (h.week + 1) (fails_of l.begin l.monday x h) in
        let le : a ≤ first = not_after a start f.later in
        let e : a ≡ first = elim (cases_lt a first) [
          | inl lt ↦ absurd (not_before line horizon l.begin a first start
              (last_anew seen first l).anew lt (f.before first le last_below))
          | inr ge ↦ omega arith
        ] in
        record {
          week = h.week;
          fails = subst (λ (b : ℕ). FailsFrom (CanServe line) (EndedBy horizon) b (h.week + 1)) e f;
          moment = h.moment;
          since = h.since;
          amount = h.amount;
        }

    -- and after this breach from its later week
    pub last_failed : (next : ℕ) → next ≡ h.week + 1 → IsLast (seen ++ x ∷ []) next
    last_failed next e =
        let s : x.since ≡ week_start h.week = h.since in
        record {
          begin = l.begin;
          monday = l.monday;
          from = inr (record { breach = x; among = Contains-push seen x; kind = kind; is = h; since = omega arith });
          late = λ b among kind'. elim (Contains-push_cases seen x b among) [
            | inl old ↦
                let le : b.since + 10080 ≤ week_start first = l.late b old kind' in
                let lt : first < h.week + 1 = last_below in
                omega arith
            | inr same ↦ let f : x.since ≡ b.since = ap (λ (y : Breach). y.since) same in omega arith
          ];
        }

  -- another breach changes nothing
  pub last_other : (seen : List Breach) (first : ℕ) (x : Breach) → x.kind ≢ B9 → IsLast seen first → IsLast (seen ++ x ∷ []) first
  last_other seen first x not l = record {
    begin = l.begin;
    monday = l.monday;
    from = elim l.from [
      | inl e ↦ inl e
      | inr f ↦ inr (record {
        breach = f.breach;
        among = Contains-append_left seen (x ∷ []) f.breach f.among;
        kind = f.kind;
        is = f.is;
        since = f.since;
      })
    ];
    late = λ b among kind. elim (Contains-push_cases seen x b among) [
      | inl old ↦ l.late b old kind
      | inr same ↦ absurd (not (ap (λ (y : Breach). y.kind) same ∙ kind))
    ];
  }

  -- the weeks of a B9 have ended
  pub failed_ended : (b : Breach) (h : IsB9 line base horizon b) → week_start (h.week + 2) ≤ horizon
  failed_ended b h =
      let ended : week_start (h.week + 1 + 1) ≤ horizon =
      ended_by (CanServe line) (EndedBy horizon) h.first (serves_less line) (h.week + 1) h.fails in
      omega arith
