-- What is found when a scan ends that was fed a plan (specs/Ended), and which breaches are coming (specs/Outlook).
use Rattle.std.proofs.Common.{◌≡◌, ◌↔◌, ℕ, ◌+◌, ◌<◌, ◌≤◌, inl, inr, List, [], ◌∷◌, ◌++◌, length, get_or, take, None, Some, false, refl, sym, ap, subst, ◌∙◌, arith}
use Rattle.std.specs.List.{All, AllPairs, Contains}
use Rattle.std.proofs.lemmas.Grind.{common_steps}
use Rattle.std.proofs.lemmas.List.{get_or_default, take_all}
use Rattle.std.proofs.lemmas.List.Elements.{All-append, All-cons, All-nil, Contains-append_left, Contains-append_right, Contains-append_cases}
use Rattle.std.proofs.lemmas.List.Elements.{Contains-get_or, Contains-push, Contains-push_cases}
use Rattle.std.proofs.lemmas.List.Quantifiers.{all_pairs_push}
use Rattle.tacho_time.specs.declared.span.Activity.TheVariants.{Rest, Drive}
use Rattle.tacho_time.specs.declared.span.Mark.{Mark}
use Rattle.tacho_time.specs.declared.span.Span.{Span}
use Rattle.tacho_time.specs.Spans.{IsCanonicalOf}
use Rattle.tacho_line.specs.declared.horizon.Horizon.{Horizon}
use Rattle.tacho_line.specs.declared.horizon.Cause.TheVariants.{Unknown}
use Rattle.tacho_line.specs.Line.{mark_at, HoldsWithin, IsHorizon}
use Rattle.tacho_line.proofs.LineLemmas.{first_holds}
use Rattle.tacho_line.proofs.MergeLemmas.{append_gives}
use Rattle.tacho_law.specs.declared.run.Run.{Run}
use Rattle.tacho_law.specs.declared.breach.Breach.{Breach}
use Rattle.tacho_law.specs.declared.debt.Debt.{Debt}
use Rattle.tacho_law.specs.Breaks.{AreCompleteBreaks}
use Rattle.tacho_law.specs.Breaches.{IsBreach}
use Rattle.tacho_law.specs.Line.{Line, line_of, Joined, IsBase, IsExamined}
use Rattle.tacho_law.specs.Order.{Apart, Earlier, HaveOwnPlaces}
use Rattle.tacho_law.proofs.ExactlyLemmas.{contains_cases, head_first, tail_order}
use Rattle.tacho_law.proofs.RunsLemmas.{joined_le, one_rest_runs, rest_runs_are}
use Rattle.tacho_law.proofs.BreaksLemmas.{one_complete_breaks}
use Rattle.tacho_law.proofs.DebtsLemmas.{one_debts}
use Rattle.tacho_pass.specs.declared.found.Found.{Found}
use Rattle.tacho_rules.specs.declared.scan.Scan.{Scan}
use Rattle.tacho_rules.specs.Report.{examined_line, IsReport}
use Rattle.tacho_rules.specs.Scan.{AreGathered, AreFindings, IsScanOf}
use Rattle.tacho_rules.proofs.JoinedLemmas.{held_first, held_after, joined_next, joined_line, joined_horizon}
use Rattle.tacho_rules.proofs.ReportLemmas.{one_horizon, one_report}
use Rattle.tacho_rules.proofs.ReportExistLemmas.{HasReport, each_report}
use Rattle.tacho_rules.proofs.SliceLemmas.{slice_examined}
use Rattle.tacho_ahead.specs.Plans.{single, rested, plan, IsReported}
use Rattle.tacho_ahead.specs.Outlook.{AreComing}
use Rattle.tacho_ahead.specs.Fed.{IsFedTo, EndsAt, AreReported, HasSame}
use Rattle.tacho_ahead.specs.Ended.{AreAllFound, AreParts}

-- ---- what is found, in two orders

module _ (line : Line) (base end : ℕ) (xs ys : List Breach) (ds es : List Debt)
    (a : AreGathered line base end xs ds) (b : AreFindings line base end ys es) where
  same_breaks : a.breaks ≡ b.breaks
  same_breaks =
      one_complete_breaks b.runs a.breaks b.breaks (rest_runs_are line b.runs b.are_runs).some
      (subst (λ (x : List Run). AreCompleteBreaks x a.breaks) (one_rest_runs line a.runs b.runs a.are_runs b.are_runs) a.are_breaks)
      b.are_breaks

  same_debts : ds ≡ es
  same_debts = one_debts line end ds es a.are_debts b.are_debts

  in_order : (breach : Breach) → Contains xs breach → Contains ys breach
  in_order breach in' =
      (b.exactly.each breach).1
      (subst (λ (d : List Debt). IsBreach line base end b.breaks d breach.kind breach) same_debts
      (subst (λ (r : List Run). IsBreach line base end r ds breach.kind breach) same_breaks
      ((a.exactly.each breach).0 in')))

  in_no_order : (breach : Breach) → Contains ys breach → Contains xs breach
  in_no_order breach in' =
      (a.exactly.each breach).1
      (subst (λ (d : List Debt). IsBreach line base end a.breaks d breach.kind breach) (sym same_debts)
      (subst (λ (r : List Run). IsBreach line base end r es breach.kind breach) (sym same_breaks)
      ((b.exactly.each breach).0 in')))

-- the findings of a report
findings_of : (held : List Span) (base : ℕ) (h : Horizon) (found : List Breach) (debts : List Debt) (end : ℕ) → h.minute ≡ end
    → IsReport held base h found debts → AreFindings (examined_line held base end) base end found debts
findings_of held base h found debts end same r =
    subst (λ (m : ℕ). AreFindings (examined_line held base m) base m found debts) same (record {
      runs = r.runs;
      breaks = r.breaks;
      are_runs = r.are_runs;
      are_breaks = r.are_breaks;
      are_debts = r.are_debts;
      exactly = r.exactly;
    })

-- ---- the end of a plan

-- what a scan finds at the end of a plan is its report
pub all_found : (s : Scan) (f : Found) (plan : List Span) (base end : ℕ) → IsFedTo s f plan base end → EndsAt plan end → end ≤ 68374080
    → (found : Found)
    → ((b : ℕ) (spans : List Span) → IsScanOf s f b spans → IsExamined spans b end
    → AreGathered (line_of spans) b end found.breaches.items found.debts.items)
    → AreAllFound plan base found
all_found s f plan base end is ends early found finds =
    let xs = found.breaches.items in
    let ds = found.debts.items in
    let base_early : base ≤ 68374080 = let le = joined_le is.parts base end is.joined in omega (arith, le, early) in
    let gathered : AreGathered (examined_line plan base end) base end xs ds =
    subst (λ (l : Line). AreGathered l base end xs ds) (joined_line plan is.parts base end is.joined is.single is.held)
    (finds base is.parts is.scanned
    (record { base_is = is.monday; joined = is.joined; single = is.single; within = early })) in
    let r : HasReport plan base = each_report plan base ends.within is.monday base_early in
    let here : IsHorizon plan base (record { minute = end; cause = Unknown }) =
    joined_horizon plan is.parts base end is.joined is.single is.held (record { minute = end; cause = Unknown }) refl ends.none in
    let same : r.horizon.minute ≡ end =
    ap (λ (h : Horizon). h.minute) (one_horizon plan base r.horizon (record { minute = end; cause = Unknown }) r.report.is_horizon here) in
    let told = findings_of plan base r.horizon r.breaches r.debts end same r.report in
    record {
      horizon = r.horizon;
      breaches = r.breaches;
      report =
          subst (λ (debts : List Debt). IsReport plan base r.horizon r.breaches debts)
          (sym (same_debts (examined_line plan base end) base end xs r.breaches ds r.debts gathered told)) r.report;
      each = λ breach. (
        in_order (examined_line plan base end) base end xs r.breaches ds r.debts gathered told breach,
        in_no_order (examined_line plan base end) base end xs r.breaches ds r.debts gathered told breach,
      );
      apart = gathered.exactly.in_order;
    }

-- a report is the only one
pub reported_of : (plan : List Span) (base : ℕ) (found : Found) → AreAllFound plan base found
    → AreReported plan base found.breaches.items
reported_of plan base found all breach = (
  λ in'. record {
    horizon = all.horizon;
    found = all.breaches;
    debts = found.debts.items;
    report = all.report;
    has = (all.each breach).0 in';
  },
  λ told. (all.each breach).1 (subst (λ (xs : List Breach). Contains xs breach)
      (one_report plan base told.horizon all.horizon told.found all.breaches told.debts found.debts.items told.report all.report).1
      told.has),
)

-- ---- coming breaches

-- a breach has the same place as itself
not_apart : (b : Breach) → Apart b b → ⊥
not_apart b apart = apart (record { moment = refl; kind = refl; since = refl })

-- members of the front and of the back are apart
front_and_back : (front back : List Breach) (b : Breach) → HaveOwnPlaces (front ++ back) → Contains front b → Contains back b → ⊥
front_and_back [] back b apart (k, within, is) in' = absurd (omega (arith, within))
front_and_back (x ∷ front) back b apart there in' = elim (contains_cases x front b there) [
  | inl same ↦
      not_apart b (subst (λ (y : Breach). Apart y b) same
      (head_first Apart x (front ++ back) b apart (Contains-append_right front back b in')))
  | inr later ↦ front_and_back front back b (tail_order Apart x (front ++ back) apart) later in'
]

back_apart : (front back : List Breach) → HaveOwnPlaces (front ++ back) → HaveOwnPlaces back
back_apart [] back apart = apart
back_apart (x ∷ front) back apart = back_apart front back (tail_order Apart x (front ++ back) apart)

-- Of what is found after five weeks of rest, `front` was found up to the horizon. What was found since, and isn't added at the horizon, is
-- coming.
pub coming_are : (held : List Span) (base horizon start : ℕ) (front back added coming : List Breach) (found : Found)
    → found.breaches.items ≡ front ++ back
    → AreAllFound (plan (rested held horizon start) start start) base found
    → AreReported held base (front ++ added)
    → ((breach : Breach) → Contains coming breach ↔ (Contains back breach × (Contains added breach → ⊥)))
    → (HaveOwnPlaces back → AllPairs Earlier coming)
    → AreComing held base horizon start coming
coming_are held base horizon start front back added coming found list all reported each in_order =
    let after = reported_of (plan (rested held horizon start) start start) base found all in
    let apart : HaveOwnPlaces (front ++ back) = subst HaveOwnPlaces list all.apart in
    let has : (breach : Breach) → Contains (front ++ back) breach ↔ IsReported (plan (rested held horizon start) start start) base breach =
    subst (λ (xs : List Breach). AreReported (plan (rested held horizon start) start start) base xs) list after in
    record {
      each = λ breach. (
        λ in'.
            let c = (each breach).0 in' in
            record {
              reported = (has breach).0 (Contains-append_right front back breach c.0);
              new = λ told. elim (Contains-append_cases front added breach ((reported breach).1 told)) [
                | inl before ↦ front_and_back front back breach apart before c.0
                | inr now ↦ c.1 now
              ];
            },
        λ is. (each breach).1 (elim (Contains-append_cases front back breach ((has breach).1 is.reported)) [
          | inl before ↦ absurd (is.new ((reported breach).0 (Contains-append_left front added breach before)))
          | inr since ↦ (since, λ now. is.new ((reported breach).0 (Contains-append_right front added breach now)))
        ]),
      );
      in_order = in_order (back_apart front back apart);
    }

-- ---- spans of what is held, and of the rest after it

module _ (held : List Span) (base start : ℕ) (h : Horizon) (is : IsHorizon held base h) (slice : List Span)
    (of : IsCanonicalOf (HoldsWithin held base h.minute) slice) (monday : IsBase base) (in_range : base ≤ 68374080)
    (within : All (λ (s : Span). s.past ≤ 68374080) held) where
  -- nothing follows
  pub parts_alone : start ≡ h.minute → AreParts (rested held h.minute start) base start slice
  parts_alone same =
      let x = slice_examined is of refl monday in_range within in
      record {
        joined = subst (Joined slice base) (sym same) x.joined;
        single = x.single;
        gives = λ m k g. held_first held (single h.minute start Rest ∷ []) m k ((of.same m k).0 g).1;
      }

  -- the rest follows
  pub parts_and_rest : h.minute < start → ((m : ℕ) → h.minute ≤ m → mark_at held m ≡ None)
      → AreParts (rested held h.minute start) base start (slice ++ single h.minute start Rest ∷ [])
  parts_and_rest forward none =
      let x = slice_examined is of refl monday in_range within in
      let r : Span = single h.minute start Rest in
      record {
        joined = joined_next slice r base h.minute x.joined refl forward;
        single =
            All-append (λ (s : Span). s.mark.crew ≡ false) slice (r ∷ []) x.single
            (All-cons (λ (s : Span). s.mark.crew ≡ false) r [] refl (All-nil (λ (s : Span). s.mark.crew ≡ false)));
        gives = λ m k g. elim (append_gives slice (r ∷ []) m k g) [
          | inl before ↦ held_first held (r ∷ []) m k ((of.same m k).0 before).1
          | inr (inl c) ↦
              held_after held (r ∷ []) m (none m c.0.0) ∙ first_holds r [] m c.0.0 c.0.1 ∙ ap (λ (x : Mark). Some x) c.1
          | inr (inr g) ↦ absurd g
        ];
      }

-- parts and a driven minute
pub parts_and_drive : (held : List Span) (base start : ℕ) (parts : List Span) → AreParts held base start parts
    → ((m : ℕ) → start ≤ m → mark_at held m ≡ None)
    → AreParts (plan held start (start + 1)) base (start + 1) (parts ++ single start (start + 1) Drive ∷ [])
parts_and_drive held base start parts is none =
    let d : Span = single start (start + 1) Drive in
    let r : Span = single (start + 1) (start + 1 + 50400) Rest in
    record {
      joined = joined_next parts d base start is.joined refl (omega arith);
      single =
          All-append (λ (s : Span). s.mark.crew ≡ false) parts (d ∷ []) is.single
          (All-cons (λ (s : Span). s.mark.crew ≡ false) d [] refl (All-nil (λ (s : Span). s.mark.crew ≡ false)));
      gives = λ m k g. elim (append_gives parts (d ∷ []) m k g) [
        | inl before ↦ held_first held (d ∷ r ∷ []) m k (is.gives m k before)
        | inr (inl c) ↦
            held_after held (d ∷ r ∷ []) m (none m c.0.0) ∙ first_holds d (r ∷ []) m c.0.0 c.0.1 ∙ ap (λ (x : Mark). Some x) c.1
        | inr (inr g) ↦ absurd g
      ];
    }

pub parts_line : (held : List Span) (base place : ℕ) (parts : List Span) → AreParts held base place parts
    → line_of parts ≡ examined_line held base place
parts_line held base place parts is = joined_line held parts base place is.joined is.single is.gives

-- ---- the breaches that aren't among others

-- of the first n breaches, those that aren't among others
pub record AreMissing (breaches others : List Breach) (n : ℕ) (missing : List Breach) : Type 0 where
  pub each : (b : Breach) → Contains missing b ↔ (Contains (take n breaches) b × (Contains others b → ⊥))
  pub apart : HaveOwnPlaces breaches → HaveOwnPlaces missing

module _ (breaches others : List Breach) (n : ℕ) (within : n < length breaches) (missing : List Breach)
    (are : AreMissing breaches others n missing) (b : Breach) (is : b ≡ get_or breaches n b) where
  one_more : take (n + 1) breaches ≡ take n breaches ++ b ∷ []
  one_more = let e : take (n + 1) breaches ≡ take n breaches ++ get_or breaches n b ∷ [] = grind (arith, common_steps) in
      e ∙ ap (λ (x : Breach). take n breaches ++ x ∷ []) (sym is)

  -- the next one is among the others
  pub skip_missing : Contains others b → AreMissing breaches others (n + 1) missing
  skip_missing among = record {
    each = λ x. (
      λ in'.
          let old = (are.each x).0 in' in
          (subst (λ (xs : List Breach). Contains xs x) (sym one_more) (Contains-append_left (take n breaches) (b ∷ []) x old.0), old.1),
      λ in'. elim (Contains-push_cases (take n breaches) b x (subst (λ (xs : List Breach). Contains xs x) one_more in'.0)) [
        | inl old ↦ (are.each x).1 (old, in'.1)
        | inr same ↦ absurd (in'.1 (subst (λ (y : Breach). Contains others y) same among))
      ],
    );
    apart = are.apart;
  }

  -- it isn't
  pub push_missing : (new : List Breach) → new ≡ missing ++ b ∷ [] → (Contains others b → ⊥) → AreMissing breaches others (n + 1) new
  push_missing new e not = record {
    each = λ x. (
      λ in'. elim (Contains-push_cases missing b x (subst (λ (xs : List Breach). Contains xs x) e in')) [
        | inl old ↦
            let o = (are.each x).0 old in
            (subst (λ (xs : List Breach). Contains xs x) (sym one_more) (Contains-append_left (take n breaches) (b ∷ []) x o.0), o.1)
        | inr same ↦ (
          subst (λ (xs : List Breach). Contains xs x) (sym one_more)
              (subst (λ (y : Breach). Contains (take n breaches ++ b ∷ []) y) same (Contains-push (take n breaches) b)),
          λ among. not (subst (λ (y : Breach). Contains others y) (sym same) among),
        )
      ],
      λ in'.
          subst (λ (xs : List Breach). Contains xs x) (sym e)
          (elim (Contains-push_cases (take n breaches) b x (subst (λ (xs : List Breach). Contains xs x) one_more in'.0)) [
            | inl old ↦ Contains-append_left missing (b ∷ []) x ((are.each x).1 (old, in'.1))
            | inr same ↦ subst (λ (y : Breach). Contains (missing ++ b ∷ []) y) same (Contains-push missing b)
          ]),
    );
    apart = λ all.
        subst HaveOwnPlaces (sym e)
        (all_pairs_push Apart missing b (are.apart all) (λ k d below.
        let (j, early, at) = ((are.each (get_or missing k d)).0 (Contains-get_or missing k d below)).0 in
        let first : j < n = grind (arith, common_steps) in
        let there : get_or breaches j (get_or missing k d) ≡ get_or missing k d = grind (arith, common_steps) in
        subst (λ (y : Breach). Apart (get_or missing k d) y)
        (let here : get_or breaches n (get_or missing k d) ≡ b = get_or_default breaches n (get_or missing k d) b within ∙ sym is in here)
        (subst (λ (y : Breach). Apart y (get_or breaches n (get_or missing k d))) there
        (all j n (get_or missing k d) first within))));
  }

pub all_missing : (breaches others : List Breach) (n : ℕ) (missing : List Breach) → length breaches ≤ n → AreMissing breaches others n missing
    → (b : Breach) → Contains missing b ↔ (Contains breaches b × (Contains others b → ⊥))
all_missing breaches others n missing past are b =
    subst (λ (xs : List Breach). Contains missing b ↔ (Contains xs b × (Contains others b → ⊥))) (take_all n breaches past) (are.each b)

-- the scan with the same findings was fed as much
pub same_fed : (s : Scan) (f f' : Found) (held : List Span) (base place : ℕ) → HasSame f f' → IsFedTo s f held base place
    → IsFedTo s f' held base place
same_fed s f f' held base place same is = record {
  monday = is.monday;
  parts = is.parts;
  joined = is.joined;
  single = is.single;
  held = is.held;
  scanned = record { stands = rw (same.breaches, same.debts) is.scanned.stands };
}
