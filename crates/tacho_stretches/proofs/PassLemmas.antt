-- What a pass over spans represents (specs/Pass).
use Rattle.std.proofs.Common.{◌≡◌, ℕ, zero, suc, ◌+◌, ◌<◌, ◌≤◌, ◌⊎◌, inl, inr, true, false, List, [], ◌∷◌, ◌++◌, map, Option, None, Some, Result, Ok, Err, IfOk, OnOk, refl, sym, ap, subst, ◌∙◌, arith}
use Rattle.std.proofs.lemmas.Bool.{cases_lt}
use Rattle.std.proofs.lemmas.Bool.Decides.{nat_tests}
use Rattle.std.proofs.lemmas.List.{append_assoc, map-append}
use Rattle.std.proofs.lemmas.List.Elements.{All-append, All-cons, All-nil}
use Rattle.tacho_time.specs.declared.span.Mark.{Mark}
use Rattle.tacho_time.specs.declared.span.Span.{Span}
use Rattle.tacho_time.specs.Spans.{Gives}
use Rattle.tacho_line.specs.declared.horizon.Cause.TheVariants.{Crew}
use Rattle.tacho_line.specs.declared.horizon.Horizon.{Horizon}
use Rattle.tacho_line.specs.Line.{mark_at, Holds, IsSingle, IsCause, IsHorizon}
use Rattle.tacho_line.proofs.LineLemmas.{first_holds, rest_holds, none_before, canonical_from}
use Rattle.tacho_line.proofs.MergeLemmas.{append_gives}
use Rattle.tacho_law.specs.Line.{line_of, Joined, IsBase, IsExamined}
use Rattle.tacho_rules.specs.declared.report.Report.{Report}
use Rattle.tacho_rules.specs.Report.{examined_line, IsReport}
use Rattle.tacho_rules.specs.Scan.{AreFindings, IsScanOf}
use Rattle.tacho_rules.proofs.JoinedLemmas.{held_first, held_after, joined_next, joined_line, joined_horizon}
use Rattle.tacho_stretches.specs.declared.examination.Examined.{Examined}
use Rattle.tacho_stretches.specs.declared.stretch.Stretch.{Stretch}
use Rattle.tacho_stretches.specs.Start.{IsStart, IsNextStart, IsHeld, IsEndOfHeld}
use Rattle.tacho_stretches.specs.Stretches.{Judged, judged_of, first_monday, unseen_to, IsStretch, AreAll, AreStretches}
use Rattle.tacho_stretches.specs.Pass.{EndsBy, IsNext, AgreeBefore, IsExaminationOf, IsReportOf, IsExaminedOf, IsStageOf, monday_of, AreDone, Examining, HasPassed, IsTakeable, Passing}
use Rattle.tacho_stretches.proofs.NearLemmas.{near_report, near_next}
use Rattle.tacho_stretches.proofs.StartLemmas.{within, none_single}
use Rattle.tacho_stretches.proofs.StretchLemmas.{pushed}

-- ---- spans, followed by others

-- a minute that isn't held yet, and is in the next span, is held with it
given_then : (spans : List Span) (s : Span) (m : ℕ) → mark_at spans m ≡ None → s.start ≤ m → m < s.past
    → mark_at (spans ++ s ∷ []) m ≡ Some s.mark
given_then spans s m none l r = held_after spans (s ∷ []) m none ∙ first_holds s [] m l r

module _ (spans : List Span) (past : ℕ) (s : Span) (next : IsNext spans past s) where
  -- before the next span begins, nothing changes
  before_next : AgreeBefore s.start spans (spans ++ s ∷ [])
  before_next m lt = go (mark_at spans m) refl where
    go : (o : Option Mark) → mark_at spans m ≡ o → mark_at spans m ≡ mark_at (spans ++ s ∷ []) m
    go None e = e ∙ sym (held_after spans (s ∷ []) m e ∙ none_before s.start (s ∷ []) m (canonical_from s [] (next.some, tt, tt)) lt)
    go (Some k) e = e ∙ sym (held_first spans (s ∷ []) m k e)

  -- from its start on, minutes are as the span gives them
  from_next : (m : ℕ) → s.start ≤ m → mark_at (spans ++ s ∷ []) m ≡ mark_at (s ∷ []) m
  from_next m l = held_after spans (s ∷ []) m (next.ended m (let f = next.from in omega (arith, f, l)))

  -- nothing is held from its past on
  pub ended_next : EndsBy (spans ++ s ∷ []) s.past
  ended_next m l = from_next m (let some = next.some in omega (arith, some, l)) ∙ rest_holds s [] m l

  -- the minute before its past is held
  pub last_next : (m : ℕ) × (s.past ≡ m + 1) × IsHeld (spans ++ s ∷ []) m
  last_next = go s.past refl where
    go : (p : ℕ) → s.past ≡ p → (m : ℕ) × (s.past ≡ m + 1) × IsHeld (spans ++ s ∷ []) m
    go zero e = absurd (let some = next.some in omega (arith, some, e))
    go (suc m) e =
        let some = next.some in (
          m,
          omega (arith, e),
          (s.mark, from_next m (omega (arith, some, e)) ∙ first_holds s [] m (omega (arith, some, e)) (omega (arith, e))),
        )

  -- a line that agrees with the spans and the next one also agrees with the spans before it
  agree_next : (line : List Span) → AgreeBefore s.past (spans ++ s ∷ []) line → AgreeBefore past spans line
  agree_next line agree m lt =
      let from = next.from in
      let some = next.some in
      before_next m (omega (arith, from, lt)) ∙ agree m (omega (arith, from, some, lt))

  -- ---- Mondays

  -- a start in all spans is a start in the earlier spans or in the next one
  start_split : (after m : ℕ) → IsStart (spans ++ s ∷ []) after m → IsStart spans after m ⊎ IsStart (s ∷ []) after m
  start_split after m is = elim (cases_lt m s.start) [
    | inl lt ↦ inl (record { later = is.later; monday = is.monday; single = subst IsSingle (sym (before_next m lt)) is.single })
    | inr ge ↦ inr (record { later = is.later; monday = is.monday; single = subst IsSingle (from_next m ge) is.single })
  ]

  -- if the earlier spans have no next start, the next start of all is that of the next span, if it has one
  pub none_next : (after : ℕ) → IsNextStart spans after None → IsNextStart (s ∷ []) after None
      → IsNextStart (spans ++ s ∷ []) after None
  none_next after none not m is = elim (start_split after m is) [
    | inl start ↦ none m start
    | inr start ↦ not m start
  ]

  start_next : (after start : ℕ) → IsNextStart spans after None → IsNextStart (s ∷ []) after (Some start)
      → IsNextStart (spans ++ s ∷ []) after (Some start)
  start_next after start none is = (
    record {
      later = is.0.later;
      monday = is.0.monday;
      single = subst IsSingle (sym (from_next start (within s after start next.some is.0).0)) is.0.single;
    },
    λ m other. elim (start_split after m other) [
      | inl before ↦ absurd (none m before)
      | inr here ↦ is.1 m here
    ],
  )

-- there is no start where nothing is held
none_after : (spans : List Span) (past after : ℕ) → EndsBy spans past → past ≤ after → IsNextStart spans after None
none_after spans past after ended le m is =
    none_single (mark_at spans m) (ended m (let l = is.later in omega (arith, l, le))) is.single

-- ---- an examination

-- a new examination represents no spans
pub none_examined : (e : Examining) → IsBase e.monday → e.minute ≡ e.monday → IsScanOf e.scan e.found e.monday []
    → (spans : List Span) → IsExaminationOf e spans
none_examined e monday at scanned spans = record {
  is_base = monday;
  parts = [];
  joined = sym at;
  single = All-nil (λ (x : Span). x.mark.crew ≡ false);
  held = λ m k g. absurd g;
  scanned = scanned;
}

-- an examination represents the same spans, whatever comes after them
pub still : (e : Examining) (spans more : List Span) → IsExaminationOf e spans → IsExaminationOf e (spans ++ more)
still e spans more is = record {
  is_base = is.is_base;
  parts = is.parts;
  joined = is.joined;
  single = is.single;
  held = λ m k g. held_first spans more m k (is.held m k g);
  scanned = is.scanned;
}

-- an examination continues with the rest of a span
pub gone_on : (e new : Examining) (spans : List Span) (s part : Span) → IsExaminationOf e spans → EndsBy spans e.minute
    → s.start ≤ e.minute → e.minute < s.past → s.mark.crew ≡ false → new.monday ≡ e.monday → new.minute ≡ s.past
    → part.start ≡ e.minute → part.past ≡ s.past → part.mark ≡ s.mark
    → ((base : ℕ) (parts : List Span) → IsScanOf e.scan e.found base parts → IsScanOf new.scan new.found base (parts ++ part ∷ []))
    → IsExaminationOf new (spans ++ s ∷ [])
gone_on e new spans s part is ended from some single monday minute start past mark fed = record {
  is_base = rw monday is.is_base;
  parts = is.parts ++ part ∷ [];
  joined =
      rw (monday, minute) (subst (λ (p : ℕ). Joined (is.parts ++ part ∷ []) e.monday p) past
      (joined_next is.parts part e.monday e.minute is.joined start (omega (arith, past, some))));
  single =
      All-append (λ (x : Span). x.mark.crew ≡ false) is.parts (part ∷ []) is.single
      (All-cons (λ (x : Span). x.mark.crew ≡ false) part [] (ap (λ (k : Mark). k.crew) mark ∙ single)
      (All-nil (λ (x : Span). x.mark.crew ≡ false)));
  held = λ m k g. held m k (append_gives is.parts (part ∷ []) m k g);
  scanned = rw monday (fed e.monday is.parts is.scanned);
} where
  held : (m : ℕ) (k : Mark) → Gives is.parts m k ⊎ Gives (part ∷ []) m k → Holds (spans ++ s ∷ []) m k
  held m k (inl g) = held_first spans (s ∷ []) m k (is.held m k g)
  held m k (inr (inl c)) =
      let l = c.0.0 in
      let r = c.0.1 in
      given_then spans s m (ended m (omega (arith, start, l))) (omega (arith, from, start, l)) (omega (arith, past, r))
      ∙ ap (λ (x : Mark). Some x) (sym mark ∙ c.1)
  held m k (inr (inr g)) = absurd g

-- an examination that ends
module _ (spans : List Span) (e : Examining) (is : IsExaminationOf e spans) where
  -- so what the scan finds is the report
  pub report_found : (report : Report) (h : Horizon) → e.minute ≤ 68374080 → h.minute ≡ e.minute
      → IsCause (mark_at spans e.minute) h.cause → report.horizon ≡ h
      → ((base : ℕ) (parts : List Span) → IsScanOf e.scan e.found base parts → IsExamined parts base e.minute
      → AreFindings (line_of parts) base e.minute report.breaches.items report.debts.items)
      → IsReport spans e.monday report.horizon report.breaches.items report.debts.items
  report_found report h early at cause same finds =
      let are = subst (λ l. AreFindings l e.monday e.minute report.breaches.items report.debts.items) (joined_line spans is.parts e.monday e.minute is.joined is.single is.held)
      (finds e.monday is.parts is.scanned
      (record { base_is = is.is_base; joined = is.joined; single = is.single; within = early })) in
      let are' = subst (λ (m : ℕ). AreFindings (examined_line spans e.monday m) e.monday m report.breaches.items report.debts.items)
      (sym at ∙ ap (λ (x : Horizon). x.minute) (sym same)) are in
      record {
        is_horizon = subst (λ (x : Horizon). IsHorizon spans e.monday x) (sym same) (joined_horizon spans is.parts e.monday e.minute is.joined is.single is.held h at cause);
        runs = are'.runs;
        breaks = are'.breaks;
        are_runs = are'.are_runs;
        are_breaks = are'.are_breaks;
        are_debts = are'.are_debts;
        exactly = are'.exactly;
      }

-- ---- a pass after one more span

module _ (spans : List Span) (past : ℕ) (s : Span) (next : IsNext spans past s) where
  -- the examination has stopped, at a minute that the span gives as crew, or that comes before the span
  pub stopped : (e : Examining) (x : Examined) → past ≤ e.minute → e.minute < s.past → x.report.horizon.minute ≡ e.minute
      → IsReportOf x (spans ++ s ∷ []) → IsExaminedOf x (spans ++ s ∷ []) spans s.past
  stopped e x le before at report = record {
    report = report;
    before = omega (arith, at, before);
    none = none_after spans past x.report.horizon.minute next.ended (omega (arith, at, le));
  }

  pub gap_there : (m : ℕ) → past ≤ m → m < s.start → mark_at (spans ++ s ∷ []) m ≡ None
  gap_there m le lt = sym (before_next spans past s next m lt) ∙ next.ended m le

  pub crew_there : (m : ℕ) → s.start ≤ m → m < s.past → s.mark.crew ≡ true → IsCause (mark_at (spans ++ s ∷ []) m) Crew
  crew_there m l r crew =
      subst (λ (o : Option Mark). IsCause o Crew) (sym (from_next spans past s next m l ∙ first_holds s [] m l r)) crew

  -- an earlier report stays
  pub report_stays : (x : Examined) → IsExaminedOf x spans spans past → IsExaminedOf x (spans ++ s ∷ []) spans s.past
  report_stays x is =
      let b = is.before in
      let f = next.from in
      let some = next.some in
      record {
        report = near_report spans (spans ++ s ∷ []) x.monday x.report.horizon x.report.breaches.items x.report.debts.items
            (λ m l r. before_next spans past s next m (omega (arith, r, b, f))) is.report;
        before = omega (arith, b, f, some);
        none = is.none;
      }

  -- the earlier stretches stay
  pub done_stays : (base monday : ℕ) (done : List Judged) → AreDone spans past base done monday
      → AreDone (spans ++ s ∷ []) s.past base done monday
  done_stays base monday done so = record {
    from = so.from;
    first = so.first;
    all = λ line end rest agree. so.all line end rest (agree_next spans past s next line agree);
  }

  -- if the span has the next Monday, there is one more stretch
  pub done_more : (base start : ℕ) (done : List Judged) (x : Examined) (j : Judged)
      → AreDone spans past base done x.monday → IsExaminedOf x (spans ++ s ∷ []) spans s.past
      → IsNextStart (s ∷ []) x.report.horizon.minute (Some start)
      → j ≡ judged_of (record { monday = x.monday; report = x.report; unseen = Some start })
      → AreDone (spans ++ s ∷ []) s.past base (done ++ j ∷ []) start
  done_more base start done x j so is begins says =
      let all = start_next spans past s next x.report.horizon.minute start is.none begins in
      let w = within s x.report.horizon.minute start next.some begins.0 in
      let last : start < s.past = w.1 in
      let b = is.before in
      let later = begins.0.later in
      let at = is.report.is_horizon.from in
      let from = so.from in
      let monday : j.monday ≡ x.monday = ap (λ (y : Judged). y.monday) says in
      record {
        from = omega (arith, from, at, later);
        first = λ rest e.
            subst (λ (xs : List Judged). first_monday xs ≡ Some base) (sym (append_assoc done (j ∷ []) rest))
            (so.first (j ∷ rest) (ap (λ (m : ℕ). Some m) monday));
        all = λ line end rest agree e more.
            subst (λ (xs : List Judged). AreAll line end xs) (sym (append_assoc done (j ∷ []) rest))
            (so.all line end (j ∷ rest) (agree_next spans past s next line agree) (ap (λ (m : ℕ). Some m) monday) (
              subst (λ (y : Judged). IsStretch line end y (first_monday rest)) (sym says) (record {
                report = near_report (spans ++ s ∷ []) line x.monday x.report.horizon x.report.breaches.items x.report.debts.items
                    (λ m l r. agree m (omega (arith, r, b))) is.report;
                followed = subst (λ (o : Option ℕ). IsNextStart line x.report.horizon.minute o) (sym e)
                    (near_next (spans ++ s ∷ []) line 0 x.report.horizon.minute start start
                    (λ m l r. agree m (omega (arith, r, last))) (omega arith) (omega arith) all);
                rest = subst (λ (o : Option ℕ). Some start ≡ unseen_to end x.report.horizon.minute o) (sym e) refl;
              }),
              more,
            ));
      }

-- ---- a Monday in the span

-- a start in a span is a minute of the span, and the span isn't crew
pub start_there : (s : Span) (after m : ℕ) → s.start < s.past → IsStart (s ∷ []) after m
    → (s.start ≤ m) × (m < s.past) × (s.mark.crew ≡ false)
start_there s after m some is =
    let w = within s after m some is in
    (w.0, w.1, subst IsSingle (first_holds s [] m w.0 w.1) is.single)

-- ---- a pass that takes a span

-- the pass has taken the span, given its stretches and its place
stands_now : (new : Passing) (s : Span) (spans : List Span) (past : ℕ) → IsNext spans past s → new.past ≡ s.past → (base : ℕ)
    → AreDone (spans ++ s ∷ []) s.past base (map judged_of new.done) (monday_of new.examination new.examined)
    → IsStageOf new.examination new.examined (spans ++ s ∷ []) (spans ++ s ∷ []) s.past → HasPassed new base (spans ++ s ∷ [])
stands_now new s spans past next same base done place = record {
  ended = subst (λ (m : ℕ). EndsBy (spans ++ s ∷ []) m) (sym same) (ended_next spans past s next);
  last = inr (let l = last_next spans past s next in (l.0, same ∙ l.1, l.2));
  done =
      subst (λ (m : ℕ). AreDone (spans ++ s ∷ []) m base (map judged_of new.done) (monday_of new.examination new.examined)) (sym same)
      done;
  stands =
      subst (λ (m : ℕ). IsStageOf new.examination new.examined (spans ++ s ∷ []) (spans ++ s ∷ []) m) (sym same) place;
}

-- the pass examines a span, at most up to a horizon
module _ (p : Passing) (s : Span) (can : IsTakeable p.past s) (e : Examining) (was next : Option Examined) (same : was ≡ p.examined)
    (monday : monday_of e next ≡ monday_of p.examination was)
    (taken : (past : ℕ) (spans : List Span) → IsNext spans past s → IsStageOf p.examination was spans spans past
    → IsStageOf e next (spans ++ s ∷ []) spans s.past) (base : ℕ) (spans : List Span) (is : HasPassed p base spans) where
  comes : IsNext spans p.past s
  comes = record { ended = is.ended; from = can.from; some = can.some }

  done_so : (o : Option Examined) → next ≡ o → AreDone spans p.past base (map judged_of p.done) (monday_of e o)
  done_so o to =
      subst (λ (m : ℕ). AreDone spans p.past base (map judged_of p.done) m)
      (ap (λ (x : Option Examined). monday_of p.examination x) (sym same) ∙ sym monday ∙ ap (λ (x : Option Examined). monday_of e x) to)
      is.done

  place_so : (o : Option Examined) → next ≡ o → IsStageOf e o (spans ++ s ∷ []) spans s.past
  place_so o to =
      subst (λ (x : Option Examined). IsStageOf e x (spans ++ s ∷ []) spans s.past) to (taken p.past spans comes
      (subst (λ (x : Option Examined). IsStageOf p.examination x spans spans p.past) (sym same) is.stands))

-- the examination continues
pub pass_examining : (p new : Passing) (s : Span) (was next : Option Examined) → was ≡ p.examined → next ≡ None
    → new.examined ≡ None → new.past ≡ s.past → new.done ≡ p.done → IsTakeable p.past s
    → monday_of new.examination next ≡ monday_of p.examination was
    → ((past : ℕ) (spans : List Span) → IsNext spans past s → IsStageOf p.examination was spans spans past
    → IsStageOf new.examination next (spans ++ s ∷ []) spans s.past)
    → (base : ℕ) (spans : List Span) → HasPassed p base spans → HasPassed new base (spans ++ s ∷ [])
pass_examining p new s was next same ended none past done can monday taken base spans is =
    let e = new.examination in
    let n = comes p s can e was next same monday taken base spans is in
    stands_now new s spans p.past n past base
    (subst (λ (xs : List Stretch). AreDone (spans ++ s ∷ []) s.past base (map judged_of xs) (monday_of e new.examined)) (sym done)
    (done_stays spans p.past s n base (monday_of e new.examined) (map judged_of p.done)
    (done_so p s can e was next same monday taken base spans is new.examined (ended ∙ sym none))))
    (subst (λ (o : Option Examined). IsStageOf e o (spans ++ s ∷ []) (spans ++ s ∷ []) s.past) (sym none)
    (place_so p s can e was next same monday taken base spans is None ended))

-- or it reaches its horizon, and the pass looks for the next Monday
pub pass_seeking : {U E : Type 0} (result : Result U E) (p new : Passing) (s : Span) (e : Examining) (was next : Option Examined)
    (x : Examined) → was ≡ p.examined → next ≡ Some x → IsTakeable p.past s → monday_of e next ≡ monday_of p.examination was
    → ((past : ℕ) (spans : List Span) → IsNext spans past s → IsStageOf p.examination was spans spans past
    → IsStageOf e next (spans ++ s ∷ []) spans s.past)
    → OnOk result ((base past : ℕ) (spans : List Span) → IsNext spans past s
    → AreDone spans past base (map judged_of p.done) x.monday
    → IsExaminedOf x (spans ++ s ∷ []) spans s.past → HasPassed new base (spans ++ s ∷ []))
    → OnOk result ((base : ℕ) (spans : List Span) → HasPassed p base spans → HasPassed new base (spans ++ s ∷ []))
pass_seeking (Ok u) p new s e was next x same at can monday taken h = λ base spans is.
    h base p.past spans (comes p s can e was next same monday taken base spans is)
    (done_so p s can e was next same monday taken base spans is (Some x) at)
    (place_so p s can e was next same monday taken base spans is (Some x) at)
pass_seeking (Err fault) p new s e was next x same at can monday taken h = tt

-- the span has no such Monday
pub sought_none : (new : Passing) (s : Span) (x : Examined) → new.past ≡ s.past → new.examined ≡ Some x
    → IsNextStart (s ∷ []) x.report.horizon.minute None → (base past : ℕ) (spans : List Span) → IsNext spans past s
    → AreDone spans past base (map judged_of new.done) x.monday → IsExaminedOf x (spans ++ s ∷ []) spans s.past
    → HasPassed new base (spans ++ s ∷ [])
sought_none new s x same at not base past spans next so is =
    stands_now new s spans past next same base
    (subst (λ (o : Option Examined). AreDone (spans ++ s ∷ []) s.past base (map judged_of new.done) (monday_of new.examination o))
    (sym at) (done_stays spans past s next base x.monday (map judged_of new.done) so))
    (subst (λ (o : Option Examined). IsStageOf new.examination o (spans ++ s ∷ []) (spans ++ s ∷ []) s.past) (sym at) (record {
      report = is.report;
      before = is.before;
      none = none_next spans past s next x.report.horizon.minute is.none not;
    }))

-- or it has one, and an examination begins there
pub sought_some : (new : Passing) (s : Span) (x : Examined) (start : ℕ) (done : List Stretch) (first : Examining)
    → new.past ≡ s.past → new.examined ≡ None
    → new.done ≡ done ++ (record { monday = x.monday; report = x.report; unseen = Some start }) ∷ []
    → IsNextStart (s ∷ []) x.report.horizon.minute (Some start) → first.monday ≡ start → first.minute ≡ start
    → ((spans : List Span) → IsExaminationOf first spans)
    → new.examination.monday ≡ first.monday → new.examination.minute ≡ s.past
    → ((spans : List Span) → IsExaminationOf first spans → EndsBy spans first.minute → s.start ≤ first.minute
    → s.mark.crew ≡ false → IsExaminationOf new.examination (spans ++ s ∷ []))
    → (base past : ℕ) (spans : List Span) → IsNext spans past s → AreDone spans past base (map judged_of done) x.monday
    → IsExaminedOf x (spans ++ s ∷ []) spans s.past → HasPassed new base (spans ++ s ∷ [])
sought_some new s x start done first same none push begins monday at nothing goes minute taken base past spans next so is =
    let e = new.examination in
    let one : Stretch = record { monday = x.monday; report = x.report; unseen = Some start } in
    let there = start_there s x.report.horizon.minute start next.some begins.0 in
    let from = next.from in
    let above = there.0 in
    stands_now new s spans past next same base
    (subst (λ (o : Option Examined). AreDone (spans ++ s ∷ []) s.past base (map judged_of new.done) (monday_of e o)) (sym none)
    (subst (λ (m : ℕ). AreDone (spans ++ s ∷ []) s.past base (map judged_of new.done) m) (sym (goes ∙ monday))
    (subst (λ (xs : List Judged). AreDone (spans ++ s ∷ []) s.past base xs start) (sym (pushed done new.done one push))
    (done_more spans past s next base start (map judged_of done) x (judged_of one) so is begins refl))))
    (subst (λ (o : Option Examined). IsStageOf e o (spans ++ s ∷ []) (spans ++ s ∷ []) s.past) (sym none) (
      omega (arith, minute),
      taken spans (nothing spans) (λ m l. next.ended m (omega (arith, from, above, at, l))) (omega (arith, above, at)) there.2,
    ))

-- ---- the end

-- an examination whose minute is at or after the end of all spans ends there, since that minute isn't held
pub ended_report : {E : Type 0} (result : Result Examined E) (e : Examining)
    → IfOk result (λ x. (spans : List Span) → IsExaminationOf e spans → mark_at spans e.minute ≡ None → IsReportOf x spans)
    → IfOk result (λ x. (past : ℕ) (spans : List Span) → (past ≤ e.minute) × IsExaminationOf e spans → EndsBy spans past
    → IsReportOf x spans)
ended_report (Ok x) e h = λ past spans is ended. h spans is.1 (ended e.minute is.0)
ended_report (Err fault) e h = tt

-- the end of what is held, and the range that isn't examined after the last horizon
ends_there : (spans : List Span) (base past horizon : ℕ) → EndsBy spans past
    → (past ≤ base) ⊎ ((m : ℕ) × (past ≡ m + 1) × IsHeld spans m) → base ≤ horizon
    → (end : ℕ) × IsEndOfHeld spans base end × (unseen_to past horizon None ≡ unseen_to end horizon None)
ends_there spans base past horizon ended last from = elim (cases_lt base past) [
  | inl lt ↦ (past, record { from = omega (arith, lt); after = λ m l is. gone m (ended m l) is; last = held last lt }, refl)
  | inr ge ↦ (
    base,
    record { from = omega arith; after = λ m l is. gone m (ended m (omega (arith, l, ge))) is; last = inl refl },
    grind (arith, nat_tests),
  )
] where
  gone : (m : ℕ) → mark_at spans m ≡ None → IsHeld spans m → ⊥
  gone m e is = let both = sym e ∙ is.1 in cc

  held : (past ≤ base) ⊎ ((m : ℕ) × (past ≡ m + 1) × IsHeld spans m) → base < past
      → (past ≡ base) ⊎ ((m : ℕ) × (past ≡ m + 1) × IsHeld spans m)
  held (inl le) lt = absurd (omega (arith, le, lt))
  held (inr is) lt = inr is

-- the earlier stretches and the last one are all stretches
pub all_stretches : (spans : List Span) (base past : ℕ) (done new : List Stretch) (s : Stretch) → EndsBy spans past
    → (past ≤ base) ⊎ ((m : ℕ) × (past ≡ m + 1) × IsHeld spans m) → AreDone spans past base (map judged_of done) s.monday
    → IsReport spans s.monday s.report.horizon s.report.breaches.items s.report.debts.items
    → IsNextStart spans s.report.horizon.minute None → s.unseen ≡ unseen_to past s.report.horizon.minute None
    → new ≡ done ++ s ∷ [] → AreStretches spans base (map judged_of new)
all_stretches spans base past done new s ended last so report none unseen pushed =
    let from = so.from in
    let at = report.is_horizon.from in
    let e = ends_there spans base past s.report.horizon.minute ended last (omega (arith, from, at)) in
    let same : map judged_of new ≡ map judged_of done ++ judged_of s ∷ [] = ap (map judged_of) pushed ∙ map-append judged_of done (s ∷ []) in
    subst (λ (xs : List Judged). AreStretches spans base xs) (sym same) (record {
      first = so.first (judged_of s ∷ []) refl;
      end = e.0;
      is_end = e.1;
      all = so.all spans e.0 (judged_of s ∷ []) (λ m lt. refl) refl
          (record { report = report; followed = none; rest = unseen ∙ e.2 }, tt);
    })
