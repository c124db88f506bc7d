-- The state of the rule on late weekly rests represents the spans, span by span (specs/Lateness).
use Rattle.std.proofs.Common.{◌≡◌, ◌≢◌, ℕ, ◌+◌, ◌-◌, ◌<◌, ◌≤◌, ◌⊎◌, inl, inr, Bool, true, false, Option, None, Some}
use Rattle.std.proofs.Common.{List, [], ◌∷◌, ◌++◌, refl, sym, ap, subst, ◌∙◌, arith, nat_le, nat_lt, if◌then◌else◌}
use Rattle.std.specs.Prelude.{IsTrue}
use Rattle.std.specs.List.{All}
use Rattle.std.proofs.lemmas.Bool.{cases_lt}
use Rattle.std.proofs.lemmas.Bool.Decides.{nat_tests}
use Rattle.std.proofs.lemmas.List.{append-nil}
use Rattle.std.proofs.lemmas.List.Elements.{All-nil, All-cons}
use Rattle.tacho_time.specs.declared.span.Activity.TheVariants.{Rest}
use Rattle.tacho_time.specs.declared.span.Span.{Span}
use Rattle.tacho_law.specs.declared.run.Run.{Run}
use Rattle.tacho_law.specs.declared.run.TheConstants.{FAR}
use Rattle.tacho_law.specs.declared.breach.Breach.{Breach}
use Rattle.tacho_law.specs.declared.debt.Debt.{Debt}
use Rattle.tacho_law.specs.declared.breach.Kind.TheVariants.{B8}
use Rattle.tacho_law.specs.Line.{line_of, Joined, IsExamined, Line}
use Rattle.tacho_law.specs.Runs.{IsRestRun, AreRestRuns, minutes_of}
use Rattle.tacho_law.proofs.RunsLemmas.{run_of}
use Rattle.tacho_law.proofs.ByRunsLemmas.{one_run}
use Rattle.tacho_pass.specs.Kinds.{is_b8}
use Rattle.tacho_pass.specs.Heard.{is_rest, start_after, run_before, Continues, IsHeard, IsLineTo}
use Rattle.tacho_pass.specs.Found.{as_list}
use Rattle.tacho_pass.proofs.HearingLemmas.{line_append, line_at_end, joined_append, rests_yes, rests_no, heard_rest}
use Rattle.tacho_pass.proofs.HearingLemmas.{heard_busy, heard_gap, by_span, line_to}
use Rattle.tacho_rests.specs.declared.late_rest.Late.{Late}
use Rattle.tacho_rests.specs.Lateness.{late_of, late_run, end_after, IsLateSoFar, IsLateUpTo, LateStands, LateDefined}
use Rattle.tacho_rests.proofs.LateRestLemmas.{late_keep, late_next, late_all}
use Rattle.tacho_rests.proofs.HeardLemmas.{run_some, none_if}

-- the breach of a run, and the end of the last weekly rest after it
module _ (line : Line) (runs : List Run) (are : AreRestRuns line runs) (start next : ℕ) (run : Run)
    (is : IsRestRun line run) (from : run.start ≡ start) (below : run.start < next)
    (only : (x : Run) → IsRestRun line x → x.start < next → (x.start < start) ⊎ (x.start ≡ start)) where
  run_if : (end : Option ℕ) (own : List Breach) (b : Bool) → nat_le 1440 (minutes_of run) ≡ b
      → IsLateSoFar line start end own
      → IsLateSoFar line next (if b then Some run.past else end) (own ++ as_list (if b then late_of end run else None))
  run_if end own true e s =
      late_next line runs are start next run
      (record { rests = is; enough = let f : 1440 ≤ minutes_of run = grind (arith, nat_tests) in f })
      (omega arith) below
      (λ x is' below'. elim (only x is'.rests below') [
        | inl old ↦ inl old
        | inr here ↦ inr (one_run line 0 runs are x run is'.rests is (omega arith))
      ]) end own s
  run_if end own false e s =
      let short : minutes_of run < 1440 = grind (arith, nat_tests) in
      subst (λ (xs : List Breach). IsLateSoFar line next end xs) (sym (append-nil own))
      (late_keep line start next end own (omega arith) (λ x is' below'. elim (only x is'.rests below') [
        | inl old ↦ old
        | inr here ↦ absurd (let same : x ≡ run = one_run line 0 runs are x run is'.rests is (omega arith) in
            let m : minutes_of x ≡ minutes_of run = ap minutes_of same in
            let long : 1440 ≤ minutes_of x = is'.enough in
            omega arith)
      ]) s)

  pub late_run_next : (end : Option ℕ) (own : List Breach) → IsLateSoFar line start end own
      → IsLateSoFar line next (end_after end run) (own ++ as_list (late_run end run))
  late_run_next end own s = run_if end own (nat_le 1440 (minutes_of run)) refl s

-- one more span
module _ (spans : List Span) (s : Span) (base start : ℕ) (late : Late) (own : List Breach) (owed : List Debt)
    (r : LateStands late start s.start own owed base spans) (some : s.start < s.past) where
  joined : Joined (spans ++ s ∷ []) base s.past
  joined = joined_append spans s base r.joined some

  module _ (line : Line) (runs : List Run) (are : AreRestRuns line runs)
      (c : Continues line (spans ++ s ∷ []) s.past) where
    at : (m : ℕ) → s.start ≤ m → m < s.past → line m ≡ s.mark.activity
    at m above below = c m below ∙ line_at_end spans s base m r.joined above below

    before : IsLateUpTo line start s.start late.end own
    before = r.kept line runs are (λ m below. c m (omega arith) ∙ line_append spans s m below)

    busy : is_rest s.mark.activity ≡ false → (m : ℕ) → s.start ≤ m → m < s.past → line m ≢ Rest
    busy e m above below f = rests_no s.mark.activity e (sym (at m above below) ∙ f)

    quiet : s.mark.activity ≡ Rest → IsLateUpTo line start s.past late.end own
    quiet e = record {
      e = before.e;
      low = before.low;
      heard = heard_rest line start before.e s before.heard some (λ m above below. at m above below ∙ e);
      so_far = before.so_far;
    }

    none : is_rest s.mark.activity ≡ false → s.start ≤ start → IsLateUpTo line s.past s.past late.end own
    none e empty = record {
      e = before.e;
      low = before.low;
      heard = heard_busy line start before.e s before.heard some (busy e) (λ gap. absurd (omega arith));
      so_far = late_keep line start s.past late.end own
          (let b : start ≤ s.start = before.heard.below in omega arith)
          (λ x is below. elim (by_span line start before.e s before.heard some (busy e) x is.rests below) [
            | inl old ↦ old
            | inr here ↦ absurd (let g : start < s.start = here.1 in omega arith)
          ]) before.so_far;
    }

    heard_on : is_rest s.mark.activity ≡ false → start < s.start → (e : ℕ) × (5760 ≤ e) × IsHeard line s.past s.past e
    heard_on e gap = elim before.heard.since [
      | inl first ↦ (before.e, before.low, heard_busy line start before.e s before.heard some (busy e) (λ g. first))
      | inr from ↦ (
        start + 1,
        (let low : 5760 ≤ before.e = before.low in
            omega arith),
        heard_gap line start before.e s before.heard some (busy e) gap from,
      )
    ]

    ends : is_rest s.mark.activity ≡ false → start < s.start
        → IsLateUpTo line s.past s.past (end_after late.end (run_of start s.start))
        (own ++ as_list (late_run late.end (run_of start s.start)))
    ends e gap =
        let h : (e : ℕ) × (5760 ≤ e) × IsHeard line s.past s.past e = heard_on e gap in
        record {
          e = h.0;
          low = h.1;
          heard = h.2;
          so_far = late_run_next line runs are start s.past (run_of start s.start)
              (record {
                some = gap;
                rest = before.heard.resting;
                from = before.heard.from;
                until = inr (busy e s.start (omega arith) some);
              }) refl (omega arith)
              (λ x is below. elim (by_span line start before.e s before.heard some (busy e) x is below)
              [ inl old ↦ inl old | inr here ↦ inr here.0 ]) late.end own before.so_far;
        }

  none_by : (b : Bool) → is_rest s.mark.activity ≡ b
      → (if b then None else (if nat_lt start s.start then Some (run_of start s.start) else None)) ≡ None
      → LateStands late (if b then start else s.past) s.past own owed base (spans ++ s ∷ [])
  none_by true e is =
      record {
        none = r.none;
        joined = joined;
        kept = λ line runs are c. quiet line runs are c (rests_yes s.mark.activity e);
      }
  none_by false e is =
      let empty : s.start ≤ start = none_if start s (nat_lt start s.start) refl is in
      record { none = r.none; joined = joined; kept = λ line runs are c. none line runs are c e empty }

  -- no rest run ends at the span
  pub late_fed_none : run_before start s ≡ None
      → LateStands late (start_after start s) s.past own owed base (spans ++ s ∷ [])
  late_fed_none is = none_by (is_rest s.mark.activity) refl is

  after_busy : is_rest s.mark.activity ≡ false → start_after start s ≡ s.past
  after_busy e = rw e refl

  -- a rest run ends at the span
  pub late_fed : (run : Run) → run_before start s ≡ Some run
      → LateStands (record { end = end_after late.end run }) (start_after start s) s.past
      (own ++ as_list (late_run late.end run)) owed base (spans ++ s ∷ [])
  late_fed run is =
      let of = run_some start s run is in
      subst (λ (n : ℕ). LateStands (record { end = end_after late.end run }) n s.past
      (own ++ as_list (late_run late.end run)) owed base (spans ++ s ∷ [])) (sym (after_busy of.0))
      (subst (λ (x : Run). LateStands (record { end = end_after late.end x }) s.past s.past
      (own ++ as_list (late_run late.end x)) owed base (spans ++ s ∷ [])) of.2
      (record {
        none = r.none;
        joined = joined;
        kept = λ line runs are c. ends line runs are c of.0 of.1;
      }))

-- the end of the line
module _ (spans : List Span) (base past start : ℕ) (late : Late) (own : List Breach) (owed : List Debt)
    (r : LateStands late start past own owed base spans) (x : IsExamined spans base past)
    (all : (rs : List Run) × AreRestRuns (line_of spans) rs) where
  at_end : IsLateUpTo (line_of spans) start past late.end own
  at_end = r.kept (line_of spans) all.0 all.1 (λ m below. refl)

  line_is : IsLineTo (line_of spans) past (run_of start FAR)
  line_is = line_to spans base past x start at_end.e at_end.heard

  pub late_ends : LateDefined (own ++ as_list (late_run late.end (run_of start FAR))) owed base past spans
  late_ends = record {
    none = r.none;
    breaches = late_all (line_of spans) (start + 1) (end_after late.end (run_of start FAR))
        (own ++ as_list (late_run late.end (run_of start FAR)))
        (λ y is. (let most : y.start ≤ start = line_is.all y is in omega arith))
        (late_run_next (line_of spans) all.0 all.1 start (start + 1) (run_of start FAR) line_is.is refl (omega arith)
        (λ y is below. elim (cases_lt y.start start) [ inl old ↦ inl old | inr here ↦ inr (omega arith) ]) late.end own
        at_end.so_far);
  }

-- all breaches have the kind B8
of_if : (p : ℕ) (run : Run) (b : Bool)
    → All (λ (y : Breach). IsTrue (is_b8 y.kind))
    (as_list (if b then Some (record { kind = B8; moment = p + 8640; since = p; amount = run.start - (p + 8640) })
    else None))
of_if p run true =
    All-cons (λ (y : Breach). IsTrue (is_b8 y.kind))
    (record { kind = B8; moment = p + 8640; since = p; amount = run.start - (p + 8640) }) [] refl
    (All-nil (λ (y : Breach). IsTrue (is_b8 y.kind)))
of_if p run false = All-nil (λ (y : Breach). IsTrue (is_b8 y.kind))

of_late : (end : Option ℕ) (run : Run) → All (λ (y : Breach). IsTrue (is_b8 y.kind)) (as_list (late_of end run))
of_late None run = All-nil (λ (y : Breach). IsTrue (is_b8 y.kind))
of_late (Some p) run = of_if p run (nat_lt (p + 8640) run.start)

kinds_if : (end : Option ℕ) (run : Run) (b : Bool)
    → All (λ (y : Breach). IsTrue (is_b8 y.kind)) (as_list (if b then late_of end run else None))
kinds_if end run false = All-nil (λ (y : Breach). IsTrue (is_b8 y.kind))
kinds_if end run true = of_late end run

pub late_kinds : (end : Option ℕ) (run : Run) → All (λ (y : Breach). IsTrue (is_b8 y.kind)) (as_list (late_run end run))
late_kinds end run = kinds_if end run (nat_le 1440 (minutes_of run))
