-- Choices of a week for each weekly rest represent the spans, span by span (specs/Lacking).
use Rattle.std.proofs.Common.{◌≡◌, ◌≢◌, ℕ, ◌+◌, ◌<◌, ◌≤◌, ◌⊎◌, inl, inr, Bool, true, false, None, Some, List}
use Rattle.std.proofs.Common.{[], ◌∷◌, ◌++◌, refl, sym, ap, subst, ◌∙◌, arith, nat_lt, if◌then◌else◌}
use Rattle.std.proofs.lemmas.Bool.{cases_lt}
use Rattle.tacho_time.specs.declared.span.Activity.TheVariants.{Rest}
use Rattle.tacho_time.specs.declared.span.Span.{Span}
use Rattle.tacho_law.specs.declared.run.Run.{Run}
use Rattle.tacho_law.specs.declared.run.TheConstants.{FAR}
use Rattle.tacho_law.specs.declared.breach.Breach.{Breach}
use Rattle.tacho_law.specs.declared.debt.Debt.{Debt}
use Rattle.tacho_law.specs.Line.{line_of, Joined, IsExamined, Line}
use Rattle.tacho_law.specs.Limits.{first_base, latest}
use Rattle.tacho_law.specs.Runs.{IsRestRun, AreRestRuns, minutes_of, IsRestOf}
use Rattle.tacho_law.specs.Weeks.{week_start}
use Rattle.tacho_law.specs.SoFar.{AreCollected}
use Rattle.tacho_law.specs.Breaches.{IsLacking}
use Rattle.tacho_law.proofs.RunsLemmas.{run_of, joined_le, line_before}
use Rattle.tacho_law.proofs.ByRunsLemmas.{one_run}
use Rattle.tacho_pass.specs.Heard.{is_rest, start_after, run_before, Continues, IsHeard, IsLineTo}
use Rattle.tacho_pass.proofs.HearingLemmas.{line_append, line_at_end, joined_append, rests_yes, rests_no, heard_rest}
use Rattle.tacho_pass.proofs.HearingLemmas.{heard_busy, heard_gap, by_span, line_runs, line_to}
use Rattle.tacho_choice.specs.Weeks.{IsInWeeks}
use Rattle.tacho_choice.proofs.SeenLemmas.{in_weeks}
use Rattle.tacho_rests.specs.declared.missing_rest.Choices.{Choices}
use Rattle.tacho_rests.specs.Choices.{AreChoices}
use Rattle.tacho_rests.specs.Lacking.{IsChoosing, LackingStands, LackingDefined}
use Rattle.tacho_rests.proofs.ChoicesLemmas.{choices_keep}
use Rattle.tacho_rests.proofs.HeardLemmas.{run_some, none_if}

-- the weekly rests of a line that is at rest before its base, which is after the first minute of week 0, have minutes in weeks
in_weeks_by : (line : Line) (runs : List Run) (spans : List Span) (base place : ℕ) → AreRestRuns line runs
    → Joined spans base place → 5760 < base → Continues line spans place → IsInWeeks line
in_weeks_by line runs spans base place are joined behind c =
    let within : base ≤ place = joined_le spans base place joined in
    in_weeks line runs are
    (λ m early. c m (omega arith) ∙ line_before spans base place m joined (omega arith))

-- one more span
module _ (spans : List Span) (s : Span) (base start : ℕ) (p : Choices) (own : List Breach) (owed : List Debt)
    (r : LackingStands p start s.start own owed base spans) (some : s.start < s.past) where
  joined : Joined (spans ++ s ∷ []) base s.past
  joined = joined_append spans s base r.joined some

  module _ (line : Line) (runs : List Run) (are : AreRestRuns line runs)
      (c : Continues line (spans ++ s ∷ []) s.past) where
    at : (m : ℕ) → s.start ≤ m → m < s.past → line m ≡ s.mark.activity
    at m above below = c m below ∙ line_at_end spans s base m r.joined above below

    before : IsChoosing line r.first start s.start p own
    before = r.kept line runs are (λ m below. c m (omega arith) ∙ line_append spans s m below)

    weeks : IsInWeeks line
    weeks = in_weeks_by line runs (spans ++ s ∷ []) base s.past are joined r.behind c

    busy : is_rest s.mark.activity ≡ false → (m : ℕ) → s.start ≤ m → m < s.past → line m ≢ Rest
    busy e m above below f = rests_no s.mark.activity e (sym (at m above below) ∙ f)

    quiet : s.mark.activity ≡ Rest → IsChoosing line r.first start s.past p own
    quiet e = record {
      e = before.e;
      low = before.low;
      heard = heard_rest line start before.e s before.heard some (λ m above below. at m above below ∙ e);
      choices = before.choices;
    }

    heard_on : is_rest s.mark.activity ≡ false → (e : ℕ) × (5760 ≤ e) × IsHeard line s.past s.past e
    heard_on e = elim (cases_lt start s.start) [
      | inl gap ↦ elim before.heard.since [
        | inl first ↦ (before.e, before.low, heard_busy line start before.e s before.heard some (busy e) (λ g. first))
        | inr from ↦ (
          start + 1,
          (let low : 5760 ≤ before.e = before.low in
              omega arith),
          heard_gap line start before.e s before.heard some (busy e) gap from,
        )
      ]
      | inr none ↦ (
        before.e,
        before.low,
        heard_busy line start before.e s before.heard some (busy e)
            (λ gap. absurd (omega arith)),
      )
    ]

    open_run : is_rest s.mark.activity ≡ false → start < s.start → IsRestRun line (run_of start s.start)
    open_run e gap =
        record {
          some = gap;
          rest = before.heard.resting;
          from = before.heard.from;
          until = inr (busy e s.start (omega arith) some);
        }

    -- no weekly rest ends at the span
    keep : is_rest s.mark.activity ≡ false → (start < s.start → minutes_of (run_of start s.start) < 1440)
        → IsChoosing line r.first s.past s.past p own
    keep e short =
        let h : (e : ℕ) × (5760 ≤ e) × IsHeard line s.past s.past e = heard_on e in
        record {
          e = h.0;
          low = h.1;
          heard = h.2;
          choices = λ horizon last_run l. choices_keep line horizon r.first start s.past p.week p.current p.last
              p.rested
              p.outcomes own
              (let b : start ≤ s.start = before.heard.below in omega arith)
              (λ x is below. elim (by_span line start before.e s before.heard some (busy e) x is.rests below) [
                | inl old ↦ old
                | inr here ↦ absurd (
                    let gap : start < s.start = here.1 in
                    let same : x ≡ run_of start s.start =
                    one_run line 0 runs are x (run_of start s.start) is.rests (open_run e gap) here.0 in
                    let m : minutes_of x ≡ minutes_of (run_of start s.start) = ap minutes_of same in
                    let long : 1440 ≤ minutes_of x = is.enough in
                    let few : minutes_of (run_of start s.start) < 1440 = short gap in
                    omega arith)
              ]) (before.choices horizon last_run l);
        }

    -- a weekly rest ends at the span
    more : is_rest s.mark.activity ≡ false → start < s.start → 1440 ≤ minutes_of (run_of start s.start)
        → (q : Choices) (own' : List Breach)
        → ((line : Line) (horizon first later : ℕ) → IsInWeeks line → start ≤ horizon
        → IsRestOf line 1440 (run_of start s.start) → start < later
        → ((x : Run) → IsRestOf line 1440 x → x.start < later → (x.start < start) ⊎ (x ≡ run_of start s.start))
        → AreChoices line horizon first start p.week p.current p.last p.rested p.outcomes own
        → AreChoices line horizon first later q.week q.current q.last q.rested q.outcomes own')
        → IsChoosing line r.first s.past s.past q own'
    more e gap long q own' law =
        let h : (e : ℕ) × (5760 ≤ e) × IsHeard line s.past s.past e = heard_on e in
        record {
          e = h.0;
          low = h.1;
          heard = h.2;
          choices = λ horizon last_run l.
              law line horizon r.first s.past weeks (let a : start ≤ last_run.start =
              l.all (run_of start s.start) (open_run e gap) in
              let b : last_run.start ≤ horizon = l.start in
              omega arith)
              (record { rests = open_run e gap; enough = long }) (omega arith)
              (λ x is below. elim (by_span line start before.e s before.heard some (busy e) x is.rests below) [
                | inl old ↦ inl old
                | inr here ↦ inr (one_run line 0 runs are x (run_of start s.start) is.rests (open_run e gap) here.0)
              ]) (before.choices horizon last_run l);
        }

  none_by : (b : Bool) → is_rest s.mark.activity ≡ b
      → (if b then None else (if nat_lt start s.start then Some (run_of start s.start) else None)) ≡ None
      → LackingStands p (if b then start else s.past) s.past own owed base (spans ++ s ∷ [])
  none_by true e is = record {
    first = r.first;
    monday = r.monday;
    behind = r.behind;
    none = r.none;
    joined = joined;
    kept = λ line runs are c. quiet line runs are c (rests_yes s.mark.activity e);
  }
  none_by false e is =
      let empty : s.start ≤ start = none_if start s (nat_lt start s.start) refl is in
      record {
        first = r.first;
        monday = r.monday;
        behind = r.behind;
        none = r.none;
        joined = joined;
        kept = λ line runs are c. keep line runs are c e (λ gap. absurd (omega arith));
      }

  -- no rest run ends at the span
  pub choices_fed_none : run_before start s ≡ None
      → LackingStands p (start_after start s) s.past own owed base (spans ++ s ∷ [])
  choices_fed_none is = none_by (is_rest s.mark.activity) refl is

  after_busy : is_rest s.mark.activity ≡ false → start_after start s ≡ s.past
  after_busy e = rw e refl

  -- a rest run ends at the span that isn't a weekly rest
  pub choices_fed_short : (run : Run) → run_before start s ≡ Some run → minutes_of run < 1440
      → LackingStands p (start_after start s) s.past own owed base (spans ++ s ∷ [])
  choices_fed_short run is short =
      let of = run_some start s run is in
      let m : minutes_of (run_of start s.start) ≡ minutes_of run = ap minutes_of of.2 in
      subst (λ (n : ℕ). LackingStands p n s.past own owed base (spans ++ s ∷ [])) (sym (after_busy of.0))
      (record {
        first = r.first;
        monday = r.monday;
        behind = r.behind;
        none = r.none;
        joined = joined;
        kept = λ line runs are c. keep line runs are c of.0 (λ gap. (omega arith));
      })

  -- a weekly rest ends at the span
  pub choices_fed_more : (run : Run) → run_before start s ≡ Some run → 1440 ≤ minutes_of run
      → (q : Choices) (own' : List Breach)
      → ((line : Line) (horizon first later : ℕ) → IsInWeeks line → run.start ≤ horizon
      → IsRestOf line 1440 run → run.start < later
      → ((x : Run) → IsRestOf line 1440 x → x.start < later → (x.start < run.start) ⊎ (x ≡ run))
      → AreChoices line horizon first run.start p.week p.current p.last p.rested p.outcomes own
      → AreChoices line horizon first later q.week q.current q.last q.rested q.outcomes own')
      → LackingStands q (start_after start s) s.past own' owed base (spans ++ s ∷ [])
  choices_fed_more run is long q own' law =
      let of = run_some start s run is in
      let m : minutes_of (run_of start s.start) ≡ minutes_of run = ap minutes_of of.2 in
      subst (λ (n : ℕ). LackingStands q n s.past own' owed base (spans ++ s ∷ [])) (sym (after_busy of.0))
      (record {
        first = r.first;
        monday = r.monday;
        behind = r.behind;
        none = r.none;
        joined = joined;
        kept = λ line runs are c. more line runs are c of.0 of.1 (omega arith) q own'
            (subst (λ (x : Run). (line : Line) (horizon first later : ℕ) → IsInWeeks line
            → x.start ≤ horizon → IsRestOf line 1440 x → x.start < later
            → ((y : Run) → IsRestOf line 1440 y → y.start < later → (y.start < x.start) ⊎ (y ≡ x))
            → AreChoices line horizon first x.start p.week p.current p.last p.rested p.outcomes own
            → AreChoices line horizon first later q.week q.current q.last q.rested q.outcomes own') (sym of.2) law);
      })

-- the end of the line
module _ (spans : List Span) (base past start : ℕ) (p : Choices) (own : List Breach) (owed : List Debt)
    (r : LackingStands p start past own owed base spans) (x : IsExamined spans base past)
    (all : (rs : List Run) × AreRestRuns (line_of spans) rs) where
  at_end : IsChoosing (line_of spans) r.first start past p own
  at_end = r.kept (line_of spans) all.0 all.1 (λ m below. refl)

  at_weeks : IsInWeeks (line_of spans)
  at_weeks = in_weeks_by (line_of spans) all.0 spans base past all.1 r.joined r.behind (λ m below. refl)

  line_is : IsLineTo (line_of spans) past (run_of start FAR)
  line_is = line_to spans base past x start at_end.e at_end.heard

  pub choices_end : (own' : List Breach)
      → ((line : Line) (base first : ℕ) → IsInWeeks line → base ≡ week_start first
      → start ≤ past → IsRestOf line 1440 (run_of start FAR)
      → ((y : Run) → IsRestOf line 1440 y → (y.start < start) ⊎ (y ≡ run_of start FAR))
      → AreChoices line past first start p.week p.current p.last p.rested p.outcomes own
      → AreCollected (λ breach. IsLacking line base past breach) own')
      → LackingDefined own' owed base past spans
  choices_end own' law = record {
    none = r.none;
    breaches = law (line_of spans) base r.first at_weeks r.monday line_is.start
        (record {
          rests = line_is.is;
          enough = let s : start ≤ past = line_is.start in let e : past ≤ 68374080 = line_is.early in omega arith;
        })
        (λ y is. elim (cases_lt y.start start) [
          | inl old ↦ inl old
          | inr here ↦
              inr (one_run (line_of spans) 0 all.0 all.1 y (run_of start FAR) is.rests line_is.is
              (let most : y.start ≤ start = line_is.all y is.rests in omega arith))
        ]) (at_end.choices past (run_of start FAR) line_is);
  }

-- an examined line is at rest before its base, which is late enough
pub examined_in_weeks : (spans : List Span) (base past : ℕ) → IsExamined spans base past → IsInWeeks (line_of spans)
examined_in_weeks spans base past x =
    let within : past ≤ latest = x.within in
    let from : first_base ≤ base = x.base_is.from in
    let all : (rs : List Run) × AreRestRuns (line_of spans) rs = line_runs spans past (omega arith) base x.joined in
    in_weeks_by (line_of spans) all.0 spans base past all.1 x.joined (omega arith) (λ m below. refl)
