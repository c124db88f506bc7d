-- The breaches of a month with their evidence: what is written for each stretch is what its own report asks for (`why_text`).
use Rattle.std.proofs.Common.{◌≡◌, ◌∙◌, ℕ, ◌+◌, ◌<◌, ◌≤◌, ◌⊎◌, inl, inr, zero, suc, Bool, true, false, if◌then◌else◌, List, [], ◌∷◌, ◌++◌, length, get_or, map, take, Result, Ok, Err, IfOk, refl, sym, ap, subst, arith, append_assoc}
use Rattle.std.specs.List.{Contains, filter, flat_map}
use Rattle.std.proofs.lemmas.List.Folds.{flat_map-map}
use Rattle.std.proofs.lemmas.List.{append-nil, get_or-map, length-map, map-append}
use Rattle.std.proofs.lemmas.List.Elements.{Contains-push_cases}
use Rattle.tacho_time.specs.declared.span.Span.{Span}
use Rattle.tacho_line.specs.declared.horizon.Horizon.{Horizon}
use Rattle.tacho_line.specs.Line.{AgreeWithin}
use Rattle.tacho_law.specs.declared.breach.Breach.{Breach}
use Rattle.tacho_law.specs.declared.debt.Debt.{Debt}
use Rattle.tacho_law.specs.Line.{Line}
use Rattle.tacho_law.proofs.ExactlyLemmas.{contains_head, contains_tail}
use Rattle.tacho_evidence.specs.declared.report.Evidence.{Evidence}
use Rattle.tacho_evidence.specs.OfReport.{shown_of, AreJudged, AreShown}
use Rattle.tacho_rules.specs.Report.{examined_line, IsReport}
use Rattle.tacho_rules.proofs.ReportLemmas.{one_report}
use Rattle.tacho_rules.proofs.SliceLemmas.{as_line}
use Rattle.tacho_stretches.specs.declared.stretch.Stretch.{Stretch}
use Rattle.tacho_stretches.specs.Stretches.{judged_of, Judged, AreAll}
use Rattle.tacho_stretches.proofs.NearLemmas.{near_report}
use Rattle.tacho_sheet.specs.Evidence.{shown_text}
use Rattle.tacho_sheet.specs.Written.{AreWritten, HasEvidence, IsWhyFrom, IsWritten}
use Rattle.tacho_sheet.specs.Reports.{breaches_within}
use Rattle.tacho_sheet.specs.Why.{AgreeOn, AreWhyOf, IsWhyOf}
use Rattle.tacho_sheet.proofs.MarkLemmas.{held_same}
use Rattle.tacho_sheet.proofs.TextLemmas.{one_more_row, take_more}

-- a report judges its examined line
pub judged : (held : List Span) (base : ℕ) (h : Horizon) (found : List Breach) (debts : List Debt) → IsReport held base h found debts
    → AreJudged (examined_line held base h.minute) base h.minute found debts
judged held base h found debts r = record {
  runs = r.runs;
  breaks = r.breaks;
  are_runs = r.are_runs;
  are_breaks = r.are_breaks;
  are_debts = r.are_debts;
  exactly = r.exactly;
}

-- ---- what is written for a stretch

-- evidence for the report of a line that agrees with what is held up to and including the horizon is evidence for the stretch
why_from : (line held : List Span) (start past : ℕ) (s : Judged) (text : List ℕ) → AgreeWithin s.monday (s.horizon.minute + 1) line held
    → IsReport held s.monday s.horizon s.breaches s.debts → IsWhyFrom line start past s.monday text → IsWhyOf held start past s text
why_from line held start past s text agree r w =
    let (h, f, d) = one_report line s.monday w.horizon s.horizon w.found s.breaches w.debts s.debts w.report
    (near_report held line s.monday s.horizon s.breaches s.debts (λ m from to. sym (agree m (from, omega (arith, to)))) r) in
    let e : HasEvidence line start past s.monday s.horizon.minute s.breaches s.debts w.shown =
    subst (λ (x : Horizon). HasEvidence line start past s.monday x.minute s.breaches s.debts w.shown) h
    (subst (λ (x : List Breach). HasEvidence line start past s.monday w.horizon.minute x s.debts w.shown) f
    (subst (λ (x : List Debt). HasEvidence line start past s.monday w.horizon.minute w.found x w.shown) d w.evidence)) in
    record {
      shown = w.shown;
      are = as_line r.is_horizon
          (held_same line held s.monday s.horizon.minute e.spans (λ m within. let a = within.0 in let b = within.1 in agree m (a, omega (arith, b))) e.slice)
          (λ (x : Line). AreShown x s.monday s.horizon.minute s.debts (breaches_within start past s.breaches) w.shown) refl e.are;
      is = w.is;
    }

-- nothing is written for a stretch without such a breach
no_breach : (held : List Span) (start past : ℕ) (s : Judged) (text : List ℕ) → breaches_within start past s.breaches ≡ [] → text ≡ []
    → IsWhyOf held start past s text
no_breach held start past s text none is = record {
  shown = [];
  are = record { each = sym none; proved = λ k d within. absurd (omega (arith, within)) };
  is = is;
}

-- what is written for a stretch is its evidence
why_of : (line held : List Span) (start past : ℕ) (s : Judged) (text : List ℕ) → AgreeOn line held start past s
    → IsReport held s.monday s.horizon s.breaches s.debts → IsWritten line start past s text → IsWhyOf held start past s text
why_of line held start past s text agree r (inl none) = no_breach held start past s text none.0 none.1
why_of line held start past s text agree r (inr (some, within, w)) = why_from line held start past s text (agree some) r w

-- what is written for stretches is their evidence
pub why_of_all : (line held : List Span) (end start past : ℕ) (stretches : List Judged) (text : List ℕ) → AreAll held end stretches
    → ((s : Judged) → Contains stretches s → AgreeOn line held start past s) → AreWritten line start past stretches text
    → AreWhyOf held start past stretches text
why_of_all line held end start past [] text all agree w = w
why_of_all line held end start past (s ∷ stretches) text all agree w =
    let (front, back, is, here, others) = w in (
      front,
      back,
      is,
      why_of line held start past s front (agree s (contains_head s stretches)) all.0.report here,
      why_of_all line held end start past stretches back all.1 (λ t among. agree t (contains_tail s stretches t among)) others,
    )

-- ---- one stretch after the other

-- one more stretch is written
pub one_more_written : (line : List Span) (start past : ℕ) (stretches : List Judged) (s : Judged) (text more : List ℕ)
    → AreWritten line start past stretches text → IsWritten line start past s more → AreWritten line start past (stretches ++ s ∷ []) (text ++ more)
one_more_written line start past [] s text more is w = (more, [], ap (λ (t : List ℕ). t ++ more) is ∙ sym (append-nil more), w, refl)
one_more_written line start past (x ∷ xs) s text more (front, back, is, here, others) w = (
  front,
  back ++ more,
  ap (λ (t : List ℕ). t ++ more) is ∙ append_assoc front back more,
  here,
  one_more_written line start past xs s back more others w,
)

-- a stretch with such a breach that was written ends by the end of 2099
ends_by : (line : List Span) (start past : ℕ) (s : Judged) (text : List ℕ) → IsWritten line start past s text
    → (breaches_within start past s.breaches ≡ [] → ⊥) → s.horizon.minute ≤ 68374080
ends_by line start past s text (inl none) some = absurd (some none.0)
ends_by line start past s text (inr (some', within, w)) some = within

pub all_end_by : (line : List Span) (start past : ℕ) (stretches : List Judged) (text : List ℕ) → AreWritten line start past stretches text
    → (s : Judged) → Contains stretches s → (breaches_within start past s.breaches ≡ [] → ⊥) → s.horizon.minute ≤ 68374080
all_end_by line start past [] text w s (k, within, e) some = absurd (omega (arith, within))
all_end_by line start past (x ∷ xs) text (front, back, is, here, others) s (zero, within, e) some =
    subst (λ (y : Judged). y.horizon.minute ≤ 68374080) e
    (ends_by line start past x front here (subst (λ (y : Judged). breaches_within start past y.breaches ≡ [] → ⊥) (sym e) some))
all_end_by line start past (x ∷ xs) text (front, back, is, here, others) s (suc k, within, e) some =
    all_end_by line start past xs back others s (k, omega (arith, within), e) some

-- ---- breaches of a month

-- a list with an item that passes isn't empty after the others are left out
pub some_kept : {X : Type 0} (p : X → Bool) (xs : List X) (i : ℕ) (d : X) → i < length xs → p (get_or xs i d) ≡ true → filter p xs ≡ [] → ⊥
some_kept p [] i d within kept none = absurd (omega (arith, within))
some_kept p (x ∷ xs) zero d within kept none =
    let e : x ∷ filter p xs ≡ [] = sym (ap (λ (b : Bool). if b then x ∷ filter p xs else filter p xs) kept) ∙ none in cc
some_kept p (x ∷ xs) (suc i) d within kept none = go (p x) refl (some_kept p xs i d (omega (arith, within)) kept) where
  go : (b : Bool) → p x ≡ b → (filter p xs ≡ [] → ⊥) → ⊥
  go true e later = let f : x ∷ filter p xs ≡ [] = sym (ap (λ (b : Bool). if b then x ∷ filter p xs else filter p xs) e) ∙ none in cc
  go false e later = later (sym (ap (λ (b : Bool). if b then x ∷ filter p xs else filter p xs) e) ∙ none)

-- what follows from what was found, unless memory ran out
pub on_found : {A E : Type 0} {P Q : A → Type 0} (r : Result A E) → IfOk r P → ((a : A) → P a → Q a) → IfOk r Q
on_found (Ok a) p f = f a p
on_found (Err x) p f = tt

-- one more breach is written, with its evidence
pub one_more_shown : (xs : List Evidence) (i : ℕ) (x : Evidence) (head before after : List ℕ) → i < length xs → x ≡ get_or xs i x
    → before ≡ head ++ flat_map shown_text (map shown_of (take i xs)) → after ≡ before ++ shown_text (shown_of x)
    → after ≡ head ++ flat_map shown_text (map shown_of (take (i + 1) xs))
one_more_shown xs i x head before after within is e g =
    one_more_row (λ y. shown_text (shown_of y)) xs i x head before after within
    (e ∙ ap (λ (t : List ℕ). head ++ t) (flat_map-map shown_text shown_of (take i xs)))
    (g ∙ ap (λ (y : Evidence). before ++ shown_text (shown_of y)) is)
    ∙ ap (λ (t : List ℕ). head ++ t) (sym (flat_map-map shown_text shown_of (take (i + 1) xs)))

-- ---- stretches so far

told_more : (xs : List Stretch) (i : ℕ) (x : Stretch) → i < length xs → x ≡ get_or xs i x
    → map judged_of (take (i + 1) xs) ≡ map judged_of (take i xs) ++ judged_of x ∷ []
told_more xs i x within is =
    ap (map judged_of) (take_more xs i x within ∙ ap (λ (y : Stretch). take i xs ++ y ∷ []) (sym is))
    ∙ map-append judged_of (take i xs) (x ∷ [])

-- what is written for one more stretch
pub written_more : (line : List Span) (start past : ℕ) (xs : List Stretch) (i : ℕ) (x : Stretch) (before after why : List ℕ) → i < length xs
    → x ≡ get_or xs i x → AreWritten line start past (map judged_of (take i xs)) before → after ≡ before ++ why
    → IsWritten line start past (judged_of x) why → AreWritten line start past (map judged_of (take (i + 1) xs)) after
written_more line start past xs i x before after why within is written e w =
    subst (λ (t : List ℕ). AreWritten line start past (map judged_of (take (i + 1) xs)) t) (sym e)
    (subst (λ (ys : List Judged). AreWritten line start past ys (before ++ why)) (sym (told_more xs i x within is))
    (one_more_written line start past (map judged_of (take i xs)) (judged_of x) before why written w))

-- an item of a list is among what is told of it
pub among_told : (xs : List Stretch) (i : ℕ) (x : Stretch) → i < length xs → x ≡ get_or xs i x → Contains (map judged_of xs) (judged_of x)
among_told xs i x within is =
    let n : length (map judged_of xs) ≡ length xs = length-map xs judged_of in
    (i, omega (arith, n, within), get_or-map judged_of xs i x (judged_of x) within ∙ ap judged_of (sym is))
