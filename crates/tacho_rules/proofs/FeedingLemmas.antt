-- A scan that is fed several spans (`Scan::feed_within`, `examine`).
use Rattle.std.proofs.Common.{◌≡◌, ℕ, ◌+◌, ◌<◌, ◌≤◌, List, [], ◌∷◌, ◌++◌, length, get_or, map, take, drop, refl, sym, ap}
use Rattle.std.proofs.Common.{subst, ◌∙◌, arith, true, Result, Ok, Err, IfOk}
use Rattle.std.proofs.lemmas.List.{length-map, get_or-map, drop_more, drop_all, take_more, take_all, append-nil, append_assoc}
use Rattle.tacho_time.specs.declared.span.Span.{Span}
use Rattle.tacho_line.specs.declared.horizon.Horizon.{Horizon}
use Rattle.tacho_line.specs.Line.{IsHorizon}
use Rattle.tacho_law.specs.declared.breach.Breach.{Breach}
use Rattle.tacho_law.specs.declared.debt.Debt.{Debt}
use Rattle.tacho_law.specs.Line.{Joined}
use Rattle.tacho_law.proofs.RunsLemmas.{place_of, place_is, joined_le}
use Rattle.tacho_pass.specs.declared.found.Found.{Found}
use Rattle.tacho_pass.specs.Found.{Appends}
use Rattle.tacho_pass.specs.Kinds.{is_any}
use Rattle.tacho_pass.proofs.AppendingLemmas.{appends_none, appends_then}
use Rattle.tacho_rules.specs.declared.report.Report.{Report}
use Rattle.tacho_rules.specs.declared.scan.Scan.{Scan}
use Rattle.tacho_rules.specs.Report.{examined_line, IsReport}
use Rattle.tacho_rules.specs.Scan.{AreFindings, IsAt, HasFailed, IsScanOf}

-- the scan is at the start of the spans that are left, and these follow one another
abbrev pub IsBefore : Scan → List Span → ℕ → Type 0
IsBefore s left past = IsAt s (place_of left past) × Joined left (place_of left past) past

-- a scan and its Found, after they were fed the first i spans
pub record IsFed (spans : List Span) (was : Scan) (had : Found) (s : Scan) (found : Found) (i : ℕ) : Type 0 where
  pub is : (base : ℕ) (before : List Span) → IsScanOf was had base before
      → IsScanOf s found base (before ++ take i spans)
  pub at : (place past : ℕ) → IsAt was place → Joined spans place past → IsBefore s (drop i spans) past
  pub more : Appends is_any true had found
  pub failed : HasFailed was → (i ≡ 0) × HasFailed s

-- before the first span
pub fed_none : (spans : List Span) (s : Scan) (found : Found) → IsFed spans s found s found 0
fed_none spans s found = record {
  is = λ base before is. subst (IsScanOf s found base) (sym (append-nil before)) is;
  at = λ place past at joined.
      (let e : place_of spans past ≡ place = place_is spans place past joined in
      (subst (IsAt s) (sym e) at, subst (λ (p : ℕ). Joined spans p past) (sym e) joined));
  more = appends_none is_any true found;
  failed = λ h. (refl, h);
}

module _ (spans : List Span) (was : Scan) (had : Found) (s : Scan) (found : Found) (i : ℕ)
    (f : IsFed spans was had s found i)
    (span : Span) (within : i < length spans) (here : span ≡ get_or spans i span) where
  -- the spans that are left are the next one and those after it
  left_is : drop i spans ≡ span ∷ drop (i + 1) spans
  left_is = drop_more spans i span within ∙ ap (λ (x : Span). x ∷ drop (i + 1) spans) (sym here)

  module _ (place past : ℕ) (start : IsAt was place) (joined : Joined spans place past) where
    next_joined : Joined (span ∷ drop (i + 1) spans) (place_of (drop i spans) past) past
    next_joined =
        subst (λ (left : List Span). Joined left (place_of (drop i spans) past) past) left_is
        (f.at place past start joined).1

    -- it starts where the scan is
    pub next_at : IsAt s span.start
    next_at = subst (IsAt s) (sym next_joined.0) (f.at place past start joined).0

    -- it isn't empty, and doesn't end after the last span
    pub next_some : span.start < span.past
    next_some =
        let e : span.start ≡ place_of (drop i spans) past = next_joined.0 in
        let some : place_of (drop i spans) past < span.past = next_joined.1 in
        omega arith

    pub next_within : span.past ≤ past
    next_within = joined_le (drop (i + 1) spans) span.past past next_joined.2

  -- once the scan was fed the next span, it is fed one more
  pub fed_next : (s' : Scan) (found' : Found) → IsAt s' span.past
      → ((base : ℕ) (before : List Span) → IsScanOf s found base before
      → IsScanOf s' found' base (before ++ span ∷ []))
      → Appends is_any true found found' → (HasFailed s → ⊥)
      → IsFed spans was had s' found' (i + 1)
  fed_next s' found' at fed appends alive =
      let more : take (i + 1) spans ≡ take i spans ++ span ∷ [] =
      take_more spans i span within ∙ ap (λ (x : Span). take i spans ++ x ∷ []) (sym here) in
      record {
        is = λ base before is.
            subst (IsScanOf s' found' base)
            (append_assoc before (take i spans) (span ∷ []) ∙ ap (λ (xs : List Span). before ++ xs) (sym more))
            (fed base (before ++ take i spans) (f.is base before is));
        at = λ place past start joined.
            (let left : Joined (drop (i + 1) spans) span.past past = (next_joined place past start joined).2 in
            let e : place_of (drop (i + 1) spans) past ≡ span.past =
            place_is (drop (i + 1) spans) span.past past left in
            (subst (IsAt s') (sym e) at, subst (λ (p : ℕ). Joined (drop (i + 1) spans) p past) (sym e) left));
        more = appends_then is_any true had found found' f.more appends;
        failed = λ h. absurd (alive (f.failed h).1);
      }

-- a list of length 0 is empty
none_left : (xs : List Span) → length xs ≤ 0 → xs ≡ []
none_left [] le = refl
none_left (x ∷ xs) le = absurd (omega arith)

-- after the last span, the scan represents all of them, and is at their end
module _ (spans : List Span) (was : Scan) (had : Found) (s : Scan) (found : Found) (i : ℕ)
    (f : IsFed spans was had s found i) (all : length spans ≤ i) where
  pub fed_all : (base : ℕ) (before : List Span) → IsScanOf was had base before
      → IsScanOf s found base (before ++ spans)
  fed_all base before is =
      subst (λ (xs : List Span). IsScanOf s found base (before ++ xs)) (take_all i spans all) (f.is base before is)

  pub fed_to : (place past : ℕ) → IsAt was place → Joined spans place past → IsAt s past
  fed_to place past start joined =
      subst (λ (left : List Span). IsAt s (place_of left past))
      (drop_all i spans all) (f.at place past start joined).0

  -- a scan that had failed before was fed nothing; so there was no part to feed
  pub failed_takes_none : (others : List Span) → length others ≤ i → HasFailed was → others ≡ []
  failed_takes_none others all h = none_left others (let e : i ≡ 0 = (f.failed h).0 in omega arith)

-- the i-th part is the part of the i-th span
module _ (part : Span → Span) (spans : List Span) (i : ℕ) where
  pub part_within : i < length spans → i < length (map part spans)
  part_within within = rw (length-map spans part) within

  pub part_past : length spans ≤ i → length (map part spans) ≤ i
  part_past past = rw (length-map spans part) past

  pub part_is : (span : Span) → i < length spans → span ≡ get_or spans i span
      → part span ≡ get_or (map part spans) i (part span)
  part_is span within here = ap part here ∙ sym (get_or-map part spans i span (part span) within)

-- what is found of the examined line, together with the horizon, is the report
report_of : (held : List Span) (base : ℕ) (horizon : Horizon) (found : List Breach) (debts : List Debt)
    → IsHorizon held base horizon → AreFindings (examined_line held base horizon.minute) base horizon.minute found debts
    → IsReport held base horizon found debts
report_of held base horizon found debts h are = record {
  is_horizon = h;
  runs = are.runs;
  breaks = are.breaks;
  are_runs = are.are_runs;
  are_breaks = are.are_breaks;
  are_debts = are.are_debts;
  exactly = are.exactly;
}

-- a call that returns these findings returns the report
pub report_answered : {E : Type 0} {P : Report → Type 0} (result : Result Report E) (held : List Span) (base : ℕ)
    (horizon : Horizon) → IsHorizon held base horizon
    → ((r : Report) → P r
    → AreFindings (examined_line held base horizon.minute) base horizon.minute r.breaches.items r.debts.items)
    → IfOk result (λ r. r.horizon ≡ horizon) → IfOk result P
    → IfOk result (λ r. IsReport held base r.horizon r.breaches.items r.debts.items)
report_answered (Ok r) held base horizon h are same is =
    subst (λ (x : Horizon). IsReport held base x r.breaches.items r.debts.items) (sym same)
    (report_of held base horizon r.breaches.items r.debts.items h (are r is))
report_answered (Err e) held base horizon h are same is = tt
