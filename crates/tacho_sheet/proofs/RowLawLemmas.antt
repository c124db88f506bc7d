-- A driver has one row of all drivers, and its numbers are those of other texts.
use Rattle.std.proofs.Common.{◌≡◌, ◌↔◌, ℕ, suc, ◌+◌, ◌-◌, ◌/◌, ◌<◌, ◌≤◌, cond, inl, inr, nat_eq, nat_le, nat_lt, Bool, true, false, List, [], ◌∷◌, ◌++◌, append_assoc, codes, decimal, length, map, Option, None, Some, refl, sym, ap, subst, ◌∙◌, arith}
use Rattle.std.specs.List.{sum_by, flat_map}
use Rattle.std.specs.Prelude.{max, sum, ◌==◌}
use Rattle.std.proofs.lemmas.Bool.Decides.{nat_tests}
use Rattle.std.proofs.lemmas.List.Sums.{sum_by-cons}
use Rattle.tacho_time.specs.Text.{day_text, minute_text}
use Rattle.tacho_time.specs.declared.span.Mark.{Mark}
use Rattle.tacho_time.specs.declared.span.Span.{Span}
use Rattle.tacho_line.specs.declared.gap.Gap.{Gap}
use Rattle.tacho_line.specs.Line.{mark_at, AreGaps, AreGapsApart, BeginsAfter, InGaps}
use Rattle.tacho_law.specs.declared.breach.Breach.{Breach}
use Rattle.tacho_law.specs.declared.breach.Kind.{Kind}
use Rattle.tacho_law.specs.declared.breach.Kind.TheVariants.{B1, B2, B3, B4, B5, B6, B7, B8, B9, B10}
use Rattle.tacho_law.specs.Order.{place_of_kind}
use Rattle.tacho_law.specs.declared.debt.Debt.{Debt}
use Rattle.tacho_stretches.proofs.LawLemmas.{one_end}
use Rattle.tacho_stretches.specs.Stretches.{Judged}
use Rattle.tacho_ahead.specs.declared.limits.Limits.{Limits}
use Rattle.tacho_ahead.specs.declared.used.Used.{Used}
use Rattle.tacho_ahead.specs.Outlook.{is_open_debt}
use Rattle.tacho_ahead.specs.Plans.{IsInTime}
use Rattle.tacho_ahead.proofs.OneLemmas.{one_outlook}
use Rattle.tacho_state.specs.Summaries.{Summary}
use Rattle.tacho_sheet.specs.Ahead.{limit_lines, used_lines, IsAheadText, IsForecast, IsForecastOf}
use Rattle.tacho_sheet.specs.Cells.{cells_text, held_to, minute_cell, row_text}
use Rattle.tacho_sheet.specs.Forecast.{outlook_cells, AreForecastCells, AreOutlookCells, EndsIn, IsForecastRow, SameForecast}
use Rattle.tacho_sheet.specs.Months.{count_of, kinds, month_breaches}
use Rattle.tacho_sheet.specs.Reports.{breach_line, cause_name, column_minutes, count_from, debt_line, horizon_line, is_lacking, paid_text}
use Rattle.tacho_sheet.specs.Standing.{first_deadline, first_lacking, open_at_horizon, IsCountIn, IsCountUnless, IsStandingRow}
use Rattle.tacho_sheet.specs.Stretches.{block}
use Rattle.tacho_sheet.proofs.AheadLemmas.{one_last}
use Rattle.tacho_sheet.proofs.AmountLemmas.{count_split}
use Rattle.tacho_sheet.proofs.MonthLemmas.{count_every, count_none}
use Rattle.tacho_sheet.proofs.OneLemmas.{same_bounds}

-- ---- how a driver stands

one_count : (month : ℕ) (stretches : List Judged) (a b : ℕ) → IsCountIn month stretches a → IsCountIn month stretches b → a ≡ b
one_count month stretches a b (start, past, bounds, is) (start', past', bounds', is') =
    let same = same_bounds month start past start' past' bounds bounds' in
    is ∙ ap (λ (m : ℕ). length (month_breaches m past stretches)) (sym same.0)
    ∙ ap (λ (m : ℕ). length (month_breaches start' m stretches)) (sym same.1) ∙ sym is'

one_count_if : (b : Bool) (month : ℕ) (stretches : List Judged) (m n : ℕ) → IsCountUnless b month stretches m → IsCountUnless b month stretches n
    → m ≡ n
one_count_if true month stretches m n x y = x ∙ sym y
one_count_if false month stretches m n x y = one_count (month - 1) stretches m n x y

-- the row of these numbers
abbrev row_with : Summary → List Span → ℕ → Judged → ℕ → List Gap → ℕ → ℕ → List ℕ
row_with driver line base last end gaps earlier breaches =
    row_text (decimal driver.number) (
    driver.name ∷ decimal driver.downloads
    ∷ minute_cell (held_to base end) ∷ minute_text last.horizon.minute ∷ cause_name last.horizon.cause
    ∷ decimal (length gaps) ∷ decimal (column_minutes line base (end - base) is_lacking) ∷ minute_cell (first_lacking gaps)
    ∷ decimal earlier ∷ decimal breaches
    ∷ decimal (length (open_at_horizon last)) ∷ decimal (sum_by (λ (d : Debt). d.amount) (open_at_horizon last))
    ∷ minute_cell (first_deadline (open_at_horizon last)) ∷ [])

pub one_standing : ((line : List Span) (start past : ℕ) (gaps others : List Gap) → AreGaps line start past gaps
    → AreGaps line start past others → gaps ≡ others)
    → (driver : Summary) (line : List Span) (base : ℕ) (stretches : List Judged) (month : ℕ) (a b : List ℕ)
    → IsStandingRow driver line base stretches month a → IsStandingRow driver line base stretches month b → a ≡ b
one_standing one driver line base stretches month a b x y =
    let last : x.last ≡ y.last = one_last x.front y.front x.last y.last (sym x.list ∙ y.list) in
    let end : x.end ≡ y.end = one_end line base x.end y.end x.is_end y.is_end in
    let gaps : x.gaps ≡ y.gaps = one line base y.end x.gaps y.gaps (subst (λ (e : ℕ). AreGaps line base e x.gaps) end x.are_gaps) y.are_gaps in
    let earlier : x.earlier ≡ y.earlier = one_count_if (nat_eq month 24000) month stretches x.earlier y.earlier x.before y.before in
    let breaches : x.breaches ≡ y.breaches = one_count month stretches x.breaches y.breaches x.within y.within in
    x.is
    ∙ ap (λ (s : Judged). row_with driver line base s x.end x.gaps x.earlier x.breaches) last
    ∙ ap (λ (e : ℕ). row_with driver line base y.last e x.gaps x.earlier x.breaches) end
    ∙ ap (λ (g : List Gap). row_with driver line base y.last y.end g x.earlier x.breaches) gaps
    ∙ ap (λ (n : ℕ). row_with driver line base y.last y.end y.gaps n x.breaches) earlier
    ∙ ap (λ (n : ℕ). row_with driver line base y.last y.end y.gaps y.earlier n) breaches
    ∙ sym y.is

-- ---- a forecast

one_cells : (held : List Span) (base start : ℕ) (a b : List (List ℕ)) → IsInTime start → AreOutlookCells held base start a
    → AreOutlookCells held base start b → a ≡ b
one_cells held base start a b early x y =
    let same =
    one_outlook held base start x.limits y.limits x.used y.used x.coming y.coming x.debts y.debts (omega (arith, early))
    x.outlook y.outlook in
    x.are
    ∙ ap (λ (l : Limits). outlook_cells start l x.used) same.0
    ∙ ap (λ (u : Used). outlook_cells start y.limits u) same.1
    ∙ sym y.are

one_cells_of : (held : List Span) (minute : ℕ) (s : Judged) (unseen : Option ℕ) (a b : List (List ℕ)) → AreForecastCells held minute s unseen a
    → AreForecastCells held minute s unseen b → a ≡ b
one_cells_of held minute s None a b (inl (early, x)) (inl (early', y)) = one_cells held s.monday (max minute s.horizon.minute) a b early x y
one_cells_of held minute s None a b (inl (early, x)) (inr (late, y)) = absurd (late early)
one_cells_of held minute s None a b (inr (late, x)) (inl (early, y)) = absurd (late early)
one_cells_of held minute s None a b (inr (late, x)) (inr (late', y)) = x ∙ sym y
one_cells_of held minute s (Some past) a b x y = x ∙ sym y

abbrev forecast_with : Summary → ℕ → Judged → ℕ → List (List ℕ) → List ℕ
forecast_with driver base last end cells =
    row_text (decimal driver.number) (driver.name ∷ day_text (last.monday / 1440) ∷ minute_cell (held_to base end) ∷ cells)

pub one_forecast_row : (driver : Summary) (held : List Span) (base : ℕ) (stretches : List Judged) (minute : ℕ) (a b : List ℕ)
    → IsForecastRow driver held base stretches minute a → IsForecastRow driver held base stretches minute b → a ≡ b
one_forecast_row driver held base stretches minute a b x y =
    let last : x.last ≡ y.last = one_last x.front y.front x.last y.last (sym x.list ∙ y.list) in
    let end : x.end ≡ y.end = one_end held base x.end y.end x.is_end y.is_end in
    let cells : x.cells ≡ y.cells =
    one_cells_of held minute y.last y.last.unseen x.cells y.cells
    (subst (λ (s : Judged). AreForecastCells held minute s s.unseen x.cells) last x.are) y.are in
    x.is
    ∙ ap (λ (s : Judged). forecast_with driver base s x.end x.cells) last
    ∙ ap (λ (e : ℕ). forecast_with driver base y.last e x.cells) end
    ∙ ap (λ (cs : List (List ℕ)). forecast_with driver base y.last y.end cs) cells
    ∙ sym y.is

-- ---- the counts of an overview

-- 1 if two kinds are one, otherwise 0
abbrev bit : Kind → Kind → ℕ
bit k kind = cond (place_of_kind k == place_of_kind kind) 1 0

-- each kind is one of the ten
one_of_ten : (k : Kind) → (bit k B1 + (bit k B2 + (bit k B3 + (bit k B4 + (bit k B5 + (bit k B6 + (bit k B7 + (bit k B8 + (bit k B9 + bit k B10))))))))) ≡ 1
one_of_ten B1 = refl
one_of_ten B2 = refl
one_of_ten B3 = refl
one_of_ten B4 = refl
one_of_ten B5 = refl
one_of_ten B6 = refl
one_of_ten B7 = refl
one_of_ten B8 = refl
one_of_ten B9 = refl
one_of_ten B10 = refl

one_counted : (b : Breach) (breaches : List Breach) (kind : Kind) → count_of (b ∷ breaches) kind ≡ bit b.kind kind + count_of breaches kind
one_counted b breaches kind = sum_by-cons (λ (x : Breach). cond (place_of_kind x.kind == place_of_kind kind) 1 0) b breaches

one_more : (b : Breach) (breaches : List Breach) → sum (map (count_of (b ∷ breaches)) kinds) ≡ suc (sum (map (count_of breaches) kinds))
one_more b breaches =
    let more = one_counted b breaches in
    let one = one_of_ten b.kind in
    let e1 = more B1 in let e2 = more B2 in let e3 = more B3 in let e4 = more B4 in let e5 = more B5 in let e6 = more B6 in let e7 = more B7 in let e8 = more B8 in let e9 = more B9 in let e10 = more B10 in
    omega (arith, one, e1, e2, e3, e4, e5, e6, e7, e8, e9, e10)

pub counts_add_up : (breaches : List Breach) → sum (map (count_of breaches) kinds) ≡ length breaches
counts_add_up [] = refl
counts_add_up (b ∷ breaches) = one_more b breaches ∙ ap suc (counts_add_up breaches)

-- ---- the minutes of gaps

-- the minutes of a range from `from` on that pass a test are those of gaps
count_gaps : (p : ℕ → Bool) (gaps : List Gap) (from end : ℕ) → from ≤ end → AreGapsApart gaps
    → ((m : ℕ) → InGaps gaps m → from ≤ m × m < end)
    → ((m : ℕ) → InGaps gaps m → p m ≡ true) → ((m : ℕ) → from ≤ m → m < end → ¬ (InGaps gaps m) → p m ≡ false)
    → count_from p from (end - from) ≡ sum_by (λ (g : Gap). g.past - g.start) gaps
count_gaps p [] from end order apart within some none = count_none p from (end - from) (λ i u v. none i u (omega (arith, u, v, order)) (λ w. absurd w))
count_gaps p (g ∷ gaps) from end order (long, after, apart) within some none =
    let first = within g.start (inl (omega arith, long)) in
    let last = within (g.past - 1) (inl (omega (arith, long), omega (arith, long))) in
    let low : from ≤ g.start = first.0 in
    let high : g.past ≤ end = (let l = last.1 in omega (arith, l, long)) in
    let before : count_from p from (g.start - from) ≡ 0 =
    count_none p from (g.start - from) (λ i u v. none i u (omega (arith, v, low, high, long)) (λ w. elim w [
      | inl here ↦ (let l = here.0 in absurd (omega (arith, l, v, low)))
      | inr there ↦ (let l = later g gaps after apart i there in absurd (omega (arith, l, v, low, long)))
    ])) in
    let here : count_from p g.start (g.past - g.start) ≡ g.past - g.start =
    count_every p g.start (g.past - g.start) (λ i u v. some i (inl (u, omega (arith, v, long)))) in
    let rest : count_from p g.past (end - g.past) ≡ sum_by (λ (x : Gap). x.past - x.start) gaps =
    count_gaps p gaps g.past end high apart
    (λ m w. (let l = later g gaps after apart m w in omega (arith, l), (within m (inr w)).1))
    (λ m w. some m (inr w))
    (λ m u v no. none m (omega (arith, u, low, long)) v (λ w. elim w [
      | inl here ↦ (let r = here.1 in absurd (omega (arith, r, u)))
      | inr there ↦ no there
    ])) in
    let back : ℕ = (g.past - g.start) + (end - g.past) in
    let parts : end - from ≡ (g.start - from) + back = omega (arith, low, high, long) in
    let whole = ap (λ (n : ℕ). count_from p from n) parts in
    let split1 = count_split p from (g.start - from) back in
    let start : from + (g.start - from) ≡ g.start = omega (arith, low) in
    let at1 = ap (λ (m : ℕ). count_from p m back) start in
    let split2 = count_split p g.start (g.past - g.start) (end - g.past) in
    let past : g.start + (g.past - g.start) ≡ g.past = omega (arith, long) in
    let at2 = ap (λ (m : ℕ). count_from p m (end - g.past)) past in
    let sums = sum_by-cons (λ (x : Gap). x.past - x.start) g gaps in
    omega (arith, whole, split1, at1, split2, at2, before, here, rest, sums)
  where
    later : (g : Gap) (gaps : List Gap) → BeginsAfter g gaps → AreGapsApart gaps → (m : ℕ) → InGaps gaps m → g.past < m + 1
    later g [] after apart m w = absurd w
    later g (x ∷ xs) after (long, next, apart) m (inl here) = (let l = here.0 in omega (arith, l, after))
    later g (x ∷ xs) after (long, next, apart) m (inr there) = (let l = later x xs next apart m there in omega (arith, l, after, long))

lacks : (o : Option Mark) → ¬ (o ≡ None) → is_lacking o ≡ false
lacks None some = absurd (some refl)
lacks (Some mark) some = refl

pub gaps_are_counted : (line : List Span) (base end : ℕ) (gaps : List Gap) → base ≤ end → AreGaps line base end gaps
    → sum_by (λ (g : Gap). g.past - g.start) gaps ≡ column_minutes line base (end - base) is_lacking
gaps_are_counted line base end gaps order are =
    sym (count_gaps (λ m. is_lacking (mark_at line m)) gaps base end order are.apart
    (λ m w. ((are.lacking m).0 w).0)
    (λ m w. ap is_lacking ((are.lacking m).0 w).1)
    (λ m from to no. lacks (mark_at line m) (λ e. no ((are.lacking m).1 ((from, to), e)))))

-- ---- open debts

-- the first byte of a text
abbrev first : List ℕ → ℕ
first [] = 0
first (b ∷ bytes) = b

pub called_open : (horizon : ℕ) (d : Debt) → (paid_text horizon d.deadline d.paid_by ≡ codes "open") ↔ (is_open_debt horizon d ≡ true)
called_open horizon d = go d.paid_by refl (nat_le d.deadline horizon) refl where
  go : (paid : Option ℕ) → d.paid_by ≡ paid → (late : Bool) → nat_le d.deadline horizon ≡ late
      → (paid_text horizon d.deadline d.paid_by ≡ codes "open") ↔ (is_open_debt horizon d ≡ true)
  go (Some m) e late g =
      rw e ((λ is. let h : ◌≡◌ {A = ℕ} 112 111 = ap first is in absurd (omega (arith, h))), (λ is. absurd (let wrong = is in cc)))
  go None e true g =
      let no : nat_lt horizon d.deadline ≡ false = grind (arith, nat_tests) in
      rw (e, g, no) ((λ is. let h : ◌≡◌ {A = ℕ} 108 111 = ap first is in absurd (omega (arith, h))), (λ is. absurd (let wrong = is in cc)))
  go None e false g =
      let yes : nat_lt horizon d.deadline ≡ true = grind (arith, nat_tests) in
      rw (e, g, yes) ((λ is. refl), (λ is. refl))

-- ---- a row beside the driver's own forecast

-- the row ends in its cells
ends_in : (driver : Summary) (day to : List ℕ) (cells : List (List ℕ)) (row : List ℕ)
    → row ≡ row_text (decimal driver.number) (driver.name ∷ day ∷ to ∷ cells) → EndsIn cells row
ends_in driver day to cells row e =
    let first : List (List ℕ) = driver.name ∷ day ∷ to ∷ [] in (
      decimal driver.number ++ cells_text first,
      e ∙ by (codes ",") (cells_text cells) (codes "\n"),
    )
  where
    by : (k x z : List ℕ) → decimal driver.number ++ (((k ++ driver.name) ++ ((k ++ day) ++ ((k ++ to) ++ x))) ++ z)
        ≡ (decimal driver.number ++ ((k ++ driver.name) ++ ((k ++ day) ++ ((k ++ to) ++ [])))) ++ (x ++ z)
    by k x z = simp (append_assoc) refl

same_cells : (held : List Span) (base start : ℕ) (front row forecast text : List ℕ) (cells : List (List ℕ)) → IsInTime start
    → AreOutlookCells held base start cells → IsForecast held base start forecast → EndsIn cells row → text ≡ front ++ forecast
    → SameForecast None row text
same_cells held base start front row forecast text cells early are is ends made =
    let same =
    one_outlook held base start are.limits is.limits are.used is.used are.coming is.coming are.debts is.debts (omega (arith, early))
    are.outlook is.outlook in
    let cells_are : cells ≡ outlook_cells start is.limits is.used =
    are.are ∙ ap (λ (l : Limits). outlook_cells start l are.used) same.0 ∙ ap (λ (u : Used). outlook_cells start is.limits u) same.1 in
    let between : List ℕ = flat_map breach_line is.coming ++ flat_map (debt_line start) is.debts in (
      start,
      is.limits,
      is.used,
      subst (λ (cs : List (List ℕ)). EndsIn cs row) cells_are ends,
      (
        front,
        between,
        is.week,
        made ∙ ap (λ (t : List ℕ). front ++ t) is.is
            ∙ ap (λ (t : List ℕ). front ++ (used_lines start is.week is.used ++ t))
            (sym (append_assoc (flat_map breach_line is.coming) (flat_map (debt_line start) is.debts) (limit_lines start is.limits))),
      ),
    )

same_forecast : (held : List Span) (minute : ℕ) (s : Judged) (unseen : Option ℕ) (cells : List (List ℕ)) (front row forecast text : List ℕ)
    → AreForecastCells held minute s unseen cells → IsForecastOf held minute s unseen forecast → EndsIn cells row → text ≡ front ++ forecast
    → SameForecast unseen row text
same_forecast held minute s None cells front row forecast text (inl (early, are)) is ends made =
    same_cells held s.monday (max minute s.horizon.minute) front row forecast text cells early are is.1 ends made
same_forecast held minute s None cells front row forecast text (inr (late, are)) is ends made = absurd (late is.0)
same_forecast held minute s (Some past) cells front row forecast text are is ends made = subst (λ (cs : List (List ℕ)). EndsIn cs row) are ends

pub row_of_ahead : (driver : Summary) (held : List Span) (base : ℕ) (stretches : List Judged) (minute : ℕ) (row text : List ℕ)
    → IsForecastRow driver held base stretches minute row → IsAheadText held stretches minute text
    → (front : List Judged) × (last : Judged) × (stretches ≡ front ++ last ∷ []) × SameForecast last.unseen row text
row_of_ahead driver held base stretches minute row text x y =
    let last : x.last ≡ y.last = one_last x.front y.front x.last y.last (sym x.list ∙ y.list) in
    let are = subst (λ (s : Judged). AreForecastCells held minute s s.unseen x.cells) last x.are in (
      y.front,
      y.last,
      y.list,
      same_forecast held minute y.last y.last.unseen x.cells (block (horizon_line y.last.horizon) y.last) row y.forecast text are
          y.is_forecast (ends_in driver (day_text (x.last.monday / 1440)) (minute_cell (held_to base x.end)) x.cells row x.is) y.is,
    )
