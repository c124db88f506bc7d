-- The text of a forecast (specs/Ahead): of the last stretch, by marks, and only one.
use Rattle.std.proofs.Common.{◌≡◌, ℕ, suc, ◌+◌, ◌-◌, ◌<◌, ◌≤◌, inl, inr, nat_lt, Bool, true, false, cond, List, [], ◌∷◌, ◌++◌, length, get_or, map, append_assoc, Option, None, Some, refl, sym, ap, subst, ◌∙◌, arith}
use Rattle.std.specs.List.{All, flat_map}
use Rattle.std.specs.Option.{is_some}
use Rattle.std.specs.Ordering.{nat_cmp, ord_max}
use Rattle.std.specs.Prelude.{◌/◌, max}
use Rattle.std.proofs.lemmas.List.{append-nil}
use Rattle.std.proofs.lemmas.Bool.{cases_lt}
use Rattle.std.proofs.lemmas.Bool.Decides.{nat_tests}
use Rattle.tacho_time.specs.declared.span.Mark.{Mark}
use Rattle.tacho_time.specs.declared.span.Span.{Span}
use Rattle.tacho_line.specs.Line.{mark_at, AgreeWithin, IsSingle, IsCause}
use Rattle.tacho_law.specs.declared.breach.Breach.{Breach}
use Rattle.tacho_law.specs.declared.debt.Debt.{Debt}
use Rattle.tacho_law.specs.Line.{IsBase}
use Rattle.tacho_law.specs.Weeks.{IsInWeek}
use Rattle.tacho_law.proofs.MainRestLemmas.{one_week}
use Rattle.tacho_stretches.specs.declared.stretch.Stretch.{Stretch}
use Rattle.tacho_stretches.specs.Start.{IsEndOfHeld, IsHeld, IsNextStart}
use Rattle.tacho_stretches.specs.Stretches.{Judged, judged_of, first_monday, unseen_to, IsStretch, AreAll, AreStretches}
use Rattle.tacho_ahead.specs.declared.limits.Limits.{Limits}
use Rattle.tacho_ahead.specs.declared.used.Used.{Used}
use Rattle.tacho_ahead.specs.Plans.{IsInTime, IsOpen}
use Rattle.tacho_ahead.specs.Outlook.{IsOutlook}
use Rattle.tacho_ahead.proofs.PlanLemmas.{none_from}
use Rattle.tacho_ahead.proofs.MarkLemmas.{AgreeFrom, outlook_same}
use Rattle.tacho_ahead.proofs.OneLemmas.{one_outlook}
use Rattle.tacho_sheet.specs.Ahead.{limit_lines, used_lines, IsAheadText, IsForecast, IsForecastOf, IsTooLate}
use Rattle.tacho_sheet.specs.Reports.{breach_line, debt_line, horizon_line}
use Rattle.tacho_sheet.specs.Stretches.{block}
use Rattle.tacho_sheet.specs.Why.{CanBeExamined}
use Rattle.tacho_sheet.proofs.MonthLemmas.{later_is}
use Rattle.tacho_sheet.proofs.TextLemmas.{pieces5}

-- ---- the last stretch

-- a list whose last member is this one
abbrev pub EndsWith : List Stretch → Stretch → Type 0
EndsWith xs s = (front : List Judged) × (map judged_of xs ≡ front ++ judged_of s ∷ [])

ends_more : (x s : Stretch) (xs : List Stretch) → EndsWith xs s → EndsWith (x ∷ xs) s
ends_more x s xs (front, is) = (judged_of x ∷ front, ap (λ (l : List Judged). judged_of x ∷ l) is)

-- the last of a list is after the others
pub last_of : (xs : List Stretch) (s : Stretch) → 0 < length xs → s ≡ get_or xs (length xs - 1) s → EndsWith xs s
last_of [] s some is = absurd (omega (arith, some))
last_of (x ∷ []) s some is = ([], ap (λ (y : Stretch). judged_of y ∷ []) (sym is))
last_of (x ∷ y ∷ xs) s some is =
    let at : length (x ∷ y ∷ xs) - 1 ≡ suc (length (y ∷ xs) - 1) = omega arith in
    let same : s ≡ get_or (y ∷ xs) (length (y ∷ xs) - 1) s = is ∙ ap (λ (n : ℕ). get_or (x ∷ y ∷ xs) n s) at in
    ends_more x s (y ∷ xs) (last_of (y ∷ xs) s (omega arith) same)

-- what is known of the last stretch from a base
record IsLast (held : List Span) (base end : ℕ) (last : Judged) : Type 0 where
  pub is : IsStretch held end last None
  pub later : base ≤ last.monday
  pub monday : IsBase base → IsBase last.monday

last_is : (held : List Span) (end start : ℕ) (front : List Judged) (last : Judged) → first_monday (front ++ last ∷ []) ≡ Some start
    → AreAll held end (front ++ last ∷ []) → IsLast held start end last
last_is held end start [] last first all =
    let same : last.monday ≡ start = cc in
    record {
      is = all.0;
      later = omega (arith, same);
      monday = λ is. subst IsBase (sym same) is;
    }
last_is held end start (s ∷ []) last first all =
    let same : s.monday ≡ start = cc in
    let at = all.0.report.is_horizon.from in
    let next : IsNextStart held s.horizon.minute (Some last.monday) = all.0.followed in
    let after = next.0.later in
    record { is = all.1.0; later = omega (arith, same, at, after); monday = λ is. next.0.monday }
last_is held end start (s ∷ t ∷ front) last first all =
    let same : s.monday ≡ start = cc in
    let at = all.0.report.is_horizon.from in
    let next : IsNextStart held s.horizon.minute (Some t.monday) = all.0.followed in
    let after = next.0.later in
    let more = last_is held end t.monday (t ∷ front) last refl all.1 in
    let later = more.later in
    record { is = more.is; later = omega (arith, same, at, after, later); monday = λ is. more.monday next.0.monday }

last_stretch : (held : List Span) (base : ℕ) (stretches front : List Judged) (last : Judged) → stretches ≡ front ++ last ∷ []
    → AreStretches held base stretches → (end : ℕ) × IsEndOfHeld held base end × IsLast held base end last
last_stretch held base stretches front last list are =
    let first = ap first_monday (sym list) ∙ are.first in
    (are.end, are.is_end, last_is held are.end base front last first (subst (AreAll held are.end) list are.all))

-- ---- nothing is held after it

not_held : (held : List Span) (m : ℕ) → ¬ (IsHeld held m) → mark_at held m ≡ None
not_held held m none = go (mark_at held m) refl where
  go : (o : Option Mark) → mark_at held m ≡ o → mark_at held m ≡ None
  go None e = e
  go (Some k) e = absurd (none (k, e))

none_unseen : (end horizon : ℕ) → unseen_to end horizon None ≡ None → end ≤ horizon
none_unseen end horizon e = go (nat_lt horizon end) refl e where
  go : (b : Bool) → nat_lt horizon end ≡ b → cond b (Some end) None ≡ None → end ≤ horizon
  go true is e = absurd (let wrong = e in cc)
  go false is e = grind (arith, nat_tests)

module _ (held line : List Span) (base : ℕ) (stretches front : List Judged) (last : Judged) (list : stretches ≡ front ++ last ∷ [])
    (are : AreStretches held base stretches) (none : last.unseen ≡ None) where
  -- nothing is held from the horizon on
  none_later : (m : ℕ) → last.horizon.minute ≤ m → mark_at held m ≡ None
  none_later m le =
      let (end, is_end, is) = last_stretch held base stretches front last list are in
      let by = none_unseen end last.horizon.minute (sym is.is.rest ∙ none) in
      not_held held m (is_end.after m (omega (arith, by, le)))

  -- a line that agrees with what is held, and has nothing after 2099, agrees with it at every minute from the base on
  agree_all : AgreeWithin base 68428800 line held → All (λ (s : Span). s.past ≤ 68374080) line → last.horizon.minute ≤ 68374080
      → AgreeFrom base line held
  agree_all agree within early m le = elim (cases_lt m 68428800) [
    | inl lt ↦ agree m (le, lt)
    | inr ge ↦
        none_from line 68374080 m within (omega (arith, ge)) ∙ sym (none_later m (omega (arith, ge, early)))
  ]

  -- so the forecast for the line can be made
  line_open : (start : ℕ) → AgreeFrom base line held → last.horizon.minute ≤ start → IsOpen line last.monday start
  line_open start agree from =
      let (end, is_end, is) = last_stretch held base stretches front last list are in
      let later = is.later in
      let at = is.is.report.is_horizon.from in
      record {
        horizon = last.horizon;
        is = record {
          from = at;
          single = λ m w.
              let l = w.0 in
              subst IsSingle (sym (agree m (omega (arith, later, l)))) (is.is.report.is_horizon.single m w);
          cause = subst (λ (o : Option Mark). IsCause o last.horizon.cause) (sym (agree last.horizon.minute (omega (arith, later, at))))
              is.is.report.is_horizon.cause;
        };
        early = from;
        none = λ m l. agree m (omega (arith, later, at, l)) ∙ none_later m l;
      }

  -- and can be examined
  line_examined : CanBeExamined line base → last.horizon.minute ≤ 68374080 → CanBeExamined line last.monday
  line_examined can early =
      let (end, is_end, is) = last_stretch held base stretches front last list are in
      let at = is.is.report.is_horizon.from in
      record { is_base = is.monday can.is_base; in_range = omega (arith, at, early); within = can.within }

-- a forecast for the line is one for what is held
forecast_same : (line held : List Span) (monday start : ℕ) (text : List ℕ) → AgreeFrom monday line held → IsForecast line monday start text
    → IsForecast held monday start text
forecast_same line held monday start text agree is = record {
  limits = is.limits;
  used = is.used;
  coming = is.coming;
  debts = is.debts;
  outlook = outlook_same line held monday start is.limits is.used is.coming is.debts agree is.outlook;
  week = is.week;
  here = is.here;
  is = is.is;
}

-- ---- what is written

-- nine pieces, one after the other
pub nine_pieces : (a b c d e f g h i t t1 t2 t3 t4 t5 t6 t7 t8 t9 : List ℕ) → t1 ≡ t ++ a → t2 ≡ t1 ++ b → t3 ≡ t2 ++ c → t4 ≡ t3 ++ d
    → t5 ≡ t4 ++ e → t6 ≡ t5 ++ f → t7 ≡ t6 ++ g → t8 ≡ t7 ++ h → t9 ≡ t8 ++ i
    → t9 ≡ t ++ (a ++ (b ++ (c ++ (d ++ (e ++ (f ++ (g ++ (h ++ (i ++ [])))))))))
nine_pieces a b c d e f g h i t t1 t2 t3 t4 t5 t6 t7 t8 t9 e1 e2 e3 e4 e5 e6 e7 e8 e9 =
    pieces5 a b c d (e ++ (f ++ (g ++ (h ++ (i ++ []))))) t t1 t2 t3 t4 t9 e1 e2 e3 e4
    (pieces5 e f g h (i ++ []) t4 t5 t6 t7 t8 t9 e5 e6 e7 e8 (e9 ∙ ap (λ (x : List ℕ). t8 ++ x) (sym (append-nil i))))

-- eleven pieces that are written at once, and two more
pub used_pieces : (a b c d e f g h i j k v w t t1 t2 t3 : List ℕ)
    → t1 ≡ t ++ (a ++ (b ++ (c ++ (d ++ (e ++ (f ++ (g ++ (h ++ (i ++ (j ++ k)))))))))) → t2 ≡ t1 ++ v → t3 ≡ t2 ++ w
    → t3 ≡ t ++ (a ++ (b ++ (c ++ (d ++ (e ++ (f ++ (g ++ (h ++ (i ++ (j ++ (k ++ (v ++ w))))))))))))
used_pieces a b c d e f g h i j k v w t t1 t2 t3 e1 e2 e3 = simp (e3, e2, e1, append_assoc) refl

-- a minute of the second week or later is in a week after another one
pub some_week : (m : ℕ) → 15840 ≤ m → (week : ℕ) × IsInWeek (week + 1) m
some_week m from = ((m - 15840) / 10080, (omega (arith, from), omega (arith, from)))

-- ---- the text for the last stretch

-- there is none where there isn't some
pub none_if : (o : Option ℕ) → is_some o ≡ false → o ≡ None
none_if None e = refl
none_if (Some x) e = absurd (let wrong = e in cc)

-- the later of two minutes
pub max_of : (a b m : ℕ) → m ≡ ord_max nat_cmp a b → m ≡ max a b
max_of a b m e = let (l, r, which) = later_is a b m e in omega (arith, l, r, which)

module _ (held line : List Span) (base : ℕ) (xs : List Stretch) (s : Stretch) (minute start : ℕ) (some : 0 < length xs)
    (is : s ≡ get_or xs (length xs - 1) s) (are : AreStretches held base (map judged_of xs)) (agree : AgreeWithin base 68428800 line held)
    (none : s.unseen ≡ None) (max_is : start ≡ max minute s.report.horizon.minute) (early : IsInTime start) where
  after : s.report.horizon.minute ≤ start
  after = omega (arith, max_is)

  in_range : s.report.horizon.minute ≤ 68374080
  in_range = let le = after in omega (arith, le, early)

  -- from the last stretch on, a line agrees with what is held
  agree_from : All (λ (x : Span). x.past ≤ 68374080) line → AgreeFrom s.monday line held
  agree_from within =
      let (front, list) = last_of xs s some is in
      let (end, is_end, last_is) = last_stretch held base (map judged_of xs) front (judged_of s) list are in
      let later : base ≤ s.monday = last_is.later in
      let same = agree_all held line base (map judged_of xs) front (judged_of s) list are none agree within in_range in
      λ m l. same m (omega (arith, later, l))

  -- the forecast for a line is that for what is held
  pub outlook_of : (limits : Limits) (used : Used) (coming : List Breach) (debts : List Debt)
      → All (λ (x : Span). x.past ≤ 68374080) line → IsOutlook line s.monday start limits used coming debts
      → IsOutlook held s.monday start limits used coming debts
  outlook_of limits used coming debts within = outlook_same line held s.monday start limits used coming debts (agree_from within)

  -- and so is its text
  pub ahead_of : (text forecast all : List ℕ) → All (λ (x : Span). x.past ≤ 68374080) line
      → text ≡ block (horizon_line s.report.horizon) (judged_of s) → all ≡ text ++ forecast → IsForecast line s.monday start forecast
      → IsAheadText held (map judged_of xs) minute all
  ahead_of text forecast all within written more forecast_is =
      let (front, list) = last_of xs s some is in
      let for_held = forecast_same line held s.monday start forecast (agree_from within) forecast_is in
      record {
        front = front;
        last = judged_of s;
        list = list;
        forecast = forecast;
        is_forecast =
            subst (λ (o : Option ℕ). IsForecastOf held minute (judged_of s) o forecast) (sym none)
            (subst (λ (m : ℕ). IsInTime m × IsForecast held s.monday m forecast) max_is (early, for_held));
        is = more ∙ ap (λ (x : List ℕ). x ++ forecast) written;
      }

  -- a line that can be examined from the base can be from the last stretch on, and is open
  pub can_be_made : CanBeExamined line base → CanBeExamined line s.monday × IsOpen line s.monday start
  can_be_made can =
      let (front, list) = last_of xs s some is in
      let same = agree_all held line base (map judged_of xs) front (judged_of s) list are none agree can.within in_range in (
        line_examined held line base (map judged_of xs) front (judged_of s) list are none can in_range,
        line_open held line base (map judged_of xs) front (judged_of s) list are none start same after,
      )

-- ---- the text is unique

one_forecast : (held : List Span) (base start : ℕ) (a b : List ℕ) → IsInTime start → IsForecast held base start a
    → IsForecast held base start b → a ≡ b
one_forecast held base start a b early x y =
    let same =
    one_outlook held base start x.limits y.limits x.used y.used x.coming y.coming x.debts y.debts (omega (arith, early))
    x.outlook y.outlook in
    let next : x.week + 1 ≡ y.week + 1 = one_week (x.week + 1) (y.week + 1) start x.here y.here in
    let week : x.week ≡ y.week = omega (arith, next) in
    x.is
    ∙ ap (λ (w : ℕ). used_lines start w x.used
    ++ (flat_map breach_line x.coming ++ (flat_map (debt_line start) x.debts ++ limit_lines start x.limits))) week
    ∙ ap (λ (u : Used). used_lines start y.week u
    ++ (flat_map breach_line x.coming ++ (flat_map (debt_line start) x.debts ++ limit_lines start x.limits))) same.1
    ∙ ap (λ (c : List Breach). used_lines start y.week y.used
    ++ (flat_map breach_line c ++ (flat_map (debt_line start) x.debts ++ limit_lines start x.limits))) same.2
    ∙ ap (λ (d : List Debt). used_lines start y.week y.used
    ++ (flat_map breach_line y.coming ++ (flat_map (debt_line start) d ++ limit_lines start x.limits))) same.3
    ∙ ap (λ (l : Limits). used_lines start y.week y.used
    ++ (flat_map breach_line y.coming ++ (flat_map (debt_line start) y.debts ++ limit_lines start l))) same.0
    ∙ sym y.is

one_forecast_of : (held : List Span) (minute : ℕ) (s : Judged) (unseen : Option ℕ) (a b : List ℕ) → IsForecastOf held minute s unseen a
    → IsForecastOf held minute s unseen b → a ≡ b
one_forecast_of held minute s None a b x y = one_forecast held s.monday (max minute s.horizon.minute) a b x.0 x.1 y.1
one_forecast_of held minute s (Some past) a b x y = x ∙ sym y

-- a list has one last member
pub one_last : (front front' : List Judged) (s t : Judged) → front ++ s ∷ [] ≡ front' ++ t ∷ [] → s ≡ t
one_last [] [] s t e = cc
one_last [] (y ∷ []) s t e = cc
one_last [] (y ∷ z ∷ front') s t e = cc
one_last (x ∷ []) [] s t e = cc
one_last (x ∷ z ∷ front) [] s t e = cc
one_last (x ∷ front) (y ∷ front') s t e = one_last front front' s t (let same = e in cc)

pub one_ahead : (held : List Span) (stretches : List Judged) (minute : ℕ) (a b : List ℕ) → IsAheadText held stretches minute a
    → IsAheadText held stretches minute b → a ≡ b
one_ahead held stretches minute a b x y =
    let same : x.last ≡ y.last = one_last x.front y.front x.last y.last (sym x.list ∙ y.list) in
    let forecast : x.forecast ≡ y.forecast =
    one_forecast_of held minute y.last y.last.unseen x.forecast y.forecast
    (subst (λ (s : Judged). IsForecastOf held minute s s.unseen x.forecast) same x.is_forecast) y.is_forecast in
    x.is
    ∙ ap (λ (s : Judged). block (horizon_line s.horizon) s ++ x.forecast) same
    ∙ ap (λ (t : List ℕ). block (horizon_line y.last.horizon) y.last ++ t) forecast
    ∙ sym y.is

in_time : (held : List Span) (minute : ℕ) (s : Judged) (unseen : Option ℕ) (text : List ℕ) → unseen ≡ None
    → IsForecastOf held minute s unseen text → IsInTime (max minute s.horizon.minute)
in_time held minute s None text e is = is.0
in_time held minute s (Some past) text e is = absurd (let wrong = e in cc)

-- there is none that would go past 2099
pub never_late : (held : List Span) (stretches : List Judged) (minute : ℕ) (text : List ℕ) → IsAheadText held stretches minute text
    → ¬ (IsTooLate stretches minute)
never_late held stretches minute text x late =
    let same : x.last ≡ late.last = one_last x.front late.front x.last late.last (sym x.list ∙ late.list) in
    late.late
    (in_time held minute late.last late.last.unseen x.forecast late.none_after
    (subst (λ (s : Judged). IsForecastOf held minute s s.unseen x.forecast) same x.is_forecast))
