-- A forecast depends on the marks from the base on alone (`laws`).
use Rattle.std.proofs.Common.{◌≡◌, ℕ, ◌+◌, ◌≤◌, ◌&&◌, nat_lt, nat_le, Bool, true, false, cond, List, [], ◌∷◌, ◌++◌, Option, None, Some, refl, sym, ap, subst, ◌∙◌, arith}
use Rattle.std.proofs.lemmas.Bool.Decides.{nat_tests}
use Rattle.std.proofs.Math.Path.{fun_ext}
use Rattle.std.specs.Option.{option_map_or}
use Rattle.tacho_time.specs.declared.span.Activity.TheVariants.{Rest, Drive, Work}
use Rattle.tacho_time.specs.declared.span.Mark.{Mark}
use Rattle.tacho_time.specs.declared.span.Span.{Span}
use Rattle.tacho_line.specs.Line.{mark_at, IsSingle, IsCause}
use Rattle.tacho_law.specs.declared.breach.Breach.{Breach}
use Rattle.tacho_law.specs.declared.breach.Kind.{Kind}
use Rattle.tacho_law.specs.declared.breach.Kind.TheVariants.{B1, B2, B3, B4, B5, B6, B7, B8, B9, B10}
use Rattle.tacho_law.specs.declared.debt.Debt.{Debt}
use Rattle.tacho_law.specs.Line.{Line}
use Rattle.tacho_law.proofs.ExactlyLemmas.{exactly_as}
use Rattle.tacho_law.specs.Order.{Earlier}
use Rattle.tacho_rules.specs.Report.{examined_line}
use Rattle.tacho_rules.proofs.JoinedLemmas.{held_first, held_after}
use Rattle.tacho_stretches.proofs.NearLemmas.{near_report}
use Rattle.tacho_ahead.specs.declared.limits.Limits.{Limits}
use Rattle.tacho_ahead.specs.declared.used.Used.{Used}
use Rattle.tacho_ahead.specs.Plans.{single, rested, plan, plan_for, IsOpen, IsReported}
use Rattle.tacho_ahead.specs.Ahead.{Breaks, BreaksNone, IsLimit, limit_of}
use Rattle.tacho_ahead.specs.Used.{IsUsed, IsUsedOf}
use Rattle.tacho_ahead.specs.Outlook.{IsComing, IsOutlook}

-- both lines hold the same from the base on
abbrev pub AgreeFrom : ℕ → List Span → List Span → Type 0
AgreeFrom base held other = (m : ℕ) → base ≤ m → mark_at held m ≡ mark_at other m

agree_back : (base : ℕ) (held other : List Span) → AgreeFrom base held other → AgreeFrom base other held
agree_back base held other agree m le = sym (agree m le)

-- so they do with the same spans after them
agree_more : (base : ℕ) (held other more : List Span) → AgreeFrom base held other → AgreeFrom base (held ++ more) (other ++ more)
agree_more base held other more agree m le = go (mark_at held m) refl (agree m le) where
  go : (o : Option Mark) → mark_at held m ≡ o → mark_at held m ≡ mark_at other m → mark_at (held ++ more) m ≡ mark_at (other ++ more) m
  go None e same = held_after held more m e ∙ sym (held_after other more m (sym same ∙ e))
  go (Some k) e same = held_first held more m k e ∙ sym (held_first other more m k (sym same ∙ e))

agree_plan : (base : ℕ) (held other : List Span) → AgreeFrom base held other → (kind : Kind) (start x : ℕ)
    → AgreeFrom base (plan_for kind held start x) (plan_for kind other start x)
agree_plan base held other agree B3 start x =
    agree_more base held other
    (single start x Drive ∷ single x (x + 660) Rest ∷ single (x + 660) (x + 661) Work ∷ single (x + 661) (x + 51061) Rest ∷ []) agree
agree_plan base held other agree B1 start x = agree_more base held other (single start x Drive ∷ single x (x + 50400) Rest ∷ []) agree
agree_plan base held other agree B2 start x = agree_more base held other (single start x Drive ∷ single x (x + 50400) Rest ∷ []) agree
agree_plan base held other agree B4 start x = agree_more base held other (single start x Drive ∷ single x (x + 50400) Rest ∷ []) agree
agree_plan base held other agree B5 start x = agree_more base held other (single start x Drive ∷ single x (x + 50400) Rest ∷ []) agree
agree_plan base held other agree B6 start x = agree_more base held other (single start x Drive ∷ single x (x + 50400) Rest ∷ []) agree
agree_plan base held other agree B7 start x = agree_more base held other (single start x Drive ∷ single x (x + 50400) Rest ∷ []) agree
agree_plan base held other agree B8 start x = agree_more base held other (single start x Drive ∷ single x (x + 50400) Rest ∷ []) agree
agree_plan base held other agree B9 start x = agree_more base held other (single start x Drive ∷ single x (x + 50400) Rest ∷ []) agree
agree_plan base held other agree B10 start x = agree_more base held other (single start x Drive ∷ single x (x + 50400) Rest ∷ []) agree

-- the examined line is the same
examined_same : (held other : List Span) (base end : ℕ) → AgreeFrom base held other
    → examined_line held base end ≡ examined_line other base end
examined_same held other base end agree = fun_ext each where
  go : (m : ℕ) (b : Bool) → nat_le base m && nat_lt m end ≡ b
      → cond b (option_map_or (λ (mark : Mark). mark.activity) (mark_at held m) Rest) Rest
      ≡ cond b (option_map_or (λ (mark : Mark). mark.activity) (mark_at other m) Rest) Rest
  go m true e = ap (λ (o : Option Mark). option_map_or (λ (mark : Mark). mark.activity) o Rest) (agree m (grind (arith, nat_tests)))
  go m false e = refl

  each : (m : ℕ) → examined_line held base end m ≡ examined_line other base end m
  each m = go m (nat_le base m && nat_lt m end) refl

-- a breach is reported of both
pub reported_same : (held other : List Span) (base : ℕ) (breach : Breach) → AgreeFrom base held other → IsReported held base breach
    → IsReported other base breach
reported_same held other base breach agree is = record {
  horizon = is.horizon;
  found = is.found;
  debts = is.debts;
  report = near_report held other base is.horizon is.found is.debts (λ m l r. agree m l) is.report;
  has = is.has;
}

breaks_same : (held other : List Span) (base start : ℕ) (kind : Kind) (x : ℕ) → AgreeFrom base held other → Breaks held base start kind x
    → Breaks other base start kind x
breaks_same held other base start kind x agree (breach, is) = (
  breach,
  record {
    kind_is = is.kind_is;
    reported =
        reported_same (plan_for kind held start x) (plan_for kind other start x) base breach
        (agree_plan base held other agree kind start x) is.reported;
    new = λ told. is.new (reported_same (plan other start start) (plan held start start) base breach
        (agree_plan base other held (agree_back base held other agree) B1 start start) told);
  },
)

none_same : (held other : List Span) (base start : ℕ) (kind : Kind) (past : ℕ) → AgreeFrom base held other
    → BreaksNone held base start kind past → BreaksNone other base start kind past
none_same held other base start kind past agree none x later within breaks =
    none x later within (breaks_same other held base start kind x (agree_back base held other agree) breaks)

limit_same : (held other : List Span) (base start : ℕ) (kind : Kind) (limit : Option ℕ) → AgreeFrom base held other
    → IsLimit held base start kind limit → IsLimit other base start kind limit
limit_same held other base start kind None agree is = (is.0, is.1, none_same held other base start kind is.0 agree is.2)
limit_same held other base start kind (Some until) agree is = (
  is.0,
  is.1,
  none_same held other base start kind until agree is.2,
  breaks_same held other base start kind (until + 1) agree is.3,
)

coming_same : (held other : List Span) (base horizon start : ℕ) (breach : Breach) → AgreeFrom base held other
    → IsComing held base horizon start breach → IsComing other base horizon start breach
coming_same held other base horizon start breach agree is =
    let more = agree_more base held other (single horizon start Rest ∷ []) agree in
    record {
      reported =
          reported_same (plan (rested held horizon start) start start) (plan (rested other horizon start) start start) base breach
          (agree_plan base (rested held horizon start) (rested other horizon start) more B1 start start) is.reported;
      new = λ told. is.new (reported_same other held base breach (agree_back base held other agree) told);
    }

used_same : (held other : List Span) (base start : ℕ) (used : Used) → AgreeFrom base held other → IsUsed held base start used
    → IsUsed other base start used
used_same held other base start used agree is =
    subst (λ (l : Line). IsUsedOf l (examined_line (plan other start (start + 1)) base (start + 1)) start used)
    (examined_same held other base start agree)
    (subst (λ (l : Line). IsUsedOf (examined_line held base start) l start used)
    (examined_same (plan held start (start + 1)) (plan other start (start + 1)) base (start + 1)
    (agree_plan base held other agree B1 start (start + 1))) is)

open_same : (held other : List Span) (base start : ℕ) → AgreeFrom base held other → IsOpen held base start → IsOpen other base start
open_same held other base start agree is =
    let from = is.is.from in
    record {
      horizon = is.horizon;
      is = record {
        from = is.is.from;
        single = λ m w. subst IsSingle (agree m w.0) (is.is.single m w);
        cause = subst (λ (o : Option Mark). IsCause o is.horizon.cause) (agree is.horizon.minute is.is.from) is.is.cause;
      };
      early = is.early;
      none = λ m l. sym (agree m (omega (arith, from, l))) ∙ is.none m l;
    }

pub outlook_same : (held other : List Span) (base start : ℕ) (limits : Limits) (used : Used) (coming : List Breach) (debts : List Debt)
    → AgreeFrom base held other → IsOutlook held base start limits used coming debts
    → IsOutlook other base start limits used coming debts
unfolding open_same
outlook_same held other base start limits used coming debts agree is =
    let h = is.is_open.horizon.minute in
    let more = agree_more base held other (single h start Rest ∷ []) agree in
    record {
      is_open = open_same held other base start agree is.is_open;
      are_limits = λ kind.
          limit_same (rested held h start) (rested other h start) base start kind (limit_of limits kind) more (is.are_limits kind);
      is_used = used_same (rested held h start) (rested other h start) base start used more is.is_used;
      are_coming =
          exactly_as (IsComing held base h start) (IsComing other base h start) Earlier coming
          (λ breach. (
            coming_same held other base h start breach agree,
            coming_same other held base h start breach (agree_back base held other agree),
          )) is.are_coming;
      are_debts = record {
        horizon = is.are_debts.horizon;
        found = is.are_debts.found;
        debts = is.are_debts.debts;
        report =
            near_report (rested held h start) (rested other h start) base is.are_debts.horizon is.are_debts.found is.are_debts.debts
            (λ m l r. more m l) is.are_debts.report;
        are = is.are_debts.are;
      };
    }
