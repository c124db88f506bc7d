use Rattle.std.proofs.Common.{ℕ, Option}
use Rattle.tacho_law.specs.declared.breach.Kind.{Kind}
use Rattle.tacho_law.specs.declared.breach.Kind.TheVariants.{B1, B2, B4, B5, B6, B7, B8, B9, B10}
use Rattle.tacho_ahead.specs.Ahead.{IsLimit}
use Rattle.tacho_ahead.proofs.PlanLemmas.{same_known, same_then}
use Rattle.tacho_ahead.proofs.LimitLemmas.{limits_all}
use Rattle.tacho_ahead.proofs.limits.limits_at.Goals as goal

pub returns-clause-same : goal.returns-clause-same
returns-clause-same c =
    same_then c.args.found.now c.search.new.found c.limit.new.found c.in_ok-others.ensures.same c.in_ok-reduced_rest.ensures.same

pub returns-clause-limits : goal.returns-clause-limits
returns-clause-limits c = λ held base known.
    let after = same_known c.args.scan.now c.args.found.now c.search.new.found c.args.had.now held base c.args.start
    c.in_ok-others.ensures.same known in
    let others = c.in_ok-others.ensures.limits held base known in
    limits_all (λ (kind : Kind) (o : Option ℕ). IsLimit held base c.args.start kind o) (record {
      breaks = c.in_ok-others.others.breaks;
      daily_rest = c.in_ok-others.others.daily_rest;
      reduced_rest = c.in_ok-reduced_rest.reduced_rest;
      extended_day = c.in_ok-others.others.extended_day;
      third_day = c.in_ok-others.others.third_day;
      week = c.in_ok-others.others.week;
      two_weeks = c.in_ok-others.others.two_weeks;
      late_rest = c.in_ok-others.others.late_rest;
      missing_rest = c.in_ok-others.others.missing_rest;
    })
    (others B1 (λ e. cc))
    (others B2 (λ e. cc))
    (c.in_ok-reduced_rest.ensures.limit held base after)
    (others B4 (λ e. cc))
    (others B5 (λ e. cc))
    (others B6 (λ e. cc))
    (others B7 (λ e. cc))
    (others B8 (λ e. cc))
    (others B9 (λ e. cc))
    (others B10 (λ e. cc))
