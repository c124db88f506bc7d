use Rattle.std.proofs.Common.{rules, map, ◌≡◌, ◌≤◌, ◌+◌, ◌*◌, ◌-◌, ◌++◌, ℕ, suc, List, arith, sym, ◌∙◌, append-nil, ap}
use Rattle.tacho_law.specs.Driving.{driving}
use Rattle.tacho_law.specs.Line.{Line, line_of}
use Rattle.tacho_evidence.specs.declared.line.EvidenceLine.{EvidenceLine}
use Rattle.tacho_evidence.specs.declared.line.EvidenceLine.TheVariants.{Drive}
use Rattle.tacho_evidence.specs.Evidence.{date_line}
use Rattle.tacho_evidence.specs.Totals.{raised}
use Rattle.tacho_evidence.proofs.WeekLinesLemmas.{date_some, date_none, dates_here, dates_other, dates_end, total_more, total_fits}
use Rattle.tacho_evidence.proofs.weeks.append_dates.Goals as goal
use Rattle.tacho_evidence.proofs.weeks.append_dates.Goals.{then-drive-gt0+in_ok-push, else-drive-gt0, then-start-date+in_ok-append_spans, else-start-date}

pub overflow_add-total : goal.overflow_add-total
overflow_add-total c =
    let line : Line = line_of c.args.examined.now.spans.now in
    let start : ℕ = c.args.monday + 1440 * c.loop-day.day in
    let t : c.loop-day.total + c.driving_minutes-drive.result ≡ driving line c.args.origin (start + 1440) =
    total_more line c.args.origin start c.loop-day.total c.driving_minutes-drive.result (omega arith) c.loop-day.invariant.total
    c.driving_minutes-drive.ensures in
    let b : c.loop-day.total + c.driving_minutes-drive.result ≤ start + 1440 =
    total_fits line c.args.origin (start + 1440) (c.loop-day.total + c.driving_minutes-drive.result) t in
    omega arith

pub append_spans-requires-clause-before : goal.append_spans-requires-clause-before
append_spans-requires-clause-before c =
    let start : ℕ = c.args.monday + 1440 * c.loop-day.day in
    let b : c.loop-day.total ≤ start =
    total_fits (line_of c.args.examined.now.spans.now) c.args.origin start c.loop-day.total c.loop-day.invariant.total in
    omega arith

pub overflow_add-total-in-loop-day : goal.overflow_add-total-in-loop-day
overflow_add-total-in-loop-day c =
    let line : Line = line_of c.args.examined.now.spans.now in
    let start : ℕ = c.args.monday + 1440 * c.loop-day.day in
    let t : c.loop-day.total + c.driving_minutes-drive.result ≡ driving line c.args.origin (start + 1440) =
    total_more line c.args.origin start c.loop-day.total c.driving_minutes-drive.result (omega arith) c.loop-day.invariant.total
    c.driving_minutes-drive.ensures in
    let b : c.loop-day.total + c.driving_minutes-drive.result ≤ start + 1440 =
    total_fits line c.args.origin (start + 1440) (c.loop-day.total + c.driving_minutes-drive.result) t in
    omega arith

pub loop-day-preserved : goal.loop-day-preserved
loop-day-preserved c =
    let line : Line = line_of c.args.examined.now.spans.now in
    let day : ℕ = c.loop-day.day in
    let start : ℕ = c.args.monday + 1440 * day in
    let next : ℕ = c.args.monday + 1440 * (day + 1) in
    let drive : ℕ = c.driving_minutes-drive.result in
    let done : List EvidenceLine = c.loop-day.lines.items in
    let step : start + 1440 ≡ next = omega arith in
    let count : 7 - day ≡ suc (7 - (day + 1)) = omega arith in
    let t : c.loop-day.total + drive ≡ driving line c.args.origin (start + 1440) =
    total_more line c.args.origin start c.loop-day.total drive (omega arith) c.loop-day.invariant.total c.driving_minutes-drive.ensures in
    let middle : c.if-drive-gt0.lines.items ≡ done ++ date_line line c.args.origin start = elim c.if-drive-gt0.branch [
      | then-drive-gt0+in_ok-push w ↦
          let is = date_some line c.args.origin start drive (c.loop-day.total + drive) (sym c.driving_minutes-drive.ensures) (sym t)
          w.if-drive-gt0.true in
          rw (w.lines-is, w.in_ok-push.ensures.items, is)
      | else-drive-gt0 w ↦
          let zero : driving line start (start + 1440) ≡ 0 = omega (arith, c.driving_minutes-drive.ensures) in
          rw (w.lines-is, date_none line c.args.origin start zero) (sym (append-nil done))
    ] in
    record {
      total = t ∙ ap (driving line c.args.origin) step;
      lines = elim c.if-start-date.branch [
        | then-start-date+in_ok-append_spans w ↦
            let same : start ≡ c.args.date = w.if-start-date.true in
            let before : c.loop-day.total ≡ driving line c.args.origin c.args.date =
            c.loop-day.invariant.total ∙ ap (driving line c.args.origin) same in
            let more : w.append_spans.new.lines.items ≡ c.if-drive-gt0.lines.items ++ map Drive (map (raised c.loop-day.total) c.args.spans.now) =
            w.in_ok-append_spans.ensures in
            dates_here line c.args.origin c.args.date c.args.spans.now start (7 - day) (7 - (day + 1)) next done c.if-drive-gt0.lines.items
            _ count step middle c.loop-day.invariant.lines c.if-start-date.lines.items
            (rw w.lines-is (more ∙ ap (λ (x : ℕ). c.if-drive-gt0.lines.items ++ map Drive (map (raised x) c.args.spans.now)) before)) same
        | else-start-date w ↦
            dates_other line c.args.origin c.args.date c.args.spans.now start (7 - day) (7 - (day + 1)) next done c.if-drive-gt0.lines.items
            _ count step middle c.loop-day.invariant.lines c.if-start-date.lines.items (search rules) w.if-start-date.false
      ];
    }

pub returns : goal.returns
returns c =
    dates_end (line_of c.args.examined.now.spans.now) c.args.origin c.args.date (c.args.monday + 1440 * c.loop-day.day)
    (7 - c.loop-day.day) c.args.spans.now c.loop-day.lines.items _ (omega arith) c.loop-day.invariant.lines
