use Rattle.std.proofs.Common.{◌≡◌, ◌≤◌, List, map, sym, subst, arith}
use Rattle.tacho_time.specs.declared.span.Span.{Span}
use Rattle.tacho_line.specs.Walk.{cut_to}
use Rattle.tacho_law.specs.Line.{Joined}
use Rattle.tacho_law.proofs.RunsLemmas.{joined_le}
use Rattle.tool_rows.proofs.CutLemmas.{cut_none}
use Rattle.tool_rows.proofs.rules.scanned.Goals as goal

pub new-scan-requires-clause-in_range : goal.new-scan-requires-clause-in_range
new-scan-requires-clause-in_range c =
    let by : c.args.base ≤ c.args.past = joined_le c.args.spans.now c.args.base c.args.past c.requires.joined in
    let within : c.args.past ≤ 68374080 = c.requires.within in
    omega arith

pub feed_within-requires : goal.feed_within-requires
feed_within-requires c =
    let same : map (cut_to c.args.base c.args.past) c.args.spans.now ≡ c.args.spans.now =
    cut_none c.args.spans.now c.args.base c.args.past c.args.base (omega arith) c.requires.joined in
    record {
      place = c.args.base;
      past = c.args.past;
      at = c.new-scan.ensures.at;
      joined = subst (λ (xs : List Span). Joined xs c.args.base c.args.past) (sym same) c.requires.joined;
      within = c.requires.within;
    }

pub finish-requires : goal.finish-requires
finish-requires c =
    let same : map (cut_to c.args.base c.args.past) c.args.spans.now ≡ c.args.spans.now =
    cut_none c.args.spans.now c.args.base c.args.past c.args.base (omega arith) c.requires.joined in
    c.in_ok-feed_within.ensures.at c.args.base c.args.past c.new-scan.ensures.at
    (subst (λ (xs : List Span). Joined xs c.args.base c.args.past) (sym same) c.requires.joined)
