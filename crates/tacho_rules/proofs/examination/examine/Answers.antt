use Rattle.std.proofs.Common.{ℕ, [], map, refl}
use Rattle.tacho_line.specs.Walk.{cut_to}
use Rattle.tacho_rules.specs.Scan.{AreFindings}
use Rattle.tacho_rules.proofs.SliceLemmas.{slice_examined, as_line}
use Rattle.tacho_rules.proofs.FeedingLemmas.{report_answered}
use Rattle.tacho_rules.proofs.examination.examine.Goals as goal

pub feed_within-requires : goal.feed_within-requires
feed_within-requires c =
    let x =
    slice_examined c.horizon-horizon.ensures c.meeting-spans.ensures refl c.requires.monday c.requires.in_range
    c.requires.within in
    record {
      place = c.args.base;
      past = c.horizon-horizon.result.minute;
      at = c.new-scan.ensures.at;
      joined = x.joined;
      within = x.within;
    }

pub finish-requires : goal.finish-requires
finish-requires c =
    let x =
    slice_examined c.horizon-horizon.ensures c.meeting-spans.ensures refl c.requires.monday c.requires.in_range
    c.requires.within in
    c.in_ok-feed_within.ensures.at c.args.base c.horizon-horizon.result.minute c.new-scan.ensures.at x.joined

pub returns : goal.returns
returns c =
    let h = c.horizon-horizon.ensures in
    let slice = c.meeting-spans.ensures in
    let x = slice_examined h slice refl c.requires.monday c.requires.in_range c.requires.within in
    let past : ℕ = c.horizon-horizon.result.minute in
    let is =
    c.in_ok-feed_within.ensures.fed c.args.base []
    (c.new-scan.ensures.none c.empty-found.result c.empty-found.ensures.breaches c.empty-found.ensures.debts) in
    report_answered c.finish.result c.args.line.now c.args.base c.horizon-horizon.result h
    (λ r given.
    as_line h slice (λ line. AreFindings line c.args.base past r.breaches.items r.debts.items) refl
    (given c.args.base (map (cut_to c.args.base past) c.meeting-spans.result.now) is x))
    c.finish.ensures.horizon c.finish.ensures.report
