use Rattle.std.proofs.Common.{◌≡◌, ◌↔◌, ◌∙◌, ◌+◌, ◌-◌, ◌++◌, ◌∷◌, ℕ, List, [], length, take, drop, map, append_assoc, refl, sym, ap, subst, arith, rules}
use Rattle.std.specs.List.{AllPairs, Contains}
use Rattle.tacho_time.specs.declared.span.Activity.TheVariants.{Drive, Rest}
use Rattle.tacho_line.specs.declared.horizon.Horizon.{Horizon}
use Rattle.tacho_line.specs.Walk.{cut_to}
use Rattle.tacho_law.specs.declared.breach.Breach.{Breach}
use Rattle.tacho_law.specs.Line.{Line, line_of}
use Rattle.tacho_law.specs.Order.{Earlier, HaveOwnPlaces}
use Rattle.tacho_rules.specs.Report.{examined_line}
use Rattle.tacho_rules.specs.Scan.{IsAt}
use Rattle.tacho_rules.proofs.ReportLemmas.{one_horizon}
use Rattle.tacho_rules.proofs.SliceLemmas.{slice_examined}
use Rattle.tacho_ahead.specs.Plans.{plan, rested, single, IsOpen}
use Rattle.tacho_ahead.specs.Used.{IsUsedOf}
use Rattle.tacho_ahead.specs.Fed.{IsFedTo, IsKnown, IsReady}
use Rattle.tacho_ahead.proofs.EndedLemmas.{coming_are, parts_and_drive, parts_line, same_fed}
use Rattle.tacho_ahead.proofs.PlanLemmas.{fed_first, ready_of, rests, rest_of, same_known, same_ready}
use Rattle.tacho_ahead.proofs.outlook.look_ahead.Goals as goal

pub feed_within-requires : goal.feed_within-requires
feed_within-requires c =
    let x =
    slice_examined c.horizon-horizon.ensures c.meeting.ensures refl c.requires.monday (search rules)
    c.requires.within in
    record {
      place = c.args.monday;
      past = c.horizon-horizon.result.minute;
      at = c.new-scan.ensures.at;
      joined = x.joined;
      within = x.within;
    }

pub added_at-requires-clause-at : goal.added_at-requires-clause-at
added_at-requires-clause-at c =
    let x =
    slice_examined c.horizon-horizon.ensures c.meeting.ensures refl c.requires.monday (search rules)
    c.requires.within in
    c.in_ok-feed_within.ensures.at c.args.monday c.horizon-horizon.result.minute c.new-scan.ensures.at x.joined

pub go_on-requires-clause-at : goal.go_on-requires-clause-at
go_on-requires-clause-at c =
    let x =
    slice_examined c.horizon-horizon.ensures c.meeting.ensures refl c.requires.monday (search rules)
    c.requires.within in
    subst (IsAt c.feed_within.new.self) (sym c.number.ensures.value)
    (c.in_ok-feed_within.ensures.at c.args.monday c.horizon-horizon.result.minute c.new-scan.ensures.at x.joined)

pub returns : goal.returns
returns c =
    let line = c.args.line.now in
    let base : ℕ = c.args.monday in
    let start : ℕ = c.args.start in
    let h = c.horizon-horizon.result in
    let end : ℕ = h.minute in
    let in_time = c.requires.early in
    let asked = c.requires.ended in
    let same : end ≡ asked.horizon.minute =
    ap (λ (x : Horizon). x.minute) (one_horizon line base h asked.horizon c.horizon-horizon.ensures asked.is) in
    let early = asked.early in
    let ends : IsOpen line base start = record {
      horizon = h;
      is = c.horizon-horizon.ensures;
      early = omega (arith, same, early);
      none = λ m l. asked.none m (omega (arith, same, l));
    } in
    let forward = ends.early in
    let held = rested line end start in
    let x =
    slice_examined c.horizon-horizon.ensures c.meeting.ensures refl c.requires.monday (search rules)
    c.requires.within in
    let front = c.feed_within.new.found.breaches.items in
    let fed : IsFedTo c.feed_within.new.self c.feed_within.new.found line base end = record {
      monday = x.base_is;
      parts = map (cut_to base end) c.meeting.result.now;
      joined = x.joined;
      single = x.single;
      held = λ m k g. ((c.meeting.ensures.same m k).0 g).1;
      scanned =
          c.in_ok-feed_within.ensures.fed base []
          (c.new-scan.ensures.none c.empty-found.result c.empty-found.ensures.breaches c.empty-found.ensures.debts);
    } in
    let fed1 = same_fed c.feed_within.new.self c.feed_within.new.found c.added_at.new.found line base end c.in_ok-reported.ensures.same fed in
    let ready : IsReady c.go_on.new.scan c.go_on.new.found held base start =
    ready_of c.feed_within.new.self c.go_on.new.scan c.added_at.new.found c.go_on.new.found line base end start ends.none c.requires.within
    forward (omega (arith, in_time)) fed1
    (rw (c.number.ensures.value, c.number-2.ensures.value) at c.in_ok-go_on.ensures.fed) in
    let ready2 = same_ready c.go_on.new.scan c.go_on.new.found c.debts_at.new.found held base start c.in_ok-debts.ensures.same ready in
    let known2 : IsKnown c.go_on.new.scan c.debts_at.new.found c.in_ok-had.had.items held base start =
    subst (λ (n : ℕ). IsKnown c.go_on.new.scan c.debts_at.new.found c.in_ok-had.had.items held base n) c.number-first.ensures.value
    (c.in_ok-had.ensures.known held base
    (subst (λ (n : ℕ). IsReady c.go_on.new.scan c.debts_at.new.found held base n) (sym c.number-first.ensures.value) ready2)) in
    let known3 =
    same_known c.go_on.new.scan c.debts_at.new.found c.at_rest.new.found c.in_ok-had.had.items held base start c.in_ok-had.ensures.same
    known2 in
    let known4 = subst (λ (xs : List Breach). IsKnown c.go_on.new.scan c.at_rest.new.found xs held base start) (sym c.deref.ensures.value) known3 in
    let ready3 = known3.ready in
    let ready4 = same_ready c.go_on.new.scan c.at_rest.new.found c.limits_at.new.found held base start c.in_ok-limits.ensures.same ready3 in
    let goes = rests held start ready4.none ready4.within start (omega arith) (omega (arith, in_time)) in
    let begun =
    fed_first c.go_on.new.scan c.limits_at.new.found held (single start start Drive ∷ single start (start + 50400) Rest ∷ []) base start
    ready4.fed in
    let all =
    (rw c.number-first.ensures.value at c.in_ok-drive_and_rest.ensures.all) (plan held start start) base begun goes in
    let more1 = c.go_on.ensures.appends.breaches in
    let more2 = c.drive_and_rest.ensures.appends.breaches in
    let list : c.drive_and_rest.new.found.breaches.items ≡ front ++ (more1 ++ more2) =
    c.drive_and_rest.ensures.appends.longer
    ∙ ap (λ (xs : List Breach). xs ++ more2)
    (c.in_ok-limits.ensures.same.breaches ∙ c.in_ok-had.ensures.same.breaches ∙ c.in_ok-debts.ensures.same.breaches
    ∙ c.go_on.ensures.appends.longer ∙ ap (λ (xs : List Breach). xs ++ more1) c.in_ok-reported.ensures.same.breaches)
    ∙ append_assoc front more1 more2 in
    let n = c.len-known.result in
    let v = c.deref-2.result.now in
    let count : n ≡ length front = search rules in
    let cut : take (length v - n) (drop n v) ≡ more1 ++ more2 = rest_of v front (more1 ++ more2) n (c.deref-2.ensures.value ∙ list) count in
    let coming = c.in_ok-coming.coming.items in
    let added = c.in_ok-reported.reported.items in
    let reported =
    c.in_ok-reported.ensures.added line base fed (record { none = ends.none end (omega arith); within = c.requires.within }) in
    let parts = c.in_ok-spans.ensures in
    let driven =
    parts_and_drive held base start c.in_ok-spans.spans.items parts ready.none in
    record {
      is_open = ends;
      are_limits = c.in_ok-limits.ensures.limits held base known4;
      is_used =
          subst (λ (l : Line). IsUsedOf l (examined_line (plan held start (start + 1)) base (start + 1)) start c.in_ok-used.used)
          (parts_line held base start c.in_ok-spans.spans.items parts)
          (subst (λ (l : Line). IsUsedOf (line_of c.in_ok-spans.spans.items) l start c.in_ok-used.used)
          (parts_line (plan held start (start + 1)) base (start + 1)
          (c.in_ok-spans.spans.items ++ single start (start + 1) Drive ∷ []) driven)
          c.in_ok-used.ensures);
      are_coming =
          coming_are line base end start front (more1 ++ more2) added coming c.drive_and_rest.new.found list all reported
          (subst (λ (xs : List Breach). (b : Breach) → Contains coming b ↔ (Contains xs b × (Contains added b → ⊥))) cut
          (subst (λ (xs : List Breach). (b : Breach)
          → Contains coming b ↔ (Contains (take (length v - n) (drop n v)) b × (Contains xs b → ⊥))) c.deref-3.ensures.value
          c.in_ok-coming.ensures.each))
          (subst (λ (xs : List Breach). HaveOwnPlaces xs → AllPairs Earlier coming) cut c.in_ok-coming.ensures.in_order);
      are_debts = c.in_ok-debts.ensures.debts held base ready;
    }
