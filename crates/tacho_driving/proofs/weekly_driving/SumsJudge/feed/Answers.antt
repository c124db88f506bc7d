use Rattle.std.proofs.Common.{◌≡◌, ◌<◌, ◌++◌, Bool, ℕ, List, [], refl, ap, ◌∙◌}
use Rattle.tacho_time.specs.declared.span.Span.{Span}
use Rattle.tacho_law.specs.Driving.{is_drive}
use Rattle.tacho_law.specs.declared.breach.Breach.{Breach}
use Rattle.tacho_pass.specs.Found.{own_of}
use Rattle.tacho_pass.proofs.AppendingLemmas.{own_more}
use Rattle.tacho_driving.specs.declared.weekly_driving.Sums.{Sums}
use Rattle.tacho_pass.specs.Kinds.{is_b6_or_b7}
use Rattle.tacho_driving.specs.Sums.{through, through_found}
use Rattle.tacho_driving.proofs.SumsLemmas.{through_kinds, sums_fed}
use Rattle.tacho_driving.proofs.weekly_driving.SumsJudge.feed.Goals as goal

pub returns-clause-fed : goal.returns-clause-fed
returns-clause-fed c = λ base spans r.
    (let s : Sums = c.args.self.now in
    let x : Span = c.args.span in
    let old : List Breach = c.args.found.now.breaches.items in
    let own : List Breach = own_of is_b6_or_b7 old in
    let n : ℕ = c.ends_by-ends.result in
    let d : Bool = is_drive x.mark.activity in
    let some : x.start < x.past = c.requires.nonempty in
    let sums : c.go_through.new.self ≡ through n d x.start x.past s =
    c.in_ok-go_through.ensures.through ∙ rw (c.is_drive-drives.ensures, c.number-from.ensures.value, c.number-to.ensures.value) refl in
    let items : c.go_through.new.found.breaches.items ≡ old ++ through_found n d x.start s =
    c.in_ok-go_through.ensures.breaches ∙ rw (c.is_drive-drives.ensures, c.number-from.ensures.value) refl in
    let own_is : own_of is_b6_or_b7 c.go_through.new.found.breaches.items ≡ own ++ through_found n d x.start s =
    ap (own_of is_b6_or_b7) items ∙ own_more is_b6_or_b7 old (through_found n d x.start s)
    (through_kinds n d x.start s) in
    rw (own_is, sums) (sums_fed spans x base s own [] n r some c.ends_by-ends.ensures.ended c.ends_by-ends.ensures.open))
