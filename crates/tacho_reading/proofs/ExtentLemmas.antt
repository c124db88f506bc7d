-- The minutes of canonical spans go from the start of the first span to before the past of the last.
use Rattle.std.proofs.Common.{◌≡◌, ◌-◌, ◌≤◌, ◌<◌, List, length, Some, subst, arith}
use Rattle.std.specs.List.{slice_get}
use Rattle.std.proofs.lemmas.Option.{slice_get_within, get_or_from_slice_get}
use Rattle.tacho_time.specs.declared.span.Span.{Span}
use Rattle.tacho_time.specs.Spans.{IsCanonical}
use Rattle.tacho_line.proofs.AddLemmas.{first_bound, last_bound}
use Rattle.tacho_state.specs.Disjoint.{AreInRange}

-- all minutes of the spans are within that range
pub in_range : (spans : List Span) (first last : Span) → IsCanonical spans → slice_get spans 0 ≡ Some first
    → slice_get spans (length spans - 1) ≡ Some last → AreInRange first.start last.past spans
in_range spans first last h from to m k g =
    let some = slice_get_within spans 0 first from in
    let own = get_or_from_slice_get spans 0 first first from in
    let end = get_or_from_slice_get spans (length spans - 1) last last to in (
      subst (λ (s : Span). s.start ≤ m) own (first_bound spans m k first h g),
      subst (λ (s : Span). m < s.past) end (last_bound spans (length spans - 1) m k last h (omega (arith, some)) g),
    )
