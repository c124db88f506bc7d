-- A shelf's drivers are listed in the order of their numbers.
use Rattle.std.proofs.Common.{◌≡◌, ◌∙◌, ℕ, ◌≤◌, List, ◌++◌, append-nil, drop, drop_of_length-le, length, map, refl, sym, ap, subst}
use Rattle.std.specs.List.Sorted.{IsPermutation, IsSortedByKey}
use Rattle.std.specs.Ordering.{is_lt, nat_cmp}
use Rattle.std.proofs.lemmas.List.Sorted.{IsPermutation-map}
use Rattle.tacho_state.specs.declared.summary.DriverSummary.{DriverSummary}
use Rattle.tacho_state.specs.State.{State}
use Rattle.tacho_state.specs.Summaries.{AreSummaries, Summary, summary_of, told_summary}
use Rattle.tacho_state.proofs.SummaryLemmas.{sorted_map}

-- the summaries of all drivers, once they are sorted
pub sorted_summaries : (s rows : State) (n : ℕ) (found sorted : List DriverSummary) → length rows ≤ n
    → map told_summary found ++ map summary_of (drop n rows) ≡ map summary_of s → IsPermutation found sorted
    → IsSortedByKey (λ (d : DriverSummary). d.number) nat_cmp sorted → AreSummaries s (map told_summary sorted)
sorted_summaries s rows n found sorted past told same up =
    let all : map told_summary found ≡ map summary_of s =
    sym (append-nil (map told_summary found))
    ∙ ap (λ (left : State). map told_summary found ++ map summary_of left) (sym (drop_of_length-le rows past)) ∙ told in
    record {
      all = subst (λ (xs : List Summary). IsPermutation xs (map told_summary sorted)) all
          (IsPermutation-map told_summary found sorted same);
      sorted = sorted_map told_summary (λ (x y : Summary). is_lt (nat_cmp x.number y.number))
          (λ (x y : DriverSummary). is_lt (nat_cmp x.number y.number)) sorted (λ x y. refl) up;
    }
