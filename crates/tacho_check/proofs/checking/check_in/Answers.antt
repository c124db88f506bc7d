use Rattle.std.proofs.Common.{rules, ◌≡◌, ℤ, pos, ◌<◌, ◌≤◌, List, None, Ok, length, slice_index_or, subst, to_z-of_z, SFits, w64}
use Rattle.tacho_tables.specs.Ask.{own_in}
use Rattle.tacho_check.specs.Judged.{IsJudged}
use Rattle.tacho_check.proofs.CheckLemmas.{one_more, all_checked, found_checked}
use Rattle.tacho_check.proofs.LearnLemmas.{both, learned, learned_none}
use Rattle.tacho_check.proofs.checking.check_in.Goals as goal

pub loop-number-preserved : goal.loop-number-preserved
loop-number-preserved g c =
    let ns : List ℤ = c.deref-number-items.result.now in
    let i = c.loop-number.number-index in
    let x : ℤ = slice_index_or ns i (pos 0) in
    let within : i < length ns = search rules in
    let fits : SFits w64 x = search rules in
    let at : x ≡ slice_index_or ns i x = search rules in
    let none : c.in_ok-found.found ≡ None = search rules in
    learned c.in_ok-found.found (Ok ns) (both c.loop-number.invariant c.in_ok-found.ensures)
    (λ is read ready.
    let so_far = read.0 ready in
    let judged = rw (to_z-of_z fits) at read.1 ready in (
      so_far.0,
      one_more is.layout _ ready ns i x within at so_far.1 (subst (IsJudged (own_in is.layout _ x) x) none judged),
    ))

pub returns-in-Some : goal.returns-in-Some
returns-in-Some g c =
    let ns : List ℤ = c.deref-number-items.result.now in
    let i = c.loop-number.number-index in
    let x : ℤ = slice_index_or ns i (pos 0) in
    let within : i < length ns = search rules in
    let fits : SFits w64 x = search rules in
    let at : x ≡ slice_index_or ns i x = search rules in
    learned c.in_ok-found.found _ (both c.loop-number.invariant c.in_ok-found.ensures)
    (λ is read ready.
    let so_far = read.0 ready in
    let judged = rw (to_z-of_z fits) at read.1 ready in
    rw (to_z-of_z fits) (found_checked is.layout _ ready ns i x so_far.0 within at so_far.1 c.in-Some.table
    (subst (IsJudged (own_in is.layout _ x) x) c.in-Some.is judged)))

pub returns-in_err-found : goal.returns-in_err-found
returns-in_err-found g c = learned_none _ _ (both c.loop-number.invariant c.in_err-found.ensures) c.from_residual-in_err-found.ensures.0

pub returns : goal.returns
returns g c =
    let ns : List ℤ = c.deref-number-items.result.now in
    let past : length ns ≤ c.loop-number.number-index = search rules in
    learned ns (Ok None) c.loop-number.invariant
    (λ is so_far ready. all_checked is.layout _ ready ns c.loop-number.number-index (so_far ready).0 past (so_far ready).1)
