-- A withdrawal of a range of entries, which are all checked first and marked then.
use Rattle.std.proofs.Common.{◌≡◌, ℕ, suc, ◌+◌, ◌-◌, ◌<◌, ◌≤◌, List, Ok, Err, sym, ap, ◌∙◌, subst, arith}
use Rattle.tacho_state.specs.declared.fault.StoreFault.{StoreFault}
use Rattle.tacho_state.specs.State.{Driver, Entry, marked_from, with_marked}
use Rattle.tacho_state.specs.Steps.{and_then, withdraw_own, withdraw_from}
use Rattle.tacho_state.proofs.RangeLemmas.{IsKept, done_kept, kept_done, one_more, refused_at, refused_still, still_kept}
use Rattle.tacho_shelf.specs.Shelf.{IsEntered}

-- the entry with a number can be withdrawn
kept : (d : Driver) (number : ℕ) → IsEntered d.entries number → IsKept d number
kept d number h = record { entry = h.0; there = h.1; kept = h.2 }

-- so it is withdrawn, and nothing else of the driver changes
pub is_done : (d : Driver) (number : ℕ) (es : List Entry) → IsEntered d.entries number → es ≡ marked_from 1 number d.entries
    → withdraw_own number d ≡ Ok (tt, record d { entries = es })
is_done d number es h e = kept_done d number (kept d number h) ∙ ap (λ (xs : List Entry). Ok (tt, record d { entries = xs })) (sym e)

-- ---- the check

-- the least number that can't be withdrawn refuses the range
pub range_refused : (first number last : ℕ) (d : Driver) (fault : StoreFault) → first ≤ number → number ≤ last
    → ((i : ℕ) → i < number → first ≤ i → IsEntered d.entries i) → withdraw_own number d ≡ Err fault
    → withdraw_from first (last + 1 - first) d ≡ Err fault
range_refused first number last d fault low high before refused =
    let all : last + 1 - first ≡ suc (number - first) + (last - number) = omega (arith, low, high) in
    let past : first + (number - first) ≡ number = omega (arith, low) in
    ap (λ k. withdraw_from first k d) all
    ∙ refused_still (last - number) (suc (number - first)) first d fault
    (refused_at (number - first) first d fault (λ i l h. kept d i (before i (omega (arith, low, h)) l))
    (ap (λ k. withdraw_own k d) past ∙ refused))

-- ---- the marks

-- the entries from `first` to before `number` are withdrawn, and those from `number` to `last` can be
pub record HasMarked (first number last : ℕ) (old d : Driver) : Type 0 where
  pub done : withdraw_from first (number - first) old ≡ Ok (tt, d)
  pub left : (i : ℕ) → number ≤ i → i ≤ last → IsKept d i

-- at first none is
pub none_marked : (first last : ℕ) (d : Driver) → ((i : ℕ) → first ≤ i → i ≤ last → IsEntered d.entries i)
    → HasMarked first first last d d
none_marked first last d h =
    let none : first - first ≡ 0 = omega arith in
    record {
      done = ap (λ k. withdraw_from first k d) none;
      left = λ i low high. kept d i (h i low high);
    }

-- then it is withdrawn too
pub one_marked : (first number last : ℕ) (old d after : Driver) → first ≤ number → HasMarked first number last old d
    → withdraw_own number d ≡ Ok (tt, after) → HasMarked first (number + 1) last old after
one_marked first number last old d after low h e =
    let count : number + 1 - first ≡ suc (number - first) = omega (arith, low) in
    let past : first + (number - first) ≡ number = omega (arith, low) in
    let is : after ≡ with_marked number d = (done_kept d after number tt e).1 in
    record {
      done = ap (λ k. withdraw_from first k old) count ∙ one_more (number - first) first old
          ∙ ap (λ r. and_then r (withdraw_own (first + (number - first)))) h.done ∙ ap (λ k. withdraw_own k d) past ∙ e;
      left = λ i l high.
          subst (λ (x : Driver). IsKept x i) (sym is)
          (still_kept d number i (λ same. omega (arith, same, l)) (h.left i (omega (arith, l)) high));
    }

-- after the last number all are
pub last_marked : (first number last : ℕ) (old d after : Driver) → HasMarked first number last old d → first ≤ number
    → last ≤ number → number ≤ last → withdraw_own number d ≡ Ok (tt, after) → withdraw_from first (last + 1 - first) old ≡ Ok (tt, after)
last_marked first number last old d after h low past high e =
    let end : number + 1 ≡ last + 1 = omega (arith, past, high) in
    ap (λ (k : ℕ). withdraw_from first (k - first) old) (sym end) ∙ (one_marked first number last old d after low h e).done
