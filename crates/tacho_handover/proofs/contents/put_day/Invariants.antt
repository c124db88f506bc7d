use Rattle.std.proofs.Common.{◌≡◌, ◌≤◌, ◌+◌, ◌++◌, ◌==◌, not, take}
use Rattle.std.specs.List.{filter}
use Rattle.arrayvec.specs.ArrayVec.{array_vec_len}
use Rattle.tacho_handover.proofs.contents.put_day.Given as goal

-- the signs so far, without hyphens
abbrev pub invariant-loop-sign : goal.invariant-loop-sign
invariant-loop-sign l =
    record {
      items : l.name.items ≡ l.fn.name.items ++ filter (λ c. not (c == 45)) (take l.sign-index l.sign-items);
      len : array_vec_len l.name ≤ array_vec_len l.fn.name + l.sign-index;
    }
