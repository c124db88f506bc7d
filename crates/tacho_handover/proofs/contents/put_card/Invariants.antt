use Rattle.std.proofs.Common.{◌≡◌, ◌+◌, ◌++◌, map, take}
use Rattle.arrayvec.specs.ArrayVec.{array_vec_len}
use Rattle.tacho_handover.specs.Contents.{safe_sign}
use Rattle.tacho_handover.proofs.contents.put_card.Given as goal

-- the signs so far
abbrev pub invariant-loop-sign : goal.invariant-loop-sign
invariant-loop-sign l =
    record {
      items : l.name.items ≡ l.fn.name.items ++ map safe_sign (take l.sign-index l.sign-items);
      len : array_vec_len l.name ≡ array_vec_len l.fn.name + l.sign-index;
    }
