use Rattle.std.proofs.Common.{◌≡◌, ◌*◌, string_bytes}
use Rattle.tacho_state.specs.State.{State}
use Rattle.tacho_desk.proofs.HandoverLemmas.{IsSoFar}
use Rattle.tacho_state.specs.Acts.{OnlyRead}
use Rattle.tacho_desk.proofs.handover.handover.Given as goal

-- the archive was only read, and the parcel has those of the card files from this place on that cover the period
abbrev pub invariant-loop-place : goal.invariant-loop-place
invariant-loop-place g l =
    let k = g.K.Keeper in
    record {
      read : OnlyRead k.stands k.is_clean k.leaves k.is_same l.fn.keeper l.keeper;
      live : k.is_clean l.keeper → k.is_live l.keeper;
      start : l.parcel.start ≡ 1440 * l.period.from;
      past : l.parcel.past ≡ 1440 * l.period.past;
      so_far : k.is_clean l.keeper → (s : State) → k.stands l.fn.keeper s
          → IsSoFar l.driver s l.period l.listed l.files.items (string_bytes l.entries) (string_bytes l.missing) l.place l.parcel;
    }
