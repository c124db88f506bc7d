-- Trusted: What is handed over of a driver and a period, as a tar file.
use Rattle.std.specs.Prelude.{◌≡◌, ℕ, ◌*◌, List, [], ◌∷◌, ◌++◌, All, map}
use Rattle.tacho_line.specs.declared.gap.Gap.{Gap}
use Rattle.tacho_line.specs.Line.{AreGaps}
use Rattle.tacho_state.specs.State.{Driver, held_spans}
use Rattle.tacho_state.specs.Steps.{numbered_from}
use Rattle.tacho_state.specs.Summaries.{summary_of}
use Rattle.tacho_tar.specs.Tar.{IsMember, Member, tar_bytes}
use Rattle.tacho_handover.specs.Contents.{card_member, contents_member, entries_member}
use Rattle.tacho_handover.specs.Covering.{AreHanded, Handed}

-- the card files, and then the entries
abbrev pub members_of : Driver → ℕ → ℕ → List Handed → List Member
members_of d start past handed =
    map (card_member d.holder) handed ++ entries_member start past (numbered_from 1 d.entries) ∷ []

-- and then the contents, with what the driver doesn't hold
abbrev pub all_members : List ℕ → ℕ → ℕ → Driver → List Handed → List Gap → List Member
all_members program from past d handed gaps =
    let before = members_of d (1440 * from) (1440 * past) handed in
    before ++ contents_member program (summary_of d) from past before gaps ∷ []

-- a tar file of the driver's card files that cover the period from the day `from` to before the day `past`, of their entries, and of the contents
pub record IsHandover (program : List ℕ) (from past : ℕ) (d : Driver) (bytes : List ℕ) : Type 0 where
  pub handed : List Handed
  pub are : AreHanded (1440 * from) (1440 * past) 1 d.downloads handed
  pub gaps : List Gap
  pub lacking : AreGaps (held_spans d) (1440 * from) (1440 * past) gaps
  pub plain : All IsMember (all_members program from past d handed gaps)
  pub is : bytes ≡ tar_bytes (all_members program from past d handed gaps)
