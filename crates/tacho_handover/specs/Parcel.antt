-- Trusted in part: A handover that is being made.
use Rattle.std.specs.Prelude.{◌≡◌, ◌⊎◌, ◌++◌, ◌∷◌, [], ℕ, List, All, codes, flat_map, map}
use Rattle.tacho_time.specs.declared.span.Span.{Span}
use Rattle.tacho_time.specs.declared.span.Mark.{Mark}
use Rattle.tacho_time.specs.Spans.{Gives, SamePairs}
use Rattle.tacho_line.specs.Line.{Holds, IsWithin}
use Rattle.tacho_line.specs.declared.gap.Gap.{Gap}
use Rattle.tacho_state.specs.State.{Download}
use Rattle.tacho_state.specs.Summaries.{Summary}
use Rattle.tacho_tar.specs.Tar.{IsMember, Member, member_bytes, tar_bytes}
use Rattle.tacho_handover.specs.Contents.{card_member, contents_member, file_line, missing_line}
use Rattle.tacho_handover.specs.Covering.{AreHanded, GivenBy, Handed}

-- the period, what the card files so far give in it, the files' bytes, and their lines in the contents
pub record Parcel : Type 0 where
  pub start : ℕ
  pub past : ℕ
  pub held : List Span
  pub tar : List ℕ
  pub lines : List ℕ

-- the parcel has these files
pub record HasMembers (members : List Member) (p : Parcel) : Type 0 where
  pub tar : p.tar ≡ flat_map member_bytes members
  pub lines : p.lines ≡ flat_map file_line members
  pub plain : All IsMember members

-- what card files give in the period
abbrev pub GivenIn : ℕ → ℕ → List Download → ℕ → Mark → Type 0
GivenIn start past ds m mark = IsWithin start past m × GivenBy ds m mark

-- the parcel has those of a holder's card files that cover the period, if the first of them has number `i`
pub record HasFiles (holder : List ℕ) (i : ℕ) (ds : List Download) (p : Parcel) : Type 0 where
  pub handed : List Handed
  pub are : AreHanded p.start p.past i ds handed
  pub held : SamePairs (Holds p.held) (GivenIn p.start p.past ds)
  pub members : HasMembers (map (card_member holder) handed) p

-- the tar file of a parcel's files, and after them the entries and the contents
abbrev pub IsClosed : Parcel → List ℕ → Summary → ℕ → ℕ → List ℕ → List ℕ → List ℕ → Type 0
IsClosed p program driver from past entries missing tar =
    (members : List Member) (gaps : List Gap) → HasMembers members p → missing ≡ flat_map missing_line gaps
    → let before = members ++ record { name = codes "entries.txt"; content = entries } ∷ [] in
    let all = before ++ contents_member program driver from past before gaps ∷ [] in All IsMember all × (tar ≡ tar_bytes all)

-- ---- a line, and what spans give in the period

abbrev pub GivenBeside : List Span → ℕ → ℕ → List Span → ℕ → Mark → Type 0
GivenBeside line start past spans m mark = Holds line m mark ⊎ (IsWithin start past m × Gives spans m mark)

-- the line holds all that spans give in the period; below, they give something that it doesn't hold
abbrev pub AreHeld : List Span → ℕ → ℕ → List Span → Type 0
AreHeld line start past spans = (m : ℕ) (mark : Mark) → IsWithin start past m → Gives spans m mark → Holds line m mark

abbrev pub IsBeside : List Span → ℕ → ℕ → List Span → Type 0
IsBeside line start past spans = (m : ℕ) × (mark : Mark) × IsWithin start past m × Gives spans m mark × ¬ Holds line m mark
