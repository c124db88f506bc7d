-- A handover that is being made, file by file.
use Rattle.std.proofs.Common.{◌≡◌, ◌∙◌, ℕ, ◌+◌, ◌*◌, List, [], ◌∷◌, ◌++◌, ap, append_assoc, flat_map, inl, inr, map, refl, subst, sym}
use Rattle.std.specs.List.{All}
use Rattle.std.proofs.lemmas.List.{append-nil}
use Rattle.std.proofs.lemmas.List.Elements.{All-append, All-cons, All-nil}
use Rattle.tacho_time.specs.declared.span.Span.{Span}
use Rattle.tacho_time.specs.Spans.{SamePairs}
use Rattle.tacho_line.specs.Line.{AreGaps, Holds}
use Rattle.tacho_line.specs.declared.gap.Gap.{Gap}
use Rattle.tacho_state.specs.State.{Download, Driver, held_spans}
use Rattle.tacho_tar.specs.Tar.{IsMember, Member, member_bytes, tar_bytes, tar_end}
use Rattle.tacho_handover.specs.Contents.{card_member, file_line}
use Rattle.tacho_handover.specs.Covering.{AreHanded, Handed, HasSpans, handed_file}
use Rattle.tacho_handover.specs.Handover.{IsHandover, all_members}
use Rattle.tacho_handover.specs.Parcel.{AreHeld, GivenBeside, GivenIn, HasFiles, HasMembers, IsBeside, Parcel}
use Rattle.tacho_handover.proofs.HandedLemmas.{covered, given_too, handed_once, needed}

flat_last : (f : Member → List ℕ) (ms : List Member) (m : Member) → flat_map f (ms ++ m ∷ []) ≡ flat_map f ms ++ f m
flat_last f [] m = append-nil (f m)
flat_last f (x ∷ ms) m = ap (λ (t : List ℕ). f x ++ t) (flat_last f ms m) ∙ sym (append_assoc (f x) (flat_map f ms) (f m))

map_last : (holder : List ℕ) (hs : List Handed) (h : Handed)
    → map (card_member holder) (hs ++ h ∷ []) ≡ map (card_member holder) hs ++ card_member holder h ∷ []
map_last holder [] h = refl
map_last holder (x ∷ hs) h = ap (λ (t : List Member). card_member holder x ∷ t) (map_last holder hs h)

-- one more file
pub members_more : (members : List Member) (m : Member) (old new : Parcel) → HasMembers members old → IsMember m
    → new.tar ≡ old.tar ++ member_bytes m → new.lines ≡ old.lines ++ file_line m → HasMembers (members ++ m ∷ []) new
members_more members m old new has is tar lines = record {
  tar = tar ∙ (ap (λ (t : List ℕ). t ++ member_bytes m) has.tar ∙ sym (flat_last member_bytes members m));
  lines = lines ∙ (ap (λ (t : List ℕ). t ++ file_line m) has.lines ∙ sym (flat_last file_line members m));
  plain = All-append IsMember members (m ∷ []) has.plain (All-cons IsMember m [] is (All-nil IsMember));
}

-- no file is added
pub members_stay : (members : List Member) (old new : Parcel) → new.tar ≡ old.tar → new.lines ≡ old.lines → HasMembers members old
    → HasMembers members new
members_stay members old new tar lines has = record { tar = tar ∙ has.tar; lines = lines ∙ has.lines; plain = has.plain }

module _ (holder : List ℕ) (i : ℕ) (newer : List Download) (d : Download) (spans : List Span) (has : HasSpans d spans) (old new : Parcel)
    (files : HasFiles holder (i + 1) newer old) (start : new.start ≡ old.start) (past : new.past ≡ old.past)
    (holds : SamePairs (Holds new.held) (GivenBeside old.held old.start old.past spans)) where
  held_too : SamePairs (Holds new.held) (GivenIn old.start old.past (d ∷ newer))
  held_too = given_too old.start old.past newer old.held files.held d spans has new.held holds

  -- the files and what they give, after an older card file
  after : (handed : List Handed) → AreHanded old.start old.past i (d ∷ newer) handed → HasMembers (map (card_member holder) handed) new
      → HasFiles holder i (d ∷ newer) new
  after handed are members = record {
    handed = handed;
    are = subst (λ (x : ℕ). AreHanded x new.past i (d ∷ newer) handed) (sym start)
        (subst (λ (x : ℕ). AreHanded old.start x i (d ∷ newer) handed) (sym past) are);
    held = subst (λ (x : ℕ). SamePairs (Holds new.held) (GivenIn x new.past (d ∷ newer))) (sym start)
        (subst (λ (x : ℕ). SamePairs (Holds new.held) (GivenIn old.start x (d ∷ newer))) (sym past) held_too);
    members = members;
  }

  -- one that is needed
  pub taken : IsBeside old.held old.start old.past spans
      → HasMembers (map (card_member holder) files.handed ++ card_member holder (handed_file i d) ∷ []) new → HasFiles holder i (d ∷ newer) new
  taken beside members =
      let all = files.handed ++ handed_file i d ∷ [] in
      let is_needed = needed old.start old.past newer old.held files.held d spans has beside in
      after all (files.handed, spans, files.are, has, inl (is_needed, refl))
      (subst (λ (ms : List Member). HasMembers ms new) (sym (map_last holder files.handed (handed_file i d))) members)

  -- one that isn't
  pub left : AreHeld old.held old.start old.past spans → HasMembers (map (card_member holder) files.handed) new → HasFiles holder i (d ∷ newer) new
  left all members =
      let is_covered = covered old.start old.past newer old.held files.held d spans has all in
      after files.handed (files.handed, spans, files.are, has, inr (is_covered, refl)) members

-- ---- the end of the tar file

-- after the last file
pub ended : (before : List Member) (last : Member) (p : Parcel) (more end : List ℕ) → HasMembers before p → IsMember last
    → more ≡ p.tar ++ member_bytes last → end ≡ more ++ tar_end
    → All IsMember (before ++ last ∷ []) × (end ≡ tar_bytes (before ++ last ∷ []))
ended before last p more end has is pushed ends = (
  All-append IsMember before (last ∷ []) has.plain (All-cons IsMember last [] is (All-nil IsMember)),
  ends ∙ ap (λ (t : List ℕ). t ++ tar_end) (pushed ∙ (ap (λ (t : List ℕ). t ++ member_bytes last) has.tar ∙ sym (flat_last member_bytes before last))),
)

-- ---- a handover has one answer

module _ (one_gaps : (line : List Span) (start past : ℕ) (gaps others : List Gap) → AreGaps line start past gaps
    → AreGaps line start past others → gaps ≡ others) where
  pub handover_once : (program : List ℕ) (from past : ℕ) (d : Driver) (a b : List ℕ) → IsHandover program from past d a
      → IsHandover program from past d b → a ≡ b
  handover_once program from past d a b x y =
      let handed : x.handed ≡ y.handed = handed_once (1440 * from) (1440 * past) 1 d.downloads x.handed y.handed x.are y.are in
      let gaps : x.gaps ≡ y.gaps = one_gaps (held_spans d) (1440 * from) (1440 * past) x.gaps y.gaps x.lacking y.lacking in
      let first : tar_bytes (all_members program from past d x.handed x.gaps) ≡ tar_bytes (all_members program from past d y.handed x.gaps) =
      ap (λ (h : List Handed). tar_bytes (all_members program from past d h x.gaps)) handed in
      let second : tar_bytes (all_members program from past d y.handed x.gaps) ≡ tar_bytes (all_members program from past d y.handed y.gaps) =
      ap (λ (g : List Gap). tar_bytes (all_members program from past d y.handed g)) gaps in
      x.is ∙ (first ∙ (second ∙ sym y.is))
