use Rattle.std.proofs.Common.{rules, ◌≡◌, ◌++◌, ◌∷◌, [], Bool, true, false, List, map, subst, sym, refl, Ok}
use Rattle.std.specs.Prelude.{MatchBool}
use Rattle.tacho_time.specs.Spans.{SamePairs}
use Rattle.tacho_time.specs.declared.span.Span.{Span}
use Rattle.tacho_line.specs.Line.{Holds}
use Rattle.tacho_state.specs.Files.{listed_file}
use Rattle.tacho_tar.specs.Tar.{Member}
use Rattle.tacho_handover.specs.Contents.{card_member, card_name}
use Rattle.tacho_handover.specs.Covering.{handed_file}
use Rattle.tacho_handover.specs.Parcel.{AreHeld, GivenBeside, HasMembers, IsBeside, Parcel}
use Rattle.tacho_handover.proofs.HandedLemmas.{spans_read}
use Rattle.tacho_handover.proofs.ParcelLemmas.{left, members_stay, taken}
use Rattle.tacho_handover.proofs.parcel.Parcel.offer.Goals as goal
use Rattle.tacho_handover.proofs.parcel.Parcel.offer.Goals.{then-branch+in_ok-fault_of_tar, else-branch}

pub returns-clause-offered : goal.returns-clause-offered
returns-clause-offered c i newer d files listed bytes =
    let old : Parcel = c.args.self.now in
    let new : Parcel = c.if-branch.self in
    let holder = c.args.holder.now in
    let spans = c.in_ok-spans.spans.items in
    let has = spans_read i d c.args.file.now c.args.bytes.now spans listed bytes c.in_ok-spans.ensures.told in
    let more : MatchBool c.in_ok-add_within.field-0 (IsBeside old.held old.start old.past spans) (AreHeld old.held old.start old.past spans) = search rules in
    let told : SamePairs (Holds c.add_within.new.line) (GivenBeside c.self.inside.held c.self.inside.start c.self.inside.past spans) =
    rw c.deref.ensures.value at c.in_ok-add_within.ensures.held in
    let given : SamePairs (Holds c.add_within.new.line) (GivenBeside old.held old.start old.past spans) =
    subst (λ (p : Parcel). SamePairs (Holds c.add_within.new.line) (GivenBeside p.held p.start p.past spans)) c.self.view_is told in
    elim c.if-branch.branch [
      | then-branch+in_ok-fault_of_tar w ↦
          let yes : c.in_ok-add_within.field-0 ≡ true = search rules in
          let start : new.start ≡ old.start = search rules in
          let past : new.past ≡ old.past = search rules in
          let line : new.held ≡ c.add_within.new.line = search rules in
          let holds = subst (λ (x : List Span). SamePairs (Holds x) (GivenBeside old.held old.start old.past spans)) (sym line) given in
          let m : Member = record { name = w.deref-then-branch.result.now; content = c.args.bytes.now } in
          let name : m.name ≡ card_name holder (listed_file i d) = search rules in
          let same : m ≡ card_member holder (handed_file i d) = cc in
          let went : w.add.result ≡ Ok tt = search rules in
          let added = rw went at w.add.ensures.added in
          let before : HasMembers (map (card_member holder) files.handed) (record {
            start = c.self.inside.start;
            past = c.self.inside.past;
            held = c.add_within.new.line;
            tar = c.self.inside.tar.items;
            lines = c.self.inside.lines.items;
          }) = subst (λ (p : Parcel). HasMembers (map (card_member holder) files.handed) (record p { held = c.add_within.new.line })) (sym c.self.view_is)
          (members_stay (map (card_member holder) files.handed) old (record old { held = c.add_within.new.line }) refl refl files.members) in
          let all : HasMembers (map (card_member holder) files.handed ++ m ∷ []) w.add.new.self = added (map (card_member holder) files.handed) before in
          let members : HasMembers (map (card_member holder) files.handed ++ card_member holder (handed_file i d) ∷ []) new =
          subst (λ (p : Parcel). HasMembers (map (card_member holder) files.handed ++ card_member holder (handed_file i d) ∷ []) p) (sym w.self-is)
          (subst (λ (x : Member). HasMembers (map (card_member holder) files.handed ++ x ∷ []) w.add.new.self) same all) in
          taken holder i newer d spans has old new files start past holds
          (subst (λ (b : Bool). MatchBool b (IsBeside old.held old.start old.past spans) (AreHeld old.held old.start old.past spans)) yes more) members
      | else-branch w ↦
          let no : c.in_ok-add_within.field-0 ≡ false = search rules in
          let start : new.start ≡ old.start = search rules in
          let past : new.past ≡ old.past = search rules in
          let line : new.held ≡ c.add_within.new.line = search rules in
          let holds = subst (λ (x : List Span). SamePairs (Holds x) (GivenBeside old.held old.start old.past spans)) (sym line) given in
          let tar : new.tar ≡ old.tar = search rules in
          let lines : new.lines ≡ old.lines = search rules in
          left holder i newer d spans has old new files start past holds
          (subst (λ (b : Bool). MatchBool b (IsBeside old.held old.start old.past spans) (AreHeld old.held old.start old.past spans)) no more)
          (members_stay (map (card_member holder) files.handed) old new tar lines files.members)
    ]
