use Rattle.std.proofs.Common.{◌≡◌, ◌∙◌, ◌++◌, ◌∷◌, [], List, ℕ, ap, codes, subst, sym}
use Rattle.tacho_state.specs.Summaries.{told_summary}
use Rattle.tacho_tar.specs.Tar.{IsMember, Member, member_bytes}
use Rattle.tacho_handover.specs.Contents.{contents_member}
use Rattle.tacho_handover.specs.Parcel.{HasMembers, Parcel}
use Rattle.tacho_handover.proofs.ParcelLemmas.{ended}
use Rattle.tacho_handover.proofs.parcel.Parcel.end.Goals as goal

pub returns : goal.returns
returns c members gaps has lacking =
    let before = members ++ record { name = codes "entries.txt"; content = c.args.entries.now } ∷ [] in
    let last : Member = contents_member c.args.program.now (told_summary c.args.driver.now) c.args.from c.args.past before gaps in
    let now : Parcel = record {
      start = c.self.inside.start;
      past = c.self.inside.past;
      held = c.self.inside.held;
      tar = c.self.inside.tar.items;
      lines = c.self.inside.lines.items;
    } in
    let added : HasMembers before now = subst (λ (p : Parcel). HasMembers before p) (sym c.self.view_is) (c.in_ok-add.ensures.added members has) in
    let text = c.in_ok-contents.ensures before gaps (c.deref.ensures.value ∙ added.lines) lacking in
    let made : Member = record { name = codes "contents.txt"; content = c.deref-2.result.now } in
    let same : made ≡ last =
    ap (λ (t : List ℕ). record { name = codes "contents.txt"; content = t }) (c.deref-2.ensures.value ∙ text) in
    let pushed = c.in_ok-push_member.ensures.done in
    ended before last now c.push_member.new.tar.items c.push_end.new.tar.items added (subst IsMember same pushed.0)
    (pushed.1 ∙ ap (λ (m : Member). now.tar ++ member_bytes m) same) c.in_ok-push_end.ensures.ended
