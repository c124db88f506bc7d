use Rattle.std.proofs.Common.{rules}
use Rattle.tacho_tar.specs.Tar.{Member}
use Rattle.tacho_handover.proofs.ParcelLemmas.{members_more}
use Rattle.tacho_handover.proofs.parcel.Parcel.add.Goals as goal

pub returns-clause-added : goal.returns-clause-added
returns-clause-added c members has =
    let m : Member = record { name = c.args.name.now; content = c.args.content.now } in
    let done = c.in_ok-push_member.ensures.done in
    let lined = c.in_ok-push_file.ensures in
    members_more members m c.args.self.now _ has done.0 (search rules) (search rules)
