use Rattle.std.proofs.Common.{subst}
use Rattle.tacho_time.specs.Spans.{Gives}
use Rattle.tacho_time.specs.Merge.{IsFirstFault}
use Rattle.tacho_shelf.proofs.row.agreed_line.Goals as goal

pub unreachable-requires : goal.unreachable-requires
unreachable-requires c =
    let first = subst (IsFirstFault (Gives c.args.spans.now)) c.in-Err-Contradiction.field-0-is c.in-Err-Contradiction.ensures in
    c.requires c.in-Err-Contradiction.field-0-0 first.0
