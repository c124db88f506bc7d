use Rattle.std.proofs.Common.{ℕ, ◌+◌, List, ◌∷◌, [], ◌++◌, arith}
use Rattle.tacho_time.specs.declared.span.Activity.TheVariants.{Rest, Drive}
use Rattle.tacho_time.specs.declared.span.Span.{Span}
use Rattle.tests_libraries.proofs.Laying.{IsLaid, alone, laid_push}
use Rattle.tests_libraries.proofs.passes.add_day.Goals as goal

pub returns : goal.returns
returns c =
    let m : ℕ = c.args.midnight in
    let none : List Span = c.args.spans.now.items in
    let one : List Span = none ++ alone c.args.at (m + 360) Rest ∷ [] in
    let two : List Span = one ++ alone (m + 360) (m + 600) Drive ∷ [] in
    let three : List Span = two ++ alone (m + 600) (m + 645) Rest ∷ [] in
    let laid : IsLaid (three ++ alone (m + 645) (m + c.args.end) Drive ∷ []) (m + c.args.end) =
    laid_push three (m + 645) (m + c.args.end) Drive
    (laid_push two (m + 600) (m + 645) Rest
    (laid_push one (m + 360) (m + 600) Drive
    (laid_push none c.args.at (m + 360) Rest (record { joined = c.requires.joined; single = c.requires.single }) (omega arith))
    (omega arith))
    (omega arith))
    (omega arith) in
    let all : IsLaid c.push-4.new.self.items (m + c.args.end) =
    rw (c.in_ok-push-4.ensures.items, c.in_ok-push-3.ensures.items, c.in_ok-push-2.ensures.items, c.in_ok-push.ensures.items, c.rest.ensures, c.drive.ensures, c.rest-2.ensures, c.drive-2.ensures) laid in
    record { joined = all.joined; single = all.single }
