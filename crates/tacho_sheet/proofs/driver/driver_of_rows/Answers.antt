use Rattle.std.proofs.Common.{rules, ◌≡◌, ◌<◌, inr, length, ◌∷◌}
use Rattle.csv.specs.Records.{fields_of}
use Rattle.tacho_sheet.specs.Driver.{columns_of, IsRowAnswer}
use Rattle.tacho_sheet.proofs.DriverLemmas.{third_row}
use Rattle.tacho_sheet.proofs.driver.driver_of_rows.Goals as goal

pub returns-then-not-is_empty : goal.returns-then-not-is_empty
returns-then-not-is_empty c =
    let more : 0 < length c.in-Some.more.now = search rules in
    let own : IsRowAnswer (columns_of (fields_of c.in-Some.row.now)) c.driver_of_row.result = search rules in
    let all : c.args.rows.now ≡ c.in-Some.row.now ∷ c.in-Some.more.now = search rules in
    inr (rw all (third_row fields_of c.in-Some.row.now c.in-Some.more.now _ more (rw c.in-Ok.is at own)))
