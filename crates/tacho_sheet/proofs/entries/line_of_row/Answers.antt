use Rattle.csv.specs.Records.{fields_of}
use Rattle.tacho_sheet.proofs.EntryLemmas.{five_texts, three_texts}
use Rattle.tacho_sheet.proofs.entries.line_of_row.Goals as goal

pub returns-in-Some : goal.returns-in-Some
returns-in-Some c = rw (c.in-Three.is, three_texts (fields_of c.args.fields.now), c.in-Some.ensures) c.line_of_words.ensures

pub returns-in-Some-five_fields : goal.returns-in-Some-five_fields
returns-in-Some-five_fields c =
    rw (c.in-Five.is, five_texts (fields_of c.args.fields.now), c.in-Some-five_fields.ensures) c.line_of_words-in-Five.ensures
