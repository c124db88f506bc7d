-- Trusted: The answer of a task that was done.
use Rattle.std.specs.Prelude.{ℕ, List, Result, Ok, Err, string_bytes}
use Rattle.tacho_sheet.specs.declared.fault.Fault.{Fault}
use Rattle.tacho_desk.specs.declared.text.Text.{Text}
use Rattle.tacho_desk.specs.declared.text.Text.TheVariants as text

-- the line of a command that added something; the line of one that didn't; a text; the bytes of a file
pub data Told : Type 0 where
  Added : List ℕ → Told
  Line : List ℕ → Told
  Long : List ℕ → Told
  File : List ℕ → Told

-- the bytes that are written
abbrev pub bytes_of : Told → List ℕ
bytes_of (Added line) = line
bytes_of (Line line) = line
bytes_of (Long text) = text
bytes_of (File bytes) = bytes

abbrev pub told_text : Text → Told
told_text (text.Added line) = Added line.items
told_text (text.Line line) = Line line.items
told_text (text.Fixed bytes) = Long bytes.now
told_text (text.Long string) = Long (string_bytes string)
told_text (text.File bytes) = File bytes.items

-- the text of a success, or the fault
abbrev pub Answer : Type 0
Answer = Result Told Fault

abbrev pub answer_of : Result Text Fault → Answer
answer_of (Ok text) = Ok (told_text text)
answer_of (Err f) = Err f
