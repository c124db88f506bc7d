-- Trusted: What `import` of several card files does: an import of the office for each, in order.
use Rattle.std.specs.Prelude.{◌≡◌, ℕ, ◌≤◌, ◌==◌, ◌||◌, nat_lt, Bool, true, false, List, [], ◌∷◌, ◌++◌, Option, Result, Ok, Err, codes, decimal, filter, flat_map, if◌then◌else◌, length, map, take, MatchBool}
use Rattle.std.specs.Io.KnownBytes.{Appends}
use Rattle.tacho_card.specs.declared.file.Part.{Part}
use Rattle.tacho_state.specs.State.{State}
use Rattle.tacho_state.specs.declared.caller.Caller.TheVariants as caller
use Rattle.tacho_state.specs.declared.fault.StoreFault.TheVariants as store
use Rattle.tacho_desk.specs.Doing.{Doing, Kept, LeavesAfter, Refuses, Takes}
use Rattle.tacho_desk.specs.Tasks.{Imports}
use Rattle.tacho_desk.specs.Told.{Answer, Added}
use Rattle.tacho_sheet.specs.declared.fault.Fault.{Fault}
use Rattle.tacho_sheet.specs.declared.fault.Fault.TheVariants as fault
use Rattle.tacho_cli.specs.Office.{reply_of_answer}

-- ---- one file

-- the name of a file, and the answer to it
pub record FileAnswer : Type 0 where
  pub name : List ℕ
  pub answer : Answer

-- a control character is printed as a question mark
abbrev pub shown_byte : ℕ → ℕ
shown_byte byte = if nat_lt byte 32 || (byte == 127) then 63 else byte

abbrev pub shown_name : List ℕ → List ℕ
shown_name = map shown_byte

-- what was read of a file: at most 262,144 bytes; or why it was not read: it is larger (X1), it can't be opened or read (X2), or memory ran
-- out (M1)
abbrev pub IsFileRead : Result (List ℕ) Fault → Type 0
IsFileRead (Ok bytes) = length bytes ≤ 262144
IsFileRead (Err fault.TooLarge) = Unit {0}
IsFileRead (Err fault.Device) = Unit {0}
IsFileRead (Err fault.Memory) = Unit {0}
IsFileRead (Err f) = ⊥

-- what was read is imported by the office; otherwise the answer is why it was not read
abbrev pub ImportsRead : Part → Result (List ℕ) Fault → State → Doing
ImportsRead p (Ok bytes) = Imports caller.Office p bytes
ImportsRead p (Err f) = Refuses f

-- the answer to a file, whose name gives what was read, and the state after it
pub record ImportsFile (Gives : List ℕ → Result (List ℕ) Fault → Type 0) (p : Part) (file : FileAnswer) (s t : State) : Type 0 where
  pub read : Result (List ℕ) Fault
  pub given : Gives file.name read
  pub is : IsFileRead read
  pub took : Takes (ImportsRead p read s) s file.answer t

-- likewise with the states that a crash may leave
pub record ImportsFileKept (Gives : List ℕ → Result (List ℕ) Fault → Type 0) (p : Part) (file : FileAnswer) (a b : Kept) : Type 0 where
  pub read : Result (List ℕ) Fault
  pub given : Gives file.name read
  pub is : IsFileRead read
  pub took : Takes (ImportsRead p read a.state) a.state file.answer b.state
  pub kept : LeavesAfter (ImportsRead p read a.state) file.answer b.state a.past b.past

-- ---- the files in order

-- each from the state that the one before left
abbrev pub InTurn : {C S : Type 0} → (C → S → S → Type 0) → List C → S → S → Type 0
InTurn step [] s t = t ≡ s
InTurn {S = S} step (c ∷ cs) s t = (m : S) × step c s m × InTurn step cs m t

-- no further file is begun after this answer: memory ran out, or the store failed
abbrev pub ends : Answer → Bool
ends (Err fault.Memory) = true
ends (Err (fault.Store store.Store)) = true
ends answer = false

-- the files were begun in order: all of them, or up to one that ended the import
abbrev pub AreBegun : List (List ℕ) → List FileAnswer → Type 0
AreBegun names [] = names ≡ []
AreBegun [] (file ∷ files) = ⊥
AreBegun (name ∷ names) (file ∷ files) = (file.name ≡ name) × MatchBool (ends file.answer) (files ≡ []) (AreBegun names files)

-- likewise, or up to one whose line could not be written
abbrev pub AreBegunFirst : List (List ℕ) → List FileAnswer → Type 0
AreBegunFirst names files = (first : List (List ℕ)) × (rest : List (List ℕ)) × (names ≡ first ++ rest) × AreBegun first files

-- ---- what is written

-- the line of a file: its name as it is printed, and the line of the answer
abbrev pub file_answer_line : FileAnswer → List ℕ
file_answer_line file = shown_name file.name ++ (codes ": " ++ (reply_of_answer file.answer).text)

-- how many answers are of a kind: of files that were added, that were there already, and that were refused
abbrev pub count_of : (Answer → Bool) → List FileAnswer → ℕ
count_of is files = length (filter (λ (file : FileAnswer). is file.answer) files)

abbrev pub is_added : Answer → Bool
is_added (Ok (Added line)) = true
is_added answer = false

abbrev pub is_repeated : Answer → Bool
is_repeated (Ok (Added line)) = false
is_repeated (Ok told) = true
is_repeated (Err f) = false

abbrev pub is_refused : Answer → Bool
is_refused (Ok told) = false
is_refused (Err f) = true

-- the last line, such as `2 added, 1 repeated, 1 refused`
abbrev pub tally_line : List FileAnswer → List ℕ
tally_line files =
    decimal (count_of is_added files) ++ (codes " added, " ++ (decimal (count_of is_repeated files)
    ++ (codes " repeated, " ++ (decimal (count_of is_refused files) ++ codes " refused\n"))))

abbrev pub import_text : List FileAnswer → List ℕ
import_text files = flat_map file_answer_line files ++ tally_line files

-- 3 if memory ran out or the store failed, 1 if a file was refused, otherwise 0
abbrev pub import_status : List FileAnswer → ℕ
import_status files =
    if nat_lt 0 (count_of ends files) then 3 else if nat_lt 0 (count_of is_refused files) then 1 else 0

-- the lines of the files but the last
abbrev pub earlier_lines : List FileAnswer → List ℕ
earlier_lines [] = []
earlier_lines (file ∷ []) = []
earlier_lines (file ∷ next ∷ files) = file_answer_line file ++ earlier_lines (next ∷ files)

-- the whole text is written; or, if the writer failed, a prefix of it, and no file was begun after the first line that was not written whole
abbrev pub AreToldOut : List (List ℕ) → List FileAnswer → Bool → Option (List ℕ) → Option (List ℕ) → ℕ → Type 0
AreToldOut names files false old new status = AreBegun names files × Appends old new (import_text files) × (status ≡ import_status files)
AreToldOut names files true old new status =
    AreBegunFirst names files × ((n : ℕ) × (length (earlier_lines files) ≤ n) × Appends old new (take n (import_text files))) × (status ≡ 3)

-- ---- the whole import

-- the files were imported in order, and their lines were written
pub record ImportsFiles {K : Type 0} (Gives : List ℕ → Result (List ℕ) Fault → Type 0) (stands : K → State → Type 0) (is_clean : K → Type 0) (leaves : K → List State → Type 0) (old new : K)
    (p : Part) (names : List (List ℕ)) (writer_failed : Bool) (text_old text_new : Option (List ℕ)) (status : ℕ) : Type 0 where
  pub files : List FileAnswer
  pub told : AreToldOut names files writer_failed text_old text_new status
  pub clean : is_clean new → is_clean old
  pub run : is_clean new → (s : State) → stands old s → (t : State) × stands new t × InTurn (ImportsFile Gives p) files s t
  pub crash : is_clean new → (a : Kept) → stands old a.state → leaves old a.past
      → (b : Kept) × stands new b.state × leaves new b.past × InTurn (ImportsFileKept Gives p) files a b
