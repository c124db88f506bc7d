-- Trusted in part: The command line, and the job that its arguments name.
use Rattle.std.specs.Prelude.{◌≡◌, ◌≢◌, ◌⊎◌, ℕ, Bool, true, false, List, [], ◌∷◌, Option, None, Some, bytes_eq, codes, map, not, ◌==◌, if◌then◌else◌}
use Rattle.std.specs.Option.{option_or}
use Rattle.tacho_sheet.specs.Number.{HasNoNumber, IsNumberText}
use Rattle.clap.specs.Words.{App, Row, Rule, Text, first_of, new_app, new_rule, with_rule, with_subcommand}
use Rattle.clap.specs.declared.error.kind.ErrorKind.{ErrorKind}
use Rattle.clap.specs.declared.error.kind.ErrorKind.TheVariants.{OutOfMemory}
use Rattle.tacho_cli.specs.declared.words.Usage.{Usage}
use Rattle.tacho_cli.specs.declared.words.Usage.TheVariants as usage
use Rattle.tacho_desk.specs.Wants.{takes_input}
use Rattle.tacho_desk.specs.Words.{wish_in}
use Rattle.tacho_desk.specs.declared.table.Act.{Act}
use Rattle.tacho_desk.specs.declared.table.Act.TheVariants as act
use Rattle.tacho_desk.specs.Commands.{Row as Command, all_commands, name_of}
use Rattle.tacho_cli.specs.declared.job.Job.{Job}
use Rattle.tacho_cli.specs.declared.job.Job.TheVariants as job

-- ---- the command line

-- the name of the argument is in brackets: it begins with one
abbrev pub is_optional : Text → Bool
is_optional [] = false
is_optional (byte ∷ id) = byte == 91

-- an argument; it is required unless it is optional
abbrev pub word_rule : Text → Rule
word_rule id = record (new_rule id) { required = not (is_optional id) }

-- a command with these arguments, in this order
unfoldable pub with_words : App → List Text → App
with_words app [] = app
with_words app (id ∷ ids) = with_words (with_rule app (word_rule id)) ids

-- a command with these subcommands, each with its arguments
unfoldable pub with_table : App → List Command → App
with_table app [] = app
with_table app (row ∷ table) = with_table (with_subcommand app (with_words (new_app row.name) (map name_of row.arguments)).top) table

-- a command of which one subcommand is required
abbrev pub needs_subcommand : App → App
needs_subcommand app = record app { top = record app.top { subcommand_required = true } }

-- `tacho` with its subcommands, one of which is required
unfoldable pub tacho_app : App
tacho_app = with_table (needs_subcommand (new_app (codes "tacho"))) all_commands

-- ---- the job

-- what the subcommand with a name does: the act of the first row with this name
abbrev pub act_named : Text → List Command → Option Act
act_named name [] = None
act_named name (row ∷ table) = if bytes_eq row.name name then Some row.act else act_named name table

-- the job has an input: a text of CSV, a card file or a key
abbrev pub has_input : Job → Bool
has_input job.Dump = true
has_input job.Holder = true
has_input (job.Card part) = true
has_input (job.AtDesk j) = takes_input j.wish.want
has_input (job.Listen archive port count) = true
has_input other = false

-- the argument with this name is this text
abbrev pub IsWord : List Row → Text → Text → Type 0
IsWord rows id text = first_of id rows ≡ Some text

-- the argument with this name is the decimal text of the number, without leading zeros
abbrev pub IsNumbered : List Row → Text → ℕ → ℕ → Type 0
IsNumbered rows id most n = (text : Text) × IsWord rows id text × IsNumberText most text n

-- the text of an argument, or an empty text if there is none
abbrev pub or_empty : Option Text → Text
or_empty None = []
or_empty (Some text) = text

-- the driver's number; below, the day among the arguments: a date, or the first day of a period; the other argument: a part, a number, a day
-- or a month; and the one after it: a time, the last number of a range, or the past of a period
abbrev pub driver_text : List Row → Text
driver_text rows = or_empty (option_or (first_of (codes "DRIVER") rows) (first_of (codes "[DRIVER]") rows))

abbrev pub day_text : List Row → Option Text
day_text rows = option_or (option_or (first_of (codes "DATE") rows) (first_of (codes "[DATE]") rows)) (first_of (codes "FROM") rows)

abbrev pub other_text : List Row → Text
other_text rows =
    or_empty (option_or (option_or (option_or (first_of (codes "PART") rows) (first_of (codes "NUMBER") rows)) (day_text rows))
    (first_of (codes "MONTH") rows))

abbrev pub next_text : List Row → Text
next_text rows =
    or_empty (option_or (option_or (first_of (codes "TIME") rows) (first_of (codes "[LAST]") rows)) (first_of (codes "PAST") rows))

-- the job of a subcommand, with the arguments in these rows
abbrev pub IsJobOf : Act → List Row → Job → Type 0
IsJobOf act.Dump rows j = j ≡ job.Dump
IsJobOf act.Holder rows j = j ≡ job.Holder
IsJobOf act.Card rows (job.Card part) = IsWord rows (codes "PART") part.now
IsJobOf act.Init rows (job.Init archive) = IsWord rows (codes "ARCHIVE") archive.now
IsJobOf act.Migrate rows (job.Migrate archive) = IsWord rows (codes "ARCHIVE") archive.now
IsJobOf act.Check rows (job.Check archive) = IsWord rows (codes "ARCHIVE") archive.now
IsJobOf act.Carry rows (job.Carry archive new date) =
    IsWord rows (codes "ARCHIVE") archive.now × IsWord rows (codes "NEW") new.now × IsWord rows (codes "DATE") date.now
IsJobOf (act.AtDesk w) rows (job.AtDesk j) =
    IsWord rows (codes "ARCHIVE") j.archive.now
    × (wish_in j.wish ≡ record { want = w; driver = driver_text rows; word = other_text rows; next = next_text rows })
IsJobOf act.Serve rows (job.Serve archive key port count) =
    IsWord rows (codes "ARCHIVE") archive.now × IsWord rows (codes "KEY") key.now
    × IsNumbered rows (codes "PORT") 65535 port × IsNumbered rows (codes "COUNT") 1000000 count
IsJobOf act.Listen rows (job.Listen archive port count) =
    IsWord rows (codes "ARCHIVE") archive.now × IsNumbered rows (codes "PORT") 65535 port × IsNumbered rows (codes "COUNT") 1000000 count
IsJobOf act.Version rows j = j ≡ job.Version
IsJobOf a rows j = ⊥

-- the job of the subcommand that the arguments name
abbrev pub IsJob : Option (Text × List Row) → Job → Type 0
IsJob sub j =
    (name : Text) × (rows : List Row) × (a : Act) × (sub ≡ Some (name, rows)) × (act_named name all_commands ≡ Some a) × IsJobOf a rows j

-- the job is done at an existing archive
abbrev pub at_desk : Job → Bool
at_desk (job.AtDesk j) = true
at_desk j = false

-- the path of the archive's file, if the job has one
abbrev pub archive_of : Job → Option Text
archive_of job.Dump = None
archive_of job.Holder = None
archive_of (job.Card part) = None
archive_of (job.Init archive) = Some archive.now
archive_of (job.Migrate archive) = Some archive.now
archive_of (job.Check archive) = Some archive.now
archive_of (job.Carry archive new date) = Some archive.now
archive_of (job.AtDesk j) = Some j.archive.now
archive_of (job.Serve archive key port count) = Some archive.now
archive_of (job.Listen archive port count) = Some archive.now
archive_of job.Version = None

-- ---- usage

-- usage is shown if the parser refused the arguments for a cause other than memory; if the parser was out of memory, nothing further is
-- shown
abbrev pub IsRefusal : ErrorKind → Usage → Type 0
IsRefusal kind (usage.Words text) = kind ≢ OutOfMemory
IsRefusal kind usage.Parser = kind ≡ OutOfMemory
IsRefusal kind usage.Memory = Unit {0}
IsRefusal kind usage.Numbers = ⊥

-- the argument for the port or the count isn't such a number
abbrev pub HasNoNumbered : List Row → Type 0
HasNoNumbered rows =
    (text : Text)
    × ((IsWord rows (codes "PORT") text × HasNoNumber 65535 text) ⊎ (IsWord rows (codes "COUNT") text × HasNoNumber 1000000 text))

-- why there is no port and count: one of them is no such number, or the parser gave no answer
abbrev pub IsPortUsage : List Row → Usage → Type 0
IsPortUsage rows usage.Numbers = HasNoNumbered rows
IsPortUsage rows usage.Parser = Unit {0}
IsPortUsage rows u = ⊥

-- the subcommand has a port and a count
abbrev pub has_port : Act → Bool
has_port act.Serve = true
has_port act.Listen = true
has_port a = false

-- only such a subcommand reports bad numbers
abbrev pub IsActUsage : Act → List Row → Usage → Type 0
IsActUsage a rows usage.Numbers = (has_port a ≡ true) × HasNoNumbered rows
IsActUsage a rows usage.Parser = Unit {0}
IsActUsage a rows u = ⊥

-- usage is shown only if the command line doesn't accept the arguments, or if the port or the count is no such number
abbrev pub IsUsage : Bool → Option (Text × List Row) → Usage → Type 0
IsUsage taken sub (usage.Words text) = taken ≡ false
IsUsage taken sub usage.Numbers =
    (name : Text) × (rows : List Row) × (a : Act) × (sub ≡ Some (name, rows)) × (act_named name all_commands ≡ Some a) × (has_port a ≡ true)
    × HasNoNumbered rows
IsUsage taken sub usage.Parser = Unit {0}
IsUsage taken sub usage.Memory = Unit {0}
