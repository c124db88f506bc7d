-- Trusted: The driver that a text of CSV registers, or its first fault: the columns are checked from left to right.
use Rattle.std.specs.Prelude.{◌≡◌, ◌⊎◌, ◌&&◌, ℕ, Bool, true, false, List, [], ◌∷◌, length, Option, Some, None, option_map, Result, Ok, Err, bytes_eq, codes}
use Rattle.std.specs.Str.{IsUtf8}
use Rattle.hex.specs.Hex.{encode_lower, IsBytes}
use Rattle.tacho_time.specs.Reading.{day_at}
use Rattle.tacho_state.specs.Limits.{IsKey, IsName}
use Rattle.tacho_state.specs.Registration.{Registration}
use Rattle.tacho_state.specs.declared.driver.Column.{Column}
use Rattle.tacho_state.specs.declared.driver.Column.TheVariants as column
use Rattle.tacho_sheet.specs.Number.{IsNumberText, HasNoNumber}
use Rattle.tacho_sheet.specs.Rows.{Row, AreRows, Five, five_of}
use Rattle.tacho_sheet.specs.declared.fault.SheetFault.{SheetFault}
use Rattle.tacho_sheet.specs.declared.fault.SheetFault.TheVariants as fault

-- ---- the texts of columns

-- the text isn't the 30 hexadecimal digits, without capitals, of any fifteen bytes
abbrev pub IsNoHolderText : List ℕ → Type 0
IsNoHolderText text = (holder : List ℕ) → length holder ≡ 15 → IsBytes holder → ¬ (text ≡ encode_lower holder)

abbrev pub IsKeyText : List ℕ → Type 0
IsKeyText text = IsUtf8 text × IsKey text

abbrev pub IsNameText : List ℕ → Type 0
IsNameText text = IsUtf8 text × IsName text

-- number, holder, key, base and name
pub record Columns : Type 0 where
  pub driver : List ℕ
  pub holder : List ℕ
  pub key : List ℕ
  pub base : List ℕ
  pub name : List ℕ

-- the texts give this registration, each within its column's limits
pub record IsDriverText (f : Columns) (r : Registration) : Type 0 where
  pub driver : IsNumberText 999999 f.driver r.number
  pub holder : (length r.holder ≡ 15) × IsBytes r.holder × (f.holder ≡ encode_lower r.holder)
  pub key : (r.key ≡ f.key) × IsKeyText r.key
  pub base : day_at f.base ≡ Ok r.base
  pub name : (r.name ≡ f.name) × IsNameText r.name

abbrev pub HasNumber : List ℕ → Type 0
HasNumber text = (n : ℕ) × IsNumberText 999999 text n

-- the text is the hexadecimal digits of fifteen bytes
abbrev pub HasHolder : List ℕ → Type 0
HasHolder text = (holder : List ℕ) × (length holder ≡ 15) × IsBytes holder × (text ≡ encode_lower holder)

abbrev pub IsDayText : List ℕ → Type 0
IsDayText text = (day : ℕ) × (day_at text ≡ Ok day)

-- E9: the column's text is out of its limits, and the columns before it are within theirs
abbrev pub IsFirstBadColumn : Columns → Column → Type 0
IsFirstBadColumn f column.Driver = HasNoNumber 999999 f.driver
IsFirstBadColumn f column.Holder = HasNumber f.driver × IsNoHolderText f.holder
IsFirstBadColumn f column.Key = HasNumber f.driver × HasHolder f.holder × ¬ (IsKeyText f.key)
IsFirstBadColumn f column.Base = HasNumber f.driver × HasHolder f.holder × IsKeyText f.key × ¬ (IsDayText f.base)
IsFirstBadColumn f column.Name = HasNumber f.driver × HasHolder f.holder × IsKeyText f.key × IsDayText f.base × ¬ (IsNameText f.name)
IsFirstBadColumn f column.Author = ⊥
IsFirstBadColumn f column.Note = ⊥

abbrev pub IsColumnFault : Columns → SheetFault → Type 0
IsColumnFault f (fault.Column c) = IsFirstBadColumn f c
IsColumnFault f _ = ⊥

-- ---- rows

abbrev pub columns_of_five : Five → Columns
columns_of_five f = record { driver = f.0; holder = f.1; key = f.2; base = f.3; name = f.4 }

-- the columns of a row that has exactly five fields
abbrev pub columns_of : Row → Option Columns
columns_of row = option_map columns_of_five (five_of row)

-- `driver,holder,key,base,name`
abbrev pub is_driver_head_of : Option Columns → Bool
is_driver_head_of (Some h) =
    bytes_eq h.driver (codes "driver") && (bytes_eq h.holder (codes "holder") && (bytes_eq h.key (codes "key")
    && (bytes_eq h.base (codes "base") && bytes_eq h.name (codes "name"))))
is_driver_head_of None = false

abbrev pub is_driver_head : Row → Bool
is_driver_head row = is_driver_head_of (columns_of row)

-- the answers of the rows after the head: E2 or E9 for row 2, and then E2 if there is a third row
abbrev pub IsRowAnswer : Option Columns → Result Registration SheetFault → Type 0
IsRowAnswer None answer = answer ≡ Err (fault.Fields 2)
IsRowAnswer (Some f) (Ok r) = IsDriverText f r
IsRowAnswer (Some f) (Err e) = IsColumnFault f e

abbrev pub IsBodyAnswer : List Row → Result Registration SheetFault → Type 0
IsBodyAnswer [] answer = answer ≡ Err (fault.Fields 2)
IsBodyAnswer (row ∷ []) answer = IsRowAnswer (columns_of row) answer
IsBodyAnswer (row ∷ more) (Ok r) = ⊥
IsBodyAnswer (row ∷ more) (Err e) =
    IsRowAnswer (columns_of row) (Err e) ⊎ ((e ≡ fault.Fields 3) × ((r : Registration) × IsRowAnswer (columns_of row) (Ok r)))

-- E1 if the first row isn't the head
abbrev pub IsDriverAnswer : List Row → Result Registration SheetFault → Type 0
IsDriverAnswer [] answer = answer ≡ Err fault.Head
IsDriverAnswer (head ∷ body) answer =
    (is_driver_head head ≡ true → IsBodyAnswer body answer) × (is_driver_head head ≡ false → answer ≡ Err fault.Head)

-- the answer for a text, if neither memory nor the reader of CSV fails
abbrev pub IsDriverRead : List ℕ → Result Registration SheetFault → Type 0
IsDriverRead text answer = (rows : List Row) × AreRows text rows × IsDriverAnswer rows answer
