-- Trusted: A driver's registration, and its first column that is out of its limits.
use Rattle.std.specs.Prelude.{ℕ, ◌≤◌, List}
use Rattle.tacho_state.specs.declared.driver.Column.{Column}
use Rattle.tacho_state.specs.declared.driver.Column.TheVariants as column
use Rattle.tacho_state.specs.Limits.{IsKey, IsName}
use Rattle.tacho_time.specs.Limits.{first_day, last_day}

-- the driver's number, their card's holder, their key, the day from which they are examined, and their name
pub record Registration : Type 0 where
  pub number : ℕ
  pub holder : List ℕ
  pub key : List ℕ
  pub base : ℕ
  pub name : List ℕ

abbrev pub IsNumber : ℕ → Type 0
IsNumber number = (1 ≤ number) × (number ≤ 999999)

-- a day from 2000-01-03 to 2099-12-31
abbrev pub IsReadDay : ℕ → Type 0
IsReadDay day = (first_day ≤ day) × (day ≤ last_day)

-- each column is within its limits
pub record IsRegistration (r : Registration) : Type 0 where
  pub number : IsNumber r.number
  pub key : IsKey r.key
  pub base : IsReadDay r.base
  pub name : IsName r.name

-- this column is out of its limits, and the columns before it are within theirs; a holder of fifteen bytes is always valid
abbrev pub IsFirstBad : Registration → Column → Type 0
IsFirstBad r column.Driver = ¬ (IsNumber r.number)
IsFirstBad r column.Holder = ⊥
IsFirstBad r column.Key = IsNumber r.number × ¬ (IsKey r.key)
IsFirstBad r column.Base = IsNumber r.number × IsKey r.key × ¬ (IsReadDay r.base)
IsFirstBad r column.Name = IsNumber r.number × IsKey r.key × IsReadDay r.base × ¬ (IsName r.name)
IsFirstBad r column.Author = ⊥
IsFirstBad r column.Note = ⊥
