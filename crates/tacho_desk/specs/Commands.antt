-- Trusted: The commands: the names and the arguments on the command line, what each does, and the paths of the requests for the same.
use Rattle.std.specs.Prelude.{ℕ, List, [], ◌∷◌, codes, map}
use Rattle.tacho_desk.specs.declared.argument.Argument.{Argument}
use Rattle.tacho_desk.specs.declared.argument.Argument.TheVariants as argument
use Rattle.tacho_desk.specs.declared.argument.Argument.TheVariants.{AnyDate, AnyDriver, AnyLast, Archive, Count, Date, DateOfTime, Driver, From, Month, New, Number, Part, Past, Port, Since, Time}
use Rattle.tacho_desk.specs.declared.table.Act.{Act}
use Rattle.tacho_desk.specs.declared.table.Act.TheVariants.{AtDesk, Card, Carry, Check, Dump, Holder, Init, Listen, Migrate, Serve, Version}
use Rattle.tacho_desk.specs.declared.table.Command.{Command}
use Rattle.tacho_desk.specs.declared.want.MonthOfAll.TheVariants.{Incidents, Overview, Standing}
use Rattle.tacho_desk.specs.declared.want.MonthReading.TheVariants.{Chart, Gaps, Sheet, Spans, Why}
use Rattle.tacho_desk.specs.declared.want.Reading.TheVariants.{Breaches, Debts, Entries, Files, Owed, Stretches}
use Rattle.tacho_desk.specs.declared.want.Want.TheVariants.{
  Ahead,
  Base,
  Drivers,
  Enter,
  File,
  Forecast,
  Form,
  Handover,
  Import,
  Key,
  MonthOfAll,
  MonthReading,
  Name,
  Reading,
  Register,
  Withdraw,
}

-- the name of an argument; one that may be left out is in brackets
abbrev pub name_of : Argument → List ℕ
name_of Archive = codes "ARCHIVE"
name_of New = codes "NEW"
name_of Part = codes "PART"
name_of Driver = codes "DRIVER"
name_of AnyDriver = codes "[DRIVER]"
name_of Number = codes "NUMBER"
name_of AnyLast = codes "[LAST]"
name_of Date = codes "DATE"
name_of AnyDate = codes "[DATE]"
name_of From = codes "FROM"
name_of Past = codes "PAST"
name_of Since = codes "DATE"
name_of Month = codes "MONTH"
name_of DateOfTime = codes "DATE"
name_of Time = codes "TIME"
name_of argument.Key = codes "KEY"
name_of Port = codes "PORT"
name_of Count = codes "COUNT"

-- a command: its name, its arguments in order, what it does, and the paths of the requests for it
pub record Row : Type 0 where
  pub name : List ℕ
  pub arguments : List Argument
  pub act : Act
  pub paths : List (List ℕ)

abbrev pub row : List ℕ → List Argument → Act → List (List ℕ) → Row
row n args a ps = record { name = n; arguments = args; act = a; paths = ps }

-- a row of the code's table
abbrev pub row_of : Command → Row
row_of c = row c.name.now c.arguments.now c.act (map (λ path. path.now) c.paths.now)

abbrev pub all_commands : List Row
all_commands =
    row (codes "dump") [] Dump []
    ∷ row (codes "holder") [] Holder []
    ∷ row (codes "card") (Part ∷ []) Card []
    ∷ row (codes "init") (Archive ∷ []) Init []
    ∷ row (codes "migrate") (Archive ∷ []) Migrate []
    ∷ row (codes "check") (Archive ∷ []) Check []
    ∷ row (codes "carry") (Archive ∷ New ∷ Since ∷ []) Carry []
    ∷ row (codes "register") (Archive ∷ []) (AtDesk Register) (codes "/drivers" ∷ [])
    ∷ row (codes "import") (Archive ∷ Part ∷ []) (AtDesk Import) (codes "/cards/{word}" ∷ codes "/me/cards/{word}" ∷ [])
    ∷ row (codes "enter") (Archive ∷ Driver ∷ []) (AtDesk Enter) (codes "/drivers/{driver}/entries" ∷ [])
    ∷ row (codes "withdraw") (Archive ∷ Driver ∷ Number ∷ AnyLast ∷ []) (AtDesk Withdraw)
    (codes "/drivers/{driver}/withdraw/{word}" ∷ codes "/drivers/{driver}/withdraw/{word}/{next}" ∷ [])
    ∷ row (codes "base") (Archive ∷ Driver ∷ Date ∷ []) (AtDesk Base) (codes "/drivers/{driver}/base/{word}" ∷ [])
    ∷ row (codes "key") (Archive ∷ Driver ∷ []) (AtDesk Key) (codes "/drivers/{driver}/key" ∷ [])
    ∷ row (codes "name") (Archive ∷ Driver ∷ []) (AtDesk Name) (codes "/drivers/{driver}/name" ∷ [])
    ∷ row (codes "spans") (Archive ∷ Driver ∷ Month ∷ []) (AtDesk (MonthReading Spans))
    (codes "/drivers/{driver}/spans/{word}" ∷ codes "/me/spans/{word}" ∷ [])
    ∷ row (codes "gaps") (Archive ∷ Driver ∷ Month ∷ []) (AtDesk (MonthReading Gaps))
    (codes "/drivers/{driver}/gaps/{word}" ∷ codes "/me/gaps/{word}" ∷ [])
    ∷ row (codes "sheet") (Archive ∷ Driver ∷ Month ∷ []) (AtDesk (MonthReading Sheet))
    (codes "/drivers/{driver}/sheet/{word}" ∷ codes "/me/sheet/{word}" ∷ [])
    ∷ row (codes "chart") (Archive ∷ Driver ∷ Month ∷ []) (AtDesk (MonthReading Chart))
    (codes "/drivers/{driver}/chart/{word}" ∷ codes "/me/chart/{word}" ∷ [])
    ∷ row (codes "breaches") (Archive ∷ Driver ∷ []) (AtDesk (Reading Breaches))
    (codes "/drivers/{driver}/breaches" ∷ codes "/me/breaches" ∷ [])
    ∷ row (codes "why") (Archive ∷ Driver ∷ Month ∷ []) (AtDesk (MonthReading Why))
    (codes "/drivers/{driver}/why/{word}" ∷ codes "/me/why/{word}" ∷ [])
    ∷ row (codes "owed") (Archive ∷ Driver ∷ []) (AtDesk (Reading Owed)) (codes "/drivers/{driver}/owed" ∷ codes "/me/owed" ∷ [])
    ∷ row (codes "entries") (Archive ∷ Driver ∷ []) (AtDesk (Reading Entries))
    (codes "/drivers/{driver}/entries" ∷ codes "/me/entries" ∷ [])
    ∷ row (codes "file") (Archive ∷ Driver ∷ Number ∷ []) (AtDesk File)
    (codes "/drivers/{driver}/files/{word}" ∷ codes "/me/files/{word}" ∷ [])
    ∷ row (codes "files") (Archive ∷ Driver ∷ []) (AtDesk (Reading Files)) (codes "/drivers/{driver}/files" ∷ codes "/me/files" ∷ [])
    ∷ row (codes "handover") (Archive ∷ Driver ∷ From ∷ Past ∷ []) (AtDesk Handover)
    (codes "/drivers/{driver}/handover/{word}/{next}" ∷ codes "/me/handover/{word}/{next}" ∷ [])
    ∷ row (codes "drivers") (Archive ∷ AnyDriver ∷ []) (AtDesk Drivers)
    (codes "/drivers" ∷ codes "/drivers/{driver}" ∷ codes "/me/driver" ∷ [])
    ∷ row (codes "stretches") (Archive ∷ Driver ∷ []) (AtDesk (Reading Stretches))
    (codes "/drivers/{driver}/stretches" ∷ codes "/me/stretches" ∷ [])
    ∷ row (codes "debts") (Archive ∷ Driver ∷ []) (AtDesk (Reading Debts)) (codes "/drivers/{driver}/debts" ∷ codes "/me/debts" ∷ [])
    ∷ row (codes "ahead") (Archive ∷ Driver ∷ DateOfTime ∷ Time ∷ []) (AtDesk Ahead)
    (codes "/drivers/{driver}/ahead/{word}/{next}" ∷ codes "/me/ahead/{word}/{next}" ∷ [])
    ∷ row (codes "forecast") (Archive ∷ DateOfTime ∷ Time ∷ []) (AtDesk Forecast) (codes "/forecast/{word}/{next}" ∷ [])
    ∷ row (codes "standing") (Archive ∷ Month ∷ []) (AtDesk (MonthOfAll Standing)) (codes "/standing/{word}" ∷ [])
    ∷ row (codes "overview") (Archive ∷ Month ∷ []) (AtDesk (MonthOfAll Overview)) (codes "/overview/{word}" ∷ [])
    ∷ row (codes "incidents") (Archive ∷ Month ∷ []) (AtDesk (MonthOfAll Incidents)) (codes "/incidents/{word}" ∷ [])
    ∷ row (codes "form") (Archive ∷ Driver ∷ AnyDate ∷ []) (AtDesk Form)
    (codes "/drivers/{driver}/form" ∷ codes "/drivers/{driver}/form/{word}" ∷ codes "/me/form" ∷ codes "/me/form/{word}" ∷ [])
    ∷ row (codes "serve") (Archive ∷ argument.Key ∷ Port ∷ Count ∷ []) Serve []
    ∷ row (codes "listen") (Archive ∷ Port ∷ Count ∷ []) Listen []
    ∷ row (codes "version") [] Version (codes "/version" ∷ codes "/me/version" ∷ [])
    ∷ []
