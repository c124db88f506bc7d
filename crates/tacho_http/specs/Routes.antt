-- Trusted in part: The routes, and what a path names.
use Rattle.std.specs.Prelude.{ℕ, List, [], ◌∷◌, ◌++◌, Option, Some, None, option_map, codes, flat_map, Bool, bytes_eq, Result, Ok, Err, ◌==◌, ◌+◌, ◌-◌, drop, take, length, if◌then◌else◌}
use Rattle.matchit.specs.Rows.{RowsOf}
use Rattle.matchit.specs.Order.{placed}
use Rattle.matchit.specs.Route.{Scan, parse_route}
use Rattle.matchit.specs.Router.{RouteOf, route_from}
use Rattle.matchit.specs.Seek.{first}
use Rattle.matchit.specs.declared.error.InsertError.{InsertError}
use Rattle.tacho_desk.specs.declared.want.MonthOfAll.TheVariants.{Incidents, Overview, Standing}
use Rattle.tacho_desk.specs.declared.want.MonthReading.TheVariants.{Chart, Gaps, Sheet, Spans, Why}
use Rattle.tacho_desk.specs.declared.want.Reading.TheVariants.{Breaches, Debts, Entries, Files, Owed, Stretches}
use Rattle.tacho_desk.specs.declared.want.Want.{Want}
use Rattle.tacho_desk.specs.declared.want.Want.TheVariants.{Ahead, Base, Drivers, Enter, File, Forecast, Form, Handover, Import, Key, MonthOfAll, MonthReading, Name, Reading, Register, Version, Withdraw}
use Rattle.tacho_desk.specs.Words.{Wish, wish_in}
use Rattle.tacho_message.specs.declared.method.Method.{Method}
use Rattle.tacho_message.specs.declared.method.Method.TheVariants as method
use Rattle.tacho_http.specs.declared.places.Ending.{Ending}
use Rattle.tacho_http.specs.declared.places.Ending.TheVariants.{Fixed, Word, Words}
use Rattle.tacho_http.specs.declared.places.Found.{Found}
use Rattle.tacho_http.specs.declared.places.Place.{Place}
use Rattle.tacho_http.specs.declared.places.Asker.{Asker}
use Rattle.tacho_http.specs.declared.places.Asker.TheVariants.{Driver, Office}

abbrev pub TableRow : Type 0
TableRow = List ℕ × Asker × Option Want × Option Want

-- a path, who may ask there, and what a GET and a POST ask for
abbrev pub table_row : List ℕ → Asker → Option Want → Option Want → TableRow
table_row path a get post = (path, a, get, post)

-- the paths of the first version: what the office may ask for, and what a driver may
abbrev pub route_table : List TableRow
route_table =
    table_row (codes "/drivers") Office None (Some Register)
    ∷ table_row (codes "/cards/{word}") Office None (Some Import)
    ∷ table_row (codes "/drivers/{driver}/entries") Office (Some (Reading Entries)) (Some Enter)
    ∷ table_row (codes "/drivers/{driver}/withdraw/{word}") Office None (Some Withdraw)
    ∷ table_row (codes "/drivers/{driver}/base/{word}") Office None (Some Base)
    ∷ table_row (codes "/drivers/{driver}/spans/{word}") Office (Some (MonthReading Spans)) None
    ∷ table_row (codes "/drivers/{driver}/gaps/{word}") Office (Some (MonthReading Gaps)) None
    ∷ table_row (codes "/drivers/{driver}/sheet/{word}") Office (Some (MonthReading Sheet)) None
    ∷ table_row (codes "/drivers/{driver}/breaches") Office (Some (Reading Breaches)) None
    ∷ table_row (codes "/drivers/{driver}/owed") Office (Some (Reading Owed)) None
    ∷ table_row (codes "/drivers/{driver}/files/{word}") Office (Some File) None
    ∷ table_row (codes "/me/cards/{word}") Driver None (Some Import)
    ∷ table_row (codes "/me/entries") Driver (Some (Reading Entries)) None
    ∷ table_row (codes "/me/spans/{word}") Driver (Some (MonthReading Spans)) None
    ∷ table_row (codes "/me/gaps/{word}") Driver (Some (MonthReading Gaps)) None
    ∷ table_row (codes "/me/sheet/{word}") Driver (Some (MonthReading Sheet)) None
    ∷ table_row (codes "/me/breaches") Driver (Some (Reading Breaches)) None
    ∷ table_row (codes "/me/owed") Driver (Some (Reading Owed)) None
    ∷ table_row (codes "/me/files/{word}") Driver (Some File) None
    ∷ []

-- what else the office may ask for
abbrev pub office_table : List TableRow
office_table =
    table_row (codes "/drivers") Office (Some Drivers) None
    ∷ table_row (codes "/drivers/{driver}") Office (Some Drivers) None
    ∷ table_row (codes "/drivers/{driver}/stretches") Office (Some (Reading Stretches)) None
    ∷ table_row (codes "/drivers/{driver}/debts") Office (Some (Reading Debts)) None
    ∷ table_row (codes "/drivers/{driver}/files") Office (Some (Reading Files)) None
    ∷ table_row (codes "/drivers/{driver}/form") Office (Some Form) None
    ∷ table_row (codes "/drivers/{driver}/form/{word}") Office (Some Form) None
    ∷ table_row (codes "/drivers/{driver}/why/{word}") Office (Some (MonthReading Why)) None
    ∷ table_row (codes "/drivers/{driver}/chart/{word}") Office (Some (MonthReading Chart)) None
    ∷ table_row (codes "/drivers/{driver}/ahead/{word}/{next}") Office (Some Ahead) None
    ∷ table_row (codes "/drivers/{driver}/handover/{word}/{next}") Office (Some Handover) None
    ∷ table_row (codes "/overview/{word}") Office (Some (MonthOfAll Overview)) None
    ∷ table_row (codes "/incidents/{word}") Office (Some (MonthOfAll Incidents)) None
    ∷ table_row (codes "/standing/{word}") Office (Some (MonthOfAll Standing)) None
    ∷ table_row (codes "/forecast/{word}/{next}") Office (Some Forecast) None
    ∷ table_row (codes "/version") Office (Some Version) None
    ∷ table_row (codes "/drivers/{driver}/key") Office None (Some Key)
    ∷ table_row (codes "/drivers/{driver}/name") Office None (Some Name)
    ∷ table_row (codes "/drivers/{driver}/withdraw/{word}/{next}") Office None (Some Withdraw)
    ∷ []

-- what else a driver may ask for
abbrev pub driver_table : List TableRow
driver_table =
    table_row (codes "/me/stretches") Driver (Some (Reading Stretches)) None
    ∷ table_row (codes "/me/debts") Driver (Some (Reading Debts)) None
    ∷ table_row (codes "/me/files") Driver (Some (Reading Files)) None
    ∷ table_row (codes "/me/form") Driver (Some Form) None
    ∷ table_row (codes "/me/form/{word}") Driver (Some Form) None
    ∷ table_row (codes "/me/why/{word}") Driver (Some (MonthReading Why)) None
    ∷ table_row (codes "/me/chart/{word}") Driver (Some (MonthReading Chart)) None
    ∷ table_row (codes "/me/ahead/{word}/{next}") Driver (Some Ahead) None
    ∷ table_row (codes "/me/handover/{word}/{next}") Driver (Some Handover) None
    ∷ table_row (codes "/me/version") Driver (Some Version) None
    ∷ table_row (codes "/me/driver") Driver (Some Drivers) None
    ∷ []

-- all paths; no other path is answered
abbrev pub all_routes : List TableRow
all_routes = route_table ++ office_table ++ driver_table

-- the text ends with another
abbrev pub ends_with : List ℕ → List ℕ → Bool
ends_with end text = bytes_eq end (drop (length text - length end) text)

-- how many arguments, beside the driver's number, the paths of a route end with
abbrev pub ending_of_route : List ℕ → Ending
ending_of_route route =
    if ends_with (codes "/{next}") route then Words else (if ends_with (codes "/{word}") route then Word else Fixed)

-- a path, with who may ask there, and for what
abbrev pub Offer : Type 0
Offer = List ℕ × Place

abbrev pub offer : List ℕ → Asker → Option Want → List Offer
offer path a None = []
offer path a (Some want) = (path, record { asker = a; want = want; ending = ending_of_route path }) ∷ []

-- what a row offers for a method
abbrev pub offered : Method → TableRow → List Offer
offered method.Get row = offer row.0 row.1 row.2
offered method.Post row = offer row.0 row.1 row.3

abbrev pub Rows : Type 0
Rows = RowsOf (RouteOf Place)

-- the rows of a router with one more route, if the text of the route is valid
abbrev pub with_read : Rows → Place → Result Scan InsertError → Rows
with_read rows place (Ok s) = placed (s.pattern, route_from s place) rows
with_read rows place (Err e) = rows

-- with the routes of several offers, in order
unfoldable pub with_offers : Rows → List Offer → Rows
with_offers rows [] = rows
with_offers rows (one ∷ more) = with_offers (with_read rows one.1 (parse_route one.0)) more

-- the routes at which a method is offered
unfoldable pub routes : Method → Rows
routes m = with_offers [] (flat_map (offered m) all_routes)

-- ---- what a path names

-- the bytes before the first slash
abbrev pub before_slash : List ℕ → List ℕ
before_slash [] = []
before_slash (b ∷ path) = if b == 47 then [] else b ∷ before_slash path

-- the part of a path after `/drivers/`
abbrev pub driver_part : List ℕ → List ℕ
driver_part path = before_slash (drop 9 path)

-- the last part of a path: a part begins with the path and after each slash
abbrev pub last_from : List ℕ → List ℕ → List ℕ
last_from part [] = part
last_from part (b ∷ path) = if b == 47 then last_from path path else last_from part path

abbrev pub last_part : List ℕ → List ℕ
last_part path = last_from path path

-- a path without its last part and the slash before it
abbrev pub front_part : List ℕ → List ℕ
front_part path = take (length path - (length (last_part path) + 1)) path

-- the argument other than the driver's number: the last part of a path, or the part before it if there are two
abbrev pub word_part : Ending → List ℕ → List ℕ
word_part Fixed path = []
word_part Word path = last_part path
word_part Words path = last_part (front_part path)

-- the argument after that, if there are two
abbrev pub next_part : Ending → List ℕ → List ℕ
next_part Words path = last_part path
next_part ending path = []

-- who may ask at a path, and for what
pub record Named : Type 0 where
  pub asker : Asker
  pub wish : Wish

abbrev pub named_by : List ℕ → RouteOf Place → Named
named_by path route = record {
  asker = route.value.asker;
  wish = record {
    want = route.value.want;
    driver = driver_part path;
    word = word_part route.value.ending path;
    next = next_part route.value.ending path;
  };
}

abbrev pub named_in : Rows → List ℕ → Option Named
named_in rows path = option_map (named_by path) (first rows path)

-- ---- the same in values of the code

abbrev pub named_found : Found → Named
named_found f = record { asker = f.asker; wish = wish_in f.wish }
