-- What paths name: each path of the tables, by the methods that it offers, and some that name nothing.
use Rattle.std.proofs.Common.{◌≡◌, ◌∷◌, ◌∙◌, List, ℕ, [], Option, Some, None, ap, codes, map, refl, sym}
use Rattle.matchit.proofs.OnLiterals.{matchit_on_literals}
use Rattle.matchit.proofs.RenameLemmas.{first-rename}
use Rattle.matchit.specs.Router.{rename}
use Rattle.matchit.specs.Rows.{RowsOf, param_token}
use Rattle.matchit.specs.Seek.{after_param, first, step}
use Rattle.tacho_desk.specs.declared.want.MonthOfAll.TheVariants.{Incidents, Overview, Standing}
use Rattle.tacho_desk.specs.declared.want.MonthReading.TheVariants.{Chart, Gaps, Sheet, Spans, Why}
use Rattle.tacho_desk.specs.declared.want.Reading.TheVariants.{Breaches, Debts, Entries, Files, Owed, Stretches}
use Rattle.tacho_desk.specs.declared.want.Want.{Want}
use Rattle.tacho_desk.specs.declared.want.Want.TheVariants.{Ahead, Base, Drivers, Enter, File, Forecast, Form, Handover, Import, Key, MonthOfAll, MonthReading, Name, Reading, Register, Version, Withdraw}
use Rattle.tacho_message.specs.declared.method.Method.TheVariants.{Get, Post}
use Rattle.tacho_http.specs.Routes.{Named, named_in, routes, with_offers}
use Rattle.tacho_http.proofs.RouteLemmas.{by_bytes, by_param, goes_on, of_place}
use Rattle.tacho_http.specs.declared.places.Asker.{Asker}
use Rattle.tacho_http.specs.declared.places.Asker.TheVariants.{Driver, Office}
use Rattle.tacho_http.specs.declared.places.Ending.TheVariants.{Words}
use Rattle.tacho_http.specs.declared.places.Place.{Place}

-- a path, and what it names
abbrev Vector : Type 0
Vector = List ℕ × Option Named

-- who may ask at a path, for what, the part of the path after `/drivers/`, and two other arguments
abbrev names_two : List ℕ → Asker → Want → List ℕ → List ℕ → List ℕ → Vector
names_two path a want driver word next =
    (path, Some (record { asker = a; wish = record { want = want; driver = driver; word = word; next = next } }))

-- likewise with one other argument, or none
abbrev names_one : List ℕ → Asker → Want → List ℕ → List ℕ → Vector
names_one path a want driver word = names_two path a want driver word []

abbrev names : List ℕ → Asker → Want → List ℕ → Vector
names path a want driver = names_one path a want driver []

abbrev nothing : List ℕ → Vector
nothing path = (path, None)

-- what the office may get
abbrev office_gets : List Vector
office_gets =
    names (codes "/drivers") Office Drivers []
    ∷ names (codes "/drivers/17") Office Drivers (codes "17")
    ∷ names (codes "/drivers/17/entries") Office (Reading Entries) (codes "17")
    ∷ names_one (codes "/drivers/17/spans/2024-03") Office (MonthReading Spans) (codes "17") (codes "2024-03")
    ∷ names_one (codes "/drivers/17/gaps/2024-03") Office (MonthReading Gaps) (codes "17") (codes "2024-03")
    ∷ names_one (codes "/drivers/17/sheet/2024-03") Office (MonthReading Sheet) (codes "17") (codes "2024-03")
    ∷ names (codes "/drivers/17/breaches") Office (Reading Breaches) (codes "17")
    ∷ names (codes "/drivers/17/owed") Office (Reading Owed) (codes "17")
    ∷ names_one (codes "/drivers/17/files/1") Office File (codes "17") (codes "1")
    ∷ names (codes "/drivers/17/stretches") Office (Reading Stretches) (codes "17")
    ∷ names (codes "/drivers/17/debts") Office (Reading Debts) (codes "17")
    ∷ names (codes "/drivers/17/files") Office (Reading Files) (codes "17")
    ∷ names (codes "/drivers/17/form") Office Form (codes "17")
    ∷ names_one (codes "/drivers/17/form/2024-03-04") Office Form (codes "17") (codes "2024-03-04")
    ∷ names_one (codes "/drivers/17/why/2024-03") Office (MonthReading Why) (codes "17") (codes "2024-03")
    ∷ names_one (codes "/drivers/17/chart/2024-03") Office (MonthReading Chart) (codes "17") (codes "2024-03")
    ∷ names_one (codes "/overview/2024-03") Office (MonthOfAll Overview) [] (codes "2024-03")
    ∷ names_one (codes "/incidents/2024-03") Office (MonthOfAll Incidents) (codes "s") (codes "2024-03")
    ∷ names_one (codes "/standing/2024-03") Office (MonthOfAll Standing) [] (codes "2024-03")
    ∷ names_two (codes "/forecast/2024-03-04/12:00") Office Forecast [] (codes "2024-03-04") (codes "12:00")
    ∷ names (codes "/version") Office Version []
    ∷ nothing (codes "/drivers//owed") ∷ nothing (codes "/drivers/") ∷ []

pub office_gets_named : map (λ v. (v.0, named_in (routes Get) v.0)) office_gets ≡ office_gets
unfolding matchit_on_literals routes with_offers
office_gets_named = refl

-- what a driver may get
abbrev driver_gets : List Vector
driver_gets =
    names (codes "/me/driver") Driver Drivers (codes "r")
    ∷ names (codes "/me/entries") Driver (Reading Entries) (codes "es")
    ∷ names_one (codes "/me/spans/2024-03") Driver (MonthReading Spans) [] (codes "2024-03")
    ∷ names_one (codes "/me/gaps/2024-03") Driver (MonthReading Gaps) (codes "2024-03") (codes "2024-03")
    ∷ names_one (codes "/me/sheet/2024-03") Driver (MonthReading Sheet) [] (codes "2024-03")
    ∷ names (codes "/me/breaches") Driver (Reading Breaches) (codes "hes")
    ∷ names (codes "/me/owed") Driver (Reading Owed) []
    ∷ names_one (codes "/me/files/1") Driver File [] (codes "1")
    ∷ names (codes "/me/stretches") Driver (Reading Stretches) (codes "ches")
    ∷ names (codes "/me/debts") Driver (Reading Debts) []
    ∷ names (codes "/me/files") Driver (Reading Files) []
    ∷ names (codes "/me/form") Driver Form []
    ∷ names_one (codes "/me/form/2024-03-04") Driver Form (codes "2024-03-04") (codes "2024-03-04")
    ∷ names_one (codes "/me/why/2024-03") Driver (MonthReading Why) (codes "024-03") (codes "2024-03")
    ∷ names_one (codes "/me/chart/2024-03") Driver (MonthReading Chart) [] (codes "2024-03")
    ∷ names_two (codes "/me/ahead/2024-03-04/12:00") Driver Ahead [] (codes "2024-03-04") (codes "12:00")
    ∷ names_two (codes "/me/handover/2024-03-01/2024-04-01") Driver Handover (codes "ver") (codes "2024-03-01") (codes "2024-04-01")
    ∷ names (codes "/me/version") Driver Version (codes "on")
    ∷ nothing (codes "/me/cards/") ∷ nothing (codes "/me/owed/1") ∷ nothing (codes "/me/ahead/2024-03-04") ∷ []

pub driver_gets_named : map (λ v. (v.0, named_in (routes Get) v.0)) driver_gets ≡ driver_gets
unfolding matchit_on_literals routes with_offers
driver_gets_named = refl

-- what may be posted
abbrev by_post : List Vector
by_post =
    names (codes "/drivers") Office Register []
    ∷ names_one (codes "/cards/both") Office Import (codes "th") (codes "both")
    ∷ names (codes "/drivers/17/entries") Office Enter (codes "17")
    ∷ names_one (codes "/drivers/17/withdraw/1") Office Withdraw (codes "17") (codes "1")
    ∷ names_one (codes "/drivers/17/base/2024-03-04") Office Base (codes "17") (codes "2024-03-04")
    ∷ names (codes "/drivers/17/key") Office Key (codes "17")
    ∷ names (codes "/drivers/17/name") Office Name (codes "17")
    ∷ names_two (codes "/drivers/17/withdraw/1/672") Office Withdraw (codes "17") (codes "1") (codes "672")
    ∷ names_one (codes "/me/cards/both") Driver Import [] (codes "both")
    ∷ nothing (codes "/drivers//owed") ∷ nothing (codes "/drivers/") ∷ nothing (codes "/me/cards/") ∷ nothing (codes "/me/owed/1") ∷ []

pub post_names : map (λ v. (v.0, named_in (routes Post) v.0)) by_post ≡ by_post
unfolding matchit_on_literals routes with_offers
post_names = refl

-- ---- the office's forecast and handover: that no row goes on with a digit is computed without the rest of the path, since a walk without
-- rows doubles its work with each byte

-- the rows after `/drivers/`
abbrev of_drivers : RowsOf Place
of_drivers = goes_on (codes "/drivers/") (rename (λ route. route.value) (routes Get))

no_digit : step 49 of_drivers ≡ []
unfolding matchit_on_literals routes with_offers
no_digit = refl

abbrev forecast_path : List ℕ
forecast_path = codes "/drivers/17/ahead/2024-03-04/12:00"

abbrev forecast : Place
forecast = record { asker = Office; want = Ahead; ending = Words }

after_number : after_param (step param_token of_drivers) (codes "17/ahead/2024-03-04/12:00") ≡ Some forecast
unfolding matchit_on_literals routes with_offers
after_number = refl

forecast_found : first (rename (λ route. route.value) (routes Get)) forecast_path ≡ Some forecast
forecast_found = by_bytes (codes "/drivers/") _ _ forecast (by_param of_drivers 49 _ forecast no_digit after_number)

pub forecast_named : (forecast_path, named_in (routes Get) forecast_path)
    ≡ names_two forecast_path Office Ahead (codes "17") (codes "2024-03-04") (codes "12:00")
forecast_named =
    ap (λ named. (forecast_path, named)) (of_place forecast_path forecast (first (routes Get) forecast_path)
    (sym (first-rename (λ route. route.value) (routes Get) forecast_path) ∙ forecast_found))

abbrev handover_path : List ℕ
handover_path = codes "/drivers/17/handover/2024-03-01/2024-04-01"

abbrev handover : Place
handover = record { asker = Office; want = Handover; ending = Words }

handover_after_number : after_param (step param_token of_drivers) (codes "17/handover/2024-03-01/2024-04-01") ≡ Some handover
unfolding matchit_on_literals routes with_offers
handover_after_number = refl

handover_found : first (rename (λ route. route.value) (routes Get)) handover_path ≡ Some handover
handover_found = by_bytes (codes "/drivers/") _ _ handover (by_param of_drivers 49 _ handover no_digit handover_after_number)

pub handover_named : (handover_path, named_in (routes Get) handover_path)
    ≡ names_two handover_path Office Handover (codes "17") (codes "2024-03-01") (codes "2024-04-01")
handover_named =
    ap (λ named. (handover_path, named)) (of_place handover_path handover (first (routes Get) handover_path)
    (sym (first-rename (λ route. route.value) (routes Get) handover_path) ∙ handover_found))
