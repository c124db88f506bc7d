-- Private to tacho_http: What the requests for a command offer, by the table of commands.
use Rattle.std.specs.Prelude.{ℕ, List, [], Bool, Option, Some, None, bytes_eq, codes, if◌then◌else◌, flat_map, map, take}
use Rattle.tacho_time.specs.Merge.{same_bool}
use Rattle.tacho_desk.specs.Commands.{Row}
use Rattle.tacho_desk.specs.Wants.{is_command}
use Rattle.tacho_desk.specs.declared.table.Act.{Act}
use Rattle.tacho_desk.specs.declared.want.Want.{Want}
use Rattle.tacho_desk.specs.declared.want.Want.TheVariants as want
use Rattle.tacho_desk.specs.declared.table.Act.TheVariants.{AtDesk, Version}
use Rattle.tacho_http.specs.Routes.{Offer, ending_of_route}
use Rattle.tacho_http.specs.declared.places.Asker.{Asker}
use Rattle.tacho_http.specs.declared.places.Asker.TheVariants.{Driver, Office}

-- the paths of a driver's requests begin with `/me/`, the others are the office's
abbrev pub asker_of_path : List ℕ → Asker
asker_of_path path = if bytes_eq (codes "/me/") (take 4 path) then Driver else Office

abbrev pub offer_at : Want → List ℕ → Offer
offer_at w path = (path, record { asker = asker_of_path path; want = w; ending = ending_of_route path })

-- what is asked for by a request for what a command does
abbrev pub want_of : Act → Option Want
want_of (AtDesk w) = Some w
want_of Version = Some want.Version
want_of other = None

-- those of a command, if they are posted or if they aren't
abbrev pub offers_by : Bool → Option Want → List (List ℕ) → List Offer
offers_by posted None paths = []
offers_by posted (Some w) paths = if same_bool (is_command w) posted then map (offer_at w) paths else []

abbrev pub offers_of : Bool → Row → List Offer
offers_of posted row = offers_by posted (want_of row.act) row.paths

-- those of a table
abbrev pub offers_in : Bool → List Row → List Offer
offers_in posted table = flat_map (offers_of posted) table
