use Rattle.std.proofs.Common.{rules, string_bytes, subst, sym}
use Rattle.tacho_state.specs.Acts.{Answers}
use Rattle.tacho_state.specs.Steps.{key_reading}
use Rattle.tacho_reading.proofs.DriverRowLemmas.{number_none, number_some}
use Rattle.tacho_reading.proofs.LookUpLemmas.{looked_up}
use Rattle.tacho_reading.proofs.ReadingLemmas.{key_told}
use Rattle.tacho_reading.proofs.TellLemmas.{tells_as, tells_rows}
use Rattle.tacho_reading.proofs.reading.key_in.Goals as goal

pub returns : goal.returns
returns g c = tells_as (tells_rows c.secret_of.ensures c.in_ok-found.ensures.cases) (search rules) (λ db s stands read.
    subst (λ r. Answers string_bytes r (key_reading c.args.driver s)) (sym c.known.ensures)
    (key_told string_bytes c.args.driver s c.in_ok-found.found (looked_up _ _ db s _ _ c.in_ok-found.found stands
    (λ t. number_none t s _) (λ t. number_some t s _) (λ distinct it d is key. key) read)))
