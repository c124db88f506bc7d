use Rattle.std.proofs.Common.{[], ◌∷◌, filter, refl, string_bytes}
use Rattle.sqlite.specs.declared.types.Value.TheVariants.{Text}
use Rattle.tacho_tables.specs.Tables.{has_number, secret_shown}
use Rattle.tacho_tables.proofs.CallLemmas.{finds}
use Rattle.tacho_tables.proofs.Reading.{first_found}
use Rattle.tacho_tables.proofs.DriverLemmas.{shows_drivers, number_test}
use Rattle.tacho_tables.proofs.Statements.{secret_text, secret_is}
use Rattle.tacho_tables.proofs.drivers.secret_of.Goals as goal

pub returns : goal.returns
returns g c =
    finds (rw c.params-to_sql.ensures at c.first.ensures) (λ layout. (secret_is layout).plain)
    (λ is rows shown a s found first. first_found (λ t. Text t ∷ []) (λ text. string_bytes text) (λ t. t) (λ r. r.secret) found rows
    (filter (has_number c.args.driver) a.drivers)
    (shows_drivers secret_text _ _ _ secret_is _ (has_number c.args.driver) (number_test c.args.driver) secret_shown (λ x. refl)
    _ _ rows is shown a.drivers s.drivers) first)
