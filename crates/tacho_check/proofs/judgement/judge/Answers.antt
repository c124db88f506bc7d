use Rattle.std.proofs.Common.{rules, ◌≡◌, ◌∙◌, [], ◌∷◌, subst, sym, arith}
use Rattle.std.proofs.lemmas.Result.{IfOk-weaker}
use Rattle.sqlite.specs.Order.{Row}
use Rattle.tacho_tables.specs.Rows.{driver_row}
use Rattle.tacho_tables.specs.Ask.{driver_values, own_in}
use Rattle.tacho_tables.specs.declared.table.TableName.TheVariants.{Drivers}
use Rattle.tacho_check.specs.Judged.{IsJudged}
use Rattle.tacho_check.specs.Registered.{ShowsDriver}
use Rattle.std.proofs.lemmas.List.{nil_from_length}
use Rattle.tacho_check.proofs.RegisteredLemmas.{unfit, fit, one_element, not_none, not_one, shows_driver}
use Rattle.tacho_check.proofs.ShownLemmas.{none_shown}
use Rattle.tacho_check.proofs.judgement.judge.Goals as goal

pub returns-in-empty : goal.returns-in-empty
returns-in-empty c layout db n ready shown =
    let own = own_in layout db n in
    let none : c.as_slice.result.now ≡ [] = nil_from_length c.as_slice.result.now (search rules) in
    c.first_with_rows.ensures own n
    (none_shown driver_values (own Drivers) c.args.rows.now.drivers.items (shown Drivers) (sym c.as_slice.ensures.value ∙ none)) shown

pub returns-in-None : goal.returns-in-None
returns-in-None c layout db n ready shown =
    let row : Row = c.row-item.result in
    let one : c.as_slice.result.now ≡ row ∷ [] =
    one_element c.as_slice.result.now row c.in-len1.len_at_least c.in-len1.len_below c.row-item.is in
    let items = sym c.as_slice.ensures.value ∙ one in
    unfit layout db n ready c.args.rows.now shown (λ none. let e = sym items ∙ none in cc)
    (λ r has other.
    let same : row ≡ driver_values (driver_row r) = let e = sym items ∙ other in cc in
    c.in-None.ensures r (subst (λ v. ShowsDriver v r) (sym same) (shows_driver r has)))

pub returns-in-Some : goal.returns-in-Some
returns-in-Some c = IfOk-weaker c.first_wrong.result _ _
    (λ found judged layout db n ready shown.
    let row : Row = c.row-item.result in
    let one : c.as_slice.result.now ≡ row ∷ [] =
    one_element c.as_slice.result.now row c.in-len1.len_at_least c.in-len1.len_below c.row-item.is in
    let it = fit layout db n ready c.args.rows.now shown row c.in-Some.basis (sym c.as_slice.ensures.value ∙ one) c.in-Some.ensures in
    subst (λ m. IsJudged (own_in layout db n) m found) (sym it.1) (judged (own_in layout db n) it.0 it.2)) c.first_wrong.ensures

pub returns-in_default : goal.returns-in_default
returns-in_default c layout db n ready shown =
    let items = sym c.as_slice.ensures.value in
    let many = c.in_default.len_at_least in
    unfit layout db n ready c.args.rows.now shown (λ none. not_none c.as_slice.result.now (omega (arith, many)) (sym items ∙ none))
    (λ r has one. not_one c.as_slice.result.now (driver_values (driver_row r)) many (sym items ∙ one))
