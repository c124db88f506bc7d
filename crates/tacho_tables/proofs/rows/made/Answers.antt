use Rattle.std.proofs.Common.{◌≡◌, ◌∙◌, suc, ◌+◌, ap, sym, drop, drop-cons, add-one, [], ◌∷◌, ◌++◌, List, map, append_assoc}
use Rattle.std.proofs.lemmas.List.{map-append}
use Rattle.sqlite.specs.Order.{Row}
use Rattle.tacho_tables.proofs.Reading.{none_left, reads_first_of}
use Rattle.tacho_tables.proofs.rows.made.Goals as goal

pub returns : goal.returns
returns g c shown is =
    let rest = c.loop-row.invariant shown is in
    none_left _ g.T.FromRow.meant rest.0 c.args.rows.now c.loop-row.row-index c.loop-row-test.false rest.1 _ _ rest.2

pub loop-row-preserved : goal.loop-row-preserved
loop-row-preserved g c shown is =
    let rows : List Row = c.args.rows.now in
    let i = c.loop-row.row-index in
    let row : Row = c.row-item.result in
    let was = c.loop-row.invariant shown is in
    let cut : drop i rows ≡ row ∷ drop (i + 1) rows =
    drop-cons rows i row c.loop-row-test.true ∙ ap (λ r. r ∷ drop (suc i) rows) (sym c.row-item.is)
    ∙ ap (λ k. row ∷ drop k rows) (sym (add-one i)) in
    let it = c.in_ok-from_row.field-0 in
    let done = map g.T.FromRow.told c.loop-row.found.items in
    let later = reads_first_of _ g.T.FromRow.meant was.0 row (drop (i + 1) rows) (g.T.FromRow.told it) (sym cut ∙ was.1) c.in_ok-from_row.ensures in (
      later.0,
      later.1,
      ap (λ xs. map g.T.FromRow.told xs ++ map g.T.FromRow.meant later.0) c.in_ok-push.ensures.items
          ∙ ap (λ xs. xs ++ map g.T.FromRow.meant later.0) (map-append g.T.FromRow.told c.loop-row.found.items (it ∷ []))
          ∙ append_assoc done (g.T.FromRow.told it ∷ []) (map g.T.FromRow.meant later.0) ∙ ap (λ xs. done ++ xs) (sym later.2) ∙ was.2,
    )
