use Rattle.std.proofs.Common.{◌≡◌, ◌∙◌, ◌∷◌, ℕ, List, [], ap, bytes_eq, map, refl, rules, tests}
use Rattle.std.proofs.lemmas.Iterator.{YieldsList-from_slice}
use Rattle.std.proofs.lemmas.Iterator.Search.{find_from_yields_List}
use Rattle.std.specs.List.{find}
use Rattle.std.specs.Option.{option_map}
use Rattle.tacho_desk.specs.Commands.{row_of}
use Rattle.tacho_desk.specs.declared.table.Command.{Command}
use Rattle.tacho_cli.specs.Words.{act_named}
use Rattle.tacho_cli.proofs.help.row_named.Goals as goal

-- the act of the first row with a name
found : (name : List ℕ) (rows : List Command)
    → option_map (λ row. row.act) (find (λ row. bytes_eq row.name.now name) rows) ≡ act_named name (map row_of rows)
found name [] = refl
found name (row ∷ rows) = search (rules, found name rows)

pub returns : goal.returns
returns c =
    let name = c.args.name.now in
    let rows = c.command_table.result.now in
    ap (option_map (λ row. row.act)) (find_from_yields_List (λ row. bytes_eq row.name.now name) _ _ c.find.result c.find.ensures.ran
    (YieldsList-from_slice rows c.iter.ensures.rest) (λ x b q k. search (rules, tests)))
    ∙ found name rows ∙ ap (act_named name) c.command_table.ensures
