use Rattle.std.proofs.Common.{rules, ◌≡◌, ◌+◌, ◌∷◌, drop, map, subst, ap, sym}
use Rattle.tacho_check.specs.Parsed.{GoOn}
use Rattle.tacho_check.proofs.ParsedLemmas.{cut_at}
use Rattle.tacho_check.proofs.parsing.are_counted.Goals as goal

pub loop-row-preserved : goal.loop-row-preserved
loop-row-preserved g c =
    let number_of = g.T.Numbered.number_of in
    let rows = c.args.rows.now in
    let i = c.loop-row.row-index in
    let n = c.loop-row.number in
    let was = c.loop-row.invariant in
    let cut : map number_of (drop i rows) ≡ number_of c.row-item.result ∷ map number_of (drop (i + 1) rows) =
    ap (map number_of) (cut_at rows i c.row-item.result (search rules) (search rules)) in
    let is : number_of c.row-item.result ≡ n + 1 = search rules in (
      search rules,
      ((λ all. (subst (GoOn (n + 1)) cut (was.1.0 all)).1), λ rest. was.1.1 (subst (GoOn (n + 1)) (sym cut) (is, rest))),
    )
