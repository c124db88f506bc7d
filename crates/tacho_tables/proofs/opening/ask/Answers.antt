use Rattle.std.proofs.Common.{rules, []}
use Rattle.std.proofs.lemmas.Result.{IfErr-weaker}
use Rattle.sqlite.specs.Held.{state}
use Rattle.tacho_tables.proofs.OpenLemmas.{asked, unknown_outline}
use Rattle.tacho_tables.proofs.Statements.{version_text, version_is_unknown}
use Rattle.tacho_tables.proofs.opening.ask.Goals as goal

pub returns-in_err-prepare-clause-asks : goal.returns-in_err-prepare-clause-asks
returns-in_err-prepare-clause-asks g c = record {
  autocommit = search rules;
  clean = search rules;
  was_open = λ clean.
      (asked _ [] (state g.S.Store c.args.conn.now) (state g.S.Store c.prepare.new.self) c.prepare.result _ (c.prepare.ensures.ok clean)
      (IfErr-weaker c.prepare.result _ _ (λ e no. no []) (c.prepare.ensures.err clean))).was_open;
  live = search rules;
  same = λ clean.
      (asked _ [] (state g.S.Store c.args.conn.now) (state g.S.Store c.prepare.new.self) c.prepare.result _ (c.prepare.ensures.ok clean)
      (IfErr-weaker c.prepare.result _ _ (λ e no. no []) (c.prepare.ensures.err clean))).same;
  survives = search rules;
}

pub returns-clause-missing : goal.returns-clause-missing
returns-clause-missing g c clean none = absurd
    (unknown_outline version_text (state g.S.Store c.args.conn.now).now.schema _ none version_is_unknown
    (c.in_ok-prepare.ensures.shape clean))
