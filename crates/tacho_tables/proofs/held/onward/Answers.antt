use Rattle.std.proofs.Common.{refl}
use Rattle.tacho_tables.proofs.NextLemmas.{asked_where_refused, begins_onward}
use Rattle.tacho_tables.proofs.held.onward.Goals as goal

pub returns : goal.returns
returns g c = (
  (refl, c.query.follows.holds, asked_where_refused g.S.Store _ c.args.conn.now c.query.result _ c.query.follows.holds-at-none),
  record {
    refused = tt;
    same_reference = c.query.ensures.same_reference;
    begun = begins_onward g.S.Store _ c.args.conn.now c.query.result c.args.driver c.args.start (λ rows. rows.conn.now)
        (rw (c.params-to_sql.ensures, c.params-to_sql-2.ensures))
        c.query.ensures.begun c.query.ensures.mode c.query.ensures.survives;
  },
)
