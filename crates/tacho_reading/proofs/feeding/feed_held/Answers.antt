use Rattle.std.proofs.Common.{rules, [], ◌∙◌, not, sym, ap, subst, arith}
use Rattle.sqlite.specs.Effect.{Database}
use Rattle.sqlite.specs.Held.{state}
use Rattle.sqlite.specs.State.{HasCleanDisk}
use Rattle.tacho_tables.specs.Rows.{AreRowsOf, span_columns}
use Rattle.tacho_tables.specs.Tables.{IsArchive}
use Rattle.tacho_reading.specs.Taken.{ReadsSettled}
use Rattle.tacho_reading.proofs.TakenLemmas.{settled_where_refused, settled_where_read, are_fed, taken_none}
use Rattle.tacho_reading.proofs.feeding.feed_held.Goals as goal

pub returns-in-Err-clause-reads : goal.returns-in-Err-clause-reads
returns-in-Err-clause-reads g c =
    settled_where_refused g.S.Store c.args.conn.now c.requires.settled
    (c.is_autocommit-settled.ensures.settled (c.is_autocommit-settled.ensures.value ∙ ap not c.requires.settled)) _ _
    (rw c.in-Err.is at c.onward.follows.holds-at-none)

pub returns-in-Err-clause-ends : goal.returns-in-Err-clause-ends
returns-in-Err-clause-ends g c = record {
  at = tt;
  left = (
    c.args.base,
    [],
    taken_none c.args.base c.args.scan.now c.args.found.now c.requires.at c.requires.in_range,
  );
}

pub returns-clause-reads : goal.returns-clause-reads
returns-clause-reads g c =
    let all : ReadsSettled g.S.Store c.feed_rows.result c.args.conn.now c.feed_rows.new.rows.conn.now =
    settled_where_read g.S.Store c.args.conn.now c.requires.settled
    (c.is_autocommit-settled.ensures.settled (c.is_autocommit-settled.ensures.value ∙ ap not c.requires.settled))
    c.args.driver c.args.start c.in-Ok.rows.conn c.feed_rows.new.rows.conn c.feed_rows.result
    c.in-Ok.ensures.begun c.feed_rows.ensures.reads in
    search rules

pub returns-clause-fed : goal.returns-clause-fed
returns-clause-fed g c clean schema t stand =
    let old = state g.S.Store c.args.conn.now in
    let mid = state g.S.Store c.in-Ok.rows.conn.now in
    let new = state g.S.Store c.feed_rows.new.rows.conn.now in
    let late : HasCleanDisk new = search rules in
    let early : HasCleanDisk mid = omega (arith, c.feed_rows.ensures.reads.survives.clean) in
    let same = c.in-Ok.ensures.begun.same early in
    let kept = c.feed_rows.ensures.reads.kept late in
    let settled = c.is_autocommit-settled.ensures.settled (c.is_autocommit-settled.ensures.value ∙ ap not
    c.requires.settled) same.0.was_open in
    are_fed g.S.Store c.args.driver c.args.start c.args.base t.held c.in-Ok.rows.conn.now c.feed_rows.new.rows.conn.now
    c.args.scan.now c.args.found.now
    c.feed_rows.new.scan c.feed_rows.new.found (subst IsArchive (sym same.0.now_is) schema)
    (λ live. kept.same live (same.0.now_is ∙ settled ∙ sym same.0.committed_is))
    (subst (λ (d : Database). AreRowsOf span_columns (d.trees 10) t.held) (sym same.0.now_is) stand.held)
    (c.in-Ok.ensures.begun.given early) c.feed_rows.result
    (c.feed_rows.ensures.reads.live late) (c.feed_rows.ensures.fed late)
