use Rattle.sqlite_tied.specs.Compute.{everything}
use Rattle.tacho_tables.proofs.schema.is_made.Goals as goal

pub returns : goal.returns
unfolding everything
returns c = c.is_schema.ensures
