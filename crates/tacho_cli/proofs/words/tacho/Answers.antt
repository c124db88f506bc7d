use Rattle.tacho_cli.specs.Words.{tacho_app}
use Rattle.tacho_cli.proofs.words.tacho.Goals as goal

pub returns : goal.returns
unfolding tacho_app
returns c = rw c.command_table.ensures at c.command_of.ensures
