use Rattle.std.proofs.Common.{◌∙◌}
use Rattle.tacho_http.proofs.RouteLemmas.{commands_got, commands_posted}
use Rattle.tacho_http.proofs.places.Routes.new.Goals as goal

pub invariant_of-result : goal.invariant_of-result
invariant_of-result c = (
  (rw c.command_table.ensures at c.in_ok-get.ensures) ∙ commands_got,
  (rw c.command_table-2.ensures at c.in_ok-post.ensures) ∙ commands_posted,
)
