use Rattle.std.proofs.Common.{drop}
use Rattle.tacho_check.proofs.FileLemmas.{GoesOn}
use Rattle.tacho_check.proofs.files.given_by.Given as goal

-- all files give what was given so far, followed by what the remaining ones give
abbrev pub invariant-loop-row : goal.invariant-loop-row
invariant-loop-row l = GoesOn l.holder l.rows (drop l.row-index l.rows) l.given.items
