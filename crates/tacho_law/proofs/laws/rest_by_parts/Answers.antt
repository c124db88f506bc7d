use Rattle.tacho_law.proofs.DaysLemmas.{regular_by_parts, reduced_by_parts}
use Rattle.tacho_law.proofs.laws.rest_by_parts.Goals as goal

pub returns-clause-regular : goal.returns-clause-regular
returns-clause-regular c = regular_by_parts

pub returns-clause-reduced : goal.returns-clause-reduced
returns-clause-reduced c = reduced_by_parts
