use Rattle.std.proofs.Common.{◌≡◌, None, drop}
use Rattle.tacho_rests.specs.Paying.{longest_rest}
use Rattle.tacho_rests.proofs.payment.main_of.Given as goal

abbrev pub invariant-loop-rest : goal.invariant-loop-rest
invariant-loop-rest l = longest_rest l.end l.main (drop l.rest-index l.rests) ≡ longest_rest l.end None l.rests
