use Rattle.tacho_check.proofs.KeepLemmas.{decides_same}
use Rattle.tacho_check.proofs.keeping.give_same.Goals as goal

pub returns : goal.returns
returns c =
    decides_same c.args.spans.now c.args.given.now c.in_ok-own.own c.in_ok-others.others c.requires c.in_ok-own.ensures
    c.in_ok-others.ensures c.agree.result c.agree.ensures
