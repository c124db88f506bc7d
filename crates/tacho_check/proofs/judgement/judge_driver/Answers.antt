use Rattle.std.proofs.Common.{to_z-of_z}
use Rattle.std.proofs.lemmas.Result.{IfOk-weaker}
use Rattle.tacho_check.proofs.LearnLemmas.{learned}
use Rattle.tacho_check.proofs.judgement.judge_driver.Goals as goal

pub returns : goal.returns
returns g c = learned c.in_ok-rows.rows c.judge.result c.in_ok-rows.ensures
    (λ is shown. IfOk-weaker c.judge.result _ _
    (λ found judged ready. judged is.layout _ c.args.driver ready (rw (to_z-of_z c.ranges.driver) at shown ready)) c.judge.ensures)
