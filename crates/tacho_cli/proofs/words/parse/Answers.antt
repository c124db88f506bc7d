use Rattle.std.proofs.Common.{◌≡◌, ◌∙◌, Some, ap, sym, map, string_bytes}
use Rattle.clap.specs.Words.{App, fault_of, is_simple, is_simple_and_free, kind_of, subcommand_of, rows_of, found_of, takes}
use Rattle.clap.specs.declared.parser.matches.ArgMatches.TheViews.{out-ArgMatches}
use Rattle.tacho_cli.specs.Words.{tacho_app}
use Rattle.tacho_cli.proofs.WordsLemmas.{job_met, of_job, tacho_is_simple, tacho_is_simple_and_free, told, usage_met, usage_of}
use Rattle.tacho_cli.proofs.words.parse.Goals as goal

pub returns-in-Err-clause-usage : goal.returns-in-Err-clause-usage
returns-in-Err-clause-usage c =
    let words = map string_bytes c.args.words.now in
    let built = c.in_ok-command.ensures in
    usage_of (takes tacho_app words) (subcommand_of tacho_app words) (kind_of c.in-Err.error) c.refusal.result
    (λ e. c.in-Err.ensures.passes (ap (λ (a : App). takes a words) built ∙ e)) c.refusal.ensures

pub returns-in-Some-act_of-clause-taken : goal.returns-in-Some-act_of-clause-taken
returns-in-Some-act_of-clause-taken c =
    let built = c.in_ok-command.ensures in
    of_job c.job_of.result (ap (λ (a : App). fault_of a (map string_bytes c.args.words.now)) (sym built)
    ∙ c.in-Ok.ensures.kinds (ap is_simple_and_free built ∙ tacho_is_simple_and_free))

-- the subcommand that was found
found : (c : goal.Joined-matches-2)
    → subcommand_of tacho_app (map string_bytes c.args.words.now) ≡ Some (c.in-Some.name.now, rows_of (found_of c.in-Some.inner.now))
found c =
    let built = c.in_ok-command.ensures in
    sym ((c.in-Ok.ensures.matches (ap is_simple built ∙ tacho_is_simple)).1
    ∙ ap (λ (a : App). subcommand_of a (map string_bytes c.args.words.now)) built)
    ∙ told (out-ArgMatches c.in-Ok.matches).subcommand c.in-Some.name.now _ c.in-Some.ensures.name c.in-Some.ensures.rows

pub returns-in-Some-act_of-clause-job : goal.returns-in-Some-act_of-clause-job
returns-in-Some-act_of-clause-job c =
    job_met c.in-Some-act_of.act (found c) (sym c.in-Some-act_of.ensures) c.job_of.result c.job_of.ensures.job

pub returns-in-Some-act_of-clause-usage : goal.returns-in-Some-act_of-clause-usage
returns-in-Some-act_of-clause-usage c =
    usage_met c.in-Some-act_of.act (found c) (sym c.in-Some-act_of.ensures) _ c.job_of.result c.job_of.ensures.usage
