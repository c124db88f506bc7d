-- The command is one for which clap gives the matches; and the subcommand that a parse found.
use Rattle.std.proofs.Common.{◌≡◌, List, Option, Some, None, Bool, true, false, Result, Ok, Err, refl}
use Rattle.std.specs.Prelude.{Box, IfErr, IfOk, option_map}
use Rattle.std.specs.Box.{box_value}
use Rattle.clap.specs.Words.{Row, Text, is_simple, is_simple_and_free, subcommand_rows}
use Rattle.clap.specs.declared.parser.matches.ArgMatches.TheViews.{out-SubCommand}
use Rattle.clap.specs.declared.parser.matches.SubCommand.{SubCommand}
use Rattle.clap.proofs.OnLiterals.{clap_on_literals}
use Rattle.clap.specs.declared.error.kind.ErrorKind.{ErrorKind}
use Rattle.clap.specs.declared.error.kind.ErrorKind.TheVariants.{OutOfMemory}
use Rattle.tacho_desk.specs.Commands.{all_commands}
use Rattle.tacho_desk.specs.declared.table.Act.{Act}
use Rattle.tacho_cli.specs.declared.job.Job.{Job}
use Rattle.tacho_cli.specs.declared.words.Usage.{Usage}
use Rattle.tacho_cli.specs.declared.words.Usage.TheVariants as usage
use Rattle.tacho_cli.specs.Words.{act_named, tacho_app, with_table, with_words, IsActUsage, IsJob, IsJobOf, IsRefusal, IsUsage}

pub tacho_is_simple : is_simple tacho_app ≡ true
unfolding clap_on_literals tacho_app with_table with_words
tacho_is_simple = refl

pub tacho_is_simple_and_free : is_simple_and_free tacho_app ≡ true
unfolding clap_on_literals tacho_app with_table with_words
tacho_is_simple_and_free = refl

pub told : {Z : Type 0} (o : Option (Box SubCommand Z)) (name : Text) (rows : List Row)
    → Some name ≡ option_map (λ b. (out-SubCommand (box_value b)).name.now) o
    → Some rows ≡ option_map (λ p. p.1) (subcommand_rows o)
    → subcommand_rows o ≡ Some (name, rows)
told None name rows x y = cc x
told (Some b) name rows x y = cc

-- usage is shown only if the command line doesn't accept the arguments
pub usage_of : (taken : Bool) (sub : Option (Text × List Row)) (kind : ErrorKind) (u : Usage)
    → (taken ≡ true → kind ≡ OutOfMemory) → IsRefusal kind u → IsUsage taken sub u
usage_of true sub kind (usage.Words text) h r = absurd (r (h refl))
usage_of false sub kind (usage.Words text) h r = refl
usage_of taken sub kind usage.Numbers h r = absurd r
usage_of taken sub kind u h r = tt

-- a fact that holds for any job
pub of_job : {P : Type 0} (result : Result Job Usage) → P → IfOk result (λ _. P)
of_job (Ok j) p = p
of_job (Err u) p = tt

-- what was made of the subcommand that was found
module _ {sub : Option (Text × List Row)} {name : Text} {rows : List Row} (a : Act) (is : sub ≡ Some (name, rows))
    (named : act_named name all_commands ≡ Some a) where
  -- its job
  pub job_met : (result : Result Job Usage) → IfOk result (IsJobOf a rows) → IfOk result (IsJob sub)
  job_met (Ok j) h = (name, rows, a, is, named, h)
  job_met (Err u) h = tt

  -- or its fault
  pub usage_met : (taken : Bool) (result : Result Job Usage) → IfErr result (IsActUsage a rows) → IfErr result (IsUsage taken sub)
  usage_met taken (Ok j) h = tt
  usage_met taken (Err usage.Numbers) h = (name, rows, a, is, named, h.0, h.1)
  usage_met taken (Err usage.Parser) h = tt
  usage_met taken (Err u) h = absurd h
