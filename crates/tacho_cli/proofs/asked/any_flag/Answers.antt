use Rattle.std.proofs.Common.{◌∙◌, rules, tests}
use Rattle.std.proofs.lemmas.Iterator.{YieldsList-from_slice}
use Rattle.std.proofs.lemmas.Iterator.Search.{any_from_yields_List}
use Rattle.std.specs.Prelude.{string_bytes}
use Rattle.clap.proofs.WalkLemmas.{list_any-map}
use Rattle.tacho_cli.specs.Asked.{is_flag}
use Rattle.tacho_cli.proofs.asked.any_flag.Goals as goal

pub returns : goal.returns
returns c =
    any_from_yields_List (λ w. is_flag (string_bytes w)) _ _ c.any.result c.any.ensures.ran
    (YieldsList-from_slice c.args.words.now c.iter.ensures.rest) (λ x b q k. search (rules, tests))
    ∙ list_any-map is_flag string_bytes c.args.words.now
