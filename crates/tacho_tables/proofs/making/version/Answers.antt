use Rattle.std.proofs.lemmas.Result.{IfOk-weaker}
use Rattle.tacho_tables.proofs.CallLemmas.{reads_known}
use Rattle.tacho_tables.proofs.Inside.{unknown_shows}
use Rattle.tacho_tables.proofs.MakingLemmas.{none_shown, version_reads, shows_version, shows_no_version, first_is, first_is_none}
use Rattle.tacho_tables.proofs.Statements.{version_text, version_is_unknown}
use Rattle.tacho_tables.proofs.making.version.Goals as goal

pub returns-clause-reads : goal.returns-clause-reads
returns-clause-reads g c = reads_known c.first.ensures (λ d known. (version_reads d known).plain)

pub returns-clause-found : goal.returns-clause-found
returns-clause-found g c clean known =
    IfOk-weaker c.first.result _ _ (λ found it. record {
      said = λ version is. first_is version found it.0 (shows_version version _ _ it.0 known it.1 is) it.2;
      missing = λ is. first_is_none found it.0 (shows_no_version _ _ it.0 known it.1 is) it.2;
    }) (c.first.ensures.told clean)

pub returns-clause-missing : goal.returns-clause-missing
returns-clause-missing g c clean schema =
    none_shown c.first.result (λ found it. unknown_shows version_text _ _ _ it.0 schema version_is_unknown it.1) (c.first.ensures.told clean)
