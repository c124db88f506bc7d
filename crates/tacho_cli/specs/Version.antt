-- Trusted: What `version` prints.
use Rattle.tacho_desk.specs.Version.{version_text}
use Rattle.tacho_cli.specs.Command.{Reply}

abbrev pub version_reply : Reply
version_reply = record { text = version_text; status = 0 }
