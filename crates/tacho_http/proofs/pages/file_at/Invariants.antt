use Rattle.std.proofs.Common.{◌≡◌, drop}
use Rattle.tacho_http.specs.Pages.{file_at as file_with}
use Rattle.tacho_http.proofs.pages.file_at.Given as goal

-- no file before the index has the path
abbrev pub invariant-loop-file : goal.invariant-loop-file
invariant-loop-file l = file_with l.files l.path ≡ file_with (drop l.file-index l.files) l.path
