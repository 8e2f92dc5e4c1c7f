use Rattle.std.proofs.Common.{◌≡◌, take}
use Rattle.cf_rows.proofs.idle.shared_names.Given as goal

abbrev pub invariant-loop-file : goal.invariant-loop-file
invariant-loop-file l = l.names.items ≡ take l.file-index l.files
