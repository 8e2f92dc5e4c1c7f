-- That tokens of many statements are not kept changes nothing of what a configuration means.
use Rattle.std.proofs.Common.{◌≡◌, ℕ, Bool, true, false, cond, List, length, map, subst}
use Rattle.std.specs.Prelude.{Result, nat_le}
use Rattle.cf_types.specs.declared.stmt.Expanded.{Expanded}
use Rattle.cf_types.specs.declared.stmt.Placed.{Placed}
use Rattle.cf_types.specs.declared.tables.Tables.{Tables}
use Rattle.config_rules.specs.Written.{AreWritten}
use Rattle.cf_compile.specs.Emptied.{emptied_at, lightened}
use Rattle.cf_compile.specs.Meant.{Finds, read_from, reading_of}
use Rattle.cf_compile.specs.declared.stop.CompileStop.{CompileStop}
use Rattle.cf_compile.proofs.EmptiedLaws.{found_read, written_same}

-- they keep the limits
pub written_light : (placed : List Placed) → AreWritten placed → AreWritten (lightened placed)
written_light placed written = by_size (nat_le (length placed) 4096)
  where
    by_size : (few : Bool) → AreWritten (cond few placed (map emptied_at placed))
    by_size true = written
    by_size false = written_same placed written

-- what is found in what was read, once its statements are lightened
pub found_light : (read : Expanded) (files : List (List ℕ)) (placed : List Placed) (result : Result Tables CompileStop) → files ≡ read.files → placed ≡ lightened read.placed
    → Finds (record (read_from files placed) { fault = read.fault }) result → Finds (reading_of read) result
found_light read files placed result same light found = by_size (nat_le (length read.placed) 4096) light
  where
    by_size : (few : Bool) → placed ≡ cond few read.placed (map emptied_at read.placed) → Finds (reading_of read) result
    by_size true is =
        subst (λ (ps : List Placed). Finds (record (read_from read.files ps) { fault = read.fault }) result) is
        (subst (λ (fs : List (List ℕ)). Finds (record (read_from fs placed) { fault = read.fault }) result) same found)
    by_size false is = found_read read files placed result same is found
