-- As many are done as there are seats.
use Rattle.std.proofs.Common.{◌≡◌, ◌≤◌, ◌<◌, ℕ, arith}

-- there is room for them
pub room : (space count seats : ℕ) → count ≤ space → count ≡ seats → seats ≤ space
room space count seats fits same = omega arith

-- there is one, since there is a script
pub some_done : (scripts seats done : ℕ) → 0 < scripts → seats ≡ scripts → done ≡ seats → 0 < done
some_done scripts seats done some each same = omega arith

pub some_scripts : (scripts seats count : ℕ) → 0 < scripts → seats ≡ scripts → count ≡ seats → 0 < count
some_scripts scripts seats count some each same = omega arith
