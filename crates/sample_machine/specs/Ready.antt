-- A board with which a test begins.
use Rattle.std.specs.Prelude.{◌<◌, length}
use Rattle.dev_board.specs.Booting.{IsBooted}
use Rattle.dev_board.specs.Shown.{Shown}

-- it did its boot and nothing else, and it has scripts
pub record IsReady (b : Shown) : Type 0 where
  pub booted : IsBooted b
  pub some : 0 < length b.world.setup.scripts
