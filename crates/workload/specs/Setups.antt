-- The setup of a seed.
use Rattle.std.specs.Prelude.{ℕ, ◌+◌, ◌%◌, List, [], ◌++◌, map, codes, None}
use Rattle.std.specs.Fmt.{decimal}
use Rattle.std.specs.List.{range_with_len}
use Rattle.entries.specs.declared.setup.Control.{Control}
use Rattle.entries.specs.declared.setup.Player.{Player}
use Rattle.entries.specs.declared.setup.Setup.{Setup}
use Rattle.workload.specs.Numbers.{drawn}

-- a minute for each side without increment, and 20 seconds for the first move
abbrev pub control : Control
control = record { initial_ms = 60000; inc_ms = 0; first_ms = 20000 }

-- player number p is called `p` and his number, and his rating is 1000 and what draw number p leaves of a thousand
abbrev pub player : ℕ → ℕ → Player
player seed p = record { name = codes "p" ++ decimal p; rating = 1000 + drawn seed p % 1000; team = None }

-- the players of a seed
unfoldable pub players_of : ℕ → ℕ → List Player
players_of seed count = map (player seed) (range_with_len 0 count)

-- an hour without teams under the first pairing rule, with a second between waves
unfoldable pub setup_of : ℕ → ℕ → Setup
setup_of seed count = record {
  control = control;
  starts = 0;
  ends = 3600000;
  wave_ms = 1000;
  leaders = 1;
  rule = 1;
  teams = [];
  players = players_of seed count;
}
