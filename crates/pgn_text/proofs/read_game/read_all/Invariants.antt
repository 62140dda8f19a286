use Rattle.std.proofs.Common.{◌≡◌, ℕ, ◌+◌, ◌≤◌, ◌<◌, length}
use Rattle.pgn_text.specs.PgnReading.{run}
use Rattle.pgn_text.proofs.read_game.read_all.Given as goal

abbrev pub invariant-items : goal.invariant-items
invariant-items l = record {
  goes_on : (k : ℕ) × (length l.rest < k) × (run (length l.bytes) k l.game l.rest ≡ run (length l.bytes) (length l.bytes + 1) l.initial.game l.bytes);
  within : length l.rest ≤ length l.bytes;
}

abbrev pub decreases-items : goal.decreases-items
decreases-items l = length l.rest
