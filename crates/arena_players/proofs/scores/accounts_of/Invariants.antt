use Rattle.std.proofs.Common.{◌≡◌, ◌≤◌, take, length, vec_len, vec_capacity}
use Rattle.arena_players.specs.Accounts.{AreFresh}
use Rattle.arena_players.proofs.scores.accounts_of.Given as goal

abbrev pub invariant-listing : goal.invariant-listing
invariant-listing l = record {
  fresh : AreFresh (take l.player-index l.players) l.accounts.items;
  len : vec_len l.accounts ≡ l.player-index;
  room : length l.players ≤ vec_capacity l.accounts;
}
