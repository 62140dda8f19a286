use Rattle.std.proofs.Common.{◌≡◌, ◌≤◌, take, vec_len, vec_capacity}
use Rattle.ranking.specs.Rows.{rows}
use Rattle.arena_players.specs.Candidates.{candidates_by}
use Rattle.arena_players.proofs.snapshot.walk.Given as goal

abbrev pub invariant-walking : goal.invariant-walking
invariant-walking l = record {
  items : l.candidates.items ≡ candidates_by l.setup l.pairings.facts l.seats (take l.rank (rows l.scores.lines));
  len : vec_len l.candidates ≤ l.rank;
  room : l.len ≤ vec_capacity l.candidates;
}
