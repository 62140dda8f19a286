use Rattle.std.proofs.Common.{◌≡◌, [], length, drop, map}
use Rattle.serde_json.specs.View.{view}
use Rattle.setup_file.specs.Reading.{names_of, players_in}
use Rattle.setup_file.proofs.players.players_of.Given as goal

abbrev pub invariant-loop-object : goal.invariant-loop-object
invariant-loop-object l = record {
  goes_on : players_in l.teams l.players.items l.keys (map view (drop l.object-index l.objects)) ≡ players_in l.teams [] [] (map view l.objects);
  names : l.names ≡ names_of l.players.items;
  named : length l.names ≡ l.object-index;
  keyed : length l.keys ≡ l.object-index;
}
