use Rattle.std.proofs.Common.{◌≡◌, [], length, drop, map}
use Rattle.serde_json.specs.View.{view}
use Rattle.setup_file.specs.Members.{text_of}
use Rattle.setup_file.specs.Reading.{different_in}
use Rattle.setup_file.proofs.teams.different.Given as goal

abbrev pub invariant-loop-value : goal.invariant-loop-value
invariant-loop-value l = record {
  goes_on : different_in l.names (map text_of (map view (drop l.value-index l.values))) ≡ different_in [] (map text_of (map view l.values));
  few : length l.names ≡ l.value-index;
}
