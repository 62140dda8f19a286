-- Each key that stands among the keys of some players is that of one of them.
use Rattle.std.proofs.Common.{ℕ, ◌≡◌, ◌<◌, List, [], length, Some, subst}
use Rattle.std.specs.Str.{bytes_eq}
use Rattle.std.proofs.lemmas.List.Quantifiers.{position-Some}
use Rattle.setup_file.specs.Keys.{AreKeysOf}
use Rattle.host.specs.Asked.{AreKeysOfPlayers}

pub keys_of_players : (players : ℕ) (keys : List (List ℕ)) → AreKeysOf players keys → AreKeysOfPlayers players keys
keys_of_players players keys are key p placed =
    subst (λ (m : ℕ). p < m) are.each (position-Some (λ t. bytes_eq key t) keys p [] placed).0
