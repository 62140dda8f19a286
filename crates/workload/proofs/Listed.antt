-- The players of a seed, one by one.
use Rattle.std.proofs.Common.{◌≡◌, ℕ, ◌+◌, List, [], ◌∷◌, ◌++◌, sym, ◌∙◌, arith}
use Rattle.std.proofs.lemmas.List.FromFn.{map-range_with_len_more}
use Rattle.entries.specs.declared.setup.Player.{Player}
use Rattle.workload.specs.Setups.{player, players_of}

pub one_player_more : (seed : ℕ) (xs : List Player) (x : Player) (n : ℕ) → xs ≡ players_of seed n → x ≡ player seed n → xs ++ x ∷ [] ≡ players_of seed (n + 1)
unfolding players_of
one_player_more seed xs x n same new = (λ i. same i ++ new i ∷ []) ∙ sym (map-range_with_len_more (player seed) 0 n n (omega arith))
