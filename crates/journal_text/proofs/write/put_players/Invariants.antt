use Rattle.std.proofs.Common.{◌≡◌, ◌++◌, take}
use Rattle.std.specs.List.{flat_map}
use Rattle.journal_text.specs.Lines.{line}
use Rattle.journal_text.specs.Text.{player_words}
use Rattle.journal_text.proofs.write.put_players.Given as goal

abbrev pub invariant-loop-player : goal.invariant-loop-player
invariant-loop-player l = l.text.items ≡ l.initial.text.items ++ flat_map (λ p. line (player_words p)) (take l.player-index l.players)
