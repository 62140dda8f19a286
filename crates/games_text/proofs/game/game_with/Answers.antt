use Rattle.std.proofs.Common.{◌∙◌, ap, ◌++◌}
use Rattle.games_text.specs.GameTexts.{game_with, tags_of}
use Rattle.games_text.proofs.game.game_with.Goals as goal

pub returns : goal.returns
unfolding game_with
returns c =
    let tags = c.of.ensures ∙ (c.in_ok-put_tags.ensures ∙ ap (λ l. l ++ tags_of c.args.players.now c.args.x.now) c.new-tags.ensures.items) in
    λ i. record { tags = tags i; moves = c.of-2.ensures i; result = c.result_of.ensures i }
