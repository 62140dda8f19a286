use Rattle.std.proofs.Common.{◌∙◌, sym, subst, take}
use Rattle.pgn_text.specs.Games.{IsGame}
use Rattle.games_text.specs.GameTexts.{game_with}
use Rattle.games_text.proofs.Tags.{can_be_written}
use Rattle.games_text.proofs.games.push_ended.Goals as goal

pub write_pgn-requires : goal.write_pgn-requires
write_pgn-requires c =
    let s = c.args.setup.now in
    let x = c.args.x.now in
    subst IsGame (sym (c.in_ok-game.ensures ∙ (λ i. game_with (c.items.ensures i) x (c.in_ok-moves.ensures i))))
    (can_be_written s x (take x.outcome.plies c.args.line.now) c.requires.good c.requires.number c.requires.white c.requires.black c.requires.line)
