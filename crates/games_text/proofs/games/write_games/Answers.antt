use Rattle.std.proofs.Common.{◌∙◌, arith, length, ◌≤◌}
use Rattle.arena_core.specs.Held.{past}
use Rattle.arena_history.specs.Endings.{finished}
use Rattle.games_text.specs.GameTexts.{text_of_game, games_text}
use Rattle.games_text.proofs.Counted.{texts_more, texts_all}
use Rattle.games_text.proofs.games.write_games.Goals as goal

pub writing-preserved : goal.writing-preserved
writing-preserved c =
    let a = c.args.a.now in
    texts_more (text_of_game a.setup (past a)) (finished a.setup (past a)) c.writing.i c.writing.text.items c.push_game.new.text.items (omega (arith, c.writing-test.true, c.finished-i-end.ensures)) c.writing.invariant c.in_ok-push_game.ensures

pub returns : goal.returns
unfolding games_text
returns c =
    let a = c.args.a.now in
    let end : length (finished a.setup (past a)) ≤ c.writing.i = omega (arith, c.writing-test.false, c.finished-i-end.ensures) in
    c.of.ensures ∙ (c.writing.invariant ∙ texts_all (text_of_game a.setup (past a)) (finished a.setup (past a)) c.writing.i end)
