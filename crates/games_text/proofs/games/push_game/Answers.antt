use Rattle.std.proofs.Common.{◌≡◌, ◌∙◌, sym, ap, subst, ◌++◌, [], get_or, take, IsTrue}
use Rattle.std.proofs.lemmas.List.{get_or_default}
use Rattle.std.proofs.lemmas.Result.{on_ok_weaker}
use Rattle.board.specs.Start.{start_parts}
use Rattle.entries.specs.declared.setup.Setup.{Setup}
use Rattle.pgn_text.specs.Games.{is_line}
use Rattle.pgn_text.specs.Pgn.{pgn_of}
use Rattle.games_text.specs.GameTexts.{game_with}
use Rattle.games_text.proofs.Counted.{IsReady, ready, text_at}
use Rattle.games_text.proofs.games.push_game.Goals as goal

pub push_ended-requires-clause-line : goal.push_ended-requires-clause-line
push_ended-requires-clause-line c =
    let a = c.args.a.now in
    let lines = c.args.lines.now in
    let x = c.in-Some.x in
    let is : IsReady a.setup a.entries lines c.args.i x =
    ready c.games_count_once.ensures.ended c.games_of_legal_lists.ensures.headers c.moves_of_games.ensures.sent c.moves_of_games.ensures.line
    a.setup a.entries lines c.args.i x c.shows_legal.ensures.good c.shows_legal.ensures.legal c.requires (sym c.counted_game.ensures ∙ c.in-Some.is) in
    let line : get_or lines x.id [] ≡ c.index-lines-x.result = get_or_default lines x.id [] c.index-lines-x.result is.place ∙ sym c.index-lines-x.is in
    subst (λ l. IsTrue (is_line start_parts (take x.outcome.plies l))) line is.line

pub returns-in-Some : goal.returns-in-Some
returns-in-Some c =
    let a = c.args.a.now in
    let lines = c.args.lines.now in
    let x = c.in-Some.x in
    let is : IsReady a.setup a.entries lines c.args.i x =
    ready c.games_count_once.ensures.ended c.games_of_legal_lists.ensures.headers c.moves_of_games.ensures.sent c.moves_of_games.ensures.line
    a.setup a.entries lines c.args.i x c.shows_legal.ensures.good c.shows_legal.ensures.legal c.requires (sym c.counted_game.ensures ∙ c.in-Some.is) in
    let line : c.index-lines-x.result ≡ get_or lines x.id [] = c.index-lines-x.is ∙ get_or_default lines x.id c.index-lines-x.result [] is.place in
    on_ok_weaker c.push_ended.result
    (λ put.
    put
    ∙ ap (λ (s : Setup). c.args.text.now.items ++ pgn_of (game_with s.players x (take x.outcome.plies c.index-lines-x.result))) c.setup.ensures
    ∙ ap (λ l. c.args.text.now.items ++ l) (text_at a.setup a.entries lines c.args.i x is c.index-lines-x.result line))
    c.push_ended.ensures
