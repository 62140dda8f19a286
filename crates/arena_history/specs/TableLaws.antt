-- Laws of the table of histories.
use Rattle.std.specs.Prelude.{◌≡◌, ℕ, ◌↔◌, IsTrue, false, if◌then◌else◌, List, [], ◌∷◌, ◌++◌, map, slice_get, Some}
use Rattle.std.specs.List.{AllPairs, Contains, filter_map}
use Rattle.entries.specs.declared.journal.Entry.{Entry}
use Rattle.entries.specs.declared.setup.Setup.{Setup}
use Rattle.ranking.specs.declared.line.Line.{Line}
use Rattle.ranking.specs.declared.row.Row.{Row}
use Rattle.ranking.specs.Order.{ranked}
use Rattle.ranking.specs.Rows.{fresh, has, scored, rank_of, row_at}
use Rattle.arena_history.specs.History.{History}
use Rattle.arena_history.specs.Endings.{EndedGame, finished}
use Rattle.arena_history.specs.Results.{result_for, results_among, rating_of}
use Rattle.arena_history.specs.Wishes.{has_entered}
use Rattle.arena_history.specs.Waves.{history}
use Rattle.arena_history.specs.Table.{joined, entered_in, entered, line_among, lines_among, line_of, lines, standings, Precedes}

-- the table has exactly the players with an enter entry
abbrev pub TableHasEntered : Type 0
TableHasEntered = (s : Setup) (h : History) (p : ℕ)
    → Contains (map (λ (row : Row). row.player) (standings s h)) p ↔ IsTrue (has_entered h p)

-- the table's lines stand in its order, so that nobody stands twice
abbrev pub TableIsOrdered : Type 0
TableIsOrdered = (s : Setup) (h : History) → AllPairs (Precedes h) (ranked (lines s h))

-- the row at a player's rank is his, with the points, performance, games and fire of his counted games
abbrev pub RowsAreOfPlayers : Type 0
RowsAreOfPlayers = (s : Setup) (h : History) (p rank : ℕ)
    → rank_of (lines s h) p ≡ Some rank
    → slice_get (standings s h) rank ≡ Some (row_at rank (line_of s h p))

-- with one entry more he who enters for the first time stands behind those who entered before
abbrev pub EnteredWithOneMore : Type 0
EnteredWithOneMore = (s : Setup) (es : List Entry) (e : Entry)
    → entered (history s (es ++ e ∷ [])) ≡ entered_in e.what (entered (history s es))

-- the line of x's player is given anew
abbrev pub rescored : Line → List Line → List Line
rescored x lines = scored x.player x.points x.performance x.games x.fire lines

-- with one counted game more the lines of its two players are given anew, and all others stay
abbrev pub LinesWithOneMore : Type 0
LinesWithOneMore = (s : Setup) (games : List EndedGame) (x : EndedGame) (players : List ℕ)
    → let more = games ++ x ∷ [] in
    lines_among s more players ≡ rescored (line_among s more x.game.header.black) (rescored (line_among s more x.game.header.white) (lines_among s games players))

-- with one counted game more a player has the results that he had, and behind them what the game is for him
abbrev pub ResultsWithOneMore : Type 0
ResultsWithOneMore = (s : Setup) (games : List EndedGame) (x : EndedGame) (p : ℕ)
    → results_among s (games ++ x ∷ []) p ≡ results_among s games p ++ filter_map (result_for s p) (x ∷ [])

-- the lines of the table are those of the players who entered, where the counted games count
abbrev pub LinesAreOfEntered : Type 0
LinesAreOfEntered = (s : Setup) (h : History) → lines s h ≡ lines_among s (finished s h) (entered h)

-- a player who enters has his line behind the others, unless he has one
abbrev pub LinesWithOnePlayerMore : Type 0
LinesWithOnePlayerMore = (s : Setup) (games : List EndedGame) (players : List ℕ) (p : ℕ)
    → let before = lines_among s games players in
    lines_among s games (joined players p) ≡ (if has before p then before else before ++ line_among s games p ∷ [])

-- who never entered has played no game, so that his line is that of somebody who has just entered
abbrev pub NewcomersAreFresh : Type 0
NewcomersAreFresh = (s : Setup) (es : List Entry) (p : ℕ)
    → has_entered (history s es) p ≡ false
    → line_of s (history s es) p ≡ fresh p (rating_of s p)
