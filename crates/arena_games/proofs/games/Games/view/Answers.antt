use Rattle.std.proofs.Common.{sym}
use Rattle.game_room.specs.Games.{game_view}
use Rattle.arena_games.specs.Courses.{Course}
use Rattle.arena_games.proofs.Told.{told_none, told_some, in_time_at}
use Rattle.arena_games.proofs.games.Games.view.Goals as goal

pub view_of-requires : goal.view_of-requires
view_of-requires c =
    in_time_at c.args.self.now.games c.requires.games c.args.t c.args.g c.in-Some.game.now c.requires.stands c.requires.past (sym c.in-Some.ensures)

pub returns-in-None : goal.returns-in-None
returns-in-None c games stands = told_none (λ (k : Course). game_view k.header k.events c.args.t) c.args.self.now.games games c.args.g stands c.in-None.ensures

pub returns-in-Some : goal.returns-in-Some
returns-in-Some c games stands =
    told_some (λ (k : Course). game_view k.header k.events c.args.t) c.args.self.now.games games c.args.g c.in-Some.game.now c.view_of.result stands c.in-Some.ensures c.view_of.ensures
