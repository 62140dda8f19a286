use Rattle.arena_games.specs.Courses.{Course}
use Rattle.arena_games.proofs.Told.{told_none, told_some}
use Rattle.arena_games.proofs.games.Games.header.Goals as goal

pub returns-in-None : goal.returns-in-None
returns-in-None c games stands = told_none (λ (k : Course). k.header) c.args.self.now.games games c.args.g stands c.in-None.ensures

pub returns-in-Some : goal.returns-in-Some
returns-in-Some c games stands =
    told_some (λ (k : Course). k.header) c.args.self.now.games games c.args.g c.in-Some.game.now c.in-Some.game.now.header stands c.in-Some.ensures (λ k kept. kept.header)
