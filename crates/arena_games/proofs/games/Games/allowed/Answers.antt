use Rattle.std.proofs.Common.{ap}
use Rattle.arena_games.specs.Keeps.{KeptFor}
use Rattle.arena_games.specs.KeptGames.{KeptGames}
use Rattle.arena_games.proofs.Items.{zip_tells}
use Rattle.arena_games.proofs.Told.{in_time_at, read_at}
use Rattle.arena_games.proofs.games.Games.allowed.Goals as goal

pub allowed_in-requires : goal.allowed_in-requires
allowed_in-requires c =
    let games = ap (λ (v : KeptGames). v.games) c.self.view_is in
    let there = read_at c.args.self.now c.self.inside.games.items c.args.g c.index.result.now games c.requires.begun c.index.ensures in
    in_time_at c.args.self.now.games c.requires.timely.games c.args.t c.args.g c.index.result.now c.requires.timely.stands c.requires.timely.past there

pub returns : goal.returns
returns c games k stands there =
    let same = ap (λ (v : KeptGames). v.games) c.self.view_is in
    let read = read_at c.args.self.now c.self.inside.games.items c.args.g c.index.result.now same c.requires.begun c.index.ensures in
    c.allowed_in.ensures k (zip_tells KeptFor c.args.self.now.games games c.args.g c.index.result.now k stands read there)
