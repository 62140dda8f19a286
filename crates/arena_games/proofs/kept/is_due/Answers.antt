use Rattle.std.proofs.Common.{sym, subst, ◌≤◌}
use Rattle.game_room.specs.Held.{Held}
use Rattle.arena_games.proofs.Answered.{in_turn}
use Rattle.arena_games.proofs.kept.is_due.Goals as goal

pub due-requires : goal.due-requires
due-requires c =
    let r = c.requires in
    subst (λ (k : Held). k.clocks.since ≤ c.args.t) (sym c.room.ensures) (in_turn c.kept_games_stay.ensures.rooms c.args.game.now c.in-Running.live r.course c.args.t c.in-Running.is r.stands r.past)
