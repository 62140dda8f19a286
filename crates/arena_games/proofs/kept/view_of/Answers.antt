use Rattle.std.proofs.Common.{sym, subst, ◌≤◌}
use Rattle.game_room.specs.Held.{Held}
use Rattle.arena_games.proofs.Answered.{in_turn, shows_record}
use Rattle.arena_games.proofs.kept.view_of.Goals as goal

pub view-requires : goal.view-requires
view-requires c =
    let r = c.requires in
    subst (λ (k : Held). k.clocks.since ≤ c.args.t) (sym c.room.ensures) (in_turn c.kept_games_stay.ensures.rooms c.args.game.now c.in-Running.live r.course c.args.t c.in-Running.is r.stands r.past)

pub returns-in-Ended : goal.returns-in-Ended
returns-in-Ended c k kept = shows_record c.kept_games_stay.ensures.show c.args.game.now c.in-Ended.ended k c.args.t c.shown.result c.in-Ended.is kept c.shown.ensures
