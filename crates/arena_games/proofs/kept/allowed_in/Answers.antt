use Rattle.std.proofs.Common.{sym, subst, ◌≤◌}
use Rattle.game_room.specs.Held.{Held}
use Rattle.arena_games.proofs.Answered.{in_turn, refuses}
use Rattle.arena_games.proofs.kept.allowed_in.Goals as goal

pub allowed-requires : goal.allowed-requires
allowed-requires c =
    let r = c.requires in
    record { in_turn = subst (λ (k : Held). k.clocks.since ≤ c.args.t) (sym c.room.ensures) (in_turn c.kept_games_stay.ensures.rooms c.args.game.now c.in-Running.live r.course c.args.t c.in-Running.is r.stands r.past) }

pub returns-in-Ended : goal.returns-in-Ended
returns-in-Ended c k kept = sym (refuses c.kept_games_stay.ensures.refuse c.args.game.now c.in-Ended.field-0 k c.args.side c.args.action c.args.t c.in-Ended.is kept)
