use Rattle.game_room.proofs.Stands.{counts_all}
use Rattle.game_room.proofs.laws.rooms_count.Goals as goal

pub returns : goal.returns
returns c k h events room = counts_all k h events room
