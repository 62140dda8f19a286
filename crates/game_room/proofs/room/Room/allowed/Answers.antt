use Rattle.std.proofs.Common.{Some, None}
use Rattle.game_room.proofs.Stands.{room_allows}
use Rattle.game_room.proofs.room.Room.allowed.Goals as goal

pub returns-in-Some : goal.returns-in-Some
returns-in-Some c h events room =
    room_allows c.args.self.now h events c.args.who c.args.a c.args.t (Some c.in-Some.refusal) room c.in-Some.ensures

pub returns-in-None : goal.returns-in-None
returns-in-None c h events room = room_allows c.args.self.now h events c.args.who c.args.a c.args.t None room c.in-None.ensures
