-- What an arena keeps of its games may be sent to another thread.
use denote.Param.Send.{IsSend, sendable}
use Rattle.std.proofs.Crossing.{crosses}
use Rattle.draw_rules.specs.contracts.packed.Packed as packed
use Rattle.draw_rules.specs.contracts.past.Past as past
use Rattle.entries.specs.contracts.setup.Control as control
use Rattle.game_clock.specs.contracts.clock.GameClock as clock
use Rattle.game_room.specs.contracts.header.Header as header
use Rattle.game_room.specs.contracts.outcome.Outcome as outcome
use Rattle.game_room.specs.contracts.room.Room as room
use Rattle.arena_games.specs.contracts.ended.EndedGame as ended
use Rattle.arena_games.specs.contracts.games.Games as games
use Rattle.arena_games.specs.contracts.kept.Kept as kept
use Rattle.arena_games.specs.contracts.kept.State as state
use Rattle.arena_games.specs.contracts.live.Live as live
use Rattle.arena_lock.proofs.SentBoards.{a_placement, a_position, a_move}

a_packed : IsSend packed.the_row
a_packed = search (sendable, crosses) depth 20

a_past : IsSend past.the_row
a_past = search (sendable, crosses, a_placement, a_packed) depth 20

the_control : IsSend control.the_field.row
the_control = search (sendable, crosses) depth 20

a_clock : IsSend clock.the_row
a_clock = search (sendable, crosses, the_control) depth 20

a_header : IsSend header.the_field.row
a_header = search (sendable, crosses, the_control) depth 20

an_outcome : IsSend outcome.the_field.row
an_outcome = search (sendable, crosses) depth 20

a_room : IsSend room.the_row
a_room = search (sendable, crosses, a_position, a_past, a_clock, a_header, an_outcome, a_move) depth 30

a_live : IsSend live.the_row
a_live = search (sendable, crosses, a_room) depth 20

an_ended : IsSend ended.the_field.row
an_ended = search (sendable, crosses, a_position, a_move, an_outcome) depth 20

a_state : IsSend state.the_field.row
a_state = search (sendable, crosses, a_live, an_ended) depth 20

a_kept : IsSend kept.the_row
a_kept = search (sendable, crosses, a_header, a_state) depth 20

pub the_games : IsSend games.the_row
the_games = search (sendable, crosses, a_kept) depth 20
