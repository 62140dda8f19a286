use denote.Param.Send.{IsSend, IsSync, sendable}
use Rattle.std.proofs.Crossing.{crosses, sync}
use Rattle.conn.specs.contracts.mem_source.MemSource as mem_source
use Rattle.conn.specs.contracts.mem_sink.MemSink as mem_sink
use Rattle.conn.specs.contracts.clock.MemClock as mem_clock
use Rattle.host.specs.contracts.ended.Ended as ended
use Rattle.arena_main.specs.contracts.tests.connections.wires.Line as line
use Rattle.arena_lock.proofs.Crossing.{lobby_sync, pass_send}
use Rattle.arena_main.proofs.tests.connections.threads.both_served.Goals as goal

a_source : IsSend mem_source.the_row
a_source = search (sendable, crosses) depth 20

a_sink : IsSend mem_sink.the_row
a_sink = search (sendable, crosses) depth 20

a_clock : IsSend mem_clock.the_row
a_clock = search (sendable, crosses) depth 20

a_line : IsSend line.the_field.row
a_line = search (sendable, crosses, a_source, a_sink, a_clock) depth 20

an_ending : IsSend ended.the_field.row
an_ending = search (sendable, crosses) depth 20

pub join-requires-send-F : goal.join-requires-send-F
join-requires-send-F g c κs within = search (sendable, pass_send, a_line, lobby_sync, sync) depth 20

pub join-requires-send-A : goal.join-requires-send-A
join-requires-send-A g c κs within = search (sendable, pass_send, a_line, an_ending) depth 20
