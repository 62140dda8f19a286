use Rattle.std.proofs.Common.{length, take, ◌-◌, ◌≤◌}
use Rattle.conn.specs.Told.{Gained}
use Rattle.conn.proofs.write_whole.write_all.Given as goal

abbrev pub invariant-loop-written : goal.invariant-loop-written
invariant-loop-written g l =
    let sink = g.K.Sink in
    record {
      within : l.written ≤ length l.bytes;
      kept : sink.faults l.initial.sink ≤ sink.faults l.sink;
      gained : Gained (sink.held l.initial.sink) (sink.held l.sink) (take l.written l.bytes);
    }

abbrev pub decreases-loop-written : goal.decreases-loop-written
decreases-loop-written g l = length l.bytes - l.written
