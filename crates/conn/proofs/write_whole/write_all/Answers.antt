use Rattle.std.proofs.Common.{arith, ℕ, length-drop, length-take}
use Rattle.conn.proofs.Gaining.{Gained_more}
use Rattle.conn.proofs.write_whole.write_all.Goals as goal

pub loop-written-preserved : goal.loop-written-preserved
loop-written-preserved g c =
    let so_far = c.loop-written.invariant in
    let written = c.in_ok-written.ensures in
    let held = g.K.Sink.held in
    record {
      within = omega (arith, written.bytes.0, length-take {A = ℕ}, length-drop {A = ℕ});
      kept = omega (arith, written.cause.kept);
      gained = Gained_more (held c.args.sink.now) (held c.loop-written.sink) (held c.write.new.self) c.args.bytes.now c.loop-written.written c.in_ok-written.field-0 so_far.gained written.bytes.1;
    }
