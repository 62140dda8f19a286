use Rattle.std.proofs.Common.{◌≡◌, ◌≤◌, ◌+◌, ◌-◌, vec_len}
use Rattle.std.specs.Io.KnownBytes.{Consumes}
use Rattle.conn.specs.declared.read_whole.TheConstants.{PIECE}
use Rattle.conn.proofs.read_whole.read_all.Given as goal

abbrev pub invariant-loop-bytes : goal.invariant-loop-bytes
invariant-loop-bytes g l =
    let source = g.S.Source in
    record {
      within : vec_len l.bytes ≤ l.limit;
      room : vec_len l.piece ≡ PIECE;
      kept : source.faults l.initial.source ≤ source.faults l.source;
      given : Consumes (source.left l.initial.source) (source.left l.source) l.bytes.items;
    }

abbrev pub decreases-loop-bytes : goal.decreases-loop-bytes
decreases-loop-bytes g l = (l.limit + 1) - vec_len l.bytes
