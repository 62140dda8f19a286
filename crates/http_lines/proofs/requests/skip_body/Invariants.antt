use Rattle.std.proofs.Common.{◌-◌, ◌≤◌, length}
use Rattle.http_lines.specs.Steps.{Skips}
use Rattle.http_lines.proofs.requests.skip_body.Given as goal

abbrev pub invariant-reads : goal.invariant-reads
invariant-reads g l =
    let source = g.S.Source in
    record {
      kept : source.faults l.initial.source ≤ source.faults l.source;
      within : l.left ≤ l.body;
      skips : Skips (l.body - l.left) l.initial.ahead l.ahead (source.left l.initial.source) (source.left l.source);
    }

abbrev pub decreases-reads : goal.decreases-reads
decreases-reads g l = l.left - length l.ahead
