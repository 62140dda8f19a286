use Rattle.std.proofs.Common.{◌≡◌, ◌-◌, ◌≤◌, length, take, Err}
use Rattle.http_lines.specs.HeadEnd.{head_end}
use Rattle.http_lines.specs.Steps.{Grew}
use Rattle.http_lines.specs.declared.request.TheConstants.{HEAD_LIMIT}
use Rattle.http_lines.proofs.requests.fill_head.Given as goal

abbrev pub invariant-reads : goal.invariant-reads
invariant-reads g l =
    let source = g.S.Source in
    record {
      grew : Grew l.initial.ahead l.ahead (source.left l.initial.source) (source.left l.source);
      kept : source.faults l.initial.source ≤ source.faults l.source;
      within : l.searched ≤ length l.ahead;
      so_far : head_end (take l.searched l.ahead) ≡ Err l.place;
    }

abbrev pub decreases-reads : goal.decreases-reads
decreases-reads g l = HEAD_LIMIT - length l.ahead
