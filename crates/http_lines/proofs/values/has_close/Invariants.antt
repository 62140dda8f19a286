use Rattle.std.proofs.Common.{◌≡◌, length}
use Rattle.http_lines.specs.Fields.{has_close}
use Rattle.http_lines.proofs.values.has_close.Given as goal

abbrev pub invariant-loop-part : goal.invariant-loop-part
invariant-loop-part l = has_close l.left ≡ has_close l.fn.value

abbrev pub decreases-loop-part : goal.decreases-loop-part
decreases-loop-part l = length l.left
