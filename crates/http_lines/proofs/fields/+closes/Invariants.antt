use Rattle.std.proofs.Common.{length}
use Rattle.http_lines.proofs.fields.+closes.Given as goal

abbrev pub decreases-closes : goal.decreases-closes
decreases-closes l = length l.fields.now
