use Rattle.std.proofs.Common.{ap, reverse, List, ℕ}
use Rattle.httparse.specs.Grammar.{skip_ows, trim_ows}
use Rattle.http_lines.proofs.values.trim.Goals as goal

pub loop-left-init : goal.loop-left-init
unfolding trim_ows
loop-left-init c = ap (λ (l : List ℕ). reverse (skip_ows (reverse l))) c.trim_start-left.ensures
