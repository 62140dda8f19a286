use Rattle.std.proofs.Common.{◌≡◌}
use Rattle.draw_rules.specs.Packing.{with_pieces}
use Rattle.draw_rules.proofs.Packing.{times_to}
use Rattle.draw_rules.proofs.kept.times_in.Given as goal

abbrev pub invariant-loop-i : goal.invariant-loop-i
invariant-loop-i l = l.times ≡ times_to l.i l.boards l.rest (with_pieces l.board l.last)
