use Rattle.std.proofs.Common.{◌≡◌, drop}
use Rattle.http_lines.specs.HeadEnd.{found_from}
use Rattle.http_lines.proofs.Searching.{further}
use Rattle.http_lines.proofs.place.Place.find_end.Given as goal

abbrev pub invariant-loop-i : goal.invariant-loop-i
invariant-loop-i l = found_from l.fn.self l.bytes ≡ further l.i (found_from l.place (drop l.i l.bytes))
