use Rattle.std.specs.Prelude.{take, length}
use Rattle.arena_history.specs.Games.{begun}
use Rattle.arena_core.specs.Held.{past}
use Rattle.games_text.specs.Sent.{AreSent}
use Rattle.games_text.proofs.sent.lines_sent.Given as goal

-- the lines have what the first entries sent
abbrev pub invariant-reading : goal.invariant-reading
invariant-reading l = AreSent (length (begun l.a.setup (past l.a))) (take l.i l.a.entries) l.lines.items
