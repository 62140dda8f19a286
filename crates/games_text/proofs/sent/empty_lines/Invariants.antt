use Rattle.games_text.specs.Sent.{AreSent}
use Rattle.std.specs.Prelude.{[]}
use Rattle.games_text.proofs.sent.empty_lines.Given as goal

-- so many lines without moves
abbrev pub invariant-making : goal.invariant-making
invariant-making l = AreSent l.counter [] l.lines.items
