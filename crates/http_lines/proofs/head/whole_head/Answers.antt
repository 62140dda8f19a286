use Rattle.http_lines.proofs.Pieces.{longer_spells_none}
use Rattle.http_lines.proofs.head.whole_head.Goals as goal

pub returns-else-head-piece-clause-bad : goal.returns-else-head-piece-clause-bad
returns-else-head-piece-clause-bad c =
    longer_spells_none c.args.piece.now c.parse_request.new.headers c.in-Ok-Complete.head
    (rw (c.in-Ok-Complete.field-0-is) at c.in-Ok-Complete.ensures.complete) c.if-head-piece.false
