use Rattle.std.proofs.Common.{drop, ap, ◌∙◌}
use Rattle.http_lines.proofs.Buffers.{range_let_go}
use Rattle.http_lines.proofs.read_ahead.ReadAhead.let_go.Goals as goal

pub returns : goal.returns
returns c =
    range_let_go c.self.inside.buffer.items c.self.inside.start c.self.inside.end c.args.count
    ∙ ap (drop c.args.count) c.self.view_is
