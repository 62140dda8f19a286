use Rattle.std.proofs.Common.{sym, ◌∙◌}
use Rattle.http_lines.proofs.Firstly.{without_a_head, with_a_long_head, with_a_piece}
use Rattle.http_lines.proofs.laws.something_comes_first.Goals as goal

pub returns-in_default : goal.returns-in_default
returns-in_default c = without_a_head c.args.bytes.now c.in_default.field-0 (sym c.find_end.ensures.found ∙ c.in_default.is)

pub returns-then-len-gt-HEAD_LIMIT : goal.returns-then-len-gt-HEAD_LIMIT
returns-then-len-gt-HEAD_LIMIT c =
    with_a_long_head c.args.bytes.now c.in-Ok.len (sym c.find_end.ensures.found ∙ c.in-Ok.is) c.if-len-gt-HEAD_LIMIT.true

pub returns : goal.returns
returns c =
    with_a_piece c.args.bytes.now c.in-Ok.len c.is_head-is_head.result (sym c.find_end.ensures.found ∙ c.in-Ok.is) c.if-len-gt-HEAD_LIMIT.false c.is_head-is_head.ensures.head c.is_head-is_head.ensures.bad
