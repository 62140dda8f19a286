use Rattle.std.proofs.Common.{◌+◌, subst, sym, ap, ◌∙◌, [], ◌∷◌, ◌++◌}
use Rattle.games_text.specs.Sent.{AreSent}
use Rattle.games_text.proofs.Noted.{one_line_more}
use Rattle.games_text.proofs.sent.empty_lines.Goals as goal

pub making-preserved : goal.making-preserved
making-preserved c =
    subst (AreSent (c.making.counter + 1) []) (sym (c.in_ok-push.ensures.items ∙ ap (λ x. c.making.lines.items ++ x ∷ []) c.new.ensures)) (one_line_more c.making.counter c.making.lines.items c.making.invariant)
