use Rattle.std.proofs.Common.{◌∙◌}
use Rattle.replay.specs.Replayed.{wanted_text}
use Rattle.replay.proofs.replaying.text_for.Goals as goal

pub returns-in-Ok : goal.returns-in-Ok
returns-in-Ok g c = (c.in_ok-arena.ensures.0, c.in_ok-arena.ensures.1, c.in-Ok.ensures ∙ (λ i. wanted_text c.args.wanted (c.in_ok-arena.ensures.2 i) (c.in_ok-arena.ensures.3 i)))
