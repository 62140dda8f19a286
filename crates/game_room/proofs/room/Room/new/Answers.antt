use Rattle.std.proofs.Common.{[], ◌∷◌, ap, subst, sym, ◌∙◌}
use Rattle.board.specs.declared.parts.Parts.{Parts}
use Rattle.move_rules.specs.EnPassant.{canonical}
use Rattle.draw_rules.specs.Appearance.{appearance_of}
use Rattle.game_room.specs.Held.{Held, StandsFor}
use Rattle.game_room.proofs.Stands.{new_stands, new_is}
use Rattle.game_room.proofs.room.Room.new.Goals as goal

pub returns : goal.returns
returns c =
    let first = c.canonical.ensures ∙ ap canonical c.start-position.ensures in
    let past = c.new-past.ensures ∙ ap (λ (p : Parts). appearance_of p ∷ []) first in
    subst (λ (k : Held). StandsFor k c.args.h [])
    (sym (new_is c.args.h c.start-position.result c.new-past.result c.new-clock.result c.start-position.ensures past))
    (new_stands c.repetitions_are_kept.ensures c.args.h c.new-clock.result c.new-clock.ensures)
