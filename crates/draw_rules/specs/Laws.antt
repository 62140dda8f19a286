-- A law of the definitions.
use Rattle.std.specs.Prelude.{◌≡◌}
use Rattle.board.specs.declared.parts.Parts.{Parts}
use Rattle.board.specs.Same.{same}
use Rattle.draw_rules.specs.Appearance.{appearance_of, same_appearance}

-- positions without their counts are compared as board's test of sameness compares positions
abbrev pub ComparedAsSame : Type 0
ComparedAsSame = (p q : Parts) → same_appearance (appearance_of p) (appearance_of q) ≡ same p q
