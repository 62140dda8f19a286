use Rattle.std.proofs.Common.{◌∙◌, sym}
use Rattle.bitboards.proofs.Tabled.{pawn_turned}
use Rattle.move_rules.proofs.king_safety.ep_strikers.Goals as goal

pub returns-in-Some : goal.returns-in-Some
returns-in-Some c = λ s on. c.pawn_strikes.ensures.is s on ∙ rw (c.in-Some.is, c.other.ensures) (sym (pawn_turned c.args.colour s c.in-Some.s))
