use Rattle.std.proofs.Common.{◌∙◌, sym, ℕ, None}
use Rattle.bitboards.proofs.Strikers.{found_in}
use Rattle.move_rules.specs.Lists.{move_of}
use Rattle.move_rules.specs.EnPassant.{is_legal_en_passant}
use Rattle.move_rules.proofs.MoveLists.{any_first, any_over}
use Rattle.move_rules.proofs.PassingMoves.{captures_listed}
use Rattle.move_rules.proofs.en_passant.captures_on.Goals as goal

pub loop-pawns-init : goal.loop-pawns-init
loop-pawns-init c = captures_listed c.args.p.now c.args.to c.pawn_strikes-pawns.result (rw (c.other.ensures, c.turn.ensures) at c.pawn_strikes-pawns.ensures.is)

pub loop-pawns-preserved : goal.loop-pawns-preserved
loop-pawns-preserved c =
    any_first (λ (a : ℕ). is_legal_en_passant c.args.p.now (move_of a c.args.to None)) c.first_square.result _ _ (c.without_first-pawns.ensures.rest c.first_square.result c.first_square.ensures.in_set c.first_square.ensures.first) (sym c.captures_from.ensures ∙ c.if-captures_from.false) ∙ c.loop-pawns.invariant

pub returns-then-captures_from : goal.returns-then-captures_from
returns-then-captures_from c =
    sym (sym c.loop-pawns.invariant ∙ found_in c.loop-pawns.pawns c.first_square.result (λ (a : ℕ). is_legal_en_passant c.args.p.now (move_of a c.args.to None)) c.first_square.ensures.on_board c.first_square.ensures.in_set (sym c.captures_from.ensures ∙ c.if-captures_from.true))

pub returns : goal.returns
returns c = any_over (λ (a : ℕ). is_legal_en_passant c.args.p.now (move_of a c.args.to None)) c.loop-pawns.pawns c.loop-pawns-test.false ∙ c.loop-pawns.invariant
