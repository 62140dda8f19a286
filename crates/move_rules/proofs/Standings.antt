-- A game goes on exactly while there is a legal move.
use Rattle.std.proofs.Common.{◌≡◌, ◌↔◌, refl, Bool, true, false, if◌then◌else◌}
use Rattle.std.specs.List.{list_any}
use Rattle.board.specs.declared.parts.Parts.{Parts}
use Rattle.move_rules.specs.declared.standing.State.{State}
use Rattle.move_rules.specs.declared.standing.State.TheVariants.{Going, Mate, Stalemate}
use Rattle.move_rules.specs.Legal.{in_check, legal}
use Rattle.move_rules.specs.Lists.{SomeMove, all_moves, has_legal_move}
use Rattle.move_rules.specs.Standing.{state_of}
use Rattle.move_rules.proofs.MoveOrder.{some_move}

going_by : (can_move check : Bool) → ◌≡◌ {A = State} (if can_move then Going else if check then Mate else Stalemate) Going → can_move ≡ true
going_by true check h = refl
going_by false true h = cc
going_by false false h = cc

pub going_means : (p : Parts) → (state_of p ≡ Going) ↔ SomeMove (λ m. legal p m ≡ true)
unfolding has_legal_move
going_means p = (
  λ h. (some_move (legal p)).0 (going_by (list_any (legal p) all_moves) (in_check p) h),
  λ t. rw ((some_move (legal p)).1 t) refl,
)
