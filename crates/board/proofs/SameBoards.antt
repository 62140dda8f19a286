-- Boards are the same where their four sets are.
use Rattle.std.proofs.Common.{◌≡◌, ap, sym, ◌∙◌, length, List, ◌&&◌, ◌==◌, Option, eq-eqb}
use Rattle.std.proofs.lemmas.Bool.{and_parts, and_from, eqb-true}
use Rattle.std.proofs.lemmas.Bool.Decides.{same_from_decides}
use Rattle.std.specs.Bool.{Decides}
use Rattle.board.specs.declared.piece.Piece.{Piece}
use Rattle.board.specs.Sets.{set_of}
use Rattle.board.specs.Placement.{cell_steps, cell_slants, cell_runs, cell_is_black, cells_in}
use Rattle.board.specs.Same.{same_board}
use Rattle.board.proofs.Equal.{same_board-decides}
use Rattle.board.proofs.Kept.{cells_back}

sets_decide : (xs ys : List (Option Piece)) → length xs ≡ 64 → length ys ≡ 64 → Decides ((set_of cell_steps xs == set_of cell_steps ys) && ((set_of cell_slants xs == set_of cell_slants ys) && ((set_of cell_runs xs == set_of cell_runs ys) && (set_of cell_is_black xs == set_of cell_is_black ys)))) (xs ≡ ys)
sets_decide xs ys long_x long_y = (
  λ h.
      let one = and_parts (set_of cell_steps xs == set_of cell_steps ys) _ h in
      let two = and_parts (set_of cell_slants xs == set_of cell_slants ys) _ one.1 in
      let three = and_parts (set_of cell_runs xs == set_of cell_runs ys) _ two.1 in
      let a = eqb-true _ _ one.0 in
      let b = eqb-true _ _ two.0 in
      let c = eqb-true _ _ three.0 in
      let d = eqb-true _ _ three.1 in
      sym (cells_back xs long_x) ∙ (λ i. cells_in (a i) (b i) (c i) (d i)) ∙ cells_back ys long_y,
  λ e.
      and_from _ _ (eq-eqb _ _ (ap (set_of cell_steps) e))
      (and_from _ _ (eq-eqb _ _ (ap (set_of cell_slants) e))
      (and_from _ _ (eq-eqb _ _ (ap (set_of cell_runs) e)) (eq-eqb _ _ (ap (set_of cell_is_black) e)))),
)

pub sets_same : (xs ys : List (Option Piece)) → length xs ≡ 64 → length ys ≡ 64 → ((set_of cell_steps xs == set_of cell_steps ys) && ((set_of cell_slants xs == set_of cell_slants ys) && ((set_of cell_runs xs == set_of cell_runs ys) && (set_of cell_is_black xs == set_of cell_is_black ys)))) ≡ same_board xs ys
sets_same xs ys long_x long_y = same_from_decides _ _ (sets_decide xs ys long_x long_y) (same_board-decides xs ys)
