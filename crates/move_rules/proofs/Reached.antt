-- What is known of a piece that goes from one square to another.
use Rattle.std.proofs.Common.{◌≡◌, ℕ, refl, true, false, Option, None, Some, ◌≢◌}
use Rattle.std.proofs.lemmas.Bool.{and_parts, and_left, and_right, not-true, both_ways}
use Rattle.board.specs.declared.piece.Colour.{Colour}
use Rattle.board.specs.declared.piece.Colour.TheVariants.{White, Black}
use Rattle.board.specs.declared.piece.Kind.{Kind}
use Rattle.board.specs.declared.piece.Piece.{Piece}
use Rattle.board.specs.declared.parts.Parts.{Parts}
use Rattle.board.specs.Piece.{other, same_colour, same_kind, is_piece}
use Rattle.board.specs.Attack.{piece_on}
use Rattle.board.proofs.Equal.{same_colour-true, same_colour-itself, same_kind-true}
use Rattle.board.specs.Cells.{is_of, is_kind}
use Rattle.board.specs.Reach.{reaches, cell_reaches, kind_reaches}

-- a piece of the side to move stands on a, goes its way to b, and finds none of its own side there
pub record Reach (p : Parts) (a b : ℕ) : Type 0 where
  pub piece : Piece
  pub stands : piece_on p.cells a ≡ Some piece
  pub own : piece.colour ≡ p.turn
  pub free : is_of p.turn (piece_on p.cells b) ≡ false
  pub how : kind_reaches p piece.kind a b ≡ true

cell_reach : (p : Parts) (a b : ℕ) (cell : Option Piece) → piece_on p.cells a ≡ cell → cell_reaches p a b cell ≡ true → Reach p a b
cell_reach p a b None e h = cc
cell_reach p a b (Some piece) e h =
    let one = and_parts _ _ h in
    let two = and_parts _ _ one.0 in
    record { piece = piece; stands = e; own = same_colour-true _ _ two.0; free = not-true _ two.1; how = one.1 }

pub reach_of : (p : Parts) (a b : ℕ) → reaches p a b ≡ true → Reach p a b
unfolding reaches
reach_of p a b h = cell_reach p a b (piece_on p.cells a) refl h

-- the kind of a piece in a cell
pub kind_of : (k : Kind) (cell : Option Piece) (piece : Piece) → cell ≡ Some piece → is_kind k cell ≡ true → piece.kind ≡ k
kind_of k cell piece e h = same_kind-true _ _ (rw e at h)

-- a piece of a side and a kind is of that kind
pub kind_of_piece : (c : Colour) (k : Kind) (cell : Option Piece) → is_piece c k cell ≡ true → is_kind k cell ≡ true
kind_of_piece c k None h = cc
kind_of_piece c k (Some piece) h = (and_parts (same_colour piece.colour c) (same_kind piece.kind k) h).1

-- where no piece of a kind stands, none of that kind and either side does
pub no_kind : (c : Colour) (k : Kind) (cell : Option Piece) → is_kind k cell ≡ false → is_piece c k cell ≡ false
no_kind c k None h = refl
no_kind c k (Some piece) h = and_right (same_colour piece.colour c) (same_kind piece.kind k) h

-- a piece is of one kind alone
pub piece_is_one : (c d : Colour) (j k : Kind) (cell : Option Piece) → is_piece d j cell ≡ true → same_kind j k ≡ false → is_piece c k cell ≡ false
piece_is_one c d j k None h away = cc
piece_is_one c d j k (Some piece) h away =
    let it : piece.kind ≡ j = same_kind-true _ _ (and_parts (same_colour piece.colour d) (same_kind piece.kind j) h).1 in
    and_right (same_colour piece.colour c) (same_kind piece.kind k) (rw it away)

-- a move goes to another square
pub goes_elsewhere : (p : Parts) (a b : ℕ) → Reach p a b → a ≢ b
goes_elsewhere p a b r e =
    let mine : is_of p.turn (Some r.piece) ≡ true = rw r.own (same_colour-itself p.turn) in
    let not_mine : is_of p.turn (piece_on p.cells a) ≡ false = rw e r.free in
    let seen : is_of p.turn (Some r.piece) ≡ false = rw r.stands at not_mine in
    both_ways _ seen mine

-- a cell with no piece of one side, and no such piece of the other
pub no_piece_of : (c t : Colour) (k : Kind) (cell : Option Piece) → is_of t cell ≡ false → is_piece (other t) k cell ≡ false → is_piece c k cell ≡ false
no_piece_of c t k None own others = refl
no_piece_of White White k (Some piece) own others = and_left _ _ own
no_piece_of Black Black k (Some piece) own others = and_left _ _ own
no_piece_of White Black k (Some piece) own others = others
no_piece_of Black White k (Some piece) own others = others
