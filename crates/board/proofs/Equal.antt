-- The tests of sameness decide equality.
use Rattle.std.proofs.Common.{◌≡◌, ℕ, refl, sym, ap, List, Bool, true, false, ◌&&◌, Option, None, Some, ◌↔◌, IsTrue}
use Rattle.std.proofs.lemmas.Bool.{and_parts, and_from}
use Rattle.std.proofs.lemmas.Bool.Decides.{Decides-eqb, same_from_decides}
use Rattle.std.specs.Bool.{Decides}
use Rattle.std.specs.Option.{option_eq}
use Rattle.std.specs.Cmp.Lexicographic.{pointwise, pointwise_decides}
use denote.Enum.Bare.{same_true, true_same}
use Rattle.board.specs.declared.piece.Colour.{Colour}
use Rattle.board.specs.declared.piece.Colour.TheVariants.{White, Black}
use Rattle.board.specs.declared.piece.Kind.{Kind}
use Rattle.board.specs.declared.piece.Kind.TheVariants.{Pawn, Knight, Bishop, Rook, Queen, King}
use Rattle.board.specs.declared.piece.Piece.{Piece}
use Rattle.board.specs.declared.parts.Parts.{Parts}
use Rattle.board.specs.declared.parts.Rights.{Rights}
use Rattle.board.specs.contracts.piece.Colour.{the_type as the_colours}
use Rattle.board.specs.contracts.piece.Kind.{the_type as the_kinds}
use Rattle.board.specs.contracts.piece.PiecePartialEq.TheImpl.{eq-value as piece_eq}
use Rattle.board.specs.Piece.{same_colour, same_kind}
use Rattle.board.specs.Same.{same_cell, same_bool, same_rights, same_ep, same_board, same, IsSame}

pub same_colour-true : (c d : Colour) → same_colour c d ≡ true → c ≡ d
same_colour-true White White h = refl
same_colour-true White Black h = cc
same_colour-true Black White h = cc
same_colour-true Black Black h = refl

pub same_colour-itself : (c : Colour) → same_colour c c ≡ true
same_colour-itself White = refl
same_colour-itself Black = refl

pub same_kind-true : (j k : Kind) → same_kind j k ≡ true → j ≡ k
same_kind-true Pawn Pawn h = refl
same_kind-true Knight Knight h = refl
same_kind-true Bishop Bishop h = refl
same_kind-true Rook Rook h = refl
same_kind-true Queen Queen h = refl
same_kind-true King King h = refl
same_kind-true _ _ h = cc

pub same_kind-itself : (k : Kind) → same_kind k k ≡ true
same_kind-itself Pawn = refl
same_kind-itself Knight = refl
same_kind-itself Bishop = refl
same_kind-itself Rook = refl
same_kind-itself Queen = refl
same_kind-itself King = refl

-- two pieces of one colour and kind are one
piece_from_parts : (x y : Piece) → x.colour ≡ y.colour → x.kind ≡ y.kind → x ≡ y
piece_from_parts x y c k = λ i. record { colour = c i; kind = k i }

some_parts : (x y : Piece) → ◌≡◌ {A = Option Piece} (Some x) (Some y) → (x.colour ≡ y.colour) × (x.kind ≡ y.kind)
some_parts x y h = let e : x ≡ y = cc in (ap (λ (p : Piece). p.colour) e, ap (λ (p : Piece). p.kind) e)

pub same_cell-decides : (x y : Option Piece) → Decides (same_cell x y) (x ≡ y)
same_cell-decides None None = (λ _. refl, λ _. refl)
same_cell-decides None (Some y) = (λ h. cc, λ h. cc)
same_cell-decides (Some x) None = (λ h. cc, λ h. cc)
same_cell-decides (Some x) (Some y) = (
  λ h.
      let t = and_parts (same_colour x.colour y.colour) (same_kind x.kind y.kind) h in
      ap Some (piece_from_parts x y (same_colour-true _ _ t.0) (same_kind-true _ _ t.1)),
  λ h.
      let t = some_parts x y h in
      rw (t.0, t.1) (and_from _ _ (same_colour-itself y.colour) (same_kind-itself y.kind)),
)

-- the derived test of two cells
cell_eq-decides : (x y : Option Piece) → Decides (option_eq piece_eq.it x y) (x ≡ y)
cell_eq-decides None None = (λ _. refl, λ _. refl)
cell_eq-decides None (Some y) = (λ h. cc, λ h. cc)
cell_eq-decides (Some x) None = (λ h. cc, λ h. cc)
cell_eq-decides (Some x) (Some y) = (
  λ h.
      let t = and_parts _ _ h in
      ap Some (piece_from_parts x y (same_true the_colours tt _ _ t.0) (same_true the_kinds tt _ _ t.1)),
  λ h.
      let t = some_parts x y h in
      and_from _ _ (true_same the_colours _ _ t.0) (true_same the_kinds _ _ t.1),
)

pub board_eq-is : (xs ys : List (Option Piece)) → pointwise (option_eq piece_eq.it) xs ys ≡ same_board xs ys
unfolding same_board
board_eq-is xs ys =
    same_from_decides _ _ (pointwise_decides cell_eq-decides xs ys) (pointwise_decides same_cell-decides xs ys)

pub same_board-decides : (xs ys : List (Option Piece)) → Decides (same_board xs ys) (xs ≡ ys)
unfolding same_board
same_board-decides xs ys = pointwise_decides same_cell-decides xs ys

same_bool-true : (a b : Bool) → same_bool a b ≡ true → a ≡ b
same_bool-true true b h = sym h
same_bool-true false true h = cc
same_bool-true false false h = refl

same_bool-itself : (b : Bool) → same_bool b b ≡ true
same_bool-itself true = refl
same_bool-itself false = refl

pub same_rights-true : (a b : Rights) → same_rights a b ≡ true → a ≡ b
same_rights-true a b h =
    let three = and_parts (same_bool a.white_short b.white_short && same_bool a.white_long b.white_long && same_bool a.black_short b.black_short) (same_bool a.black_long b.black_long) h in
    let two = and_parts (same_bool a.white_short b.white_short && same_bool a.white_long b.white_long) (same_bool a.black_short b.black_short) three.0 in
    let one = and_parts (same_bool a.white_short b.white_short) (same_bool a.white_long b.white_long) two.0 in
    let ws = same_bool-true a.white_short b.white_short one.0 in
    let wl = same_bool-true a.white_long b.white_long one.1 in
    let bs = same_bool-true a.black_short b.black_short two.1 in
    let bl = same_bool-true a.black_long b.black_long three.1 in
    λ i. record { white_short = ws i; white_long = wl i; black_short = bs i; black_long = bl i }

pub same_rights-itself : (r : Rights) → same_rights r r ≡ true
same_rights-itself r =
    rw (same_bool-itself r.white_short, same_bool-itself r.white_long, same_bool-itself r.black_short) (same_bool-itself r.black_long)

pub same_ep-decides : (x y : Option ℕ) → Decides (same_ep x y) (x ≡ y)
same_ep-decides None None = (λ _. refl, λ _. refl)
same_ep-decides None (Some y) = (λ h. cc, λ h. cc)
same_ep-decides (Some x) None = (λ h. cc, λ h. cc)
same_ep-decides (Some x) (Some y) = (λ h. ap Some ((Decides-eqb x y).0 h), λ h. (Decides-eqb x y).1 (cc))

-- the test of sameness tells exactly the same positions
pub same-means : (a b : Parts) → IsTrue (same a b) ↔ IsSame a b
unfolding same
same-means a b = (
  λ h.
      let three = and_parts _ _ h in
      let two = and_parts _ _ three.0 in
      let one = and_parts _ _ two.0 in
      record {
        cells = (same_board-decides a.cells b.cells).0 one.0;
        turn = same_colour-true _ _ one.1;
        rights = same_rights-true _ _ two.1;
        ep = (same_ep-decides a.ep b.ep).0 three.1;
      },
  λ s.
      and_from _ _
      (and_from _ _
      (and_from _ _ ((same_board-decides a.cells b.cells).1 s.cells) (rw s.turn (same_colour-itself b.turn)))
      (rw s.rights (same_rights-itself b.rights)))
      ((same_ep-decides a.ep b.ep).1 s.ep),
)
