-- Which words name no move.
use Rattle.std.proofs.Common.{◌≡◌, ℕ, zero, suc, ◌+◌, ◌-◌, ◌*◌, ◌<◌, ◌≤◌, List, [], ◌∷◌, Option, Some, None, IfSome, Bool, true, false, cond, refl, sym, ap, ◌∙◌, subst, arith, nat_le, ◌&&◌, true≢false}
use Rattle.std.proofs.lemmas.Bool.{leb-true}
use Rattle.board.specs.declared.piece.Kind.{Kind}
use Rattle.board.specs.declared.piece.Kind.TheVariants.{Pawn, Knight, Bishop, Rook, Queen, King}
use Rattle.board.specs.Moves.{MoveWord, IsMove, can_be_promo}
use Rattle.board.specs.Reading.{square_in, kind_in, promotion, promo_in, joined, joined_with, move_in}
use Rattle.board.specs.Words.{move_word}
use Rattle.board.proofs.Spelling.{move_in-spells}

and-true : (a b : Bool) → (a && b) ≡ true → (a ≡ true) × (b ≡ true)
and-true true b h = (refl, h)
and-true false b h = absurd (true≢false (sym h))

square-small : (f r s : ℕ) → square_in f r ≡ Some s → s < 64
square-small f r s h = by (nat_le 97 f && nat_le f 104 && nat_le 49 r && nat_le r 56) refl h
  where
    by : (t : Bool) → (nat_le 97 f && nat_le f 104 && nat_le 49 r && nat_le r 56) ≡ t → cond t (Some (8 * (r - 49) + (f - 97))) None ≡ Some s → s < 64
    by false e g = cc
    by true e g =
        let one = and-true (nat_le 97 f && nat_le f 104 && nat_le 49 r) (nat_le r 56) e in
        let two = and-true (nat_le 97 f && nat_le f 104) (nat_le 49 r) one.0 in
        let three = and-true (nat_le 97 f) (nat_le f 104) two.0 in
        let f_most : f ≤ 104 = leb-true f 104 three.1 in
        let r_most : r ≤ 56 = leb-true r 56 one.1 in
        let is : 8 * (r - 49) + (f - 97) ≡ s = cc in
        omega (arith, f_most, r_most, is)

promo-can : (k : Option Kind) (x : Kind) → promotion k ≡ Some x → can_be_promo (Some x) ≡ true
promo-can None x h = cc
promo-can (Some Pawn) x h = cc
promo-can (Some King) x h = cc
promo-can (Some Knight) x h = subst (λ (y : Kind). can_be_promo (Some y) ≡ true) (let e : Knight ≡ x = cc in e) refl
promo-can (Some Bishop) x h = subst (λ (y : Kind). can_be_promo (Some y) ≡ true) (let e : Bishop ≡ x = cc in e) refl
promo-can (Some Rook) x h = subst (λ (y : Kind). can_be_promo (Some y) ≡ true) (let e : Rook ≡ x = cc in e) refl
promo-can (Some Queen) x h = subst (λ (y : Kind). can_be_promo (Some y) ≡ true) (let e : Queen ≡ x = cc in e) refl

joined-is-move : (a b c d : ℕ) (promo : Option Kind) (m : MoveWord) → can_be_promo promo ≡ true → (x y : Option ℕ) → square_in a b ≡ x → square_in c d ≡ y → joined x y promo ≡ Some m → IsMove m
joined-is-move a b c d promo m can None y from to h = cc
joined-is-move a b c d promo m can (Some p) None from to h = cc
joined-is-move a b c d promo m can (Some p) (Some q) from to h =
    let e : record { from = p; to = q; promo = promo } ≡ m = cc in
    subst IsMove e (record { from = square-small a b p from; to = square-small c d q to; promo = can })

pub named-is-move : (word : List ℕ) (m : MoveWord) → move_in word ≡ Some m → IsMove m
named-is-move (a ∷ b ∷ c ∷ d ∷ []) m h = joined-is-move a b c d None m refl (square_in a b) (square_in c d) refl refl h
named-is-move (a ∷ b ∷ c ∷ d ∷ e ∷ []) m h = by (promo_in e) refl h
  where
    by : (k : Option Kind) → promo_in e ≡ k → joined_with (square_in a b) (square_in c d) k ≡ Some m → IsMove m
    by None is g = cc
    by (Some x) is g = joined-is-move a b c d (Some x) m (promo-can (kind_in e) x is) (square_in a b) (square_in c d) refl refl g
named-is-move _ m h = cc

abbrev pub no_move : Option MoveWord
no_move = None

-- where no move has the word, it names none
pub names-none : (word : List ℕ) → ((m : MoveWord) → IsMove m → move_word m ≡ word → no_move ≡ Some m) → move_in word ≡ None
names-none word none = by (move_in word) refl (move_in-spells word)
  where
    by : (o : Option MoveWord) → move_in word ≡ o → IfSome o (λ m. move_word m ≡ word) → o ≡ None
    by None e s = refl
    by (Some m) e s = let never = none m (named-is-move word m e) s in cc
