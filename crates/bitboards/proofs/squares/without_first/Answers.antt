use Rattle.std.proofs.Common.{◌≡◌, ◌∙◌, ℕ, ◌<◌, ◌&&◌, not, ◌==◌, arith, subst, sym, refl, eq-eqb, ap, w64, bit_and}
use Rattle.std.proofs.lemmas.Bool.{and_right, and_parts}
use Rattle.std.specs.Int.{bit_not}
use Rattle.board.specs.Sets.{has, IsSetOf}
use Rattle.board.proofs.SetLaws.{and_of, not_of, has-and}
use Rattle.bitboards.proofs.Listed.{first_and_rest, first_is_one, loses}
use Rattle.bitboards.proofs.squares.without_first.Goals as goal

rest_has : (set mask first : ℕ) → mask < 18446744073709551616 → IsSetOf mask (λ t. t == first) → IsSetOf (bit_and set (bit_not w64 mask)) (λ t. has set t && not (t == first))
rest_has set mask first fits is = and_of set (bit_not w64 mask) (has set) _ (λ t on. refl) (not_of mask _ fits is)

pub returns-clause-rest : goal.returns-clause-rest
returns-clause-rest c = λ first here before.
    let one : c.first_square.result ≡ first = first_is_one c.args.set c.first_square.result first c.first_square.ensures.in_set c.first_square.ensures.first here before in
    let is = rest_has c.args.set c.square_set.result c.first_square.result (omega arith) c.square_set.ensures in
    first_and_rest c.args.set _ first (subst (λ (k : ℕ). k < 64) one c.first_square.ensures.on_board) here before
    (subst (λ (k : ℕ). IsSetOf (bit_and c.args.set (bit_not w64 c.square_set.result)) (λ t. has c.args.set t && not (t == k))) one is)

pub returns-clause-less : goal.returns-clause-less
returns-clause-less c =
    let is = rest_has c.args.set c.square_set.result c.first_square.result (omega arith) c.square_set.ensures in
    loses c.args.set _ c.first_square.result c.first_square.ensures.on_board c.first_square.ensures.in_set
    (is c.first_square.result c.first_square.ensures.on_board ∙ and_right (has c.args.set c.first_square.result) _ (ap not (eq-eqb _ _ refl)))

pub returns-clause-within : goal.returns-clause-within
returns-clause-within c = λ t h. (and_parts _ _ (sym (has-and c.args.set _ t) ∙ h)).0
