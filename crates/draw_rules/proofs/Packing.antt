-- What a position has beside its pieces is told back by its number, and two lists in step are one list.
use Rattle.std.proofs.Common.{◌≡◌, ℕ, ◌+◌, ◌*◌, ◌/◌, ◌%◌, ◌<◌, ◌≤◌, ◌==◌, zero, suc, refl, arith, ap, sym, ◌∙◌, List, [], ◌∷◌, ◌++◌, length, get_or, take, add-zero, Bool, true, false, ◌&&◌, Option, None, Some, cond, eq-eqb}
use Rattle.std.proofs.lemmas.Bool.{and_parts, and_from, eqb-true}
use Rattle.std.proofs.lemmas.Bool.Decides.{same_from_decides}
use Rattle.std.proofs.lemmas.List.Sums.{sum_by-cons, sum_by-append, count_by-le-length}
use Rattle.std.proofs.lemmas.List.{take_all, take_more, length-take}
use Rattle.std.specs.Bool.{Decides}
use Rattle.board.specs.declared.piece.Piece.{Piece}
use Rattle.board.specs.Piece.{same_colour}
use Rattle.board.specs.Placement.{colour_is_black, colour_in}
use Rattle.board.specs.Same.{same_rights, same_ep}
use Rattle.board.proofs.Equal.{same_colour-true, same_colour-itself, same_rights-true, same_rights-itself, same_ep-decides}
use Rattle.board.proofs.Kept.{colour_back}
use Rattle.draw_rules.specs.Appearance.{Appearance, same_appearance, times_in}
use Rattle.draw_rules.specs.Packing.{Beside, with_pieces, in_step, digit, ep_number, number_of, is_odd, ep_in, beside_in}

digit_is_last : (b : Bool) (n : ℕ) → is_odd (digit b n) ≡ b
digit_is_last true n = let e : (1 + 2 * n) % 2 ≡ 1 = omega arith in eq-eqb _ _ e
digit_is_last false n = let e : (0 + 2 * n) % 2 ≡ 0 = omega arith in ap (λ k. k == 1) e

digit_goes : (b : Bool) (n : ℕ) → digit b n / 2 ≡ n
digit_goes true n = omega arith
digit_goes false n = omega arith

ep_back : (e : Option ℕ) → ep_in (ep_number e) ≡ e
ep_back None = refl
ep_back (Some s) = refl

-- each number is halved as often as there are digits before it
pub beside_back : (b : Beside) → beside_in (number_of b) ≡ b
unfolding number_of beside_in
beside_back b =
    let five = digit b.rights.black_long (ep_number b.ep) in
    let four = digit b.rights.black_short five in
    let three = digit b.rights.white_long four in
    let two = digit b.rights.white_short three in
    let one = digit (colour_is_black b.turn) two in
    let to_two : one / 2 ≡ two = digit_goes (colour_is_black b.turn) two in
    let to_three : one / 2 / 2 ≡ three = ap (λ n. n / 2) to_two ∙ digit_goes b.rights.white_short three in
    let to_four : one / 2 / 2 / 2 ≡ four = ap (λ n. n / 2) to_three ∙ digit_goes b.rights.white_long four in
    let to_five : one / 2 / 2 / 2 / 2 ≡ five = ap (λ n. n / 2) to_four ∙ digit_goes b.rights.black_short five in
    let to_ep : one / 2 / 2 / 2 / 2 / 2 ≡ ep_number b.ep = ap (λ n. n / 2) to_five ∙ digit_goes b.rights.black_long (ep_number b.ep) in
    let turn : colour_in (is_odd one) ≡ b.turn = ap colour_in (digit_is_last (colour_is_black b.turn) two) ∙ colour_back b.turn in
    let white_short : is_odd (one / 2) ≡ b.rights.white_short = ap is_odd to_two ∙ digit_is_last b.rights.white_short three in
    let white_long : is_odd (one / 2 / 2) ≡ b.rights.white_long = ap is_odd to_three ∙ digit_is_last b.rights.white_long four in
    let black_short : is_odd (one / 2 / 2 / 2) ≡ b.rights.black_short = ap is_odd to_four ∙ digit_is_last b.rights.black_short five in
    let black_long : is_odd (one / 2 / 2 / 2 / 2) ≡ b.rights.black_long = ap is_odd to_five ∙ digit_is_last b.rights.black_long (ep_number b.ep) in
    let ep : ep_in (one / 2 / 2 / 2 / 2 / 2) ≡ b.ep = ap ep_in to_ep ∙ ep_back b.ep in
    λ i. record { turn = turn i; rights = record { white_short = white_short i; white_long = white_long i; black_short = black_short i; black_long = black_long i }; ep = ep i }

-- a number that was made of something is made of what it tells
pub number_kept : (n : ℕ) (b : Beside) → n ≡ number_of b → n ≡ number_of (beside_in n)
number_kept n b e = e ∙ ap number_of (sym (beside_back b) ∙ ap beside_in (sym e))

beside_from_parts : (a b : Beside) → a.turn ≡ b.turn → a.rights ≡ b.rights → a.ep ≡ b.ep → a ≡ b
beside_from_parts a b turn rights ep = λ i. record { turn = turn i; rights = rights i; ep = ep i }

beside-decides : (a b : Beside) → Decides (same_colour a.turn b.turn && same_rights a.rights b.rights && same_ep a.ep b.ep) (a ≡ b)
beside-decides a b = (
  λ h.
      let two = and_parts (same_colour a.turn b.turn && same_rights a.rights b.rights) (same_ep a.ep b.ep) h in
      let one = and_parts (same_colour a.turn b.turn) (same_rights a.rights b.rights) two.0 in
      beside_from_parts a b (same_colour-true _ _ one.0) (same_rights-true _ _ one.1) ((same_ep-decides a.ep b.ep).0 two.1),
  λ e.
      and_from _ _
      (and_from _ _
      (ap (λ c. same_colour c b.turn) (ap (λ x. x.turn) e) ∙ same_colour-itself b.turn)
      (ap (λ r. same_rights r b.rights) (ap (λ x. x.rights) e) ∙ same_rights-itself b.rights))
      ((same_ep-decides a.ep b.ep).1 (ap (λ x. x.ep) e)),
)

numbers-decide : (a b : Beside) → Decides (number_of a == number_of b) (a ≡ b)
numbers-decide a b = (
  λ h. sym (beside_back a) ∙ ap beside_in (eqb-true _ _ h) ∙ beside_back b,
  λ e. eq-eqb _ _ (ap number_of e),
)

-- comparing numbers is comparing what they tell
pub numbers_same : (a b : Beside) → (number_of a == number_of b) ≡ (same_colour a.turn b.turn && same_rights a.rights b.rights && same_ep a.ep b.ep)
numbers_same a b = same_from_decides _ _ (numbers-decide a b) (beside-decides a b)

-- one position more at the end of both lists
pub in_step_push : (boards : List (List (Option Piece))) (rest : List Beside) (board : List (Option Piece)) (b : Beside) → length boards ≡ length rest → in_step (boards ++ board ∷ []) (rest ++ b ∷ []) ≡ in_step boards rest ++ with_pieces board b ∷ []
in_step_push [] [] board b h = refl
in_step_push [] (y ∷ ys) board b h = absurd (omega arith)
in_step_push (x ∷ xs) [] board b h = absurd (omega arith)
in_step_push (x ∷ xs) (y ∷ ys) board b h = ap (λ l. with_pieces x y ∷ l) (in_step_push xs ys board b (omega arith))

pub length_in_step : (boards : List (List (Option Piece))) (rest : List Beside) → length boards ≡ length rest → length (in_step boards rest) ≡ length boards
length_in_step [] rest h = refl
length_in_step (x ∷ xs) [] h = absurd (omega arith)
length_in_step (x ∷ xs) (y ∷ ys) h = let more = length_in_step xs ys (omega arith) in omega arith

-- the position at a place
pub in_step-at : (boards : List (List (Option Piece))) (rest : List Beside) (i : ℕ) (d : Appearance) (board : List (Option Piece)) (b : Beside) → length boards ≡ length rest → i < length boards → get_or (in_step boards rest) i d ≡ with_pieces (get_or boards i board) (get_or rest i b)
in_step-at [] rest i d board b h inside = absurd (omega arith)
in_step-at (x ∷ xs) [] i d board b h inside = absurd (omega arith)
in_step-at (x ∷ xs) (y ∷ ys) zero d board b h inside = refl
in_step-at (x ∷ xs) (y ∷ ys) (suc i) d board b h inside = in_step-at xs ys i d board b (omega arith) (omega arith)

-- no position stands in a list more often than the list is long
pub times_in-le : (list : List Appearance) (a : Appearance) → times_in list a ≤ length list
times_in-le list a = count_by-le-length (λ b. same_appearance b a) list

-- how often a position stands among the first i of two lists in step
unfoldable pub times_to : ℕ → List (List (Option Piece)) → List Beside → Appearance → ℕ
times_to i boards rest a = times_in (take i (in_step boards rest)) a

pub none_to : (boards : List (List (Option Piece))) (rest : List Beside) (a : Appearance) → 0 ≡ times_to 0 boards rest a
unfolding times_to
none_to boards rest a = refl

-- one place more
pub one_more_to : (boards : List (List (Option Piece))) (rest : List Beside) (a : Appearance) (i : ℕ) (board : List (Option Piece)) (b : Beside) → length boards ≡ length rest → i < length boards → board ≡ get_or boards i board → b ≡ get_or rest i b → times_to (i + 1) boards rest a ≡ times_to i boards rest a + cond (same_appearance (with_pieces board b) a) 1 0
unfolding times_to
one_more_to boards rest a i board b long inside at_board at_rest =
    let one = with_pieces board b in
    let list = in_step boards rest in
    let within : i < length list = omega (arith, length_in_step boards rest long) in
    let here : get_or list i one ≡ one = in_step-at boards rest i one board b long inside ∙ (λ j. with_pieces (sym at_board j) (sym at_rest j)) in
    ap (λ l. times_in l a) (take_more list i one within)
    ∙ sum_by-append (λ x. cond (same_appearance x a) 1 0) (take i list) (get_or list i one ∷ [])
    ∙ ap (λ n. times_in (take i list) a + n) (sum_by-cons (λ x. cond (same_appearance x a) 1 0) (get_or list i one) [] ∙ add-zero _ ∙ ap (λ x. cond (same_appearance x a) 1 0) here)

pub all_to : (boards : List (List (Option Piece))) (rest : List Beside) (a : Appearance) (i : ℕ) → length boards ≡ length rest → length boards ≤ i → times_to i boards rest a ≡ times_in (in_step boards rest) a
unfolding times_to
all_to boards rest a i long all = ap (λ l. times_in l a) (take_all i (in_step boards rest) (omega (arith, length_in_step boards rest long)))

pub times_to-le : (boards : List (List (Option Piece))) (rest : List Beside) (a : Appearance) (i : ℕ) → times_to i boards rest a ≤ i
unfolding times_to
times_to-le boards rest a i =
    let few = times_in-le (take i (in_step boards rest)) a in
    let short = length-take i (in_step boards rest) in
    omega arith

-- four tests, the last three together
pub with_three : (a b c d : Bool) → (a && (b && c && d)) ≡ (a && b && c && d)
with_three true b c d = refl
with_three false b c d = refl
