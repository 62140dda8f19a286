-- Where pawns go ahead, and how castling is told by sets.
use Rattle.std.proofs.Common.{◌≡◌, ℕ, ◌+◌, ◌*◌, ◌/◌, ◌%◌, ◌^◌, ◌<◌, refl, arith, ap, sym, subst, ◌∙◌, Bool, true, false, ◌&&◌, ◌||◌, not, ◌==◌, inl, inr, eq-eqb, nat_lt, Some}
use Rattle.std.proofs.lemmas.Bool.{ne_eqb, and_parts, and_from, cases_Bool, eqb-true, ltb-true, both_ways}
use Rattle.board.specs.declared.piece.Colour.{Colour}
use Rattle.board.specs.declared.piece.Colour.TheVariants.{White, Black}
use Rattle.board.specs.declared.parts.Parts.{Parts}
use Rattle.board.specs.Square.{file_of, rank_of}
use Rattle.board.specs.Cells.{is_empty}
use Rattle.board.specs.Sets.{IsSetOf}
use Rattle.board.specs.Pawns.{ahead, pawn_rank, halfway, single_step, double_step}
use Rattle.board.specs.declared.piece.Piece.{Piece}
use Rattle.board.specs.Piece.{same_colour}
use Rattle.board.specs.Attack.{piece_on}
use Rattle.board.specs.Cells.{is_of}
use Rattle.board.specs.Position.{home}
use Rattle.board.specs.Castling.{short_right, long_right, all_empty, all_safe, castles}
use Rattle.board.specs.Reach.{kind_reaches, cell_reaches, reaches}
use Rattle.board.proofs.Equal.{same_colour-itself}
use Rattle.bitboards.proofs.Agreement.{rows_agree, table_at, pairs_agree, pair_at}
use Rattle.bitboards.proofs.Masks.{empty_set, not_empty}

up_one : rows_agree (λ s. 1 * 2 ^ s % 2 ^ 64 * 2 ^ 8 % 2 ^ 64) (ahead White 1) 64 ≡ true
up_one = refl

down_one : rows_agree (λ s. 1 * 2 ^ s % 2 ^ 64 / 2 ^ 8) (ahead Black 1) 64 ≡ true
down_one = refl

up_two : rows_agree (λ s. 1 * 2 ^ s % 2 ^ 64 * 2 ^ 16 % 2 ^ 64) (ahead White 2) 64 ≡ true
up_two = refl

down_two : rows_agree (λ s. 1 * 2 ^ s % 2 ^ 64 / 2 ^ 16) (ahead Black 2) 64 ≡ true
down_two = refl

pub up_one_at : (s : ℕ) → s < 64 → IsSetOf (1 * 2 ^ s % 2 ^ 64 * 2 ^ 8 % 2 ^ 64) (ahead White 1 s)
up_one_at s on = λ t t_on. table_at (λ s. 1 * 2 ^ s % 2 ^ 64 * 2 ^ 8 % 2 ^ 64) (ahead White 1) up_one s t on t_on

pub down_one_at : (s : ℕ) → s < 64 → IsSetOf (1 * 2 ^ s % 2 ^ 64 / 2 ^ 8) (ahead Black 1 s)
down_one_at s on = λ t t_on. table_at (λ s. 1 * 2 ^ s % 2 ^ 64 / 2 ^ 8) (ahead Black 1) down_one s t on t_on

pub up_two_at : (s : ℕ) → s < 64 → IsSetOf (1 * 2 ^ s % 2 ^ 64 * 2 ^ 16 % 2 ^ 64) (ahead White 2 s)
up_two_at s on = λ t t_on. table_at (λ s. 1 * 2 ^ s % 2 ^ 64 * 2 ^ 16 % 2 ^ 64) (ahead White 2) up_two s t on t_on

pub down_two_at : (s : ℕ) → s < 64 → IsSetOf (1 * 2 ^ s % 2 ^ 64 / 2 ^ 16) (ahead Black 2 s)
down_two_at s on = λ t t_on. table_at (λ s. 1 * 2 ^ s % 2 ^ 64 / 2 ^ 16) (ahead Black 2) down_two s t on t_on

-- the square halfway is one ahead
crosses : (c : Colour) → pairs_agree (λ a b. not (ahead c 2 a b) || (ahead c 1 a (halfway a b) && nat_lt (halfway a b) 64)) (λ a b. true) 64 ≡ true
crosses White = refl
crosses Black = refl

crossed : (c : Colour) (a b : ℕ) → a < 64 → b < 64 → ahead c 2 a b ≡ true → (ahead c 1 a (halfway a b) ≡ true) × (halfway a b < 64)
crossed c a b a_on b_on h =
    let pair : (not (ahead c 2 a b) || (ahead c 1 a (halfway a b) && nat_lt (halfway a b) 64)) ≡ true = pair_at (λ a b. not (ahead c 2 a b) || (ahead c 1 a (halfway a b) && nat_lt (halfway a b) 64)) (λ a b. true) (crosses c) a b a_on b_on in
    let parts = and_parts (ahead c 1 a (halfway a b)) (nat_lt (halfway a b) 64) (rw h at pair) in
    (parts.0, ltb-true _ _ parts.1)

-- one square is one ahead
one_square : (c : Colour) (a s t : ℕ) → ahead c 1 a s ≡ true → ahead c 1 a t ≡ true → s ≡ t
one_square White a s t h k =
    let hp = and_parts (file_of a == file_of s) (rank_of s == rank_of a + 1) h in
    let kp = and_parts (file_of a == file_of t) (rank_of t == rank_of a + 1) k in
    let f = eqb-true _ _ hp.0 in
    let r = eqb-true _ _ hp.1 in
    let g = eqb-true _ _ kp.0 in
    let q = eqb-true _ _ kp.1 in
    omega arith
one_square Black a s t h k =
    let hp = and_parts (file_of a == file_of s) (rank_of a == rank_of s + 1) h in
    let kp = and_parts (file_of a == file_of t) (rank_of a == rank_of t + 1) k in
    let f = eqb-true _ _ hp.0 in
    let r = eqb-true _ _ hp.1 in
    let g = eqb-true _ _ kp.0 in
    let q = eqb-true _ _ kp.1 in
    omega arith

-- a single step is there exactly where the square halfway to a double step is empty
free_halfway : (p : Parts) (a b single : ℕ) → a < 64 → b < 64 → single < 2 ^ 64 → IsSetOf single (single_step p a) → ahead p.turn 2 a b ≡ true → not (single == 0) ≡ is_empty p.cells (halfway a b)
free_halfway p a b single a_on b_on fits is h =
    let at = crossed p.turn a b a_on b_on h in
    elim (cases_Bool (is_empty p.cells (halfway a b))) [
      | inl free ↦ ap not (not_empty single (halfway a b) (is (halfway a b) at.1 ∙ and_from _ _ at.0 free)) ∙ sym free
      | inr full ↦ ap not (eq-eqb _ _ (empty_set single fits (λ t on in_set.
          let parts = and_parts (ahead p.turn 1 a t) (is_empty p.cells t) (sym (is t on) ∙ in_set) in
          let one : t ≡ halfway a b = one_square p.turn a t (halfway a b) parts.0 at.0 in
          both_ways _ full (subst (λ (k : ℕ). is_empty p.cells k ≡ true) one parts.1)))) ∙ sym full
    ]

moved_test : (r z a h e : Bool) → (a ≡ true → z ≡ h) → ((r && z) && (a && e)) ≡ (((r && a) && h) && e)
moved_test true z true h e same = ap (λ b. b && e) (same refl)
moved_test false z true h e same = refl
moved_test true true false h e same = refl
moved_test true false false h e same = refl
moved_test false z false h e same = refl

pub double_by_single : (p : Parts) (a b single : ℕ) → a < 64 → b < 64 → single < 2 ^ 64 → IsSetOf single (single_step p a) → (((rank_of a == pawn_rank p.turn) && not (single == 0)) && (ahead p.turn 2 a b && is_empty p.cells b)) ≡ double_step p a b
double_by_single p a b single a_on b_on fits is =
    moved_test (rank_of a == pawn_rank p.turn) (not (single == 0)) (ahead p.turn 2 a b) (is_empty p.cells (halfway a b)) (is_empty p.cells b) (free_halfway p a b single a_on b_on fits is)

pub double_where : (p : Parts) (a b single : ℕ) → a < 64 → b < 64 → single < 2 ^ 64 → IsSetOf single (single_step p a) → rank_of a ≡ pawn_rank p.turn → (single ≡ 0 → ⊥) → (ahead p.turn 2 a b && is_empty p.cells b) ≡ double_step p a b
double_where p a b single a_on b_on fits is rank some =
    let tests : ((rank_of a == pawn_rank p.turn) && not (single == 0)) ≡ true = and_from _ _ (eq-eqb _ _ rank) (ap not (ne_eqb single 0 some)) in
    sym (ap (λ x. x && (ahead p.turn 2 a b && is_empty p.cells b)) tests) ∙ double_by_single p a b single a_on b_on fits is

-- the square of arrival may be asked last
pub asked_last : (x y e s : Bool) → (((x && e) && s) && y) ≡ (((x && y) && e) && s)
asked_last true true true true = refl
asked_last true true true false = refl
asked_last true true false s = refl
asked_last true false true true = refl
asked_last true false true false = refl
asked_last true false false s = refl
asked_last false y e s = refl

pub both_castles : (p : Parts) (a b : ℕ) (x y : Bool) → x ≡ (short_right p.turn p.rights && (a == home p.turn + 4) && all_empty p.cells (home p.turn + 5) 2 && all_safe p.cells p.turn (home p.turn + 4) 3) → y ≡ (long_right p.turn p.rights && (a == home p.turn + 4) && all_empty p.cells (home p.turn + 1) 3 && all_safe p.cells p.turn (home p.turn + 2) 3) → ((x && (b == home p.turn + 6)) || (y && (b == home p.turn + 2))) ≡ castles p a b
both_castles p a b x y short long =
    (λ i. (short i && (b == home p.turn + 6)) || (long i && (b == home p.turn + 2)))
    ∙ (λ i.
    asked_last (short_right p.turn p.rights && (a == home p.turn + 4)) (b == home p.turn + 6) (all_empty p.cells (home p.turn + 5) 2) (all_safe p.cells p.turn (home p.turn + 4) 3) i
    || asked_last (long_right p.turn p.rights && (a == home p.turn + 4)) (b == home p.turn + 2) (all_empty p.cells (home p.turn + 1) 3) (all_safe p.cells p.turn (home p.turn + 2) 3) i)

pub and_turned : (x y : Bool) → (x && y) ≡ (y && x)
and_turned true true = refl
and_turned true false = refl
and_turned false true = refl
and_turned false false = refl

-- a piece of the side to move goes as its kind goes, and to no square of its own side
pub reaches_by_sets : (p : Parts) (a b : ℕ) (piece : Piece) → piece_on p.cells a ≡ Some piece → piece.colour ≡ p.turn → (kind_reaches p piece.kind a b && not (is_of p.turn (piece_on p.cells b))) ≡ reaches p a b
unfolding reaches
reaches_by_sets p a b piece stands own =
    let same : same_colour piece.colour p.turn ≡ true = ap (λ c. same_colour c p.turn) own ∙ same_colour-itself p.turn in
    and_turned (kind_reaches p piece.kind a b) (not (is_of p.turn (piece_on p.cells b)))
    ∙ ap (λ x. x && not (is_of p.turn (piece_on p.cells b)) && kind_reaches p piece.kind a b) (sym same)
    ∙ ap (cell_reaches p a b) (sym stands)
