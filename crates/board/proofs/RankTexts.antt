-- Each rank and each board has one text, and is read from it.
use Rattle.std.proofs.Common.{◌≡◌, ℕ, zero, suc, ◌+◌, ◌-◌, ◌<◌, ◌≤◌, ◌==◌, List, [], ◌∷◌, ◌++◌, length, replicate, Bool, true, false, ◌||◌, nat_lt, arith, ap, sym, ◌∙◌, refl, Option, None, Some, append-nil, length-append, inl, inr, zero-add}
use Rattle.std.proofs.lemmas.Bool.{cases_Bool, eqb-true, ltb-false}
use Rattle.std.proofs.lemmas.Bool.Decides.{nat_tests}
use Rattle.std.proofs.Math.ListN.{length-replicate}
use Rattle.board.specs.declared.piece.Colour.{Colour}
use Rattle.board.specs.declared.piece.Colour.TheVariants.{White, Black}
use Rattle.board.specs.declared.piece.Kind.{Kind}
use Rattle.board.specs.declared.piece.Kind.TheVariants.{Pawn, Knight, Bishop, Rook, Queen, King}
use Rattle.board.specs.declared.piece.Piece.{Piece}
use Rattle.board.specs.Fen.{piece_letter, run, rank_text}
use Rattle.board.specs.Reading.{is_run, kind_in, piece_of, piece_in, followed, piece_then, rank_in}
use Rattle.board.proofs.Decimals.{decimal_one}
use Rattle.board.proofs.Spelling.{kind_in-spells}

pub some_one : {X : Type 0} {x y : X} → ◌≡◌ {A = Option X} (Some x) (Some y) → x ≡ y
some_one h = cc

pub none_some : {X : Type 0} {x : X} → ◌≡◌ {A = Option X} None (Some x) → ⊥
none_some h = cc

or_false : (a b : Bool) → (a || b) ≡ false → (a ≡ false) × (b ≡ false)
or_false true b h = cc
or_false false b h = (refl, h)

-- a piece is read from its letter
letter_read : (c : Colour) (k : Kind) → piece_in (piece_letter c k) ≡ Some (record { colour = c; kind = k })
unfolding piece_in
letter_read White Pawn = refl
letter_read White Knight = refl
letter_read White Bishop = refl
letter_read White Rook = refl
letter_read White Queen = refl
letter_read White King = refl
letter_read Black Pawn = refl
letter_read Black Knight = refl
letter_read Black Bishop = refl
letter_read Black Rook = refl
letter_read Black Queen = refl
letter_read Black King = refl

-- a letter is no digit, and stands behind the digits and the signs
pub letter_high : (c : Colour) (k : Kind) → 57 < piece_letter c k
letter_high White Pawn = omega arith
letter_high White Knight = omega arith
letter_high White Bishop = omega arith
letter_high White Rook = omega arith
letter_high White Queen = omega arith
letter_high White King = omega arith
letter_high Black Pawn = omega arith
letter_high Black Knight = omega arith
letter_high Black Bishop = omega arith
letter_high Black Rook = omega arith
letter_high Black Queen = omega arith
letter_high Black King = omega arith

piece_of-parts : (c : Colour) (o : Option Kind) (p : Piece) → piece_of c o ≡ Some p → (o ≡ Some p.kind) × (p.colour ≡ c)
piece_of-parts c None p h = cc
piece_of-parts c (Some k) p h =
    let e : record { colour = c; kind = k } ≡ p = cc in (ap (λ (q : Piece). Some q.kind) e, sym (ap (λ (q : Piece). q.colour) e))

-- a piece that was read is spelled by its letter
letter_spells : (b : ℕ) (p : Piece) → piece_in b ≡ Some p → piece_letter p.colour p.kind ≡ b
unfolding piece_in
letter_spells b p h =
    elim (cases_Bool (nat_lt b 97)) [
      | inl capital ↦
          let t = piece_of-parts White (kind_in (b + 32)) p (rw capital at h) in
          let e = kind_in-spells (b + 32) p.kind t.0 in
          rw (t.1) (omega arith)
      | inr small ↦
          let t = piece_of-parts Black (kind_in b) p (rw small at h) in
          rw (t.1) (kind_in-spells b p.kind t.0)
    ]

-- the cells that a run puts in front
followed-parts : (xs : List (Option Piece)) (o : Option (List (Option Piece))) (cells : List (Option Piece)) → followed xs o ≡ Some cells → (ys : List (Option Piece)) × (o ≡ Some ys) × (cells ≡ xs ++ ys)
followed-parts xs None cells h = cc
followed-parts xs (Some ys) cells h = (ys, refl, sym (let e : xs ++ ys ≡ cells = cc in e))

piece_then-parts : (q : Option Piece) (o : Option (List (Option Piece))) (cells : List (Option Piece)) → piece_then q o ≡ Some cells → (p : Piece) × (q ≡ Some p) × ((ys : List (Option Piece)) × (o ≡ Some ys) × (cells ≡ Some p ∷ ys))
piece_then-parts None o cells h = cc
piece_then-parts (Some p) o cells h = (p, refl, followed-parts (Some p ∷ []) o cells h)

pub run-one : (n : ℕ) → 0 < n → n < 10 → run n ≡ (48 + n) ∷ []
run-one n some small =
    let more : (n == 0) ≡ false = grind (arith, nat_tests) in
    rw more (decimal_one n small)

-- empty cells in front lengthen the run
rank_text-replicate : (k n : ℕ) (cells : List (Option Piece)) → rank_text n (replicate k None ++ cells) ≡ rank_text (n + k) cells
rank_text-replicate zero n cells = ap (λ j. rank_text j cells) (let e : n ≡ n + 0 = omega arith in e)
rank_text-replicate (suc k) n cells =
    rank_text-replicate k (n + 1) cells ∙ ap (λ j. rank_text j cells) (let e : n + 1 + k ≡ n + suc k = omega arith in e)

-- a digit that stands in front
run_digit : (b : ℕ) → is_run b ≡ true → (run (b - 48) ≡ b ∷ []) × (48 < b) × (b ≤ 56)
run_digit b h =
    let low : 49 ≤ b = grind (arith, nat_tests) in
    let high : b ≤ 56 = grind (arith, nat_tests) in
    (run-one (b - 48) (omega arith) (omega arith) ∙ ap (λ (x : ℕ). x ∷ []) (let e : 48 + (b - 48) ≡ b = omega arith in e), omega arith, high)

-- what was read of a rank, behind n empty cells that were read before, is spelled by its text
pub rank_in-spells : (text : List ℕ) (room n : ℕ) (digit : Bool) (cells : List (Option Piece)) → rank_in room digit text ≡ Some cells → (digit ≡ false → n ≡ 0) → (rank_text n cells ≡ run n ++ text) × (length cells ≡ room)
unfolding rank_in
rank_in-spells [] room n digit cells h front =
    elim (cases_Bool (room == 0)) [
      | inl none ↦
          let e : [] ≡ cells = some_one (rw none at h) in
          (rw (← e) (sym (append-nil (run n))), rw (← e) (sym (eqb-true room 0 none)))
      | inr some ↦ absurd (none_some (rw some at h))
    ]
rank_in-spells (b ∷ bs) room n digit cells h front =
    elim (cases_Bool (is_run b)) [
      | inl run_here ↦
          elim (cases_Bool (digit || nat_lt room (b - 48))) [
            | inl bad ↦ absurd (none_some (rw (run_here, bad) at h))
            | inr good ↦
                let t = followed-parts (replicate (b - 48) None) (rank_in (room - (b - 48)) true bs) cells (rw (run_here, good) at h) in
                let rest = rank_in-spells bs (room - (b - 48)) (b - 48) true t.0 t.1 (λ f. cc) in
                let start = run_digit b run_here in
                let first : digit ≡ false = (or_false digit (nat_lt room (b - 48)) good).0 in
                let fits : b - 48 ≤ room = ltb-false room (b - 48) (or_false digit (nat_lt room (b - 48)) good).1 in (
                  rw (t.2, front first, rank_text-replicate, zero-add, rest.0, start.0) refl,
                  rw (t.2, length-append, length-replicate, rest.1) (omega arith),
                )
          ]
      | inr letter_here ↦
          elim (cases_Bool (room == 0)) [
            | inl none ↦ absurd (none_some (rw (letter_here, none) at h))
            | inr some ↦
                let t = piece_then-parts (piece_in b) (rank_in (room - 1) false bs) cells (rw (letter_here, some) at h) in
                let rest = rank_in-spells bs (room - 1) 0 false t.2.0 t.2.1 (λ _. refl) in
                let room_left : 0 < room = grind (arith, nat_tests) in (
                  rw (t.2.2, letter_spells b t.0 t.1, rest.0) refl,
                  rw (t.2.2, rest.1) (omega arith),
                )
          ]
    ]

letter_no_run : (c : Colour) (k : Kind) → is_run (piece_letter c k) ≡ false
letter_no_run c k = let high = letter_high c k in grind (arith, nat_tests)

-- a letter in front is read as its piece
letter_first : (digit : Bool) (p : Piece) (cells : List (Option Piece)) (text : List ℕ) → rank_in (length cells) false text ≡ Some cells → rank_in (length cells + 1) digit (piece_letter p.colour p.kind ∷ text) ≡ Some (Some p ∷ cells)
unfolding rank_in
letter_first digit p cells text h =
    let more : (length cells + 1 == 0) ≡ false = grind (arith, nat_tests) in
    let left : length cells + 1 - 1 ≡ length cells = omega arith in
    rw (letter_no_run p.colour p.kind, more, left, h, letter_read p.colour p.kind) refl

-- a run in front is read as its empty cells
run_first : (n : ℕ) (cells : List (Option Piece)) (text : List ℕ) → 0 < n → n ≤ 8 → rank_in (length cells) true text ≡ Some cells → rank_in (n + length cells) false (run n ++ text) ≡ Some (replicate n None ++ cells)
unfolding rank_in
run_first n cells text some fits h =
    let here : is_run (48 + n) ≡ true = grind (arith, nat_tests) in
    let back : 48 + n - 48 ≡ n = omega arith in
    let room : nat_lt (n + length cells) n ≡ false = grind (arith, nat_tests) in
    let left : n + length cells - n ≡ length cells = omega arith in
    rw (run-one n some (omega arith), here, back, room, left, h) refl

replicate-more : {X : Type 0} (n : ℕ) (x : X) (xs : List X) → replicate (n + 1) x ++ xs ≡ replicate n x ++ x ∷ xs
replicate-more zero x xs = refl
replicate-more (suc n) x xs =
    let e : suc n + 1 ≡ suc (n + 1) = omega arith in
    ap (λ k. replicate k x ++ xs) e ∙ ap (λ l. x ∷ l) (replicate-more n x xs)

-- the cells behind so many empty ones are read from their text
pub rank_in-text : (cells : List (Option Piece)) (n : ℕ) → n + length cells ≤ 8 → rank_in (n + length cells) false (rank_text n cells) ≡ Some (replicate n None ++ cells)
unfolding rank_in
rank_in-text [] zero fits = refl
rank_in-text [] (suc n) fits = rw (← append-nil (run (suc n))) (run_first (suc n) [] [] (omega arith) (omega arith) refl)
rank_in-text (None ∷ cells) n fits =
    let e : n + suc (length cells) ≡ n + 1 + length cells = omega arith in
    rw (e, ← replicate-more n None cells) (rank_in-text cells (n + 1) (omega arith))
rank_in-text (Some p ∷ cells) zero fits =
    let e : 0 + suc (length cells) ≡ length cells + 1 = omega arith in
    let rest : rank_in (length cells) false (rank_text 0 cells) ≡ Some cells = rw zero-add at (rank_in-text cells 0 (omega arith)) in
    rw e (letter_first false p cells (rank_text 0 cells) rest)
rank_in-text (Some p ∷ cells) (suc n) fits =
    let rest : rank_in (length cells) false (rank_text 0 cells) ≡ Some cells = rw zero-add at (rank_in-text cells 0 (omega arith)) in
    let e : suc (length cells) ≡ length cells + 1 = omega arith in
    run_first (suc n) (Some p ∷ cells) (piece_letter p.colour p.kind ∷ rank_text 0 cells) (omega arith) (omega arith)
    (rw e (letter_first true p cells (rank_text 0 cells) rest))
