-- The ranks of a board as text.
use Rattle.std.proofs.Common.{◌≡◌, ℕ, zero, suc, ◌-◌, ◌<◌, ◌≤◌, List, [], ◌∷◌, ◌++◌, length, get_or, take, drop, replicate, Bool, true, false, arith, ap, sym, ◌∙◌, refl, Option, None, Some, append_assoc, append-nil, length-drop}
use Rattle.std.specs.Bool.{MatchBool}
use Rattle.std.proofs.lemmas.Bool.{le-ltb}
use Rattle.std.proofs.lemmas.List.{take_rest, take-replicate, drop-replicate}
use Rattle.std.proofs.Math.ListN.{drop_of_length-le, length-replicate}
use borrow.Rule.Slice.PartMut.{put_mid, post_of}
use Rattle.board.specs.declared.piece.Piece.{Piece}
use Rattle.board.specs.Fen.{rank_text, rank_cells, ranks_text}
use Rattle.board.specs.Reading.{is_run, rank_in, followed}

pub ranks_text_last : (cells : List (Option Piece)) (rank : ℕ) → rank ≤ 0 → ranks_text cells rank ≡ rank_text 0 (rank_cells cells rank)
unfolding ranks_text
ranks_text_last cells zero h = refl
ranks_text_last cells (suc rank) h = absurd (omega arith)

pub ranks_text_more : (cells : List (Option Piece)) (rank : ℕ) → 0 < rank → ranks_text cells rank ≡ rank_text 0 (rank_cells cells rank) ++ 47 ∷ ranks_text cells (rank - 1)
unfolding ranks_text
ranks_text_more cells zero h = absurd (omega arith)
ranks_text_more cells (suc rank) h =
    append_assoc (rank_text 0 (rank_cells cells (suc rank))) (47 ∷ []) (ranks_text cells rank)
    ∙ (let e : rank ≡ suc rank - 1 = omega arith in ap (λ (r : ℕ). rank_text 0 (rank_cells cells (suc rank)) ++ 47 ∷ ranks_text cells r) e)

-- a part of a row of empty cells is a row of empty cells
pub empty_part : {X : Type 0} (cells : List X) (n : ℕ) (y : X) → cells ≡ replicate (length cells) y → take (length cells - n) (drop n cells) ≡ replicate (length (take (length cells - n) (drop n cells))) y
empty_part cells n y h =
    let rest : drop n cells ≡ replicate (length cells - n) y = ap (drop n) h ∙ drop-replicate n (length cells) y in
    rw (take_rest cells n) (rest ∙ ap (λ k. replicate k y) (sym (length-drop n cells)))

pub empty_back : {X : Type 0} (cells back : List X) (n : ℕ) (y : X) → cells ≡ replicate (length cells) y → back ≡ drop n cells → back ≡ replicate (length back) y
empty_back cells back n y h e = rw (e, ← take_rest cells n) (empty_part cells n y h)

pub empty_front : {X : Type 0} (cells front : List X) (n : ℕ) (y : X) → cells ≡ replicate (length cells) y → front ≡ take n cells → n ≤ length cells → front ≡ replicate (length front) y
empty_front cells front n y h e inside =
    let some : front ≡ replicate n y = e ∙ ap (take n) h ∙ take-replicate n (length cells) y inside in
    some ∙ ap (λ k. replicate k y) (sym (ap length some ∙ length-replicate n y))

-- empty cells are passed over, and the rest of the row is read
pub part_put : {X : Type 0} (cells new : List X) (n : ℕ) (y : X) → cells ≡ replicate (length cells) y → n ≤ length cells → put_mid n (length cells - n) cells new ≡ replicate n y ++ new
part_put cells new n y h inside =
    let front : take n cells ≡ replicate n y = ap (take n) h ∙ take-replicate n (length cells) y inside in
    let back : post_of n (length cells - n) cells ≡ [] = drop_of_length-le (drop n cells) (omega (arith, length-drop n cells)) in
    rw (front, back, append-nil) refl

-- what a digit stands for
rank_in_run : (room : ℕ) (digit : Bool) (text : List ℕ) → 1 ≤ length text → is_run (get_or text 0 0) ≡ true → digit ≡ false → get_or text 0 0 - 48 ≤ room → rank_in room digit text ≡ followed (replicate (get_or text 0 0 - 48) None) (rank_in (room - (get_or text 0 0 - 48)) true (drop 1 text))
unfolding rank_in
rank_in_run room digit [] some digit_here first fits = absurd (omega arith)
rank_in_run room digit (b ∷ bs) some digit_here first fits =
    rw (digit_here, first, le-ltb room (b - 48) fits) refl

followed_by : (done : Bool) (xs ys zs : List (Option Piece)) (rest whole : Option (List (Option Piece))) → zs ≡ xs ++ ys → whole ≡ followed xs rest → MatchBool done (rest ≡ Some ys) (rest ≡ None) → MatchBool done (whole ≡ Some zs) (whole ≡ None)
followed_by true xs ys zs rest whole all is h = rw (is, h, all) refl
followed_by false xs ys zs rest whole all is h = rw (is, h) refl

-- a digit and then the rest of the rank, as the reader finds them
pub run_read : (cells new : List (Option Piece)) (text : List ℕ) (digit done : Bool) → cells ≡ replicate (length cells) None → 1 ≤ length text → is_run (get_or text 0 0) ≡ true → digit ≡ false → get_or text 0 0 - 48 ≤ length cells → (let n = get_or text 0 0 - 48 in let rest = rank_in (length (take (length cells - n) (drop n cells))) true (take (length text - 1) (drop 1 text)) in MatchBool done (rest ≡ Some new) (rest ≡ None)) → (let n = get_or text 0 0 - 48 in let whole = rank_in (length cells) digit text in MatchBool done (whole ≡ Some (put_mid n (length cells - n) cells new)) (whole ≡ None))
run_read cells new text digit done empty some digit_here first fits h =
    let n = get_or text 0 0 - 48 in
    followed_by done (replicate n None) new (put_mid n (length cells - n) cells new)
    (rank_in (length (take (length cells - n) (drop n cells))) true (take (length text - 1) (drop 1 text)))
    (rank_in (length cells) digit text)
    (part_put cells new n None empty fits)
    (rw (take_rest text 1, take_rest cells n, length-drop n cells) (rank_in_run (length cells) digit text some digit_here first fits))
    h
