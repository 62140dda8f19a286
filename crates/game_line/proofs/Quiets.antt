-- The count of quiet moves, and the positions before and since the last other move, one move at a time.
use Rattle.std.proofs.Common.{◌≡◌, ℕ, ◌+◌, ◌-◌, ◌≤◌, min, List, [], ◌∷◌, ◌++◌, length, take, drop, refl, sym, ap, ◌∙◌, Bool, true, false, ◌&&◌, ◌||◌, not, cond, if◌then◌else◌, arith}
use Rattle.std.specs.List.{suffix_len}
use Rattle.std.proofs.lemmas.List.{length-append, drop-append-le, take-append-le, take-append-drop}
use Rattle.std.proofs.lemmas.List.Sums.{suffix_len-le-length}
use Rattle.board.specs.declared.parts.Parts.{Parts}
use Rattle.board.specs.Moves.{MoveWord}
use Rattle.board.specs.Cells.{is_empty}
use Rattle.move_rules.specs.After.{is_pawn_move, next_count, half_after, is_quiet}
use Rattle.game_line.specs.Line.{Ply, plies, position_after, line}
use Rattle.game_line.specs.Quiet.{quiet, positions_before, positions_since}
use Rattle.game_line.proofs.Lists.{snoc_induction, suffix_len-push, take_whole-append, drop_whole-append}
use Rattle.game_line.proofs.Lines.{ply_after, plies-push, length-plies, position_after-push, line-push, length-line}

abbrev pub is_quiet_ply : Ply → Bool
is_quiet_ply ply = is_quiet ply.before ply.move

pub quiet-none : quiet [] ≡ 0
unfolding quiet plies
quiet-none = refl

pub quiet-push : (ms : List MoveWord) (m : MoveWord) → quiet (ms ++ m ∷ []) ≡ (if is_quiet (position_after ms) m then quiet ms + 1 else 0)
unfolding quiet
quiet-push ms m =
    ap (suffix_len is_quiet_ply) (plies-push ms m)
    ∙ suffix_len-push is_quiet_ply (plies ms) (ply_after ms m)
    ∙ (let one : 1 + suffix_len is_quiet_ply (plies ms) ≡ suffix_len is_quiet_ply (plies ms) + 1 = omega arith in
    ap (λ n. cond (is_quiet (position_after ms) m) n 0) one)

pub quiet_goes_on : (ms : List MoveWord) (m : MoveWord) → is_quiet (position_after ms) m ≡ true → quiet (ms ++ m ∷ []) ≡ quiet ms + 1
quiet_goes_on ms m h = quiet-push ms m ∙ ap (λ b. if b then quiet ms + 1 else 0) h

pub quiet_begins_anew : (ms : List MoveWord) (m : MoveWord) → is_quiet (position_after ms) m ≡ false → quiet (ms ++ m ∷ []) ≡ 0
quiet_begins_anew ms m h = quiet-push ms m ∙ ap (λ b. if b then quiet ms + 1 else 0) h

pub quiet-le-length : (ms : List MoveWord) → quiet ms ≤ length ms
unfolding quiet
quiet-le-length ms = let most = suffix_len-le-length is_quiet_ply (plies ms) in let long = length-plies ms in omega arith

half_by : (pawn empty : Bool) (x y : ℕ) → (if pawn || not empty then x else y) ≡ (if not pawn && empty then y else x)
half_by true empty x y = refl
half_by false true x y = refl
half_by false false x y = refl

-- the half count after a move
pub half_after-is : (p : Parts) (m : MoveWord) → half_after p m ≡ (if is_quiet p m then next_count p.half else 0)
unfolding half_after
half_after-is p m = half_by (is_pawn_move p m) (is_empty p.cells m.to) 0 (next_count p.half)

half_step : (goes_on : Bool) (half count : ℕ) → half ≡ min 65535 count → (if goes_on then min 65535 (half + 1) else 0) ≡ min 65535 (if goes_on then count + 1 else 0)
half_step true half count h = omega arith
half_step false half count h = refl

pub half-push : (ms : List MoveWord) (m : MoveWord) → (position_after (ms ++ m ∷ [])).half ≡ (if is_quiet (position_after ms) m then next_count (position_after ms).half else 0)
half-push ms m = ap (λ (p : Parts). p.half) (position_after-push ms m) ∙ half_after-is (position_after ms) m

half_at_the_start : (position_after []).half ≡ min 65535 (quiet [])
unfolding position_after quiet plies
half_at_the_start = refl

pub half_is_quiet : (ms : List MoveWord) → (position_after ms).half ≡ min 65535 (quiet ms)
half_is_quiet ms =
    snoc_induction (λ (l : List MoveWord). (position_after l).half ≡ min 65535 (quiet l))
    half_at_the_start
    (λ l m now.
    half-push l m
    ∙ half_step (is_quiet (position_after l) m) (position_after l).half (quiet l) now
    ∙ ap (min 65535) (sym (quiet-push l m)))
    ms

since_from : (ms : List MoveWord) (m : MoveWord) (n : ℕ) → length (ms ++ m ∷ []) - quiet (ms ++ m ∷ []) ≡ n → positions_since (ms ++ m ∷ []) ≡ drop n (line ms ++ position_after (ms ++ m ∷ []) ∷ [])
unfolding positions_since
since_from ms m n at = ap (λ k. drop k (line (ms ++ m ∷ []))) at ∙ ap (drop n) (line-push ms m)

before_from : (ms : List MoveWord) (m : MoveWord) (n : ℕ) → length (ms ++ m ∷ []) - quiet (ms ++ m ∷ []) ≡ n → positions_before (ms ++ m ∷ []) ≡ take n (line ms ++ position_after (ms ++ m ∷ []) ∷ [])
unfolding positions_before
before_from ms m n at = ap (λ k. take k (line (ms ++ m ∷ []))) at ∙ ap (take n) (line-push ms m)

length-push : (ms : List MoveWord) (m : MoveWord) → length (ms ++ m ∷ []) ≡ length ms + 1
length-push ms m = length-append ms (m ∷ [])

place_stays : (ms : List MoveWord) (m : MoveWord) → is_quiet (position_after ms) m ≡ true → length (ms ++ m ∷ []) - quiet (ms ++ m ∷ []) ≡ length ms - quiet ms
place_stays ms m h = let long = length-push ms m in let count = quiet_goes_on ms m h in omega arith

place_is_new : (ms : List MoveWord) (m : MoveWord) → is_quiet (position_after ms) m ≡ false → length (ms ++ m ∷ []) - quiet (ms ++ m ∷ []) ≡ length (line ms)
place_is_new ms m h = let long = length-push ms m in let count = quiet_begins_anew ms m h in let whole = length-line ms in omega arith

place_within : (ms : List MoveWord) → length ms - quiet ms ≤ length (line ms)
place_within ms = let whole = length-line ms in omega arith

pub since_goes_on : (ms : List MoveWord) (m : MoveWord) → is_quiet (position_after ms) m ≡ true → positions_since (ms ++ m ∷ []) ≡ positions_since ms ++ position_after (ms ++ m ∷ []) ∷ []
unfolding positions_since
since_goes_on ms m h =
    since_from ms m (length ms - quiet ms) (place_stays ms m h)
    ∙ drop-append-le (length ms - quiet ms) (line ms) (position_after (ms ++ m ∷ []) ∷ []) (place_within ms)

pub since_begins_anew : (ms : List MoveWord) (m : MoveWord) → is_quiet (position_after ms) m ≡ false → positions_since (ms ++ m ∷ []) ≡ position_after (ms ++ m ∷ []) ∷ []
since_begins_anew ms m h =
    since_from ms m (length (line ms)) (place_is_new ms m h)
    ∙ drop_whole-append (length (line ms)) (line ms) (position_after (ms ++ m ∷ []) ∷ []) refl

pub before_stays : (ms : List MoveWord) (m : MoveWord) → is_quiet (position_after ms) m ≡ true → positions_before (ms ++ m ∷ []) ≡ positions_before ms
unfolding positions_before
before_stays ms m h =
    before_from ms m (length ms - quiet ms) (place_stays ms m h)
    ∙ take-append-le (length ms - quiet ms) (line ms) (position_after (ms ++ m ∷ []) ∷ []) (place_within ms)

pub before_is_all : (ms : List MoveWord) (m : MoveWord) → is_quiet (position_after ms) m ≡ false → positions_before (ms ++ m ∷ []) ≡ line ms
before_is_all ms m h =
    before_from ms m (length (line ms)) (place_is_new ms m h)
    ∙ take_whole-append (length (line ms)) (line ms) (position_after (ms ++ m ∷ []) ∷ []) refl

-- the line is what stands before and what stands since
pub line_in_two : (ms : List MoveWord) → positions_before ms ++ positions_since ms ≡ line ms
unfolding positions_before positions_since
line_in_two ms = take-append-drop (length ms - quiet ms) (line ms)
