-- A game that goes on can take a further position.
use Rattle.std.proofs.Common.{◌≡◌, ◌≢◌, ℕ, ◌+◌, ◌<◌, ◌≤◌, List, [], ◌∷◌, ◌++◌, length, cond, Bool, true, false, not, ◌||◌, eqb, nat_le, Option, None, Some, refl, sym, ap, ◌∙◌, arith, ◌⊎◌, inl, inr, length-append}
use Rattle.std.proofs.lemmas.Bool.{ne_eqb, leb-false}
use Rattle.board.specs.declared.piece.Colour.{Colour}
use Rattle.board.specs.declared.parts.Parts.{Parts}
use Rattle.board.specs.Moves.{MoveWord}
use Rattle.board.specs.Position.{without_ep}
use Rattle.move_rules.specs.declared.standing.State.{State}
use Rattle.move_rules.specs.declared.standing.State.TheVariants.{Going, Mate, Stalemate}
use Rattle.move_rules.specs.Standing.{state_of}
use Rattle.board.specs.Cells.{is_empty}
use Rattle.move_rules.specs.After.{after, half_after, next_count, is_pawn_move}
use Rattle.move_rules.specs.EnPassant.{ep_legal, canonical}
use Rattle.draw_rules.specs.Material.{dead_material}
use Rattle.draw_rules.specs.Appearance.{Appearance}
use Rattle.game_clock.specs.Clocks.{Clocks, after_move}
use Rattle.game_room.specs.declared.ending.Ending.{Ending}
use Rattle.game_room.specs.declared.outcome.Outcome.{Outcome}
use Rattle.game_room.specs.Endings.{drawn, draw_after_move, ending_by_state, ending_after_move, outcome_if_ended}

half_of_either : (b : Bool) (p : Parts) → (cond b p (without_ep p)).half ≡ p.half
half_of_either true p = refl
half_of_either false p = refl

-- a useless en passant square does not matter to the half count
pub canonical_half : (p : Parts) → (canonical p).half ≡ p.half
canonical_half p = half_of_either (ep_legal p) p

zero_or_next : (b : Bool) (n : ℕ) → n < 150 → (cond b 0 (next_count n) ≡ 0) ⊎ (cond b 0 (next_count n) ≡ n + 1)
zero_or_next true n lt = inl refl
zero_or_next false n lt = inr (omega arith)

-- the half count begins anew or rises by one
after_half : (p : Parts) (m : MoveWord) → p.half < 150 → ((after p m).half ≡ 0) ⊎ ((after p m).half ≡ p.half + 1)
unfolding half_after
after_half p m lt = zero_or_next (is_pawn_move p m || not (is_empty p.cells m.to)) p.half lt

-- a position that follows, by its half count, fits behind those that are kept
pub follows : (p : Parts) (m : MoveWord) (past : List Appearance) (half : ℕ) → half ≡ (after p m).half → p.half < 150 → length past ≡ p.half + 1 → half ≢ 0 → half ≡ length past
follows p m past half same lt n ne =
    elim (after_half p m lt) [ inl zero ↦ absurd (ne (same ∙ zero)) | inr next ↦ same ∙ (next ∙ sym n) ]

pub fits : (p : Parts) (m : MoveWord) (half : ℕ) → half ≡ (after p m).half → p.half < 150 → half ≤ 150
fits p m half same lt = elim (after_half p m lt) [ inl zero ↦ omega arith | inr next ↦ omega arith ]

none_at : (a b c : Bool) (e f g : Ending) → cond a (Some e) (cond b (Some f) (cond c (Some g) None)) ≡ None → c ≡ false
none_at true b c e f g h = cc
none_at false true c e f g h = cc
none_at false false true e f g h = cc
none_at false false false e f g h = refl

none_by_state : (s : State) (side : Colour) (draw : Option Ending) → ending_by_state s side draw ≡ None → draw ≡ None
none_by_state Going side draw h = h
none_by_state Mate side draw h = cc
none_by_state Stalemate side draw h = cc

-- while a game goes on, less than 150 of the last moves are neither a pawn's nor a capture
pub goes_on : (p : Parts) (times quiet : ℕ) (side : Colour) → ending_after_move p times quiet side ≡ None → quiet < 150
unfolding ending_after_move
goes_on p times quiet side h =
    leb-false 150 quiet (none_at (dead_material p.cells) (nat_le 5 times) (nat_le 150 quiet) (drawn _) (drawn _) (drawn _) (none_by_state (state_of p) side (draw_after_move p times quiet) h))

not_ended : (k : Clocks) (e : Option Ending) (t : ℕ) → outcome_if_ended k e t ≡ None → e ≡ None
not_ended k None t h = refl
not_ended k (Some e) t h = cc

length_with : (b : Bool) (past : List Appearance) (a : Appearance) → length (cond b (a ∷ []) (past ++ a ∷ [])) ≡ cond b 1 (length past + 1)
length_with true past a = refl
length_with false past a = length-append past (a ∷ [])

cond_at : (b : Bool) (n k : ℕ) → b ≡ false → n ≡ k → cond b 1 n ≡ k
cond_at true n k e h = cc
cond_at false n k e h = h

count_with : (half old n : ℕ) → n ≡ old + 1 → (half ≡ 0) ⊎ (half ≡ old + 1) → cond (eqb half 0) 1 (n + 1) ≡ half + 1
count_with half old n e (inl zero) = ap (λ h. cond (eqb h 0) 1 (n + 1)) zero ∙ omega arith
count_with half old n e (inr next) = cond_at (eqb half 0) (n + 1) (half + 1) (ne_eqb half 0 (λ z. omega arith)) (omega arith)

-- as many positions are kept as the half count of the last one says
pub kept_count : (p : Parts) (m : MoveWord) (past new : List Appearance) (half : ℕ) (a : Appearance) → new ≡ cond (eqb half 0) (a ∷ []) (past ++ a ∷ [])
    → half ≡ (after p m).half → p.half < 150 → length past ≡ p.half + 1 → length new ≡ (after p m).half + 1
kept_count p m past new half a is same lt n =
    ap length is ∙ (length_with (eqb half 0) past a ∙ (ap (λ h. cond (eqb h 0) 1 (length past + 1)) same ∙ count_with (after p m).half p.half (length past) n (after_half p m lt)))

-- a game that did not end by a move has room
pub has_room : (k : Clocks) (p : Parts) (times t : ℕ) (side : Colour) → outcome_if_ended k (ending_after_move p times p.half side) t ≡ None → p.half < 150
has_room k p times t side none = goes_on p times p.half side (not_ended k _ t none)

some_stamp : (o p : Outcome) → Some o ≡ Some p → o.stamp ≡ p.stamp
some_stamp o p h = let same : o ≡ p = cc in ap (λ (x : Outcome). x.stamp) same

-- an outcome has the stamp at which it is settled
pub ended_at : (k : Clocks) (e : Option Ending) (t : ℕ) (o : Outcome) → outcome_if_ended k e t ≡ Some o → t ≤ o.stamp
ended_at k None t o h = cc
ended_at k (Some e) t o h = let stamp : t ≡ o.stamp = some_stamp _ o h in omega arith

-- the turn after a move begins with it
pub since_move : (k : Clocks) (t : ℕ) → (after_move k t).since ≡ t
unfolding after_move
since_move k t = refl
