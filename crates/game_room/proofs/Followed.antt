-- The changes of a room follow those of its game.
use Rattle.std.proofs.Common.{◌≡◌, ℕ, ◌+◌, ◌<◌, ◌≤◌, List, [], ◌∷◌, ◌++◌, cond, Bool, true, false, Option, None, Some, refl, sym, ap, subst, ◌∙◌, arith, IsTrue}
use Rattle.std.specs.List.{last_or}
use Rattle.board.specs.declared.piece.Colour.{Colour}
use Rattle.board.specs.declared.piece.Colour.TheVariants.{White, Black}
use Rattle.board.specs.declared.parts.Parts.{Parts}
use Rattle.board.specs.Moves.{MoveWord, IsMove}
use Rattle.move_rules.specs.After.{after, is_quiet}
use Rattle.move_rules.specs.Legal.{legal}
use Rattle.move_rules.specs.EnPassant.{canonical}
use Rattle.draw_rules.specs.Appearance.{occurrences}
use Rattle.game_line.specs.Line.{position_after, IsLegalLine}
use Rattle.game_line.specs.Repetition.{times}
use Rattle.game_line.specs.Quiet.{quiet}
use Rattle.game_line.specs.Kept.{kept}
use Rattle.game_line.proofs.Lines.{position_after-push, one_more_is_legal}
use Rattle.game_line.proofs.Quiets.{quiet-push, half_is_quiet as line_half_is_quiet}
use Rattle.game_line.proofs.KeptPositions.{one_more_kept_by_half_count}
use Rattle.game_line.specs.Laws.{KeptAreEnough}
use Rattle.entries.specs.declared.action.Action.{Action}
use Rattle.entries.specs.declared.action.Action.TheVariants as action
use Rattle.game_clock.specs.ClockEvents.{MovedAt, BerserkedBy, has_moved}
use Rattle.game_clock.specs.Clocks.{Clocks, clocks, berserk_of, is_due, after_move, after_berserk}
use Rattle.game_clock.proofs.MoreEvents.{clocks_move, clocks_berserk}
use Rattle.game_room.specs.declared.header.Header.{Header}
use Rattle.game_room.specs.declared.ending.Ending.{Ending}
use Rattle.entries.specs.Ranges.{IsAction}
use Rattle.game_room.specs.Standing.{Standing}
use Rattle.game_room.specs.Endings.{claim_cause, claim_ending, ending_after_move, due_ending, outcome_if_ended, offer_unless_ended}
use Rattle.game_room.specs.Refusals.{own_refusal}
use Rattle.game_room.specs.Games.{Game, standing_of, settled, moved, offered, offer_after_move, ending_of, after_action, after_due}
use Rattle.game_room.specs.Held.{Held, standing_in, IsRoomOf, room_settled, room_moved, past_with, room_offered, room_ending, room_after_action, room_after_due}
use Rattle.game_room.proofs.Accepted.{move_is_legal, berserk_is_early}

-- an ending is settled
settled_room : (k : Held) (h : Header) (g : Game) (e f : Option Ending) (t : ℕ) → IsRoomOf k h g → e ≡ f → IsRoomOf (room_settled k e t) h (settled h g f t)
unfolding standing_of settled room_settled
settled_room k h g e f t r same =
    let s = r.standing in
    record {
      header = r.header;
      standing = λ i. record {
        position = (s i).position;
        times = (s i).times;
        quiet = (s i).quiet;
        last = (s i).last;
        clocks = (s i).clocks;
        offer = offer_unless_ended (same i) (s i).offer;
        white_offered = (s i).white_offered;
        black_offered = (s i).black_offered;
        outcome = outcome_if_ended (s i).clocks (same i) t;
      };
      past = r.past;
      legal = r.legal;
    }

-- a due game ends
pub due_room : (k : Held) (h : Header) (g : Game) (t : ℕ) → IsRoomOf k h g → IsRoomOf (room_after_due k t) h (after_due h g t)
unfolding standing_of
due_room k h g t r = settled_room k h g _ _ t r (λ i. Some (due_ending (r.standing i).position (r.standing i).clocks t))

-- a side has offered
offered_room : (k : Held) (h : Header) (g : Game) (side : Colour) → IsRoomOf k h g → IsRoomOf (room_offered k side) h (offered g side)
unfolding standing_of
offered_room k h g White r = record { header = r.header; standing = λ i. record (r.standing i) { offer = Some White; white_offered = true }; past = r.past; legal = r.legal }
offered_room k h g Black r = record { header = r.header; standing = λ i. record (r.standing i) { offer = Some Black; black_offered = true }; past = r.past; legal = r.legal }

-- an offer is declined
declined_room : (k : Held) (h : Header) (g : Game) → IsRoomOf k h g → IsRoomOf (record k { offer = None }) h (record g { offer = None })
unfolding standing_of
declined_room k h g r = record { header = r.header; standing = λ i. record (r.standing i) { offer = None }; past = r.past; legal = r.legal }

few : (b : Bool) (n : ℕ) → n < 150 → cond b (n + 1) 0 ≤ 150
few true n lt = omega arith
few false n lt = omega arith

last_or-push : (o : Option MoveWord) (ms : List MoveWord) (m : MoveWord) → last_or o (ms ++ m ∷ []) ≡ Some m
last_or-push o [] m = refl
last_or-push o (n ∷ ms) m = last_or-push (Some n) ms m

-- the half count is that of the quiet moves while these are few
half_is_quiet : (ms : List MoveWord) (m : MoveWord) → quiet ms < 150 → (position_after (ms ++ m ∷ [])).half ≡ quiet (ms ++ m ∷ [])
half_is_quiet ms m lt =
    let more : quiet (ms ++ m ∷ []) ≡ cond (is_quiet (position_after ms) m) (quiet ms + 1) 0 = quiet-push ms m in
    let bound : cond (is_quiet (position_after ms) m) (quiet ms + 1) 0 ≤ 150 = few (is_quiet (position_after ms) m) (quiet ms) lt in
    line_half_is_quiet (ms ++ m ∷ []) ∙ omega arith

-- a side has made a legal move in time
moved_room : (enough : KeptAreEnough) (k : Held) (h : Header) (g : Game) (side : Colour) (m : MoveWord) (t : ℕ) → IsRoomOf k h g → IsMove m → IsTrue (legal k.position m)
    → is_due k.clocks t ≡ false → k.position.half < 150 → IsRoomOf (room_moved k side m t) h (moved g side m t)
unfolding standing_of moved room_moved
moved_room enough k h g side m t r word ok in_time lt =
    let s = r.standing in
    let ms : List MoveWord = g.moves ++ m ∷ [] in
    let position : k.position ≡ position_after g.moves = ap (λ (x : Standing). x.position) s in
    let next : after k.position m ≡ position_after ms = ap (λ p. after p m) position ∙ sym (position_after-push g.moves m) in
    let past : past_with k.past (canonical (after k.position m)) ≡ kept ms = (λ i. past_with (r.past i) (canonical (next i))) ∙ sym (one_more_kept_by_half_count g.moves m) in
    let line : IsLegalLine ms = (one_more_is_legal g.moves m).1 (r.legal, record { word = word; legal = subst (λ p. IsTrue (legal p m)) position ok }) in
    let count : occurrences (past_with k.past (canonical (after k.position m))) ≡ times ms = ap occurrences past ∙ enough ms line in
    let quiet_now : quiet g.moves < 150 = subst (λ n. n < 150) (ap (λ (x : Standing). x.quiet) s) lt in
    let half : (after k.position m).half ≡ quiet ms = ap (λ (p : Parts). p.half) next ∙ half_is_quiet g.moves m quiet_now in
    let clock : k.clocks ≡ clocks h.control h.start g.clock = ap (λ (x : Standing). x.clocks) s in
    let told : after_move k.clocks t ≡ clocks h.control h.start (g.clock ++ MovedAt t ∷ []) = ap (λ c. after_move c t) clock ∙ clocks_move h.control h.start g.clock t (sym (ap (λ c. is_due c t) clock) ∙ in_time) in
    let last : Some m ≡ last_or None ms = sym (last_or-push None g.moves m) in
    record {
      header = r.header;
      standing = λ i. record {
        position = next i;
        times = count i;
        quiet = half i;
        last = last i;
        clocks = told i;
        offer = offer_after_move side (s i).offer;
        white_offered = false;
        black_offered = false;
        outcome = (s i).outcome;
      };
      past = past;
      legal = line;
    }

-- a side has berserked that has made no move and has not berserked before
berserk_room : (k : Held) (h : Header) (g : Game) (side : Colour) → IsRoomOf k h g → own_refusal (standing_in k) side action.Berserk ≡ None
    → IsRoomOf (record k { clocks = after_berserk k.clocks side }) h (record g { clock = g.clock ++ BerserkedBy side ∷ [] })
unfolding standing_of
berserk_room k h g side r accepted =
    let clock : k.clocks ≡ clocks h.control h.start g.clock = ap (λ (x : Standing). x.clocks) r.standing in
    let early = berserk_is_early (standing_in k) side accepted in
    let told : after_berserk k.clocks side ≡ clocks h.control h.start (g.clock ++ BerserkedBy side ∷ []) = ap (λ c. after_berserk c side) clock ∙ clocks_berserk h.control h.start g.clock side (subst (λ (c : Clocks). has_moved side c.moves ≡ false) clock early.0) (subst (λ (c : Clocks). berserk_of c side ≡ false) clock early.1) in
    record { header = r.header; standing = λ i. record (r.standing i) { clocks = told i }; past = r.past; legal = r.legal }

-- a side has done what it may do
pub action_room : (enough : KeptAreEnough) (k : Held) (h : Header) (g : Game) (side : Colour) (a : Action) (t : ℕ) → IsRoomOf k h g → own_refusal (standing_in k) side a ≡ None
    → IsAction a → is_due k.clocks t ≡ false → k.position.half < 150 → IsRoomOf (room_after_action k side a t) h (after_action h g side a t)
unfolding standing_of
action_room enough k h g side (action.Move m) t r accepted word in_time lt =
    let after_it = moved_room enough k h g side m t r word (move_is_legal (standing_in k) side m accepted) in_time lt in
    settled_room (room_moved k side m t) h (moved g side m t) (room_ending (room_moved k side m t) side) (ending_of (moved g side m t) side) t after_it (λ i. ending_after_move (after_it.standing i).position (after_it.standing i).times (after_it.standing i).quiet side)
action_room enough k h g side action.Resign t r accepted word in_time lt = settled_room k h g _ _ t r refl
action_room enough k h g side action.Offer t r accepted word in_time lt = offered_room k h g side r
action_room enough k h g side action.Accept t r accepted word in_time lt = settled_room k h g _ _ t r refl
action_room enough k h g side action.Decline t r accepted word in_time lt = declined_room k h g r
action_room enough k h g side action.Claim t r accepted word in_time lt = settled_room k h g _ _ t r (λ i. claim_ending (claim_cause (r.standing i).times (r.standing i).quiet))
action_room enough k h g side action.Berserk t r accepted word in_time lt = berserk_room k h g side r accepted
