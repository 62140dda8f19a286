-- What is kept of a line, and that it is enough.
use Rattle.std.proofs.Common.{◌≡◌, ◌≢◌, ℕ, ◌+◌, ◌-◌, ◌<◌, ◌==◌, min, zero-add, List, [], ◌∷◌, ◌++◌, length, map, refl, sym, ap, ◌∙◌, Bool, true, false, None, Some, if◌then◌else◌, inl, inr, arith}
use Rattle.std.specs.List.{last_or, count_by, All}
use Rattle.std.proofs.lemmas.Bool.{cases_Bool, false_from_ne_true, eqb-true}
use Rattle.std.proofs.lemmas.List.{map-append, length-map, length-drop}
use Rattle.board.specs.declared.parts.Parts.{Parts}
use Rattle.board.specs.Moves.{MoveWord}
use Rattle.board.specs.Start.{start_parts}
use Rattle.board.specs.Same.{same}
use Rattle.move_rules.specs.After.{next_count, is_quiet}
use Rattle.move_rules.specs.EnPassant.{canonical}
use Rattle.draw_rules.specs.Appearance.{Appearance, appearance_of, same_appearance, times_in_if_some, occurrences}
use Rattle.game_line.specs.Line.{position_after, line, IsLegalLine}
use Rattle.game_line.specs.Quiet.{quiet, positions_before, positions_since}
use Rattle.game_line.specs.Repetition.{is_repetition, times}
use Rattle.game_line.specs.Kept.{kept_as, kept}
use Rattle.game_line.specs.Below.{LawsOfMoves}
use Rattle.game_line.proofs.Lists.{last_or-drop, last_or-map, count_by-append, count_by-map, count_by-none, All-implies, All-last}
use Rattle.game_line.proofs.Lines.{length-line, last_of_line}
use Rattle.game_line.proofs.Quiets.{quiet-le-length, since_goes_on, since_begins_anew, line_in_two, half-push, half_is_quiet}
use Rattle.game_line.proofs.Repetitions.{canonical_keeps}
use Rattle.game_line.proofs.Undone.{since-nil, none_before_is_repeated}

pub kept_at_the_start : kept [] ≡ appearance_of (canonical start_parts) ∷ []
unfolding kept kept_as
kept_at_the_start = ap (map kept_as) since-nil

kept_goes_on : (ms : List MoveWord) (m : MoveWord) → is_quiet (position_after ms) m ≡ true → kept (ms ++ m ∷ []) ≡ kept ms ++ kept_as (position_after (ms ++ m ∷ [])) ∷ []
unfolding kept
kept_goes_on ms m h = ap (map kept_as) (since_goes_on ms m h) ∙ map-append kept_as (positions_since ms) (position_after (ms ++ m ∷ []) ∷ [])

kept_begins_anew : (ms : List MoveWord) (m : MoveWord) → is_quiet (position_after ms) m ≡ false → kept (ms ++ m ∷ []) ≡ kept_as (position_after (ms ++ m ∷ [])) ∷ []
unfolding kept
kept_begins_anew ms m h = ap (map kept_as) (since_begins_anew ms m h)

pub one_more_kept : (ms : List MoveWord) (m : MoveWord) → kept (ms ++ m ∷ []) ≡ (if is_quiet (position_after ms) m then kept ms ++ kept_as (position_after (ms ++ m ∷ [])) ∷ [] else kept_as (position_after (ms ++ m ∷ [])) ∷ [])
one_more_kept ms m =
    elim (cases_Bool (is_quiet (position_after ms) m)) [
      | inl quiet ↦ rw quiet (kept_goes_on ms m quiet)
      | inr final ↦ rw final (kept_begins_anew ms m final)
    ]

half_tells : (goes_on : Bool) (half next : ℕ) → next ≡ (if goes_on then next_count half else 0) → (next == 0) ≡ (if goes_on then false else true)
half_tells true half next h = false_from_ne_true (next == 0) (λ e. let none = eqb-true next 0 e in absurd (omega arith))
half_tells false half next h = rw h refl

turned : (goes_on : Bool) (x y : List Appearance) → (if goes_on then x else y) ≡ (if (if goes_on then false else true) then y else x)
turned true x y = refl
turned false x y = refl

pub one_more_kept_by_half_count : (ms : List MoveWord) (m : MoveWord) → kept (ms ++ m ∷ []) ≡ (if (canonical (position_after (ms ++ m ∷ []))).half == 0 then appearance_of (canonical (position_after (ms ++ m ∷ []))) ∷ [] else kept ms ++ appearance_of (canonical (position_after (ms ++ m ∷ []))) ∷ [])
unfolding kept_as
one_more_kept_by_half_count ms m =
    let new = position_after (ms ++ m ∷ []) in
    let half : (canonical new).half ≡ (if is_quiet (position_after ms) m then next_count (position_after ms).half else 0) = (canonical_keeps new).half ∙ half-push ms m in
    let tells = half_tells (is_quiet (position_after ms) m) (position_after ms).half (canonical new).half half in
    one_more_kept ms m
    ∙ turned (is_quiet (position_after ms) m) (kept ms ++ kept_as new ∷ []) (kept_as new ∷ [])
    ∙ ap (λ b. if b then kept_as new ∷ [] else kept ms ++ kept_as new ∷ []) (sym tells)

pub kept_length : (ms : List MoveWord) → length (kept ms) ≡ quiet ms + 1
unfolding kept positions_since
kept_length ms =
    let one = length-map (positions_since ms) kept_as in
    let two = length-drop (length ms - quiet ms) (line ms) in
    let three = length-line ms in
    let four = quiet-le-length ms in
    omega arith

pub kept_length_by_half_count : (ms : List MoveWord) → (position_after ms).half < 65535 → length (kept ms) ≡ (position_after ms).half + 1
kept_length_by_half_count ms low = let long = kept_length ms in let half = half_is_quiet ms in omega arith

half_grows : (goes_on : Bool) (half next count : ℕ) → next ≡ (if goes_on then next_count half else 0) → half ≡ min 65535 count → next ≢ 0 → next < 65535 → next ≡ count + 1
half_grows true half next count h is some low = omega arith
half_grows false half next count h is some low = absurd (some h)

pub half_count_is_kept_length : (ms : List MoveWord) (m : MoveWord) → (canonical (position_after (ms ++ m ∷ []))).half ≢ 0 → (canonical (position_after (ms ++ m ∷ []))).half < 65535 → (canonical (position_after (ms ++ m ∷ []))).half ≡ length (kept ms)
half_count_is_kept_length ms m some low =
    let new = position_after (ms ++ m ∷ []) in
    half_grows (is_quiet (position_after ms) m) (position_after ms).half (canonical new).half (quiet ms) ((canonical_keeps new).half ∙ half-push ms m) (half_is_quiet ms) some low
    ∙ sym (kept_length ms)

same_kept : (p q : Parts) → same_appearance (kept_as p) (kept_as q) ≡ is_repetition p q
unfolding kept_as is_repetition same
same_kept p q = refl

-- the last position is one of those since the last pawn move or capture
last_since : (ms : List MoveWord) → last_or None (positions_since ms) ≡ Some (position_after ms)
unfolding positions_since
last_since ms = last_or-drop None None (length ms - quiet ms) (line ms) (let long = length-line ms in omega arith) ∙ last_of_line ms

occurrences_since : (since : List Parts) (last : Parts) → last_or None since ≡ Some last → occurrences (map kept_as since) ≡ count_by (λ p. is_repetition p last) since
unfolding occurrences
occurrences_since [] last h = cc
occurrences_since (p ∷ since) last h =
    ap (times_in_if_some (map kept_as (p ∷ since))) (last_or-map kept_as None p since None last h)
    ∙ count_by-map kept_as (λ a. same_appearance a (kept_as last)) (p ∷ since)
    ∙ ap (λ (f : Parts → Bool). count_by f (p ∷ since)) (λ i q. same_kept q last i)

none_before : (known : LawsOfMoves) (ms : List MoveWord) → IsLegalLine ms → All (λ (p : Parts). is_repetition p (position_after ms) ≡ false) (positions_before ms)
none_before known ms legal =
    All-implies (λ (p : Parts). All (λ (q : Parts). is_repetition p q ≡ false) (positions_since ms)) (λ (p : Parts). is_repetition p (position_after ms) ≡ false) (positions_before ms)
    (λ p h. All-last (λ (q : Parts). is_repetition p q ≡ false) (positions_since ms) (position_after ms) (last_since ms) h)
    (none_before_is_repeated known ms legal)

pub kept_are_enough : (known : LawsOfMoves) (ms : List MoveWord) → IsLegalLine ms → occurrences (kept ms) ≡ times ms
unfolding kept times
kept_are_enough known ms legal =
    let repeats : Parts → Bool = λ p. is_repetition p (position_after ms) in
    occurrences_since (positions_since ms) (position_after ms) (last_since ms)
    ∙ sym (zero-add (count_by repeats (positions_since ms)))
    ∙ ap (λ n. n + count_by repeats (positions_since ms)) (sym (count_by-none repeats (positions_before ms) (none_before known ms legal)))
    ∙ sym (count_by-append repeats (positions_before ms) (positions_since ms))
    ∙ ap (count_by repeats) (line_in_two ms)
