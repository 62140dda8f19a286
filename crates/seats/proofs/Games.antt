-- What game a player plays after any calls.
use Rattle.std.proofs.Common.{◌≡◌, ℕ, Bool, false, List, [], ◌∷◌, ◌++◌, None, refl, ◌∙◌, ap}
use Rattle.std.specs.List.{fold}
use Rattle.std.proofs.lemmas.List.Sums.{fold-append}
use Rattle.std.proofs.lemmas.List.Elements.{All-head, All-tail}
use Rattle.seats.specs.declared.wish.PlayerSeat.TheVariants as seats
use Rattle.seats.specs.Places.{Place, unknown, seat_at, seat_of, seat_by_wish}
use Rattle.seats.specs.Calls.{Call, Enters, Pauses, Leaves, Sits, IsFreed, after_call, place_after, is_of_a_game}
use Rattle.seats.specs.Laws.{KeepTheGame}

game_by_call : (place : Place) (c : Call) → is_of_a_game c ≡ false → (after_call place c).game ≡ place.game
game_by_call place (Enters n) none = refl
game_by_call place Pauses none = refl
game_by_call place Leaves none = refl
game_by_call place (Sits g) none = absurd (cc none)
game_by_call place (IsFreed n no_show) none = absurd (cc none)

game_kept : (place : Place) (calls : List Call) → KeepTheGame calls → (fold after_call place calls).game ≡ place.game
game_kept place [] none = refl
game_kept place (c ∷ calls) none =
    game_kept (after_call place c) calls (All-tail (λ d. is_of_a_game d ≡ false) c calls none)
    ∙ game_by_call place c (All-head (λ d. is_of_a_game d ≡ false) c calls none)

pub plays_until_freed : (before after : List Call) (g : ℕ) → KeepTheGame after
    → seat_at (place_after (before ++ Sits g ∷ after)) ≡ seats.Playing g
plays_until_freed before after g none =
    ap seat_at (fold-append after_call unknown before (Sits g ∷ after))
    ∙ ap (seat_of (fold after_call (after_call (place_after before) (Sits g)) after).wish)
    (game_kept (after_call (place_after before) (Sits g)) after none)

-- somebody who plays nothing sits where his wish has him
pub seat_without_game : (place : Place) → place.game ≡ None → seat_at place ≡ seat_by_wish place.wish
seat_without_game place none = ap (seat_of place.wish) none

pub freed_until_seated : (before after : List Call) (n : ℕ) (no_show : Bool) → KeepTheGame after
    → seat_at (place_after (before ++ IsFreed n no_show ∷ after))
    ≡ seat_by_wish (place_after (before ++ IsFreed n no_show ∷ after)).wish
freed_until_seated before after n no_show none =
    seat_without_game (place_after (before ++ IsFreed n no_show ∷ after))
    (ap (λ (p : Place). p.game) (fold-append after_call unknown before (IsFreed n no_show ∷ after))
    ∙ game_kept (after_call (place_after before) (IsFreed n no_show)) after none)

pub before_the_first_game : (calls : List Call) → KeepTheGame calls
    → seat_at (place_after calls) ≡ seat_by_wish (place_after calls).wish
before_the_first_game calls none = seat_without_game (place_after calls) (game_kept unknown calls none)
