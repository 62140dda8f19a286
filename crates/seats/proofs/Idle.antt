-- Since when a player is idle after any calls.
use Rattle.std.proofs.Common.{◌≡◌, ℕ, suc, ◌≤◌, Bool, true, false, List, [], ◌∷◌, ◌++◌, length, take, Option, Some, None, refl, sym, ◌∙◌, ap, arith}
use Rattle.std.specs.List.{fold}
use Rattle.std.proofs.lemmas.List.Sums.{fold-append}
use Rattle.seats.specs.declared.wish.Wish.{Wish}
use Rattle.seats.specs.declared.wish.Wish.TheVariants as wishes
use Rattle.seats.specs.Places.{Place, unknown, seat_at, seat_of, is_waiting, idle_since, is_idle, since_set, wish_set}
use Rattle.seats.specs.Laws.{ToldOfTheIdle}
use Rattle.seats.specs.Calls.{Call, Enters, Pauses, Leaves, Sits, IsFreed, after_call, place_after, number_of}

-- he is idle where he waits for a game
waits : (wish : Wish) (game : Option ℕ) → is_waiting (seat_of wish game) ≡ is_idle wish game
waits wishes.Absent None = refl
waits wishes.In None = refl
waits wishes.Paused None = refl
waits wishes.Left None = refl
waits wish (Some g) = refl

abbrev idle : Place → Bool
idle place = is_idle place.wish place.game

pub told_of_the_idle : ToldOfTheIdle
told_of_the_idle place = (sym (waits place.wish place.game), rw (waits place.wish place.game) refl)

-- a new number where he has just become idle, and the old one where he is idle already
since_begins : (was is : Bool) (n old : ℕ) → was ≡ false → is ≡ true → since_set was is n old ≡ n
since_begins false true n old w i = refl
since_begins false false n old w i = absurd (cc i)
since_begins true is n old w i = absurd (cc w)

since_stays : (was is : Bool) (n old : ℕ) → was ≡ true → since_set was is n old ≡ old
since_stays true is n old w = refl
since_stays false is n old w = absurd (cc w)

-- a pause makes nobody idle
pause_not_idle : (wish : Wish) (game : Option ℕ) → is_idle (wish_set wishes.Paused wish) game ≡ false
pause_not_idle wishes.Absent None = refl
pause_not_idle wishes.In None = refl
pause_not_idle wishes.Paused None = refl
pause_not_idle wishes.Left None = refl
pause_not_idle wish (Some g) = refl

left_not_idle : (game : Option ℕ) → is_idle wishes.Left game ≡ false
left_not_idle None = refl
left_not_idle (Some g) = refl

-- the call that makes him idle gives the number
begins_by_call : (place : Place) (c : Call) → idle place ≡ false → idle (after_call place c) ≡ true
    → (after_call place c).since ≡ number_of c
begins_by_call place (Enters n) was is = since_begins _ _ n place.since was is
begins_by_call place Pauses was is = absurd (cc (sym (pause_not_idle place.wish place.game) ∙ is))
begins_by_call place Leaves was is = absurd (cc (sym (left_not_idle place.game) ∙ is))
begins_by_call place (Sits g) was is = absurd (cc is)
begins_by_call place (IsFreed n no_show) was is = since_begins _ _ n place.since was is

stays_by_call : (place : Place) (c : Call) → idle place ≡ true → (after_call place c).since ≡ place.since
stays_by_call place (Enters n) was = since_stays _ _ n place.since was
stays_by_call place Pauses was = refl
stays_by_call place Leaves was = refl
stays_by_call place (Sits g) was = refl
stays_by_call place (IsFreed n no_show) was = since_stays _ _ n place.since was

-- while he stays idle the number stays
since_kept : (place : Place) (calls : List Call)
    → ((k : ℕ) → k ≤ length calls → idle (fold after_call place (take k calls)) ≡ true)
    → (fold after_call place calls).since ≡ place.since
since_kept place [] stays = refl
since_kept place (c ∷ calls) stays =
    since_kept (after_call place c) calls (λ k within. stays (suc k) (omega (arith, within)))
    ∙ stays_by_call place c (stays 0 (omega arith))

all_taken : {X : Type 0} (xs : List X) → take (length xs) xs ≡ xs
all_taken [] = refl
all_taken (x ∷ xs) = ap (λ l. x ∷ l) (all_taken xs)

pub since_it_began : (before after : List Call) (c : Call) → is_waiting (seat_at (place_after before)) ≡ false
    → ((k : ℕ) → k ≤ length after → is_waiting (seat_at (place_after (before ++ c ∷ take k after))) ≡ true)
    → idle_since (place_after (before ++ c ∷ after)) ≡ Some (number_of c)
since_it_began before after c was is =
    let from : Place = after_call (place_after before) c in
    let idle_from : (k : ℕ) → k ≤ length after → idle (fold after_call from (take k after)) ≡ true =
    λ k within. sym (waits (fold after_call from (take k after)).wish (fold after_call from (take k after)).game)
    ∙ ap (λ p. is_waiting (seat_at p)) (sym (fold-append after_call unknown before (c ∷ take k after)))
    ∙ is k within in
    let begins : from.since ≡ number_of c =
    begins_by_call (place_after before) c (sym (waits (place_after before).wish (place_after before).game) ∙ was)
    (idle_from 0 (omega arith)) in
    let last : idle (fold after_call from after) ≡ true =
    ap (λ l. idle (fold after_call from l)) (sym (all_taken after)) ∙ idle_from (length after) (omega arith) in
    let number : (fold after_call from after).since ≡ number_of c = since_kept from after idle_from ∙ begins in
    ap idle_since (fold-append after_call unknown before (c ∷ after))
    ∙ rw last (ap (λ n. Some n) number)
