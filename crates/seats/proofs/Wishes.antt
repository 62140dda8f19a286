-- What a player wishes for after any calls.
use Rattle.std.proofs.Common.{◌≡◌, ℕ, true, false, List, [], ◌∷◌, ◌++◌, Some, None, refl, sym, ◌∙◌, ap}
use Rattle.std.specs.Prelude.{◌≢◌}
use Rattle.std.specs.List.{fold}
use Rattle.std.proofs.lemmas.List.Sums.{fold-append}
use Rattle.std.proofs.lemmas.List.Elements.{All-head, All-tail}
use Rattle.seats.specs.declared.wish.Wish.{Wish}
use Rattle.seats.specs.declared.wish.Wish.TheVariants as wishes
use Rattle.seats.specs.Places.{Place, unknown, wish_set}
use Rattle.seats.specs.Calls.{Call, Enters, Pauses, Leaves, Sits, IsFreed, after_call, place_after, wish_of_call, is_leave}
use Rattle.seats.specs.Laws.{ShowNoWish, HaveNoLeave}

-- whoever left stays so, call by call
left_by_call : (place : Place) (c : Call) → place.wish ≡ wishes.Left → (after_call place c).wish ≡ wishes.Left
left_by_call place (Enters n) left = ap (wish_set wishes.In) left
left_by_call place Pauses left = ap (wish_set wishes.Paused) left
left_by_call place Leaves left = refl
left_by_call place (Sits g) left = left
left_by_call place (IsFreed n true) left = ap (wish_set wishes.Paused) left
left_by_call place (IsFreed n false) left = left

left_stays : (place : Place) (calls : List Call) → place.wish ≡ wishes.Left → (fold after_call place calls).wish ≡ wishes.Left
left_stays place [] left = left
left_stays place (c ∷ calls) left = left_stays (after_call place c) calls (left_by_call place c left)

pub leave_is_final : (before after : List Call) → (place_after (before ++ Leaves ∷ after)).wish ≡ wishes.Left
leave_is_final before after =
    ap (λ (p : Place). p.wish) (fold-append after_call unknown before (Leaves ∷ after))
    ∙ left_stays (after_call (place_after before) Leaves) after refl

-- a call that shows no wish keeps it
kept_by_call : (place : Place) (c : Call) → wish_of_call c ≡ None → (after_call place c).wish ≡ place.wish
kept_by_call place (Enters n) none = absurd (cc none)
kept_by_call place Pauses none = absurd (cc none)
kept_by_call place Leaves none = absurd (cc none)
kept_by_call place (Sits g) none = refl
kept_by_call place (IsFreed n true) none = absurd (cc none)
kept_by_call place (IsFreed n false) none = refl

pub wish_kept : (place : Place) (calls : List Call) → ShowNoWish calls → (fold after_call place calls).wish ≡ place.wish
wish_kept place [] none = refl
wish_kept place (c ∷ calls) none =
    wish_kept (after_call place c) calls (All-tail (λ d. wish_of_call d ≡ None) c calls none)
    ∙ kept_by_call place c (All-head (λ d. wish_of_call d ≡ None) c calls none)

-- a new wish comes in place of any that is not a leave
set_in_place : (new old : Wish) → old ≢ wishes.Left → wish_set new old ≡ new
set_in_place new wishes.Absent stays = refl
set_in_place new wishes.In stays = refl
set_in_place new wishes.Paused stays = refl
set_in_place new wishes.Left stays = absurd (stays refl)

-- a call shows the wish that comes of it, where he did not leave
shown_by_call : (place : Place) (c : Call) (w : Wish) → place.wish ≢ wishes.Left → wish_of_call c ≡ Some w
    → (after_call place c).wish ≡ w
shown_by_call place (Enters n) w stays shown = set_in_place wishes.In place.wish stays ∙ cc shown
shown_by_call place Pauses w stays shown = set_in_place wishes.Paused place.wish stays ∙ cc shown
shown_by_call place Leaves w stays shown = cc shown
shown_by_call place (Sits g) w stays shown = absurd (cc shown)
shown_by_call place (IsFreed n true) w stays shown = set_in_place wishes.Paused place.wish stays ∙ cc shown
shown_by_call place (IsFreed n false) w stays shown = absurd (cc shown)

-- who did not leave by a call that is no leave
stays_by_call : (place : Place) (c : Call) → is_leave c ≡ false → place.wish ≢ wishes.Left → (after_call place c).wish ≢ wishes.Left
stays_by_call place (Enters n) none stays = λ left. absurd (cc (sym (set_in_place wishes.In place.wish stays) ∙ left))
stays_by_call place Pauses none stays = λ left. absurd (cc (sym (set_in_place wishes.Paused place.wish stays) ∙ left))
stays_by_call place Leaves none stays = absurd (cc none)
stays_by_call place (Sits g) none stays = stays
stays_by_call place (IsFreed n true) none stays = λ left. absurd (cc (sym (set_in_place wishes.Paused place.wish stays) ∙ left))
stays_by_call place (IsFreed n false) none stays = stays

did_not_leave : (place : Place) (calls : List Call) → HaveNoLeave calls → place.wish ≢ wishes.Left
    → (fold after_call place calls).wish ≢ wishes.Left
did_not_leave place [] none stays = stays
did_not_leave place (c ∷ calls) none stays =
    did_not_leave (after_call place c) calls (All-tail (λ d. is_leave d ≡ false) c calls none)
    (stays_by_call place c (All-head (λ d. is_leave d ≡ false) c calls none) stays)

pub last_wish_holds : (before after : List Call) (c : Call) (w : Wish) → HaveNoLeave before → wish_of_call c ≡ Some w
    → ShowNoWish after → (place_after (before ++ c ∷ after)).wish ≡ w
last_wish_holds before after c w none shown kept =
    ap (λ (p : Place). p.wish) (fold-append after_call unknown before (c ∷ after))
    ∙ wish_kept (after_call (place_after before) c) after kept
    ∙ shown_by_call (place_after before) c w (did_not_leave unknown before none (λ left. absurd (cc left))) shown

pub no_show_pauses : (calls : List Call) (n : ℕ) → (place_after calls).wish ≢ wishes.Left
    → (place_after (calls ++ IsFreed n true ∷ [])).wish ≡ wishes.Paused
no_show_pauses calls n stays =
    ap (λ (p : Place). p.wish) (fold-append after_call unknown calls (IsFreed n true ∷ []))
    ∙ set_in_place wishes.Paused (place_after calls).wish stays
