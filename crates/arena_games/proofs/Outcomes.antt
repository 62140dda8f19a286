-- Outcomes, and what a look or an act does to them.
use Rattle.std.proofs.Common.{◌≡◌, ℕ, zero, suc, [], ◌∷◌, cond, Option, None, Some, Result, Ok, Err, Bool, true, false, refl, sym, ap, ◌∙◌, arith}
use Rattle.std.specs.Prelude.{is_none}
use Rattle.std.proofs.lemmas.List.Elements.{All-cons, All-head, All-tail}
use Rattle.game_room.specs.declared.outcome.Outcome.{Outcome}
use Rattle.game_room.specs.declared.refusal.ActRefusal.{ActRefusal}
use Rattle.game_room.specs.declared.refusal.ActRefusal.TheVariants as refused
use Rattle.game_room.specs.Events.{tick_at}
use Rattle.game_room.specs.Games.{Game, outcome, due, ticked, allowed}
use Rattle.game_room.specs.Laws.{EndedStays, EndedRefuses, LookChangesNothing}
use Rattle.arena_games.specs.Courses.{Course, IsPast, is_due, looked, looked_below, outcome_of}
use Rattle.arena_games.specs.Laws.{LooksEnd, OutcomesStay, LooksArePast, ActsGoOn}
use Rattle.arena_games.proofs.Answered.{past_with}
use Rattle.arena_games.proofs.Rooms.{ended_not_due, same_game}

pub outcomes_stay : EndedStays → OutcomesStay
unfolding outcome
outcomes_stay stays c event o over = ap (λ (g : Game). g.outcome) (stays c.header c.events (event ∷ []) o over) ∙ over

same_outcome : LookChangesNothing → (c : Course) (t : ℕ) → is_due t c ≡ false → outcome_of (looked t c) ≡ outcome_of c
unfolding outcome
same_outcome looks c t idle = ap (λ (g : Game). g.outcome) (same_game looks c t idle)

ends_by : (d : Bool) (before after : Option Outcome) → (d ≡ false → after ≡ before) → ((o : Outcome) → before ≡ Some o → d ≡ false) → cond d after None ≡ cond (is_none before) after None
ends_by d (Some o) after idle over = ap (λ b. cond b after None) (over o refl)
ends_by true None after idle over = refl
ends_by false None after idle over = sym (idle refl)

pub looks_end : LookChangesNothing → LooksEnd
unfolding ticked
looks_end looks t c =
    ends_by (due c.header c.events t) (outcome_of c) (outcome_of (looked t c)) (same_outcome looks c t) (λ o over. ended_not_due c o t over)

pub looks_are_past : LooksArePast
looks_are_past zero t cs all = all
looks_are_past (suc n) t [] all = all
looks_are_past (suc n) t (c ∷ cs) all =
    All-cons (IsPast t) (looked t c) (looked_below n t cs)
    (past_with t (tick_at t) c (omega arith) (All-head (IsPast t) c cs all)) (looks_are_past n t cs (All-tail (IsPast t) c cs all))

goes_on_by : (o : Option Outcome) (r : Result (Unit {0}) ActRefusal) → ((p : Outcome) → o ≡ Some p → r ≡ Err refused.Over) → r ≡ Ok tt → o ≡ None
goes_on_by None r over done = refl
goes_on_by (Some o) r over done = (let e = over o refl in cc)

pub acts_go_on : EndedRefuses → ActsGoOn
acts_go_on refuses c side a t done =
    goes_on_by (outcome_of c) (allowed c.header c.events side a t) (λ o over. refuses c.header c.events side a t o over) done
