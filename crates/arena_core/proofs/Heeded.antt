-- An enter, a pause and a leave: the games stay as they are, and what is kept of the players is that of one entry more.
use Rattle.std.proofs.Common.{◌≡◌, ℕ, suc, ◌≤◌, List, [], ◌∷◌, ◌++◌, length, Some, None, Bool, true, false, refl, sym, ap, subst, arith}
use Rattle.std.specs.Prelude.{cond, Option}
use Rattle.entries.specs.declared.journal.Entry.{Entry}
use Rattle.entries.specs.declared.setup.Setup.{Setup}
use Rattle.game_room.specs.declared.header.Header.{Header}
use Rattle.seats.specs.declared.wish.Wish.{Wish}
use Rattle.seats.specs.declared.wish.Wish.TheVariants.{Absent, In, Paused, Left}
use Rattle.seats.specs.Places.{may_enter, may_pause, may_leave}
use Rattle.arena_games.specs.KeptGames as games
use Rattle.arena_history.specs.GameLaws.{games_begun_by}
use Rattle.arena_history.specs.Games.{games_from, event_of}
use Rattle.arena_history.specs.History.{History}
use Rattle.arena_history.specs.Waves.{history}
use Rattle.arena_rules.specs.declared.command.Command.{Command}
use Rattle.arena_rules.specs.declared.command.Command.TheVariants.{Enter, Pause, Leave}
use Rattle.arena_rules.specs.declared.refusal.Refusal.TheVariants as refusal
use Rattle.arena_rules.specs.Commands.{entry_of}
use Rattle.arena_rules.specs.declared.refusal.Refusal.{Refusal}
use Rattle.arena_rules.specs.Verdicts.{enter_refusal, pause_refusal, leave_refusal, command_refusal, or_full, verdict}
use Rattle.arena_core.specs.Below.{LawsOfHistories}
use Rattle.arena_core.specs.Kept.{AreKept}
use Rattle.arena_core.specs.People.{KeptPeople, Standing, StandsFor, standing, with_entrant, with_pause, with_leave}
use Rattle.arena_core.proofs.Books.{no_starts, command_starts}
use Rattle.arena_core.proofs.Followed.{courses_quiet}
use Rattle.arena_core.proofs.Steps.{standing_entered, standing_paused, standing_left}

-- a wish that does not refuse

pub may_from_enter : (closed : Bool) (w : Wish) → cond closed (Some refusal.Closed) (enter_refusal w) ≡ None → may_enter w ≡ true
may_from_enter true w may = cc
may_from_enter false Absent may = refl
may_from_enter false In may = cc
may_from_enter false Paused may = refl
may_from_enter false Left may = cc

pub may_from_pause : (closed : Bool) (w : Wish) → cond closed (Some refusal.Closed) (pause_refusal w) ≡ None → may_pause w ≡ true
may_from_pause true w may = cc
may_from_pause false Absent may = cc
may_from_pause false In may = refl
may_from_pause false Paused may = cc
may_from_pause false Left may = cc

pub may_from_leave : (closed : Bool) (w : Wish) → cond closed (Some refusal.Closed) (leave_refusal w) ≡ None → may_leave w ≡ true
may_from_leave true w may = cc
may_from_leave false Absent may = cc
may_from_leave false In may = refl
may_from_leave false Paused may = refl
may_from_leave false Left may = cc

-- a command that is not refused has no refusal of its own
pub own_none : (s : Setup) (h : History) (t : ℕ) (c : Command) → verdict s h t c ≡ None → command_refusal s h t c ≡ None
unfolding verdict
own_none s h t c may = by (command_refusal s h t c) may
  where
    by : (o : Option Refusal) → or_full h.entries o ≡ None → o ≡ None
    by None is = refl
    by (Some r) is = cc

-- a command begins no game
pub none_begun : (s : Setup) (es : List Entry) (t pass : ℕ) (c : Command) → games_begun_by s es (entry_of t pass c) ≡ []
none_begun s es t pass c = ap (games_from s (es ++ entry_of t pass c ∷ []) (length (history s es).starts)) (no_starts s (history s es) t pass c)

module _ (laws : LawsOfHistories) (s : Setup) (es : List Entry) (g : games.KeptGames) (k : KeptPeople) (kept : AreKept s es g k) where
  -- what is kept once a command came that is no event of any game
  heeded : (t pass : ℕ) (c : Command) (x : Standing) (new : KeptPeople) → ((h : Header) → event_of h (entry_of t pass c) ≡ None) → standing s (history s (es ++ entry_of t pass c ∷ [])) ≡ x → StandsFor new s x → new.room ≡ k.room → AreKept s (es ++ entry_of t pass c ∷ []) g new
  heeded t pass c x new quiet is stands room = record {
    games = subst (games.StandsFor g) (sym (courses_quiet laws s es (entry_of t pass c) quiet (none_begun s es t pass c))) kept.games;
    people = subst (StandsFor new s) (sym is) stands;
    room = (let before : length (history s es).starts ≤ k.room = kept.room in omega (arith, room, ap length (command_starts laws s es t pass c)));
  }

  pub kept_entered : (t pass p : ℕ) (new : KeptPeople) → StandsFor new s (with_entrant (suc (length es)) p (standing s (history s es))) → new.room ≡ k.room → AreKept s (es ++ entry_of t pass (Enter p) ∷ []) g new
  kept_entered t pass p new stands room = heeded t pass (Enter p) _ new (λ h. refl) (standing_entered laws s es t pass p) stands room

  pub kept_paused : (t pass p : ℕ) (new : KeptPeople) → StandsFor new s (with_pause p (standing s (history s es))) → new.room ≡ k.room → AreKept s (es ++ entry_of t pass (Pause p) ∷ []) g new
  kept_paused t pass p new stands room = heeded t pass (Pause p) _ new (λ h. refl) (standing_paused laws s es t pass p) stands room

  pub kept_left : (t pass p : ℕ) (new : KeptPeople) → StandsFor new s (with_leave p (standing s (history s es))) → new.room ≡ k.room → AreKept s (es ++ entry_of t pass (Leave p) ∷ []) g new
  kept_left t pass p new stands room = heeded t pass (Leave p) _ new (λ h. refl) (standing_left laws s es t pass p) stands room
