-- Exactly where a command, a commit and a question get which refusal.
use Rattle.std.proofs.Common.{◌≡◌, ℕ, zero, suc, ◌+◌, ◌<◌, ◌≤◌, ◌≢◌, ◌⊎◌, inl, inr, ⊎_elim, List, [], ◌∷◌, length, Option, Some, None, Bool, true, false, ◌||◌, refl, sym, ap, ◌∙◌, arith}
use Rattle.std.specs.Prelude.{cond, nat_le, nat_lt, ◌==◌, ◌↔◌, slice_get, Result, Ok, Err}
use Rattle.std.specs.Option.{option_map}
use Rattle.std.proofs.lemmas.Bool.{cases_lt, or_cases, or_right, leb-true, leb-false, ltb-true, le-leb, lt-leb, lt-ltb, le-ltb, eq-eqb, ne_eqb}
use Rattle.std.proofs.lemmas.List.{nil_from_length}
use Rattle.std.proofs.lemmas.Option.{slice_get_past}
use Rattle.board.specs.declared.piece.Colour.{Colour}
use Rattle.board.specs.declared.piece.Colour.TheVariants.{White, Black}
use Rattle.entries.specs.declared.action.Action.{Action}
use Rattle.entries.specs.declared.journal.Entry.{Entry}
use Rattle.entries.specs.declared.setup.Setup.{Setup}
use Rattle.entries.specs.Limits.{max_entries, max_games}
use Rattle.game_room.specs.declared.refusal.ActRefusal.{ActRefusal}
use Rattle.seats.specs.declared.wish.Wish.{Wish}
use Rattle.seats.specs.declared.wish.Wish.TheVariants.{Absent, In, Paused, Left}
use Rattle.arena_history.specs.Games.{Begun, begun, side_of, has_player}
use Rattle.arena_history.specs.History.{History}
use Rattle.arena_history.specs.Waves.{started}
use Rattle.arena_history.specs.Wishes.{wish}
use Rattle.arena_rules.specs.declared.command.Command.{Command}
use Rattle.arena_rules.specs.declared.command.Command.TheVariants.{Enter, Pause, Leave, Act, Tick}
use Rattle.arena_rules.specs.declared.commit_fault.CommitFault.{CommitFault}
use Rattle.arena_rules.specs.declared.commit_fault.CommitFault.TheVariants as fault
use Rattle.arena_rules.specs.declared.query.Answer.TheVariants as answers
use Rattle.arena_rules.specs.declared.query.Query.{Query}
use Rattle.arena_rules.specs.declared.query.Query.TheVariants as query
use Rattle.arena_rules.specs.declared.refusal.Refusal.{Refusal}
use Rattle.arena_rules.specs.declared.refusal.Refusal.TheVariants as refusal
use Rattle.arena_rules.specs.Answers.{answer_to}
use Rattle.arena_rules.specs.CauseLaws.{IsOfNoGame}
use Rattle.arena_rules.specs.Commits.{lacks_room, wave_refusal, commit_refusal}
use Rattle.arena_rules.specs.Verdicts.{closed_or, enter_refusal, pause_refusal, leave_refusal, refused_by, side_refusal, act_refusal, game_at, some_due, command_refusal, or_full, verdict}
use Rattle.arena_rules.specs.Views.{game_shown}

-- no command is refused as Full by itself

closed_not_full : (closed : Bool) (next : Option Refusal) → next ≢ Some refusal.Full → cond closed (Some refusal.Closed) next ≢ Some refusal.Full
closed_not_full true next other is = cc
closed_not_full false next other is = other is

enter_not_full : (w : Wish) → enter_refusal w ≢ Some refusal.Full
enter_not_full Absent is = cc
enter_not_full In is = cc
enter_not_full Paused is = cc
enter_not_full Left is = cc

pause_not_full : (w : Wish) → pause_refusal w ≢ Some refusal.Full
pause_not_full Absent is = cc
pause_not_full In is = cc
pause_not_full Paused is = cc
pause_not_full Left is = cc

leave_not_full : (w : Wish) → leave_refusal w ≢ Some refusal.Full
leave_not_full Absent is = cc
leave_not_full In is = cc
leave_not_full Paused is = cc
leave_not_full Left is = cc

room_not_full : (r : Result (Unit {0}) ActRefusal) → refused_by r ≢ Some refusal.Full
room_not_full (Ok x) is = cc
room_not_full (Err r) is = cc

side_not_full : (h : History) (g : Begun) (side : Option Colour) (a : Action) (t : ℕ) → side_refusal h g side a t ≢ Some refusal.Full
side_not_full h g None a t is = cc
side_not_full h g (Some side) a t is = room_not_full _ is

act_not_full : (h : History) (p : ℕ) (o : Option Begun) (a : Action) (t : ℕ) → act_refusal h p o a t ≢ Some refusal.Full
act_not_full h p None a t is = cc
act_not_full h p (Some g) a t is = side_not_full h g (side_of g.header p) a t is

due_not_full : (due : Bool) → cond due None (Some refusal.NothingDue) ≢ Some refusal.Full
due_not_full true is = cc
due_not_full false is = cc

not_full : (s : Setup) (h : History) (t : ℕ) (c : Command) → command_refusal s h t c ≢ Some refusal.Full
not_full s h t (Enter p) = closed_not_full (nat_le s.ends t) (enter_refusal (wish s h p)) (enter_not_full (wish s h p))
not_full s h t (Pause p) = closed_not_full (nat_le s.ends t) (pause_refusal (wish s h p)) (pause_not_full (wish s h p))
not_full s h t (Leave p) = closed_not_full (nat_le s.ends t) (leave_refusal (wish s h p)) (leave_not_full (wish s h p))
not_full s h t (Act p number a) = act_not_full h p (game_at s h number) a t
not_full s h t Tick = due_not_full (some_due s h t)

full_from : (es : List Entry) (r : Option Refusal) → r ≢ Some refusal.Full → or_full es r ≡ Some refusal.Full → (r ≡ None) × (max_entries ≤ length es)
full_from es (Some r) other is = absurd (other is)
full_from es None other is =
    ⊎_elim
    (λ (le : max_entries ≤ length es). (refl, le))
    (λ (lt : length es < max_entries). let never : cond false (Some refusal.Full) None ≡ Some refusal.Full = ap (λ b. cond b (Some refusal.Full) None) (sym (lt-leb max_entries (length es) lt)) ∙ is in cc)
    (swapped (cases_lt (length es) max_entries))
  where
    swapped : {A B : Type 0} → A ⊎ B → B ⊎ A
    swapped (inl a) = inr a
    swapped (inr b) = inl b

pub full_comes_last : (s : Setup) (h : History) (t : ℕ) (c : Command) → (verdict s h t c ≡ Some refusal.Full) ↔ ((command_refusal s h t c ≡ None) × (max_entries ≤ length h.entries))
unfolding verdict
full_comes_last s h t c = (
  full_from h.entries (command_refusal s h t c) (not_full s h t c),
  (λ both. ap (or_full h.entries) both.0 ∙ ap (λ b. cond b (Some refusal.Full) None) (le-leb max_entries (length h.entries) both.1)),
)

-- Closed comes first

closed_first : (s : Setup) (t : ℕ) (next : Option Refusal) → next ≢ Some refusal.Closed → (closed_or s t next ≡ Some refusal.Closed) ↔ (s.ends ≤ t)
closed_first s t next other = (
  (λ is.
      ⊎_elim
      (λ (lt : t < s.ends). absurd (other (ap (λ b. cond b (Some refusal.Closed) next) (sym (lt-leb s.ends t lt)) ∙ is)))
      (λ (le : s.ends ≤ t). le)
      (cases_lt t s.ends)),
  (λ le. ap (λ b. cond b (Some refusal.Closed) next) (le-leb s.ends t le)),
)

pub enter_closed : (s : Setup) (h : History) (t p : ℕ) → (command_refusal s h t (Enter p) ≡ Some refusal.Closed) ↔ (s.ends ≤ t)
enter_closed s h t p = closed_first s t (enter_refusal (wish s h p)) (by (wish s h p))
  where
    by : (w : Wish) → enter_refusal w ≢ Some refusal.Closed
    by Absent is = cc
    by In is = cc
    by Paused is = cc
    by Left is = cc

pub pause_closed : (s : Setup) (h : History) (t p : ℕ) → (command_refusal s h t (Pause p) ≡ Some refusal.Closed) ↔ (s.ends ≤ t)
pause_closed s h t p = closed_first s t (pause_refusal (wish s h p)) (by (wish s h p))
  where
    by : (w : Wish) → pause_refusal w ≢ Some refusal.Closed
    by Absent is = cc
    by In is = cc
    by Paused is = cc
    by Left is = cc

pub leave_closed : (s : Setup) (h : History) (t p : ℕ) → (command_refusal s h t (Leave p) ≡ Some refusal.Closed) ↔ (s.ends ≤ t)
leave_closed s h t p = closed_first s t (leave_refusal (wish s h p)) (by (wish s h p))
  where
    by : (w : Wish) → leave_refusal w ≢ Some refusal.Closed
    by Absent is = cc
    by In is = cc
    by Paused is = cc
    by Left is = cc

-- an act and its game

room_not_other : (r : Result (Unit {0}) ActRefusal) → (refused_by r ≢ Some refusal.NoGame) × (refused_by r ≢ Some refusal.NotYours)
room_not_other (Ok x) = (λ is. cc, λ is. cc)
room_not_other (Err r) = (λ is. cc, λ is. cc)

side_not_no_game : (h : History) (g : Begun) (side : Option Colour) (a : Action) (t : ℕ) → side_refusal h g side a t ≢ Some refusal.NoGame
side_not_no_game h g None a t is = cc
side_not_no_game h g (Some side) a t is = (room_not_other _).0 is

no_game_from : (h : History) (p : ℕ) (o : Option Begun) (a : Action) (t : ℕ) → act_refusal h p o a t ≡ Some refusal.NoGame → o ≡ None
no_game_from h p None a t is = refl
no_game_from h p (Some g) a t is = absurd (side_not_no_game h g (side_of g.header p) a t is)

-- there is no game with a number exactly where no more games were begun
no_game_at : (s : Setup) (h : History) (number : ℕ) → (game_at s h number ≡ None) ↔ (length (begun s h) ≤ number)
unfolding game_at
no_game_at s h number = (
  (λ none.
      ⊎_elim
      (λ (lt : number < length (begun s h)). absurd (found (begun s h) number lt none))
      (λ (le : length (begun s h) ≤ number). le)
      (cases_lt number (length (begun s h)))),
  slice_get_past (begun s h) number,
)
  where
    found : (xs : List Begun) (i : ℕ) → i < length xs → slice_get xs i ≢ None
    found [] i lt none = absurd (omega arith)
    found (x ∷ xs) zero lt none = cc
    found (x ∷ xs) (suc i) lt none = found xs i (omega arith) none

pub no_game : (s : Setup) (h : History) (t p number : ℕ) (a : Action) → (command_refusal s h t (Act p number a) ≡ Some refusal.NoGame) ↔ (length (begun s h) ≤ number)
no_game s h t p number a = (
  (λ is. (no_game_at s h number).0 (no_game_from h p (game_at s h number) a t is)),
  (λ le. ap (λ o. act_refusal h p o a t) ((no_game_at s h number).1 le)),
)

no_side : (h : History) (g : Begun) (a : Action) (t : ℕ) (white black : Bool) → side_refusal h g (cond white (Some White) (cond black (Some Black) None)) a t ≡ Some refusal.NotYours → (white || black) ≡ false
no_side h g a t true black is = absurd ((room_not_other _).1 is)
no_side h g a t false true is = absurd ((room_not_other _).1 is)
no_side h g a t false false is = refl

side_none : (h : History) (g : Begun) (a : Action) (t : ℕ) (white black : Bool) → (white || black) ≡ false → side_refusal h g (cond white (Some White) (cond black (Some Black) None)) a t ≡ Some refusal.NotYours
side_none h g a t true black off = cc
side_none h g a t false true off = cc
side_none h g a t false false off = refl

pub not_yours : (s : Setup) (h : History) (t p number : ℕ) (a : Action) (g : Begun) → game_at s h number ≡ Some g → (command_refusal s h t (Act p number a) ≡ Some refusal.NotYours) ↔ (has_player p g ≡ false)
not_yours s h t p number a g at = (
  (λ is. no_side h g a t (g.header.white == p) (g.header.black == p) (ap (λ o. act_refusal h p o a t) (sym at) ∙ is)),
  (λ off. ap (λ o. act_refusal h p o a t) at ∙ side_none h g a t (g.header.white == p) (g.header.black == p) off),
)

-- a commit

early_from : (s : Setup) (h : History) (t count : ℕ) → wave_refusal s h t count ≡ Some fault.Early → t < s.starts
early_from s h t count is =
    ⊎_elim
    (λ (lt : t < s.starts). lt)
    (λ (le : s.starts ≤ t). absurd (later (nat_le s.ends t) (count == 0) (lacks_room h count) (ap (λ b. cond b (Some fault.Early) (cond (nat_le s.ends t) (Some fault.Closed) (cond (count == 0) None (cond (lacks_room h count) (Some fault.Full) None)))) (sym (le-ltb t s.starts le)) ∙ is)))
    (cases_lt t s.starts)
  where
    later : (closed none full : Bool) → cond closed (Some fault.Closed) (cond none None (cond full (Some fault.Full) None)) ≢ Some fault.Early
    later true none full is = cc
    later false true full is = cc
    later false false true is = cc
    later false false false is = cc

pub early_means : (s : Setup) (h : History) (t n : ℕ) → (commit_refusal s h t n ≡ Some fault.Early) ↔ (t < s.starts)
unfolding commit_refusal
early_means s h t n = (
  early_from s h t (length (started s h n)),
  (λ lt. rw (lt-ltb t s.starts lt) refl),
)

-- a commit that does not come too early
abbrev after_start : Setup → History → ℕ → ℕ → Option CommitFault
after_start s h t count = cond (nat_le s.ends t) (Some fault.Closed) (cond (count == 0) None (cond (lacks_room h count) (Some fault.Full) None))

on_time : (s : Setup) (h : History) (t count : ℕ) → s.starts ≤ t → wave_refusal s h t count ≡ after_start s h t count
on_time s h t count le = ap (λ b. cond b (Some fault.Early) (after_start s h t count)) (le-ltb t s.starts le)

closed_from : (closed none full : Bool) → cond closed (Some fault.Closed) (cond none None (cond full (Some fault.Full) None)) ≡ Some fault.Closed → closed ≡ true
closed_from true none full is = refl
closed_from false true full is = cc
closed_from false false true is = cc
closed_from false false false is = cc

full_parts : (closed none full : Bool) → cond closed (Some fault.Closed) (cond none None (cond full (Some fault.Full) None)) ≡ Some fault.Full → (closed ≡ false) × (none ≡ false) × (full ≡ true)
full_parts true none full is = cc
full_parts false true full is = cc
full_parts false false true is = (refl, refl, refl)
full_parts false false false is = cc

early_or_late : (s : Setup) (h : History) (t count : ℕ) (f : CommitFault) → f ≢ fault.Early → wave_refusal s h t count ≡ Some f → (s.starts ≤ t) × (after_start s h t count ≡ Some f)
early_or_late s h t count f other is =
    ⊎_elim
    (λ (lt : t < s.starts). absurd (other (some_same (sym is ∙ ap (λ b. cond b (Some fault.Early) (after_start s h t count)) (lt-ltb t s.starts lt)))))
    (λ (le : s.starts ≤ t). (le, sym (on_time s h t count le) ∙ is))
    (cases_lt t s.starts)
  where
    some_same : {a b : CommitFault} → Some a ≡ Some b → a ≡ b
    some_same is = cc

pub closed_means : (s : Setup) (h : History) (t n : ℕ) → s.starts < s.ends → (commit_refusal s h t n ≡ Some fault.Closed) ↔ (s.ends ≤ t)
unfolding commit_refusal
closed_means s h t n window =
    let count = length (started s h n) in (
      (λ is.
          let both = early_or_late s h t count fault.Closed (λ never. cc) is in
          leb-true s.ends t (closed_from (nat_le s.ends t) (count == 0) (lacks_room h count) both.1)),
      (λ le. let opened : s.starts ≤ t = omega arith in on_time s h t count opened ∙ ap (λ b. cond b (Some fault.Closed) (cond (count == 0) None (cond (lacks_room h count) (Some fault.Full) None))) (le-leb s.ends t le)),
    )

room_lacked : (h : History) (count : ℕ) → lacks_room h count ≡ true → (max_entries ≤ length h.entries) ⊎ (max_games < length h.starts + count)
room_lacked h count on =
    ⊎_elim
    (λ (full : nat_le max_entries (length h.entries) ≡ true). inl (leb-true max_entries (length h.entries) full))
    (λ (many : nat_lt max_games (length h.starts + count) ≡ true). inr (ltb-true max_games (length h.starts + count) many))
    (or_cases (nat_le max_entries (length h.entries)) (nat_lt max_games (length h.starts + count)) on)

lacks_from : (h : History) (count : ℕ) → (max_entries ≤ length h.entries) ⊎ (max_games < length h.starts + count) → lacks_room h count ≡ true
lacks_from h count (inl full) = ap (λ b. b || nat_lt max_games (length h.starts + count)) (le-leb max_entries (length h.entries) full)
lacks_from h count (inr many) = or_right (nat_le max_entries (length h.entries)) (nat_lt max_games (length h.starts + count)) (lt-ltb max_games (length h.starts + count) many)

some_pairs : (s : Setup) (h : History) (n : ℕ) → (length (started s h n) == 0) ≡ false → started s h n ≢ []
some_pairs s h n off none = let on : (length (started s h n) == 0) ≡ true = eq-eqb (length (started s h n)) 0 (ap length none) in let never : true ≡ false = sym on ∙ off in cc

pub full_means : (s : Setup) (h : History) (t n : ℕ) → (commit_refusal s h t n ≡ Some fault.Full) ↔ ((s.starts ≤ t) × (t < s.ends) × (started s h n ≢ []) × ((max_entries ≤ length h.entries) ⊎ (max_games < length h.starts + length (started s h n))))
unfolding commit_refusal
full_means s h t n =
    let count = length (started s h n) in (
      (λ is.
          let both = early_or_late s h t count fault.Full (λ never. cc) is in
          let parts = full_parts (nat_le s.ends t) (count == 0) (lacks_room h count) both.1 in
          (both.0, leb-false s.ends t parts.0, some_pairs s h n parts.1, room_lacked h count parts.2)),
      (λ all.
          let open' : nat_le s.ends t ≡ false = lt-leb s.ends t all.1 in
          let some : (count == 0) ≡ false = ne_eqb count 0 (λ none. all.2 (nil_from_length (started s h n) none)) in
          on_time s h t count all.0 ∙ (λ i. cond (open' i) (Some fault.Closed) (cond (some i) None (cond (lacks_from h count all.3 i) (Some fault.Full) None)))),
    )

-- a question

pub no_answer_means : (s : Setup) (h : History) (t : ℕ) (q : Query) → (answer_to s h t q ≡ None) ↔ IsOfNoGame s h q
no_answer_means s h t query.Arena = (λ never. cc, λ never. absurd never)
no_answer_means s h t (query.Standing k) = (λ never. cc, λ never. absurd never)
no_answer_means s h t query.Teams = (λ never. cc, λ never. absurd never)
no_answer_means s h t (query.Me p) = (λ never. cc, λ never. absurd never)
no_answer_means s h t (query.Journal k) = (λ never. cc, λ never. absurd never)
no_answer_means s h t (query.Game number) = (
  (λ none. (no_game_at s h number).0 (shown_none (game_at s h number) none)),
  (λ le. ap (λ (o : Option Begun). option_map answers.Game (option_map (λ (g : Begun). game_shown h g t) o)) ((no_game_at s h number).1 le)),
)
  where
    shown_none : (o : Option Begun) → option_map answers.Game (option_map (λ (g : Begun). game_shown h g t) o) ≡ None → o ≡ None
    shown_none None none = refl
    shown_none (Some g) none = cc
