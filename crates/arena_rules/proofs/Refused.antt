-- Exactly which commands are refused for the player's wish, by the game, and since nothing is due.
use Rattle.std.proofs.Common.{◌≡◌, ◌≢◌, ℕ, ◌<◌, ◌⊎◌, inl, inr, ⊎_elim, List, [], ◌∷◌, length, Option, Some, None, Bool, true, false, ◌||◌, refl, sym, ap, ◌∙◌}
use Rattle.std.specs.Prelude.{cond, nat_le, map, filter, ◌↔◌, Result, Ok, Err}
use Rattle.std.specs.List.{All, AllByRecursion, list_any}
use Rattle.std.proofs.lemmas.Bool.{cases_Bool, leb-false, lt-leb}
use Rattle.std.proofs.lemmas.List.Elements.{All-from_recursion}
use Rattle.std.proofs.lemmas.List.Folds.{list_any_none}
use Rattle.board.specs.declared.piece.Colour.{Colour}
use Rattle.entries.specs.declared.action.Action.{Action}
use Rattle.entries.specs.declared.journal.Entry.{Entry}
use Rattle.entries.specs.declared.journal.What.TheVariants as what
use Rattle.entries.specs.declared.setup.Setup.{Setup}
use Rattle.entries.specs.Limits.{max_entries}
use Rattle.game_room.specs.declared.refusal.ActRefusal.{ActRefusal}
use Rattle.game_room.specs.Games as room
use Rattle.seats.specs.declared.wish.Wish.{Wish}
use Rattle.seats.specs.declared.wish.Wish.TheVariants.{Absent, In, Paused, Left}
use Rattle.arena_history.specs.Endings.{EndedGame, ended_by}
use Rattle.arena_history.specs.Games.{Begun, side_of, events, running}
use Rattle.arena_history.specs.History.{History}
use Rattle.arena_history.specs.Waves.{history}
use Rattle.arena_history.specs.Wishes.{wish}
use Rattle.arena_rules.specs.declared.command.Command.{Command}
use Rattle.arena_rules.specs.declared.command.Command.TheVariants.{Enter, Pause, Leave, Act, Tick}
use Rattle.arena_rules.specs.declared.refusal.Refusal.{Refusal}
use Rattle.arena_rules.specs.declared.refusal.Refusal.TheVariants as refusal
use Rattle.arena_rules.specs.Below.{LawsOfHistories}
use Rattle.arena_rules.specs.RefusalLaws.{IsRefusedByGame}
use Rattle.arena_rules.specs.Verdicts.{closed_or, enter_refusal, pause_refusal, leave_refusal, refused_by, side_refusal, act_refusal, game_at, game_due, some_due, command_refusal, or_full, verdict}

-- which refusals a command of each kind may get

abbrev of_enter : Refusal → Bool
of_enter refusal.AlreadyIn = true
of_enter refusal.Left = true
of_enter refusal.Closed = true
of_enter _ = false

abbrev of_pause : Refusal → Bool
of_pause refusal.NotEntered = true
of_pause refusal.AlreadyPaused = true
of_pause refusal.Left = true
of_pause refusal.Closed = true
of_pause _ = false

abbrev of_leave : Refusal → Bool
of_leave refusal.NotEntered = true
of_leave refusal.Left = true
of_leave refusal.Closed = true
of_leave _ = false

abbrev of_act : Refusal → Bool
of_act refusal.NoGame = true
of_act refusal.NotYours = true
of_act (refusal.Act r) = true
of_act _ = false

abbrev of_look : Refusal → Bool
of_look refusal.NothingDue = true
of_look _ = false

abbrev of_command : Command → Refusal → Bool
of_command (Enter p) r = of_enter r
of_command (Pause p) r = of_pause r
of_command (Leave p) r = of_leave r
of_command (Act p number a) r = of_act r
of_command Tick r = of_look r

-- the refusal that there is passes
abbrev passes : (Refusal → Bool) → Option Refusal → Type 0
passes test None = Unit {0}
passes test (Some r) = test r ≡ true

passes_closed : (test : Refusal → Bool) (closed : Bool) (next : Option Refusal) → test refusal.Closed ≡ true → passes test next → passes test (cond closed (Some refusal.Closed) next)
passes_closed test true next own rest = own
passes_closed test false next own rest = rest

enter_passes : (w : Wish) → passes of_enter (enter_refusal w)
enter_passes Absent = tt
enter_passes In = refl
enter_passes Paused = tt
enter_passes Left = refl

pause_passes : (w : Wish) → passes of_pause (pause_refusal w)
pause_passes Absent = refl
pause_passes In = tt
pause_passes Paused = refl
pause_passes Left = refl

leave_passes : (w : Wish) → passes of_leave (leave_refusal w)
leave_passes Absent = refl
leave_passes In = tt
leave_passes Paused = tt
leave_passes Left = refl

act_passes : (h : History) (p : ℕ) (o : Option Begun) (a : Action) (t : ℕ) → passes of_act (act_refusal h p o a t)
act_passes h p None a t = refl
act_passes h p (Some g) a t = by_side (side_of g.header p)
  where
    by_room : (x : Result (Unit {0}) ActRefusal) → passes of_act (refused_by x)
    by_room (Ok u) = tt
    by_room (Err r) = refl

    by_side : (x : Option Colour) → passes of_act (side_refusal h g x a t)
    by_side None = refl
    by_side (Some side) = by_room (room.allowed g.header (events h g) side a t)

look_passes : (due : Bool) → passes of_look (cond due None (Some refusal.NothingDue))
look_passes true = tt
look_passes false = refl

command_passes : (s : Setup) (h : History) (t : ℕ) (c : Command) → passes (of_command c) (command_refusal s h t c)
command_passes s h t (Enter p) = passes_closed of_enter (nat_le s.ends t) (enter_refusal (wish s h p)) refl (enter_passes (wish s h p))
command_passes s h t (Pause p) = passes_closed of_pause (nat_le s.ends t) (pause_refusal (wish s h p)) refl (pause_passes (wish s h p))
command_passes s h t (Leave p) = passes_closed of_leave (nat_le s.ends t) (leave_refusal (wish s h p)) refl (leave_passes (wish s h p))
command_passes s h t (Act p number a) = act_passes h p (game_at s h number) a t
command_passes s h t Tick = look_passes (some_due s h t)

kind : (s : Setup) (h : History) (t : ℕ) (c : Command) (r : Refusal) → command_refusal s h t c ≡ Some r → of_command c r ≡ true
kind s h t c r is = from (command_refusal s h t c) is (command_passes s h t c)
  where
    from : (o : Option Refusal) → o ≡ Some r → passes (of_command c) o → of_command c r ≡ true
    from None is pass = cc
    from (Some x) is pass = let same : x ≡ r = cc in ap (of_command c) (sym same) ∙ pass

never_of : (s : Setup) (h : History) (t : ℕ) (c : Command) (r : Refusal) → of_command c r ≡ false → command_refusal s h t c ≢ Some r
never_of s h t c r off is = let never : false ≡ true = sym off ∙ kind s h t c r is in cc

-- what a player wishes who is refused for it

abbrev wish_of : Refusal → Wish
wish_of refusal.AlreadyIn = In
wish_of refusal.AlreadyPaused = Paused
wish_of refusal.Left = Left
wish_of _ = Absent

enter_wish : (w : Wish) (r : Refusal) → enter_refusal w ≡ Some r → w ≡ wish_of r
enter_wish Absent r is = cc
enter_wish In r is = let same : refusal.AlreadyIn ≡ r = cc in ap wish_of same
enter_wish Paused r is = cc
enter_wish Left r is = let same : refusal.Left ≡ r = cc in ap wish_of same

pause_wish : (w : Wish) (r : Refusal) → pause_refusal w ≡ Some r → w ≡ wish_of r
pause_wish Absent r is = let same : refusal.NotEntered ≡ r = cc in ap wish_of same
pause_wish In r is = cc
pause_wish Paused r is = let same : refusal.AlreadyPaused ≡ r = cc in ap wish_of same
pause_wish Left r is = let same : refusal.Left ≡ r = cc in ap wish_of same

leave_wish : (w : Wish) (r : Refusal) → leave_refusal w ≡ Some r → w ≡ wish_of r
leave_wish Absent r is = let same : refusal.NotEntered ≡ r = cc in ap wish_of same
leave_wish In r is = cc
leave_wish Paused r is = cc
leave_wish Left r is = let same : refusal.Left ≡ r = cc in ap wish_of same

module _ (s : Setup) (t : ℕ) where
  in_time : (next : Option Refusal) (r : Refusal) → r ≢ refusal.Closed → closed_or s t next ≡ Some r → (t < s.ends) × (next ≡ Some r)
  in_time next r other is = by (nat_le s.ends t) refl is
    where
      by : (closed : Bool) → nat_le s.ends t ≡ closed → cond closed (Some refusal.Closed) next ≡ Some r → (t < s.ends) × (next ≡ Some r)
      by true late is = let same : r ≡ refusal.Closed = cc in absurd (other same)
      by false early is = (leb-false s.ends t early, is)

  before_end : (next : Option Refusal) (r : Refusal) → t < s.ends → next ≡ Some r → closed_or s t next ≡ Some r
  before_end next r lt is = ap (λ b. cond b (Some refusal.Closed) next) (lt-leb s.ends t lt) ∙ is

module _ (s : Setup) (h : History) (t : ℕ) where
  -- which player's wish refuses a command, if one does
  enter_for : (p : ℕ) (r : Refusal) → r ≢ refusal.Closed → command_refusal s h t (Enter p) ≡ Some r → (t < s.ends) × (wish s h p ≡ wish_of r)
  enter_for p r other is = let both = in_time s t (enter_refusal (wish s h p)) r other is in (both.0, enter_wish (wish s h p) r both.1)

  pause_for : (p : ℕ) (r : Refusal) → r ≢ refusal.Closed → command_refusal s h t (Pause p) ≡ Some r → (t < s.ends) × (wish s h p ≡ wish_of r)
  pause_for p r other is = let both = in_time s t (pause_refusal (wish s h p)) r other is in (both.0, pause_wish (wish s h p) r both.1)

  leave_for : (p : ℕ) (r : Refusal) → r ≢ refusal.Closed → command_refusal s h t (Leave p) ≡ Some r → (t < s.ends) × (wish s h p ≡ wish_of r)
  leave_for p r other is = let both = in_time s t (leave_refusal (wish s h p)) r other is in (both.0, leave_wish (wish s h p) r both.1)

  -- and the other way round
  enter_is : (c : Command) (p : ℕ) (r : Refusal) (w : Wish) → t < s.ends → wish s h p ≡ w → enter_refusal w ≡ Some r → c ≡ Enter p → command_refusal s h t c ≡ Some r
  enter_is c p r w lt is refuses same = ap (command_refusal s h t) same ∙ before_end s t (enter_refusal (wish s h p)) r lt (ap enter_refusal is ∙ refuses)

  pause_is : (c : Command) (p : ℕ) (r : Refusal) (w : Wish) → t < s.ends → wish s h p ≡ w → pause_refusal w ≡ Some r → c ≡ Pause p → command_refusal s h t c ≡ Some r
  pause_is c p r w lt is refuses same = ap (command_refusal s h t) same ∙ before_end s t (pause_refusal (wish s h p)) r lt (ap pause_refusal is ∙ refuses)

  leave_is : (c : Command) (p : ℕ) (r : Refusal) (w : Wish) → t < s.ends → wish s h p ≡ w → leave_refusal w ≡ Some r → c ≡ Leave p → command_refusal s h t c ≡ Some r
  leave_is c p r w lt is refuses same = ap (command_refusal s h t) same ∙ before_end s t (leave_refusal (wish s h p)) r lt (ap leave_refusal is ∙ refuses)

  not_entered_from : (c : Command) → command_refusal s h t c ≡ Some refusal.NotEntered → (t < s.ends) × (p : ℕ) × (wish s h p ≡ Absent) × ((c ≡ Pause p) ⊎ (c ≡ Leave p))
  not_entered_from (Enter q) is = absurd (never_of s h t (Enter q) refusal.NotEntered refl is)
  not_entered_from (Pause q) is = let both = pause_for q refusal.NotEntered (λ never. cc) is in (both.0, q, both.1, inl refl)
  not_entered_from (Leave q) is = let both = leave_for q refusal.NotEntered (λ never. cc) is in (both.0, q, both.1, inr refl)
  not_entered_from (Act q number a) is = absurd (never_of s h t (Act q number a) refusal.NotEntered refl is)
  not_entered_from Tick is = absurd (never_of s h t Tick refusal.NotEntered refl is)

  already_in_from : (c : Command) → command_refusal s h t c ≡ Some refusal.AlreadyIn → (t < s.ends) × (p : ℕ) × (wish s h p ≡ In) × (c ≡ Enter p)
  already_in_from (Enter q) is = let both = enter_for q refusal.AlreadyIn (λ never. cc) is in (both.0, q, both.1, refl)
  already_in_from (Pause q) is = absurd (never_of s h t (Pause q) refusal.AlreadyIn refl is)
  already_in_from (Leave q) is = absurd (never_of s h t (Leave q) refusal.AlreadyIn refl is)
  already_in_from (Act q number a) is = absurd (never_of s h t (Act q number a) refusal.AlreadyIn refl is)
  already_in_from Tick is = absurd (never_of s h t Tick refusal.AlreadyIn refl is)

  already_paused_from : (c : Command) → command_refusal s h t c ≡ Some refusal.AlreadyPaused → (t < s.ends) × (p : ℕ) × (wish s h p ≡ Paused) × (c ≡ Pause p)
  already_paused_from (Enter q) is = absurd (never_of s h t (Enter q) refusal.AlreadyPaused refl is)
  already_paused_from (Pause q) is = let both = pause_for q refusal.AlreadyPaused (λ never. cc) is in (both.0, q, both.1, refl)
  already_paused_from (Leave q) is = absurd (never_of s h t (Leave q) refusal.AlreadyPaused refl is)
  already_paused_from (Act q number a) is = absurd (never_of s h t (Act q number a) refusal.AlreadyPaused refl is)
  already_paused_from Tick is = absurd (never_of s h t Tick refusal.AlreadyPaused refl is)

  left_from : (c : Command) → command_refusal s h t c ≡ Some refusal.Left → (t < s.ends) × (p : ℕ) × (wish s h p ≡ Left) × ((c ≡ Enter p) ⊎ (c ≡ Pause p) ⊎ (c ≡ Leave p))
  left_from (Enter q) is = let both = enter_for q refusal.Left (λ never. cc) is in (both.0, q, both.1, inl refl)
  left_from (Pause q) is = let both = pause_for q refusal.Left (λ never. cc) is in (both.0, q, both.1, inr (inl refl))
  left_from (Leave q) is = let both = leave_for q refusal.Left (λ never. cc) is in (both.0, q, both.1, inr (inr refl))
  left_from (Act q number a) is = absurd (never_of s h t (Act q number a) refusal.Left refl is)
  left_from Tick is = absurd (never_of s h t Tick refusal.Left refl is)

  pub not_entered_means : (c : Command) → (command_refusal s h t c ≡ Some refusal.NotEntered) ↔ ((t < s.ends) × (p : ℕ) × (wish s h p ≡ Absent) × ((c ≡ Pause p) ⊎ (c ≡ Leave p)))
  not_entered_means c = (
    not_entered_from c,
    (λ (lt, p, w, which). ⊎_elim (pause_is c p refusal.NotEntered Absent lt w refl) (leave_is c p refusal.NotEntered Absent lt w refl) which),
  )

  pub already_in_means : (c : Command) → (command_refusal s h t c ≡ Some refusal.AlreadyIn) ↔ ((t < s.ends) × (p : ℕ) × (wish s h p ≡ In) × (c ≡ Enter p))
  already_in_means c = (already_in_from c, λ (lt, p, w, which). enter_is c p refusal.AlreadyIn In lt w refl which)

  pub already_paused_means : (c : Command) → (command_refusal s h t c ≡ Some refusal.AlreadyPaused) ↔ ((t < s.ends) × (p : ℕ) × (wish s h p ≡ Paused) × (c ≡ Pause p))
  already_paused_means c = (already_paused_from c, λ (lt, p, w, which). pause_is c p refusal.AlreadyPaused Paused lt w refl which)

  pub left_means : (c : Command) → (command_refusal s h t c ≡ Some refusal.Left) ↔ ((t < s.ends) × (p : ℕ) × (wish s h p ≡ Left) × ((c ≡ Enter p) ⊎ (c ≡ Pause p) ⊎ (c ≡ Leave p)))
  left_means c = (
    left_from c,
    (λ (lt, p, w, which).
        ⊎_elim
        (enter_is c p refusal.Left Left lt w refl)
        (⊎_elim (pause_is c p refusal.Left Left lt w refl) (leave_is c p refusal.Left Left lt w refl))
        which),
  )

-- by the game

room_from : (x : Result (Unit {0}) ActRefusal) (r : ActRefusal) → refused_by x ≡ Some (refusal.Act r) → x ≡ Err r
room_from (Ok u) r is = cc
room_from (Err q) r is = let same : q ≡ r = cc in ap Err same

module _ (s : Setup) (h : History) (t : ℕ) (r : ActRefusal) where
  act_from : (p number : ℕ) (a : Action) → command_refusal s h t (Act p number a) ≡ Some (refusal.Act r) → IsRefusedByGame s h t (Act p number a) r
  act_from p number a is = by_game (game_at s h number) refl is
    where
      by_side : (g : Begun) (x : Option Colour) → game_at s h number ≡ Some g → side_of g.header p ≡ x → side_refusal h g x a t ≡ Some (refusal.Act r) → IsRefusedByGame s h t (Act p number a) r
      by_side g None at sits is = cc
      by_side g (Some side) at sits is =
          record { player = p; number = number; action = a; game = g; side = side; acts = refl; begun = at; plays = sits; refuses = room_from (room.allowed g.header (events h g) side a t) r is }

      by_game : (o : Option Begun) → game_at s h number ≡ o → act_refusal h p o a t ≡ Some (refusal.Act r) → IsRefusedByGame s h t (Act p number a) r
      by_game None at is = cc
      by_game (Some g) at is = by_side g (side_of g.header p) at refl is

  act_means_from : (c : Command) → command_refusal s h t c ≡ Some (refusal.Act r) → IsRefusedByGame s h t c r
  act_means_from (Enter q) is = absurd (never_of s h t (Enter q) (refusal.Act r) refl is)
  act_means_from (Pause q) is = absurd (never_of s h t (Pause q) (refusal.Act r) refl is)
  act_means_from (Leave q) is = absurd (never_of s h t (Leave q) (refusal.Act r) refl is)
  act_means_from (Act q number a) is = act_from q number a is
  act_means_from Tick is = absurd (never_of s h t Tick (refusal.Act r) refl is)

  pub act_means : (c : Command) → (command_refusal s h t c ≡ Some (refusal.Act r)) ↔ IsRefusedByGame s h t c r
  act_means c = (
    act_means_from c,
    (λ (x : IsRefusedByGame s h t c r).
        ap (command_refusal s h t) x.acts ∙ (
        ap (λ o. act_refusal h x.player o x.action t) x.begun ∙ (ap (λ side. side_refusal h x.game side x.action t) x.plays ∙ ap refused_by x.refuses)
        )),
  )

-- since nothing is due

none_any : {X : Type 0} (p : X → Bool) (xs : List X) → list_any p xs ≡ false → AllByRecursion (λ x. p x ≡ false) xs
none_any p [] off = tt
none_any p (x ∷ xs) off =
    ⊎_elim
    (λ (on : p x ≡ true). let never : true ≡ false = ap (λ b. b || list_any p xs) (sym on) ∙ off in cc)
    (λ (here : p x ≡ false). (here, none_any p xs (ap (λ b. b || list_any p xs) (sym here) ∙ off)))
    (cases_Bool (p x))

look_from : (due : Bool) → cond due None (Some refusal.NothingDue) ≡ Some refusal.NothingDue → due ≡ false
look_from true is = cc
look_from false is = refl

nothing_due_from : (s : Setup) (h : History) (t : ℕ) (c : Command) → command_refusal s h t c ≡ Some refusal.NothingDue → (c ≡ Tick) × All (λ (g : Begun). game_due h t g ≡ false) (running s h)
unfolding some_due
nothing_due_from s h t (Enter q) is = absurd (never_of s h t (Enter q) refusal.NothingDue refl is)
nothing_due_from s h t (Pause q) is = absurd (never_of s h t (Pause q) refusal.NothingDue refl is)
nothing_due_from s h t (Leave q) is = absurd (never_of s h t (Leave q) refusal.NothingDue refl is)
nothing_due_from s h t (Act q number a) is = absurd (never_of s h t (Act q number a) refusal.NothingDue refl is)
nothing_due_from s h t Tick is = (refl, none_due (look_from (some_due s h t) is))
  where
    none_due : some_due s h t ≡ false → All (λ (g : Begun). game_due h t g ≡ false) (running s h)
    none_due off = All-from_recursion (λ (g : Begun). game_due h t g ≡ false) (running s h) (none_any (game_due h t) (running s h) off)

pub nothing_due_means : (s : Setup) (h : History) (t : ℕ) (c : Command) → (command_refusal s h t c ≡ Some refusal.NothingDue) ↔ ((c ≡ Tick) × All (λ (g : Begun). game_due h t g ≡ false) (running s h))
unfolding some_due
nothing_due_means s h t c = (
  nothing_due_from s h t c,
  (λ both. ap (command_refusal s h t) both.0 ∙ ap (λ b. cond b None (Some refusal.NothingDue)) (list_any_none (game_due h t) (running s h) both.1)),
)

-- and a look ends a game where something is

some_left : {X : Type 0} (p : X → Bool) (xs : List X) → list_any p xs ≡ true → filter p xs ≢ []
some_left p [] on = λ none. cc
some_left p (x ∷ xs) on = by (p x) on (some_left p xs)
  where
    by : (b : Bool) → (b || list_any p xs) ≡ true → (list_any p xs ≡ true → filter p xs ≢ []) → cond b (x ∷ filter p xs) (filter p xs) ≢ []
    by true on rest = λ none. cc
    by false on rest = rest on

none_left : {X : Type 0} (p : X → Bool) (xs : List X) → list_any p xs ≡ false → filter p xs ≡ []
none_left p [] off = refl
none_left p (x ∷ xs) off = by (p x) off (none_left p xs)
  where
    by : (b : Bool) → (b || list_any p xs) ≡ false → (list_any p xs ≡ false → filter p xs ≡ []) → cond b (x ∷ filter p xs) (filter p xs) ≡ []
    by true off rest = cc
    by false off rest = rest off

map_none : {X Y : Type 0} (f : X → Y) (xs : List X) → map f xs ≡ [] → xs ≡ []
map_none f [] none = refl
map_none f (x ∷ xs) none = cc

pub looks_end_games : LawsOfHistories → (s : Setup) (es : List Entry) (e : Entry) → e.what ≡ what.Tick → (command_refusal s (history s es) e.stamp Tick ≡ None) ↔ (ended_by s (history s es) e ≢ [])
unfolding some_due
looks_end_games known s es e is =
    let h = history s es in
    let ended : map (λ (x : EndedGame). x.game) (ended_by s h e) ≡ filter (game_due h e.stamp) (running s h) = known.by_look s es e is in (
      (λ granted none. some_left (game_due h e.stamp) (running s h) (due_from (list_any (game_due h e.stamp) (running s h)) granted) (sym ended ∙ ap (map (λ (x : EndedGame). x.game)) none)),
      (λ some.
          ⊎_elim
          (λ (on : list_any (game_due h e.stamp) (running s h) ≡ true). ap (λ b. cond b None (Some refusal.NothingDue)) on)
          (λ (off : list_any (game_due h e.stamp) (running s h) ≡ false).
          absurd (some (map_none (λ (x : EndedGame). x.game) (ended_by s h e) (ended ∙ none_left (game_due h e.stamp) (running s h) off))))
          (cases_Bool (list_any (game_due h e.stamp) (running s h)))),
    )
  where
    due_from : (due : Bool) → ◌≡◌ {A = Option Refusal} (cond due None (Some refusal.NothingDue)) None → due ≡ true
    due_from true granted = refl
    due_from false granted = cc

-- a command's own refusals come first

own_from : (es : List Entry) (o : Option Refusal) (r : Refusal) → r ≢ refusal.Full → or_full es o ≡ Some r → o ≡ Some r
own_from es (Some x) r other is = is
own_from es None r other is = by (nat_le max_entries (length es)) is
  where
    by : (full : Bool) → cond full (Some refusal.Full) None ≡ Some r → None ≡ Some r
    by true is = let same : r ≡ refusal.Full = cc in absurd (other same)
    by false is = is

pub own_come_first : (s : Setup) (h : History) (t : ℕ) (c : Command) (r : Refusal) → r ≢ refusal.Full → (verdict s h t c ≡ Some r) ↔ (command_refusal s h t c ≡ Some r)
unfolding verdict
own_come_first s h t c r other = (own_from h.entries (command_refusal s h t c) r other, λ is. ap (or_full h.entries) is)
