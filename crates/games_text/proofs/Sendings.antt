-- The moves of a game of a legal list are the first ones that were sent to it.
use Rattle.std.proofs.Common.{◌≡◌, ℕ, ◌+◌, ◌-◌, ◌<◌, ◌≤◌, ⊎_elim, List, [], ◌∷◌, ◌++◌, length, take, Option, Some, None, Bool, true, false, Ok, refl, sym, ap, ◌∙◌, subst, arith, append_assoc, length-append}
use Rattle.std.specs.Prelude.{slice_get, cond, ◌==◌, is_some, is_none, nat_le}
use Rattle.std.specs.List.{filter_map, cons_option, flat_map, AllByRecursion}
use Rattle.std.specs.Option.{option_map}
use Rattle.std.proofs.lemmas.Bool.{cases_lt, eqb-true}
use Rattle.std.proofs.lemmas.List.{append-nil, take-append-le, take_all}
use Rattle.std.proofs.lemmas.Grind.{flat_map-append}
use Rattle.board.specs.declared.piece.Colour.{Colour}
use Rattle.board.specs.declared.piece.Colour.TheVariants.{White, Black}
use Rattle.board.specs.Moves.{MoveWord}
use Rattle.entries.specs.declared.action.Action.{Action}
use Rattle.entries.specs.declared.action.Action.TheVariants as action
use Rattle.entries.specs.declared.setup.Setup.{Setup}
use Rattle.entries.specs.declared.journal.Entry.{Entry}
use Rattle.entries.specs.declared.journal.What.{What}
use Rattle.entries.specs.declared.journal.What.TheVariants as what
use Rattle.game_room.specs.declared.header.Header.{Header}
use Rattle.game_room.specs.declared.outcome.Outcome.{Outcome}
use Rattle.game_room.specs.declared.refusal.ActRefusal.{ActRefusal}
use Rattle.game_room.specs.declared.refusal.ActRefusal.TheVariants as refused
use Rattle.game_room.specs.Events.{Event, act_of, tick_at, Acted, Ticked}
use Rattle.game_room.specs.Laws.{OutcomesTell}
use Rattle.game_room.specs.Refusals.{own_refusal, refusal}
use Rattle.game_room.specs.Games.{Game, standing_of, standing, game, moves, allowed, allowed_unless, settled, moved, after_event, after_due, after_action}
use Rattle.game_room.proofs.Cases.{StepCase, WasOver, WasDue, Looked, Refused, Did, step_case}
use Rattle.game_room.proofs.Steps.{game-push}
use Rattle.arena_history.specs.History.{History}
use Rattle.arena_history.specs.GameLaws.{IsGameOf, games_begun_by, GamesWithOneMore, EventsWithOneMore, NewGames}
use Rattle.arena_history.specs.Games.{Begun, begun, side_of, event_in, events, outcome_of}
use Rattle.arena_history.specs.Waves.{history}
use Rattle.arena_history.proofs.Lists.{all_at, slice_get-append_left, slice_get-append_right, slice_get_within}
use Rattle.arena_rules.specs.declared.command.Command.TheVariants as command
use Rattle.arena_rules.specs.declared.refusal.Refusal.{Refusal}
use Rattle.arena_rules.specs.Legal.{IsLegal, Allowed, AllowsWhat, IsGranted}
use Rattle.arena_rules.specs.Verdicts.{verdict, or_full, act_refusal, side_refusal, refused_by, game_at}
use Rattle.arena_rules.proofs.Legality.{legal_induction}
use Rattle.arena_rules.proofs.Timed.{no_game}
use Rattle.games_text.specs.Sent.{move_of, sent_in, sent, MovesWereSent}

-- what was sent to a game are its moves and, where it has ended, perhaps more
record Follows (g : Game) (all : List MoveWord) : Type 0 where
  pub rest : List MoveWord
  pub whole : all ≡ g.moves ++ rest
  pub going : g.outcome ≡ None → rest ≡ []

-- an action is allowed in a game
abbrev Allows : Header → Game → Colour → Action → ℕ → Type 0
Allows h g side a t = refusal (standing_of h g) side a t ≡ None

follows_due : (h : Header) (g : Game) (all more : List MoveWord) (t : ℕ) → Follows g all → Follows (after_due h g t) (all ++ more)
unfolding settled
follows_due h g all more t f = record { rest = f.rest ++ more; whole = ap (λ l. l ++ more) f.whole ∙ append_assoc g.moves f.rest more; going = λ none. cc }

-- one move more, or none
more : (ms all rest ns : List MoveWord) → all ≡ ms ++ rest → rest ≡ [] → all ++ ns ≡ (ms ++ ns) ++ []
more ms all rest ns whole none = ap (λ l. l ++ ns) (whole ∙ ap (λ r. ms ++ r) none ∙ append-nil ms) ∙ sym (append-nil (ms ++ ns))

none_more : (ms all rest : List MoveWord) → all ≡ ms ++ rest → rest ≡ [] → all ++ [] ≡ ms ++ []
none_more ms all rest whole none = append-nil all ∙ (whole ∙ ap (λ r. ms ++ r) none)

follows_action : (h : Header) (g : Game) (all : List MoveWord) (side : Colour) (a : Action) (t : ℕ) → g.outcome ≡ None → Follows g all → Follows (after_action h g side a t) (all ++ move_of a)
unfolding settled moved
follows_action h g all side (action.Move m) t going f = record { rest = []; whole = more g.moves all f.rest (m ∷ []) f.whole (f.going going); going = λ none. refl }
follows_action h g all side action.Resign t going f = record { rest = []; whole = none_more g.moves all f.rest f.whole (f.going going); going = λ none. refl }
follows_action h g all White action.Offer t going f = record { rest = []; whole = none_more g.moves all f.rest f.whole (f.going going); going = λ none. refl }
follows_action h g all Black action.Offer t going f = record { rest = []; whole = none_more g.moves all f.rest f.whole (f.going going); going = λ none. refl }
follows_action h g all side action.Accept t going f = record { rest = []; whole = none_more g.moves all f.rest f.whole (f.going going); going = λ none. refl }
follows_action h g all side action.Decline t going f = record { rest = []; whole = none_more g.moves all f.rest f.whole (f.going going); going = λ none. refl }
follows_action h g all side action.Claim t going f = record { rest = []; whole = none_more g.moves all f.rest f.whole (f.going going); going = λ none. refl }
follows_action h g all side action.Berserk t going f = record { rest = []; whole = none_more g.moves all f.rest f.whole (f.going going); going = λ none. refl }

-- the event is no action
deed_apart : (side : Colour) (a : Action) (x y : Event) → x ≡ y → x.deed ≡ Ticked → y.deed ≡ Acted side a → ⊥
deed_apart side a x y same looked acted = let d = ap (λ (e : Event). e.deed) same in cc

look_case : (h : Header) (g : Game) (all : List MoveWord) (t : ℕ) → StepCase h g (tick_at t) → Follows g all → Follows (after_event h g (tick_at t)) all
look_case h g all t (WasOver o over same) f = subst (λ k. Follows k all) (sym same) f
look_case h g all t (WasDue going due same) f = subst (λ k. Follows k all) (sym same) (subst (Follows (after_due h g t)) (append-nil all) (follows_due h g all [] t f))
look_case h g all t (Looked going due look same) f = subst (λ k. Follows k all) (sym same) f
look_case h g all t (Refused side a r going due act is same) f = absurd (deed_apart side a (tick_at t) (act_of side a t) act refl refl)
look_case h g all t (Did side a going due act is same) f = absurd (deed_apart side a (tick_at t) (act_of side a t) act refl refl)

over_refuses : (o : Option Outcome) (x : Outcome) (later : Option ActRefusal) → o ≡ Some x → cond (is_some o) (Some refused.Over) later ≡ None → ⊥
over_refuses None x later is none = cc
over_refuses (Some y) x later is none = cc

own_of : (o : Option Outcome) (d : Bool) (own : Option ActRefusal) → o ≡ None → d ≡ false → cond (is_some o) (Some refused.Over) (cond d None own) ≡ None → own ≡ None
own_of None false own going due none = none
own_of None true own going due none = cc
own_of (Some o) d own going due none = cc

refused_here : (r : ActRefusal) (own : Option ActRefusal) → own ≡ Some r → own ≡ None → ⊥
refused_here r own is none = cc

act_case : (h : Header) (g : Game) (all : List MoveWord) (side : Colour) (a : Action) (t : ℕ) → Allows h g side a t → StepCase h g (act_of side a t) → Follows g all → Follows (after_event h g (act_of side a t)) (all ++ move_of a)
unfolding refusal standing_of
act_case h g all side a t ok (WasOver o over same) f = absurd (over_refuses g.outcome o _ over ok)
act_case h g all side a t ok (WasDue going due same) f = subst (λ k. Follows k (all ++ move_of a)) (sym same) (follows_due h g all (move_of a) t f)
act_case h g all side a t ok (Looked going due look same) f = absurd (deed_apart side a (tick_at t) (act_of side a t) (λ i. record { stamp = t; deed = sym look i }) refl refl)
act_case h g all side a t ok (Refused by b r going due act is same) f =
    let d : Acted side a ≡ Acted by b = ap (λ (e : Event). e.deed) act in
    let side_is : side ≡ by = cc in
    let action_is : a ≡ b = cc in
    absurd (refused_here r (own_refusal (standing_of h g) side a) ((λ i. own_refusal (standing_of h g) (side_is i) (action_is i)) ∙ is) (own_of g.outcome _ _ going due ok))
act_case h g all side a t ok (Did by b going due act is same) f =
    let d : Acted side a ≡ Acted by b = ap (λ (e : Event). e.deed) act in
    let action_is : a ≡ b = cc in
    subst (λ k. Follows k (all ++ move_of a)) (sym same) (subst (λ x. Follows (after_action h g by b t) (all ++ move_of x)) (sym action_is) (follows_action h g all by b t going f))

none_sent : (xs : List Event) (h : Header) (all : List MoveWord) → Follows (game h xs) all → Follows (game h (xs ++ [])) (all ++ [])
none_sent xs h all f = subst (λ (l : List Event). Follows (game h l) (all ++ [])) (sym (append-nil xs)) (subst (Follows (game h xs)) (sym (append-nil all)) f)

-- the side of a player whose action is allowed
record Acts (h : Header) (g : Game) (o : Option Colour) (a : Action) (t : ℕ) : Type 0 where
  pub side : Colour
  pub his : o ≡ Some side
  pub ok : Allows h g side a t

act_by : (h : Header) (xs : List Event) (all : List MoveWord) (b : Bool) (o : Option Colour) (a : Action) (t : ℕ) → (b ≡ true → Acts h (game h xs) o a t) → Follows (game h xs) all
    → Follows (game h (xs ++ cons_option (cond b (option_map (λ side. act_of side a t) o) None) [])) (all ++ cond b (move_of a) [])
act_by h xs all false o a t acts f = none_sent xs h all f
act_by h xs all true o a t acts f =
    let x = acts refl in
    subst (λ (k : Option Colour). Follows (game h (xs ++ cons_option (option_map (λ side. act_of side a t) k) [])) (all ++ move_of a)) (sym x.his)
    (subst (λ k. Follows k (all ++ move_of a)) (sym (game-push h xs (act_of x.side a t))) (act_case h (game h xs) all x.side a t x.ok (step_case h (game h xs) (act_of x.side a t)) f))

-- what a granted action tells: its game was begun, its player plays it, and the game allows it
record IsPlayed (h : History) (p : ℕ) (o : Option Begun) (a : Action) (t : ℕ) : Type 0 where
  pub game : Begun
  pub known : o ≡ Some game
  pub side : Colour
  pub his : side_of game.header p ≡ Some side
  pub ok : allowed game.header (events h game) side a t ≡ Ok tt

unfull : (es : List Entry) (r : Option Refusal) → or_full es r ≡ None → r ≡ None
unfull es None none = refl
unfull es (Some r) none = cc

by_game : (h : History) (p : ℕ) (g : Begun) (a : Action) (t : ℕ) (side : Colour) (r : Rattle.std.specs.Prelude.Result (Unit {0}) ActRefusal) → side_of g.header p ≡ Some side → allowed g.header (events h g) side a t ≡ r → refused_by r ≡ None → IsPlayed h p (Some g) a t
by_game h p g a t side (Ok x) his is none = record { game = g; known = refl; side = side; his = his; ok = is }
by_game h p g a t side (Rattle.std.specs.Prelude.Err r) his is none = cc

by_side : (h : History) (p : ℕ) (g : Begun) (a : Action) (t : ℕ) (o : Option Colour) → side_of g.header p ≡ o → side_refusal h g o a t ≡ None → IsPlayed h p (Some g) a t
by_side h p g a t None is none = cc
by_side h p g a t (Some side) is none = by_game h p g a t side (allowed g.header (events h g) side a t) is refl none

is_played : (h : History) (p : ℕ) (o : Option Begun) (a : Action) (t : ℕ) → act_refusal h p o a t ≡ None → IsPlayed h p o a t
is_played h p None a t none = cc
is_played h p (Some g) a t none = by_side h p g a t (side_of g.header p) refl none

granted : (s : Setup) (h : History) (t p number : ℕ) (a : Action) → IsGranted s h t (command.Act p number a) → IsPlayed h p (slice_get (begun s h) number) a t
unfolding verdict game_at
granted s h t p number a is = is_played h p (slice_get (begun s h) number) a t (unfull h.entries _ is.not_refused)

allows : (h : Header) (xs : List Event) (side : Colour) (a : Action) (t : ℕ) → allowed h xs side a t ≡ Ok tt → Allows h (game h xs) side a t
unfolding allowed standing
allows h xs side a t ok = no_refusal (refusal (standing_of h (game h xs)) side a t) ok
  where
    no_refusal : (r : Option ActRefusal) → allowed_unless r ≡ Ok tt → r ≡ None
    no_refusal None is = refl
    no_refusal (Some r) is = cc

unless : (b : Bool) (ns : List MoveWord) → (b ≡ true → ⊥) → cond b ns [] ≡ []
unless true ns never = absurd (never refl)
unless false ns never = refl

-- nothing is sent to a game that was not begun
unsent : (s : Setup) (h : History) (t n : ℕ) (w : What) → AllowsWhat s h t w → length (begun s h) ≤ n → sent_in n w ≡ []
unsent s h t n (what.Enter p) ok le = refl
unsent s h t n (what.Pause p) ok le = refl
unsent s h t n (what.Leave p) ok le = refl
unsent s h t n (what.Act p number a) ok le =
    unless (number == n) (move_of a)
    (λ is.
    let played = granted s h t p number a ok in
    let same : number ≡ n = eqb-true number n is in
    let lt = slice_get_within (begun s h) number played.game played.known in
    omega (arith, same, lt, le))
unsent s h t n what.Tick ok le = refl
unsent s h t n (what.Wave m) ok le = refl

the_same : (g k : Begun) (o : Option Begun) → o ≡ Some g → o ≡ Some k → k ≡ g
the_same g k o a b = cc

acts_in : (s : Setup) (h : History) (t p number : ℕ) (a : Action) (g : Begun) → AllowsWhat s h t (what.Act p number a) → slice_get (begun s h) g.header.id ≡ Some g → (number == g.header.id) ≡ true
    → Acts g.header (game g.header (events h g)) (side_of g.header p) a t
acts_in s h t p number a g ok of is =
    let played = granted s h t p number a ok in
    let here : slice_get (begun s h) number ≡ Some g = ap (slice_get (begun s h)) (eqb-true number g.header.id is) ∙ of in
    let same : played.game ≡ g = the_same g played.game (slice_get (begun s h) number) here played.known in
    subst (λ (k : Begun). Acts k.header (game k.header (events h k)) (side_of k.header p) a t) same
    (record { side = played.side; his = played.his; ok = allows played.game.header (events h played.game) played.side a t played.ok })

-- one entry more
what_sent : (s : Setup) (h : History) (t : ℕ) (g : Begun) (all : List MoveWord) (w : What) → AllowsWhat s h t w → slice_get (begun s h) g.header.id ≡ Some g → Follows (game g.header (events h g)) all
    → Follows (game g.header (events h g ++ cons_option (event_in g.header t w) [])) (all ++ sent_in g.header.id w)
what_sent s h t g all (what.Enter p) ok of f = none_sent (events h g) g.header all f
what_sent s h t g all (what.Pause p) ok of f = none_sent (events h g) g.header all f
what_sent s h t g all (what.Leave p) ok of f = none_sent (events h g) g.header all f
what_sent s h t g all (what.Act p number a) ok of f = act_by g.header (events h g) all (number == g.header.id) (side_of g.header p) a t (acts_in s h t p number a g ok of) f
what_sent s h t g all what.Tick ok of f =
    let k = game g.header (events h g) in
    subst (Follows (game g.header (events h g ++ tick_at t ∷ []))) (sym (append-nil all))
    (subst (λ x. Follows x all) (sym (game-push g.header (events h g) (tick_at t))) (look_case g.header k all t (step_case g.header k (tick_at t)) f))
what_sent s h t g all (what.Wave n) ok of f = none_sent (events h g) g.header all f

pub sent-push : (n : ℕ) (l : List Entry) (e : Entry) → sent n (l ++ e ∷ []) ≡ sent n l ++ sent_in n e.what
unfolding sent
sent-push n l e = flat_map-append (λ (x : Entry). sent_in n x.what) l (e ∷ []) ∙ ap (λ x. flat_map (λ (x : Entry). sent_in n x.what) l ++ x) (append-nil (sent_in n e.what))

pub none_yet : (n : ℕ) → sent n [] ≡ []
unfolding sent
none_yet n = refl

begins : (h : Header) → Follows (game h []) []
unfolding game
begins h = record { rest = []; whole = refl; going = λ none. refl }

-- what was sent to the games of a list
record Sends (s : Setup) (l : List Entry) : Type 0 where
  pub none : (n : ℕ) → length (begun s (history s l)) ≤ n → sent n l ≡ []
  pub each : (g : Begun) → IsGameOf s l g → Follows (game g.header (events (history s l) g)) (sent g.header.id l)

module _ (grown : GamesWithOneMore) (happened : EventsWithOneMore) (fresh : NewGames) where
  -- nothing was sent, with an entry more, to a game that was not begun before it
  none_more_sent : (s : Setup) (l : List Entry) (e : Entry) (n : ℕ) → Allowed s (history s l) e → Sends s l → length (begun s (history s l)) ≤ n → sent n (l ++ e ∷ []) ≡ []
  none_more_sent s l e n ok was le = sent-push n l e ∙ ((λ i. was.none n le i ++ unsent s (history s l) e.stamp n e.what ok.granted le i))

  older_sent : (s : Setup) (l : List Entry) (e : Entry) (g : Begun) → Allowed s (history s l) e → Sends s l → IsGameOf s l g → Follows (game g.header (events (history s (l ++ e ∷ [])) g)) (sent g.header.id (l ++ e ∷ []))
  older_sent s l e g ok was of =
      let h = history s l in
      subst (λ (x : List Event × List MoveWord). Follows (game g.header x.0) x.1) (λ i. (sym (happened s l e g of) i, sym (sent-push g.header.id l e) i))
      (what_sent s h e.stamp g (sent g.header.id l) e.what ok.granted of (was.each g of))

  new_sent : (s : Setup) (l : List Entry) (e : Entry) (g : Begun) (i : ℕ) → Allowed s (history s l) e → Sends s l → length (begun s (history s l)) ≤ g.header.id → slice_get (games_begun_by s l e) i ≡ Some g
      → Follows (game g.header (events (history s (l ++ e ∷ [])) g)) (sent g.header.id (l ++ e ∷ []))
  new_sent s l e g i ok was le at =
      let new = all_at (λ (k : Begun). (events (history s (l ++ e ∷ [])) k ≡ []) × (k.header.start ≡ e.stamp)) (games_begun_by s l e) i g (fresh s l e) at in
      subst (λ (x : List Event × List MoveWord). Follows (game g.header x.0) x.1) (λ i. (sym new.0 i, sym (none_more_sent s l e g.header.id ok was le) i)) (begins g.header)

  game_sent : (s : Setup) (l : List Entry) (e : Entry) → Allowed s (history s l) e → Sends s l → (g : Begun) → IsGameOf s (l ++ e ∷ []) g
      → Follows (game g.header (events (history s (l ++ e ∷ [])) g)) (sent g.header.id (l ++ e ∷ []))
  game_sent s l e ok was g of =
      let old = begun s (history s l) in
      let at : slice_get (old ++ games_begun_by s l e) g.header.id ≡ Some g = ap (λ x. slice_get x g.header.id) (sym (grown s l e)) ∙ of in
      ⊎_elim
      (λ (lt : g.header.id < length old). older_sent s l e g ok was (sym (slice_get-append_left old (games_begun_by s l e) g.header.id lt) ∙ at))
      (λ (le : length old ≤ g.header.id). new_sent s l e g (g.header.id - length old) ok was le (sym (slice_get-append_right old (games_begun_by s l e) g.header.id le) ∙ at))
      (cases_lt g.header.id (length old))

  one_more_sent : (s : Setup) (l : List Entry) (e : Entry) → Allowed s (history s l) e → Sends s l → Sends s (l ++ e ∷ [])
  one_more_sent s l e ok was = record {
    none = λ n le.
        let old = begun s (history s l) in
        let longer : length (begun s (history s (l ++ e ∷ []))) ≡ length old + length (games_begun_by s l e) = ap length (grown s l e) ∙ length-append old (games_begun_by s l e) in
        none_more_sent s l e n ok was (omega (arith, le, longer));
    each = game_sent s l e ok was;
  }

  sends : (s : Setup) (es : List Entry) → IsLegal s es → Sends s es
  sends s es legal = legal_induction s (Sends s) (record { none = λ n le. none_yet n; each = λ g of. absurd (no_game s g of) }) (λ l e is ok was. one_more_sent s l e ok was) es legal

  first_sent : (s : Setup) (es : List Entry) (g : Begun) → IsLegal s es → IsGameOf s es g → let ms = moves g.header (events (history s es) g) in ms ≡ take (length ms) (sent g.header.id es)
  unfolding moves
  first_sent s es g legal of =
      let f = (sends s es legal).each g of in
      let ms = (game g.header (events (history s es) g)).moves in
      sym (ap (take (length ms)) f.whole ∙ take-append-le (length ms) ms f.rest (omega arith) ∙ take_all (length ms) ms (omega arith))

  pub moves_were_sent : OutcomesTell → MovesWereSent
  unfolding outcome_of
  moves_were_sent tells s es g o legal of over =
      first_sent s es g legal of ∙ ap (λ n. take n (sent g.header.id es)) (sym (tells g.header (events (history s es) g) o over).plies)
