-- The player of a call has the key that was sent, so he is a player of the setup.
use Rattle.std.proofs.Common.{◌≡◌, ℕ, ◌<◌, List, Option, Some, None, Result, Ok, Err, refl, sym, ap, ◌∙◌, subst}
use Rattle.setup_file.specs.Members.{◌>>=◌, place_of}
use Rattle.http_lines.specs.declared.request.RequestHead.{RequestHead}
use Rattle.entries.specs.declared.action.Action.{Action}
use Rattle.arena_rules.specs.declared.command.Command.TheVariants as command
use Rattle.arena_rules.specs.declared.query.Query.TheVariants as query
use Rattle.arena_rules.specs.Queries.{IsQueryOf}
use Rattle.api.specs.declared.call.Call.{Call}
use Rattle.api.specs.declared.call.Call.TheVariants as call
use Rattle.api.specs.declared.error.ApiError.{ApiError}
use Rattle.api.specs.declared.error.ApiError.TheVariants.{UnknownKey}
use Rattle.api.specs.declared.resource.Resource.{Resource}
use Rattle.api.specs.declared.resource.Resource.TheVariants.{Arena, Standing, Teams, Game, Journal, Own}
use Rattle.api.specs.declared.resource.OwnResource.{OwnResource}
use Rattle.api.specs.declared.resource.OwnResource.TheVariants.{Me, Enter, Pause, Leave, Move, Draw, Resign, Claim, Berserk}
use Rattle.api.specs.Calls.{or_error, caller, acting, own_call, called, call_of, found, checked, game_in, number_up_to, draw_action, move_action, method_of}
use Rattle.api.specs.Paths.{parameter_at, last_part}
use Rattle.host.specs.Asked.{AreKeysOfPlayers}
use Rattle.host.specs.Steps.{IsPlayers}

-- a call of one of so many players, or of nobody
abbrev IsCallOf : ℕ → Call → Type 0
IsCallOf players (call.Command c) = IsPlayers players c
IsCallOf players (call.Query q) = IsQueryOf players q

-- what a chain of two steps came to, step by step
record Chained {A B : Type 0} (first : Result A ApiError) (next : A → Result B ApiError) (b : B) : Type 0 where
  value : A
  gave : first ≡ Ok value
  came : next value ≡ Ok b

chained : {A B : Type 0} (first : Result A ApiError) (next : A → Result B ApiError) (b : B) → (first >>= next) ≡ Ok b → Chained first next b
chained (Ok a) next b is = record { value = a; gave = refl; came = is }
chained (Err e) next b is = absurd (cc)

abbrev value_or : {A : Type 0} → A → Result A ApiError → A
value_or d (Ok a) = a
value_or d (Err e) = d

same_call : (players : ℕ) (x y : Call) → ◌≡◌ {A = Result Call ApiError} (Ok x) (Ok y) → IsCallOf players x → IsCallOf players y
same_call players x y is p = subst (IsCallOf players) (ap (value_or x) is) p

player_placed : (players p : ℕ) (keys : List (List ℕ)) (key : List ℕ) (place : Option ℕ) → AreKeysOfPlayers players keys → place_of keys key ≡ place
    → or_error UnknownKey place ≡ Ok p → p < players
player_placed players p keys key None of at is = absurd (cc)
player_placed players p keys key (Some q) of at is = subst (λ k. k < players) (ap (value_or q) is) (of key q at)

player_of : (players p : ℕ) (keys : List (List ℕ)) (bearer : Option (List ℕ)) → AreKeysOfPlayers players keys → caller keys bearer ≡ Ok p → p < players
unfolding caller
player_of players p keys None of is = absurd (cc)
player_of players p keys (Some key) of is = player_placed players p keys key (place_of keys key) of refl is

act_of : (players p : ℕ) (path : List ℕ) (given : Result Action ApiError) (c : Call) → p < players → acting p path given ≡ Ok c → IsCallOf players c
unfolding acting
act_of players p path given c lt is =
    let game = chained (game_in path) _ c is in
    let action = chained given _ c game.came in
    same_call players (call.Command (command.Act p game.value action.value)) c action.came lt

own_call_of : (players p : ℕ) (path : List ℕ) (own : OwnResource) (c : Call) → p < players → own_call p path own ≡ Ok c → IsCallOf players c
unfolding own_call
own_call_of players p path Me c lt is = same_call players _ c is lt
own_call_of players p path Enter c lt is = same_call players _ c is lt
own_call_of players p path Pause c lt is = same_call players _ c is lt
own_call_of players p path Leave c lt is = same_call players _ c is lt
own_call_of players p path Move c lt is = act_of players p path _ c lt is
own_call_of players p path Draw c lt is = act_of players p path _ c lt is
own_call_of players p path Resign c lt is = act_of players p path _ c lt is
own_call_of players p path Claim c lt is = act_of players p path _ c lt is
own_call_of players p path Berserk c lt is = act_of players p path _ c lt is

called_of : (players : ℕ) (keys : List (List ℕ)) (head : RequestHead) (resource : Resource) (c : Call) → AreKeysOfPlayers players keys
    → called keys head resource ≡ Ok c → IsCallOf players c
unfolding called
called_of players keys head Arena c of is = same_call players _ c is tt
called_of players keys head Standing c of is =
    let page = chained (number_up_to 999 (parameter_at 14 head.path)) _ c is in
    same_call players (call.Query (query.Standing page.value)) c page.came tt
called_of players keys head Teams c of is = same_call players _ c is tt
called_of players keys head Game c of is =
    let game = chained (game_in head.path) _ c is in
    same_call players (call.Query (query.Game game.value)) c game.came tt
called_of players keys head Journal c of is =
    let from = chained (number_up_to 8000000 (parameter_at 13 head.path)) _ c is in
    same_call players (call.Query (query.Journal from.value)) c from.came tt
called_of players keys head (Own own) c of is =
    let p = chained (caller keys head.bearer) _ c is in
    own_call_of players p.value head.path own c (player_of players p.value keys head.bearer of p.gave) p.came

call_is_of : (players : ℕ) (keys : List (List ℕ)) (head : RequestHead) (c : Call) → AreKeysOfPlayers players keys → call_of keys head ≡ Ok c → IsCallOf players c
unfolding call_of
call_is_of players keys head c of is =
    let resource = chained (found head.path) _ c is in
    let allowed = chained (checked (method_of resource.value) head.method) _ c resource.came in
    called_of players keys head resource.value c of allowed.came

pub command_of_player : (players : ℕ) (keys : List (List ℕ)) (head : RequestHead) (c : _) → AreKeysOfPlayers players keys
    → call_of keys head ≡ Ok (call.Command c) → IsPlayers players c
command_of_player players keys head c of is = call_is_of players keys head (call.Command c) of is

pub question_of_player : (players : ℕ) (keys : List (List ℕ)) (head : RequestHead) (q : _) → AreKeysOfPlayers players keys
    → call_of keys head ≡ Ok (call.Query q) → IsQueryOf players q
question_of_player players keys head q of is = call_is_of players keys head (call.Query q) of is
