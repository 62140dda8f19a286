-- What a request asks for: the call of its row, or its first error.
use Rattle.std.specs.Prelude.{ℕ, nat_le, ◌&&◌, Bool, if◌then◌else◌, List, codes, Option, Some, None, Result, Ok, Err}
use Rattle.std.specs.List.{list_all}
use Rattle.std.specs.Option.{option_map}
use Rattle.std.specs.Str.{bytes_eq}
use Rattle.decimals.specs.Decimals.{number_of}
use Rattle.board.specs.Reading.{move_in}
use Rattle.entries.specs.declared.action.Action.{Action}
use Rattle.entries.specs.declared.action.Action.TheVariants as action
use Rattle.arena_rules.specs.declared.command.Command.{Command}
use Rattle.arena_rules.specs.declared.command.Command.TheVariants as command
use Rattle.arena_rules.specs.declared.query.Query.{Query}
use Rattle.arena_rules.specs.declared.query.Query.TheVariants as query
use Rattle.http_lines.specs.declared.request.RequestHead.{RequestHead}
use Rattle.http_lines.specs.declared.response.Extra.TheVariants.{AllowGet, AllowPost}
use Rattle.setup_file.specs.Members.{◌>>=◌, place_of}
use Rattle.api.specs.declared.call.Call.{Call}
use Rattle.api.specs.declared.call.Call.TheVariants as call
use Rattle.api.specs.declared.error.ApiError.{ApiError}
use Rattle.api.specs.declared.error.ApiError.TheVariants.{NoRoute, BadMethod, NoKey, UnknownKey, BadParam}
use Rattle.api.specs.declared.resource.Method.{Method}
use Rattle.api.specs.declared.resource.Method.TheVariants.{Get, Post}
use Rattle.api.specs.declared.resource.Resource.{Resource}
use Rattle.api.specs.declared.resource.Resource.TheVariants.{Arena, Standing, Teams, Game, Journal, Own}
use Rattle.api.specs.declared.resource.OwnResource.{OwnResource}
use Rattle.api.specs.declared.resource.OwnResource.TheVariants.{Me, Enter, Pause, Leave, Move, Draw, Resign, Claim, Berserk}
use Rattle.api.specs.Paths.{resource_of, parameter_at, game_part, last_part}

-- a byte that may stand in a path: above the space and below 127
abbrev pub is_visible : ℕ → Bool
is_visible b = nat_le 33 b && nat_le b 126

-- a value, or an error in its place
abbrev pub or_error : {A : Type 0} → ApiError → Option A → Result A ApiError
or_error e None = Err e
or_error e (Some x) = Ok x

-- the row of a path
unfoldable pub found : List ℕ → Result Resource ApiError
found path = if list_all is_visible path then or_error NoRoute (resource_of path) else Err NoRoute

-- the method of a row about the caller himself
abbrev pub own_method : OwnResource → Method
own_method Me = Get
own_method Enter = Post
own_method Pause = Post
own_method Leave = Post
own_method Move = Post
own_method Draw = Post
own_method Resign = Post
own_method Claim = Post
own_method Berserk = Post

-- the method of a row
abbrev pub method_of : Resource → Method
method_of Arena = Get
method_of Standing = Get
method_of Teams = Get
method_of Game = Get
method_of Journal = Get
method_of (Own own) = own_method own

-- a row of this method is asked for by this word
unfoldable pub checked : Method → List ℕ → Result (Unit {0}) ApiError
checked Get word = if bytes_eq word (codes "GET") then Ok tt else Err (BadMethod AllowGet)
checked Post word = if bytes_eq word (codes "POST") then Ok tt else Err (BadMethod AllowPost)

-- the player who has the key that was sent
unfoldable pub caller : List (List ℕ) → Option (List ℕ) → Result ℕ ApiError
caller keys None = Err NoKey
caller keys (Some key) = or_error UnknownKey (place_of keys key)

-- the number that the word says, up to a greatest one
abbrev pub at_most : ℕ → Option ℕ → Result ℕ ApiError
at_most most None = Err BadParam
at_most most (Some n) = if nat_le n most then Ok n else Err BadParam

-- the number that the word says, up to a greatest one
unfoldable pub number_up_to : ℕ → List ℕ → Result ℕ ApiError
number_up_to most word = at_most most (number_of word)

-- the game of a path
unfoldable pub game_in : List ℕ → Result ℕ ApiError
game_in path = number_up_to 4294967295 (game_part path)

-- what a word says of a draw
unfoldable pub draw_action : List ℕ → Result Action ApiError
draw_action word =
    if bytes_eq word (codes "offer") then Ok action.Offer
    else if bytes_eq word (codes "accept") then Ok action.Accept
    else if bytes_eq word (codes "decline") then Ok action.Decline
    else Err BadParam

-- the move that a word names
unfoldable pub move_action : List ℕ → Result Action ApiError
move_action word = or_error BadParam (option_map action.Move (move_in word))

-- the action of a player in the game of a path
unfoldable pub acting : ℕ → List ℕ → Result Action ApiError → Result Call ApiError
acting p path given = do
  game ← game_in path
  a ← given
  Ok (call.Command (command.Act p game a))

-- the call of a player on a row about himself
unfoldable pub own_call : ℕ → List ℕ → OwnResource → Result Call ApiError
own_call p path Me = Ok (call.Query (query.Me p))
own_call p path Enter = Ok (call.Command (command.Enter p))
own_call p path Pause = Ok (call.Command (command.Pause p))
own_call p path Leave = Ok (call.Command (command.Leave p))
own_call p path Move = acting p path (move_action (last_part path))
own_call p path Draw = acting p path (draw_action (last_part path))
own_call p path Resign = acting p path (Ok action.Resign)
own_call p path Claim = acting p path (Ok action.Claim)
own_call p path Berserk = acting p path (Ok action.Berserk)

-- the call on a row, by whoever has the key where one is needed
unfoldable pub called : List (List ℕ) → RequestHead → Resource → Result Call ApiError
called keys head Arena = Ok (call.Query query.Arena)
called keys head Standing = do
  page ← number_up_to 999 (parameter_at 14 head.path)
  Ok (call.Query (query.Standing page))
called keys head Teams = Ok (call.Query query.Teams)
called keys head Game = do
  game ← game_in head.path
  Ok (call.Query (query.Game game))
called keys head Journal = do
  from ← number_up_to 8000000 (parameter_at 13 head.path)
  Ok (call.Query (query.Journal from))
called keys head (Own own) = do
  p ← caller keys head.bearer
  own_call p head.path own

-- the call of a request, or the first of its errors: no row has the path, the row has another method, a key is needed and was
-- not sent or is nobody's, or a parameter is out of form or range
unfoldable pub call_of : List (List ℕ) → RequestHead → Result Call ApiError
call_of keys head = do
  resource ← found head.path
  allowed ← checked (method_of resource) head.method
  called keys head resource
