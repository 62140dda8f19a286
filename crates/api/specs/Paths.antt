-- Which path each row of the route table has, and the parameters of a path.
use Rattle.std.specs.Prelude.{ℕ, nat_eq, nat_lt, ◌==◌, ◌&&◌, Bool, true, false, if◌then◌else◌, List, [], ◌∷◌, length, drop, codes, Option, Some, None}
use Rattle.std.specs.List.{before_first, starts_with}
use Rattle.api.specs.declared.resource.Resource.{Resource}
use Rattle.api.specs.declared.resource.Resource.TheVariants.{Arena, Standing, Teams, Game, Journal, Own}
use Rattle.api.specs.declared.resource.OwnResource.{OwnResource}
use Rattle.api.specs.declared.resource.OwnResource.TheVariants.{Me, Enter, Pause, Leave, Move, Draw, Resign, Claim, Berserk}

-- a piece of a path: a text, or one or more bytes without a slash
pub data Piece : Type 0 where
  text : List ℕ → Piece
  parameter : Piece

-- the path of a row that is about the caller himself
abbrev pub own_pattern : OwnResource → List Piece
own_pattern Me = text (codes "/api/me") ∷ []
own_pattern Enter = text (codes "/api/enter") ∷ []
own_pattern Pause = text (codes "/api/pause") ∷ []
own_pattern Leave = text (codes "/api/leave") ∷ []
own_pattern Move = text (codes "/api/game/") ∷ parameter ∷ text (codes "/move/") ∷ parameter ∷ []
own_pattern Draw = text (codes "/api/game/") ∷ parameter ∷ text (codes "/draw/") ∷ parameter ∷ []
own_pattern Resign = text (codes "/api/game/") ∷ parameter ∷ text (codes "/resign") ∷ []
own_pattern Claim = text (codes "/api/game/") ∷ parameter ∷ text (codes "/claim") ∷ []
own_pattern Berserk = text (codes "/api/game/") ∷ parameter ∷ text (codes "/berserk") ∷ []

-- the path of a row
abbrev pub pattern : Resource → List Piece
pattern Arena = text (codes "/api/arena") ∷ []
pattern Standing = text (codes "/api/standing/") ∷ parameter ∷ []
pattern Teams = text (codes "/api/teams") ∷ []
pattern Game = text (codes "/api/game/") ∷ parameter ∷ []
pattern Journal = text (codes "/api/journal/") ∷ parameter ∷ []
pattern (Own own) = own_pattern own

-- all rows, by their paths
abbrev pub resources : List Resource
resources =
    Arena ∷ Own Enter
    ∷ Game ∷ Own Berserk ∷ Own Claim ∷ Own Draw ∷ Own Move ∷ Own Resign
    ∷ Journal ∷ Own Leave ∷ Own Me ∷ Own Pause ∷ Standing ∷ Teams ∷ []

-- the bytes up to the first slash
abbrev pub part : List ℕ → List ℕ
part path = before_first (λ b. b == 47) path

-- the path consists of these pieces, one after another
abbrev pub fits : List Piece → List ℕ → Bool
fits [] [] = true
fits [] (b ∷ path) = false
fits (text w ∷ pieces) path = starts_with nat_eq path w && fits pieces (drop (length w) path)
fits (parameter ∷ pieces) path = nat_lt 0 (length (part path)) && fits pieces (drop (length (part path)) path)

-- the first of these rows whose path it is
abbrev pub first_that_fits : List Resource → List ℕ → Option Resource
first_that_fits [] path = None
first_that_fits (r ∷ rest) path = if fits (pattern r) path then Some r else first_that_fits rest path

-- the row of a path, if it has one
unfoldable pub resource_of : List ℕ → Option Resource
resource_of path = first_that_fits resources path

-- what stands behind a text of so many bytes up to the next slash
abbrev pub parameter_at : ℕ → List ℕ → List ℕ
parameter_at n path = part (drop n path)

-- the game of a path, behind `/api/game/`
abbrev pub game_part : List ℕ → List ℕ
game_part path = parameter_at 10 path

-- the word at the end of a path, behind the game and `/move/` or `/draw/`
abbrev pub last_part : List ℕ → List ℕ
last_part path = parameter_at 6 (drop (length (game_part path)) (drop 10 path))
