-- The route table as the rows of a router, in the order in which it keeps them.
use Rattle.std.specs.Prelude.{ℕ, List, [], ◌∷◌, ◌++◌, codes}
use Rattle.matchit.specs.Rows.{RowsOf, param_token}
use Rattle.matchit.specs.Router.{RouteOf}
use Rattle.api.specs.declared.resource.Resource.{Resource}
use Rattle.api.specs.declared.resource.Resource.TheVariants.{Arena, Standing, Teams, Game, Journal, Own}
use Rattle.api.specs.declared.resource.OwnResource.TheVariants.{Me, Enter, Pause, Leave, Move, Draw, Resign, Claim, Berserk}

-- a route with these tokens, this text, these places of names and this row
abbrev pub routed : List ℕ → List ℕ → List (ℕ × ℕ) → Resource → List ℕ × RouteOf Resource
routed tokens text names value = (tokens, record { pattern = tokens; text = text; names = names; value = value })

-- a route without a parameter
abbrev pub plain : List ℕ → Resource → List ℕ × RouteOf Resource
plain text value = routed text text [] value

-- a parameter among the tokens
abbrev pub any : List ℕ
any = param_token ∷ []

unfoldable pub table : RowsOf (RouteOf Resource)
table =
    plain (codes "/api/arena") Arena
    ∷ plain (codes "/api/enter") (Own Enter)
    ∷ routed (codes "/api/game/" ++ any ++ codes "/berserk") (codes "/api/game/{id}/berserk") ((11, 13) ∷ []) (Own Berserk)
    ∷ routed (codes "/api/game/" ++ any ++ codes "/claim") (codes "/api/game/{id}/claim") ((11, 13) ∷ []) (Own Claim)
    ∷ routed (codes "/api/game/" ++ any ++ codes "/draw/" ++ any) (codes "/api/game/{id}/draw/{word}") ((11, 13) ∷ (21, 25) ∷ []) (Own Draw)
    ∷ routed (codes "/api/game/" ++ any ++ codes "/move/" ++ any) (codes "/api/game/{id}/move/{uci}") ((11, 13) ∷ (21, 24) ∷ []) (Own Move)
    ∷ routed (codes "/api/game/" ++ any ++ codes "/resign") (codes "/api/game/{id}/resign") ((11, 13) ∷ []) (Own Resign)
    ∷ routed (codes "/api/game/" ++ any) (codes "/api/game/{id}") ((11, 13) ∷ []) Game
    ∷ routed (codes "/api/journal/" ++ any) (codes "/api/journal/{from}") ((14, 18) ∷ []) Journal
    ∷ plain (codes "/api/leave") (Own Leave)
    ∷ plain (codes "/api/me") (Own Me)
    ∷ plain (codes "/api/pause") (Own Pause)
    ∷ routed (codes "/api/standing/" ++ any) (codes "/api/standing/{page}") ((15, 19) ∷ []) Standing
    ∷ plain (codes "/api/teams") Teams
    ∷ []
