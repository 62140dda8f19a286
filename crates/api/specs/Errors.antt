-- The errors: their status, what stands beside it, and their names.
use Rattle.std.specs.Prelude.{ℕ, List, [], codes}
use Rattle.game_room.specs.declared.refusal.ActRefusal.{ActRefusal}
use Rattle.game_room.specs.declared.refusal.ActRefusal.TheVariants as act
use Rattle.arena_rules.specs.declared.refusal.Refusal.{Refusal}
use Rattle.arena_rules.specs.declared.refusal.Refusal.TheVariants as refusal
use Rattle.http_lines.specs.declared.response.Extra.{Extra}
use Rattle.http_lines.specs.declared.response.Extra.TheVariants.{Plain, Challenge}
use Rattle.api.specs.declared.error.ApiError.{ApiError}
use Rattle.api.specs.declared.error.ApiError.TheVariants as error

-- the status of what a game refuses: an illegal move is a bad request, and all else does not agree with how the game stands
abbrev pub act_status : ActRefusal → ℕ
act_status act.Over = 409
act_status act.NotYourTurn = 409
act_status act.Illegal = 400
act_status act.OfferStands = 409
act_status act.NoOffer = 409
act_status act.NoClaim = 409
act_status act.BerserkLate = 409
act_status act.BerserkTwice = 409
act_status act.BerserkZero = 409

-- the status of a refusal
abbrev pub refusal_status : Refusal → ℕ
refusal_status refusal.NotEntered = 409
refusal_status refusal.AlreadyIn = 409
refusal_status refusal.AlreadyPaused = 409
refusal_status refusal.Left = 409
refusal_status refusal.Closed = 409
refusal_status refusal.NoGame = 404
refusal_status refusal.NotYours = 403
refusal_status (refusal.Act r) = act_status r
refusal_status refusal.NothingDue = 409
refusal_status refusal.Full = 503

-- the status of an error
abbrev pub status_of : ApiError → ℕ
status_of error.NoRoute = 404
status_of (error.BadMethod allow) = 405
status_of error.NoKey = 401
status_of error.UnknownKey = 401
status_of error.BadParam = 400
status_of error.NoGame = 404
status_of (error.Refused r) = refusal_status r
status_of error.BadHead = 400
status_of error.HeadTooLong = 431
status_of error.BodyTooLong = 413
status_of error.BadLength = 400
status_of error.NotSupported = 501

-- the field that an error has beside those of each response
abbrev pub extra_of : ApiError → Extra
extra_of error.NoRoute = Plain
extra_of (error.BadMethod allow) = allow
extra_of error.NoKey = Challenge
extra_of error.UnknownKey = Challenge
extra_of error.BadParam = Plain
extra_of error.NoGame = Plain
extra_of (error.Refused r) = Plain
extra_of error.BadHead = Plain
extra_of error.HeadTooLong = Plain
extra_of error.BodyTooLong = Plain
extra_of error.BadLength = Plain
extra_of error.NotSupported = Plain

-- the name of what a game refuses
abbrev pub act_name : ActRefusal → List ℕ
act_name act.Over = codes "Over"
act_name act.NotYourTurn = codes "NotYourTurn"
act_name act.Illegal = codes "Illegal"
act_name act.OfferStands = codes "OfferStands"
act_name act.NoOffer = codes "NoOffer"
act_name act.NoClaim = codes "NoClaim"
act_name act.BerserkLate = codes "BerserkLate"
act_name act.BerserkTwice = codes "BerserkTwice"
act_name act.BerserkZero = codes "BerserkZero"

-- the name of a refusal
abbrev pub refusal_name : Refusal → List ℕ
refusal_name refusal.NotEntered = codes "NotEntered"
refusal_name refusal.AlreadyIn = codes "AlreadyIn"
refusal_name refusal.AlreadyPaused = codes "AlreadyPaused"
refusal_name refusal.Left = codes "Left"
refusal_name refusal.Closed = codes "Closed"
refusal_name refusal.NoGame = codes "NoGame"
refusal_name refusal.NotYours = codes "NotYours"
refusal_name (refusal.Act r) = act_name r
refusal_name refusal.NothingDue = codes "NothingDue"
refusal_name refusal.Full = codes "Full"

-- the name of an error
abbrev pub name_of : ApiError → List ℕ
name_of error.NoRoute = codes "NoRoute"
name_of (error.BadMethod allow) = codes "BadMethod"
name_of error.NoKey = codes "NoKey"
name_of error.UnknownKey = codes "UnknownKey"
name_of error.BadParam = codes "BadParam"
name_of error.NoGame = codes "NoGame"
name_of (error.Refused r) = refusal_name r
name_of error.BadHead = codes "BadHead"
name_of error.HeadTooLong = codes "HeadTooLong"
name_of error.BodyTooLong = codes "BodyTooLong"
name_of error.BadLength = codes "BadLength"
name_of error.NotSupported = codes "NotSupported"
