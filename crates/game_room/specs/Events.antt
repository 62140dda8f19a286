-- The events of a game.
use Rattle.std.specs.Prelude.{ℕ}
use Rattle.board.specs.declared.piece.Colour.{Colour}
use Rattle.entries.specs.declared.action.Action.{Action}

-- a side acted, or it was looked whether the game is due
pub data Deed : Type 0 where
  Acted : Colour → Action → Deed
  Ticked : Deed

-- what happened, and when, in milliseconds
pub record Event : Type 0 where
  pub stamp : ℕ
  pub deed : Deed

-- a side's action at a stamp
abbrev pub act_of : Colour → Action → ℕ → Event
act_of side a t = record { stamp = t; deed = Acted side a }

-- a look at a stamp
abbrev pub tick_at : ℕ → Event
tick_at t = record { stamp = t; deed = Ticked }
