-- The requests that the bytes of a source spell, where it tells them.
use Rattle.std.specs.Prelude.{◌≡◌, ◌⊎◌, ℕ, List, [], ◌∷◌, ◌++◌, Option, Some, None, MatchBool}
use Rattle.http_lines.specs.declared.request.RequestHead.{RequestHead}
use Rattle.http_lines.specs.declared.request.NextFault.TheVariants.{CutOff}
use Rattle.http_lines.specs.First.{First, asked}
use Rattle.http_lines.specs.Talk.{AreRequests, Ending, at_end, in_fault}

-- told bytes spell these requests, which end like this
abbrev pub Spell : Option (List ℕ) → List RequestHead → Ending → Type 0
Spell None requests ending = ⊥
Spell (Some bytes) requests ending = AreRequests bytes requests ending

-- the bytes, where they are told, spell these requests, which end like this
abbrev pub SpellIfTold : Option (List ℕ) → List RequestHead → Ending → Type 0
SpellIfTold None requests ending = Unit {0}
SpellIfTold (Some bytes) requests ending = AreRequests bytes requests ending

-- bytes begin with these requests, none of which closes but perhaps the last
abbrev pub BeginWith : List ℕ → List RequestHead → Type 0
BeginWith bytes [] = Unit {0}
BeginWith bytes (request ∷ requests) =
    (rest : List ℕ) × First bytes (asked request rest) × MatchBool request.closes (requests ≡ []) (BeginWith rest requests)

-- the bytes, where they are told, begin with these requests
abbrev pub BeginIfTold : Option (List ℕ) → List RequestHead → Type 0
BeginIfTold None requests = Unit {0}
BeginIfTold (Some bytes) requests = BeginWith bytes requests

-- a source took from its bytes, where it tells them, some that spell these requests and no further one that is whole
pub record TookOnly (bytes rest : List ℕ) (requests : List RequestHead) : Type 0 where
  pub taken : List ℕ
  pub split : bytes ≡ taken ++ rest
  pub spell : AreRequests taken requests at_end ⊎ AreRequests taken requests (in_fault CutOff)

abbrev pub TookOnlyIfTold : Option (List ℕ) → Option (List ℕ) → List RequestHead → Type 0
TookOnlyIfTold None left requests = Unit {0}
TookOnlyIfTold (Some bytes) None requests = ⊥
TookOnlyIfTold (Some bytes) (Some rest) requests = TookOnly bytes rest requests
