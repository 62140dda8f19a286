-- The requests that the bytes of a connection spell.
use Rattle.std.specs.Prelude.{◌≡◌, ℕ, ◌-◌, ◌<◌, false, List, [], ◌∷◌, MatchBool}
use Rattle.http_lines.specs.declared.request.RequestHead.{RequestHead}
use Rattle.http_lines.specs.declared.request.NextFault.{NextFault}
use Rattle.http_lines.specs.First.{First, ended, faulted, asked}

-- how the requests of a connection end: with the bytes, in a fault, behind a request that closes, or as there were a hundred
pub data Ending : Type 0 where
  at_end : Ending
  in_fault : NextFault → Ending
  closed : Ending
  hundred : Ending

-- no request is left to be read: by what the bytes come to, or since so many may not follow
abbrev pub EndsBy : ℕ → List ℕ → Ending → Type 0
EndsBy most bytes at_end = (0 < most) × First bytes ended
EndsBy most bytes (in_fault fault) = (0 < most) × First bytes (faulted fault)
EndsBy most bytes closed = ⊥
EndsBy most bytes hundred = most ≡ 0

-- at most so many requests are read from the bytes, one after the other, up to one that closes: they are these, and this is
-- how they end
abbrev pub AreRequestsUpTo : ℕ → List ℕ → List RequestHead → Ending → Type 0
AreRequestsUpTo most bytes [] ending = EndsBy most bytes ending
AreRequestsUpTo most bytes (request ∷ requests) ending =
    (0 < most) × (rest : List ℕ) × First bytes (asked request rest)
    × MatchBool request.closes ((requests ≡ []) × (ending ≡ closed)) (AreRequestsUpTo (most - 1) rest requests ending)

-- the requests of a connection's bytes, and how they end
abbrev pub AreRequests : List ℕ → List RequestHead → Ending → Type 0
AreRequests bytes requests ending = AreRequestsUpTo 100 bytes requests ending

-- these requests, none of which closes, are read from the bytes one after the other, and the rest is left
abbrev pub Read : List ℕ → List RequestHead → List ℕ → Type 0
Read bytes [] rest = bytes ≡ rest
Read bytes (request ∷ requests) rest =
    (middle : List ℕ) × First bytes (asked request middle) × (request.closes ≡ false) × Read middle requests rest
