-- What holds of the first of any bytes, and of the requests of any bytes.
use Rattle.std.specs.Prelude.{◌≡◌, ◌↔◌, ℕ, ◌+◌, List, [], ◌∷◌, ◌++◌, length, false}
use Rattle.http_lines.specs.declared.request.RequestHead.{RequestHead}
use Rattle.http_lines.specs.First.{First, Outcome, asked}
use Rattle.http_lines.specs.Talk.{AreRequestsUpTo, Read, Ending}

-- bytes come to one thing first
abbrev pub FirstIsOne : Type 0
FirstIsOne = (bytes : List ℕ) (one other : Outcome) → First bytes one → First bytes other → one ≡ other

-- there are no bytes that come to nothing first
abbrev pub FirstIsThere : Type 0
FirstIsThere = (bytes : List ℕ) → ¬ ((o : Outcome) → ¬ (First bytes o))

-- a request is read from its own bytes, whatever follows them
abbrev pub FirstOfItsOwn : Type 0
FirstOfItsOwn =
    (bytes rest more : List ℕ) (request : RequestHead)
    → (First bytes (asked request rest)) ↔ (First (bytes ++ more) (asked request (rest ++ more)))

-- bytes spell one list of requests, and it ends in one way
abbrev pub RequestsAreOne : Type 0
RequestsAreOne =
    (most : ℕ) (bytes : List ℕ) (ones others : List RequestHead) (end other_end : Ending)
    → AreRequestsUpTo most bytes ones end → AreRequestsUpTo most bytes others other_end
    → (ones ≡ others) × (end ≡ other_end)

-- there are no bytes that spell no list of requests
abbrev pub RequestsAreThere : Type 0
RequestsAreThere =
    (most : ℕ) (bytes : List ℕ)
    → ¬ ((requests : List RequestHead) (end : Ending) → ¬ (AreRequestsUpTo most bytes requests end))

-- requests that were read are read from their own bytes, whatever follows them
abbrev pub ReadOfTheirOwn : Type 0
ReadOfTheirOwn =
    (bytes rest more : List ℕ) (requests : List RequestHead)
    → (Read bytes requests rest) ↔ (Read (bytes ++ more) requests (rest ++ more))

-- one request more is read behind those that were
abbrev pub OneMoreIsRead : Type 0
OneMoreIsRead =
    (bytes middle rest : List ℕ) (requests : List RequestHead) (request : RequestHead)
    → Read bytes requests middle → First middle (asked request rest) → request.closes ≡ false
    → Read bytes (requests ++ request ∷ []) rest

-- the requests of bytes are those that were read, and then those of the bytes behind them
abbrev pub ReadAndThen : Type 0
ReadAndThen =
    (most : ℕ) (bytes middle : List ℕ) (requests more : List RequestHead) (end : Ending)
    → Read bytes requests middle → AreRequestsUpTo most middle more end
    → AreRequestsUpTo (length requests + most) bytes (requests ++ more) end
