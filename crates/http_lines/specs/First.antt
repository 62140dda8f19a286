-- What the first request of some bytes comes to.
use Rattle.std.specs.Prelude.{◌≡◌, ℕ, nat_le, List, take, drop, length, Result, Ok, Err, MatchBool, if◌then◌else◌}
use Rattle.http_lines.specs.declared.place.Place.{Place}
use Rattle.http_lines.specs.declared.place.Place.TheVariants.{Before}
use Rattle.http_lines.specs.declared.request.RequestHead.{RequestHead}
use Rattle.http_lines.specs.declared.request.NextFault.{NextFault}
use Rattle.http_lines.specs.declared.request.NextFault.TheVariants.{CutOff, HeadTooLong}
use Rattle.http_lines.specs.declared.request.TheConstants.{HEAD_LIMIT}
use Rattle.http_lines.specs.HeadEnd.{head_end}
use Rattle.http_lines.specs.Heads.{Says}

-- no request any more, a fault, or a request and the bytes after its body
pub data Outcome : Type 0 where
  ended : Outcome
  faulted : NextFault → Outcome
  asked : RequestHead → List ℕ → Outcome

-- bytes without a whole head, which end at this place: they are all of what comes
abbrev pub unfinished : Place → Outcome
unfinished Before = ended
unfinished _ = faulted CutOff

-- bytes without a whole head among them: too long, or all of what comes
abbrev pub without_head : List ℕ → Place → Outcome
without_head bytes place = if nat_le HEAD_LIMIT (length bytes) then faulted HeadTooLong else unfinished place

-- what a head said, with the bytes after it: its body is dropped
abbrev pub after_head : Result (RequestHead × ℕ) NextFault → List ℕ → Outcome
after_head (Ok (request, body)) rest =
    if nat_le body (length rest) then asked request (drop body rest) else faulted CutOff
after_head (Err fault) rest = faulted fault

-- a head and the bytes after it
abbrev pub IsAfterHead : List ℕ → List ℕ → Outcome → Type 0
IsAfterHead head rest o = (said : Result (RequestHead × ℕ) NextFault) × Says head said × (o ≡ after_head said rest)

-- the same by where the bytes' first head ends
abbrev pub FirstBy : Result ℕ Place → List ℕ → Outcome → Type 0
FirstBy (Ok n) bytes o =
    MatchBool (nat_le n HEAD_LIMIT) (IsAfterHead (take n bytes) (drop n bytes) o) (o ≡ faulted HeadTooLong)
FirstBy (Err place) bytes o = o ≡ without_head bytes place

-- what the first request of the bytes comes to
abbrev pub First : List ℕ → Outcome → Type 0
First bytes o = FirstBy (head_end bytes) bytes o
