-- What the steps of a connection do.
use Rattle.std.specs.Prelude.{◌≡◌, ◌⊎◌, ℕ, ◌+◌, ◌*◌, ◌<◌, ◌≤◌, Bool, if◌then◌else◌, List, [], ◌∷◌, ◌++◌, length, Option, Some, None, Result, Ok, Err, IfOk, MatchOption}
use Rattle.std.specs.List.{AllByRecursion}
use Rattle.std.specs.Option.{IsSome}
use Rattle.std.specs.Io.KnownBytes.{Consumes}
use Rattle.std.specs.declared.alloc.AllocError.{AllocError}
use Rattle.conn.specs.Faults.{Rose}
use Rattle.conn.specs.Told.{Gained, GainedPart}
use Rattle.entries.specs.declared.setup.Setup.{Setup}
use Rattle.setup_file.specs.Members.{place_of}
use Rattle.http_lines.specs.declared.request.RequestHead.{RequestHead}
use Rattle.http_lines.specs.declared.request.NextFault.{NextFault}
use Rattle.http_lines.specs.declared.response.SendFault.{SendFault}
use Rattle.http_lines.specs.declared.response.SendFault.TheVariants as send_fault
use Rattle.http_lines.specs.declared.request.TheConstants.{HEAD_LIMIT, BODY_LIMIT}
use Rattle.http_lines.specs.Reader.{still_ahead}
use Rattle.http_lines.specs.Laws.{RequestsAreOne, ReadOfTheirOwn, OneMoreIsRead, ReadAndThen}
use Rattle.http_lines.specs.Talk.{Read}
use Rattle.team_battle.specs.Laws.{EachTeamOnce}
use Rattle.arena_history.specs.GameLaws.{GamesAreNumbered}
use Rattle.arena_history.specs.HistoryLaws.{HistoriesGrow}
use Rattle.arena_rules.specs.LegalLaws.{BeginningsAreLegal, StampsMayStand}
use Rattle.arena_rules.specs.RankingLaws.{TablesAreInRange}
use Rattle.arena_rules.specs.RoomLaws.{HeadersAreInRange}
use Rattle.arena_rules.specs.declared.command.Command.{Command}
use Rattle.arena_rules.specs.declared.command.Command.TheVariants.{Enter, Pause, Leave, Act, Tick}
use Rattle.arena_rules.specs.declared.query.Answer.{Answer}
use Rattle.arena_rules.specs.declared.query.Query.{Query}
use Rattle.arena_rules.specs.declared.query.Reply.{Reply}
use Rattle.arena_core.specs.declared.fault.ApplyFault.{ApplyFault}
use Rattle.arena_core.specs.declared.fault.ApplyFault.TheVariants as apply_fault
use Rattle.arena_core.specs.declared.fault.QueryFault.{QueryFault}
use Rattle.arena_core.specs.declared.fault.QueryFault.TheVariants as query_fault
use Rattle.arena_lock.specs.Turns.{Pass}
use Rattle.host.specs.declared.ended.Ended.{Ended}
use Rattle.host.specs.declared.ended.Ended.TheVariants.{Served, WriteFault, OutOfMemory}
use Rattle.host.specs.declared.said.Said.{Said}
use Rattle.host.specs.Asked.{Asked}
use Rattle.host.specs.Causes.{answer_to_fault}
use Rattle.host.specs.Exchanges.{Deed, Exchange, accepted, refused, told, untold, starved, requests}
use Rattle.host.specs.Responses.{said, responses, response, error_of, fault_response}
use Rattle.host.specs.Talk.{Around, Talk}

-- a request, what it came to, and how much the pass has then seen
abbrev pub exchange : RequestHead → Deed → Pass → Exchange
exchange request deed new = record { request = request; deed = deed; seen = length new.seen }

-- a request was asked, and what is said of what it came to, if memory was there
pub record ComesTo (s : Setup) (keys : List (List ℕ)) (moments moments' : Option (List ℕ)) (old new : Pass) (request : RequestHead) (result : Result Said AllocError) : Type 0 where
  pub deed : Deed
  pub asked : Asked s keys moments moments' old new (exchange request deed new ∷ [])
  pub says : IfOk result (λ x. said s deed ≡ Some x)

-- what a command comes to by what the lobby answered
abbrev pub deed_of_reply : ℕ → Command → Result Reply ApplyFault → Deed
deed_of_reply t c (Ok reply) = accepted t c reply
deed_of_reply t c (Err (apply_fault.Refused refusal)) = refused t c refusal
deed_of_reply t c (Err apply_fault.OutOfMemory) = starved t

-- what a question comes to
abbrev pub deed_of_answer : ℕ → Query → Result Answer QueryFault → Deed
deed_of_answer t q (Ok answer) = told t q answer
deed_of_answer t q (Err query_fault.NoGame) = untold t q
deed_of_answer t q (Err query_fault.OutOfMemory) = starved t

-- a command of one of so many players, and no look
abbrev pub IsPlayers : ℕ → Command → Type 0
IsPlayers players (Enter p) = p < players
IsPlayers players (Pause p) = p < players
IsPlayers players (Leave p) = p < players
IsPlayers players (Act p game a) = p < players
IsPlayers players Tick = ⊥

-- a response was sent whole, or in part by a fault of the sink, or not at all for want of memory
abbrev pub Sent : Option (List ℕ) → Option (List ℕ) → ℕ → ℕ → List ℕ → Result (Unit {0}) SendFault → Type 0
Sent held held' writes writes' bytes (Ok sent) = Gained held held' bytes
Sent held held' writes writes' bytes (Err send_fault.WriteFault) = Rose writes writes' × GainedPart held held' bytes
Sent held held' writes writes' bytes (Err send_fault.OutOfMemory) = held' ≡ held

-- a request that has a response was answered, or was not by a fault of the sink; or one was not for want of memory
abbrev pub Sends : Setup → Bool → Exchange → Option (List ℕ) → Option (List ℕ) → ℕ → ℕ → Result (Unit {0}) SendFault → Type 0
Sends s close x held held' writes writes' (Ok sent) = IsSome (said s x.deed) × Gained held held' (response s close x)
Sends s close x held held' writes writes' (Err send_fault.WriteFault) =
    IsSome (said s x.deed) × Rose writes writes' × GainedPart held held' (response s close x)
Sends s close x held held' writes writes' (Err send_fault.OutOfMemory) = held' ≡ held

-- how the connection ends behind a request that closes or does not, if it does
abbrev pub ended_behind : Bool → Result (Unit {0}) SendFault → Option Ended
ended_behind closes (Ok sent) = if closes then Some Served else None
ended_behind closes (Err send_fault.WriteFault) = Some WriteFault
ended_behind closes (Err send_fault.OutOfMemory) = Some OutOfMemory

-- a request was asked, and answered or not
pub record Replies (s : Setup) (keys : List (List ℕ)) (close : Bool) (request : RequestHead) (moments moments' : Option (List ℕ)) (old new : Pass) (held held' : Option (List ℕ)) (writes writes' : ℕ) (result : Result (Unit {0}) SendFault) : Type 0 where
  pub deed : Deed
  pub asked : Asked s keys moments moments' old new (exchange request deed new ∷ [])
  pub sends : Sends s close (exchange request deed new) held held' writes writes' result

-- how the connection ends in a fault, once its response was sent or not
abbrev pub ended_after : NextFault → Result (Unit {0}) SendFault → Ended
ended_after f (Ok sent) = answer_to_fault f
ended_after f (Err send_fault.WriteFault) = WriteFault
ended_after f (Err send_fault.OutOfMemory) = OutOfMemory

-- a fault was answered, or was not for want of memory or by a fault of the sink
abbrev pub AnswersFault : ℕ → NextFault → Option (List ℕ) → Option (List ℕ) → ℕ → ℕ → Ended → Type 0
AnswersFault seen fault held held' writes writes' result =
    ((result ≡ answer_to_fault fault) × Gained held held' (fault_response seen fault))
    ⊎ (((result ≡ WriteFault) × IsSome (error_of fault) × Rose writes writes' × GainedPart held held' (fault_response seen fault))
    ⊎ ((result ≡ OutOfMemory) × (held' ≡ held)))

-- these requests, none of which closes, were read from the bytes, where they are told, and the rest is still to be read
abbrev pub ReadIfTold : Option (List ℕ) → Option (List ℕ) → List RequestHead → Type 0
ReadIfTold None rest rs = Unit {0}
ReadIfTold (Some bytes) None rs = ⊥
ReadIfTold (Some bytes) (Some rest) rs = Read bytes rs rest

-- a source took at most so many of its bytes
pub record TookAtMost (left left' : Option (List ℕ)) (most : ℕ) : Type 0 where
  pub taken : List ℕ
  pub gave : Consumes left left' taken
  pub few : length taken ≤ most

-- so many requests were answered since the start, and the reader holds these bytes
pub record SoFar (s : Setup) (keys : List (List ℕ)) (start now : Around) (ahead : List ℕ) (before : ℕ) : Type 0 where
  pub answered : List Exchange
  pub count : length answered ≡ before
  pub asked : Asked s keys start.moments now.moments start.pass now.pass answered
  pub each : AllByRecursion (λ (x : Exchange). IsSome (said s x.deed)) answered
  pub gained : Gained start.held now.held (responses s 0 answered)
  pub were_read : ReadIfTold start.left (still_ahead ahead now.left) (requests answered)
  pub took : TookAtMost start.left now.left (length ahead + before * (HEAD_LIMIT + BODY_LIMIT))
  pub reads_kept : start.reads ≤ now.reads
  pub writes_kept : start.writes ≤ now.writes

-- what comes behind so many answered requests: one more is answered, or the connection ends
abbrev pub Steps : Setup → List (List ℕ) → ℕ → List ℕ → List ℕ → Around → Around → Option Ended → Type 0
Steps s keys before ahead ahead' old new result =
    (start : Around) → SoFar s keys start old ahead before
    → MatchOption result (SoFar s keys start new ahead' (before + 1)) (λ ended. Talk s keys start new ended)

-- the laws by which the players and teams that are shown are those of the setup
pub record LawsOfShown : Type 0 where
  pub grow : HistoriesGrow
  pub numbered : GamesAreNumbered
  pub headers : HeadersAreInRange
  pub rows : TablesAreInRange
  pub teams : EachTeamOnce

-- the laws by which a turn's stamp may stand
pub record LawsOfTurns : Type 0 where
  pub beginnings : BeginningsAreLegal
  pub stamps : StampsMayStand

-- the laws of the requests that bytes spell
pub record LawsOfRequests : Type 0 where
  pub one : RequestsAreOne
  pub own : ReadOfTheirOwn
  pub one_more : OneMoreIsRead
  pub and_then : ReadAndThen
