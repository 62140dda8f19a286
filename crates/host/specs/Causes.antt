-- When each answer comes, and what was written then.
use Rattle.std.specs.Prelude.{◌≡◌, ◌⊎◌, ℕ, ◌≤◌, List, [], ◌∷◌, ◌++◌, take, length, Option, Some, IsSome}
use Rattle.conn.specs.Faults.{Rose}
use Rattle.entries.specs.declared.setup.Setup.{Setup}
use Rattle.http_lines.specs.declared.request.NextFault.{NextFault}
use Rattle.http_lines.specs.declared.request.NextFault.TheVariants as fault
use Rattle.http_lines.specs.Talk.{Ending, at_end, in_fault, closed, hundred}
use Rattle.host.specs.declared.ended.Ended.{Ended}
use Rattle.host.specs.declared.ended.Ended.TheVariants.{Served, Limit, CutOff, BadHead, TooLong, NotSupported, ReadFault, WriteFault, OutOfMemory}
use Rattle.host.specs.Exchanges.{Exchange, requests}
use Rattle.host.specs.Responses.{said, responses, response, is_last, fault_response, end_response}
use Rattle.host.specs.Spelt.{SpellIfTold, BeginIfTold, TookOnlyIfTold}

-- the answer to a fault of what was read
abbrev pub answer_to_fault : NextFault → Ended
answer_to_fault fault.CutOff = CutOff
answer_to_fault fault.BadHead = BadHead
answer_to_fault fault.HeadTooLong = TooLong
answer_to_fault fault.BodyTooLong = TooLong
answer_to_fault fault.BadLength = NotSupported
answer_to_fault fault.NotSupported = NotSupported
answer_to_fault fault.ReadFault = ReadFault
answer_to_fault fault.OutOfMemory = OutOfMemory

-- the answer by how the requests end: `Served` where the bytes do, or behind one that closes, and `Limit` behind a hundred
abbrev pub answer_by : Ending → Ended
answer_by at_end = Served
answer_by (in_fault f) = answer_to_fault f
answer_by closed = Served
answer_by hundred = Limit

-- the answer comes from memory that was wanting, or from the source or the sink, whose count of faults rose
abbrev pub IsHindered : ℕ → ℕ → ℕ → ℕ → Ended → Type 0
IsHindered reads reads' writes writes' OutOfMemory = Unit {0}
IsHindered reads reads' writes writes' ReadFault = Rose reads reads'
IsHindered reads reads' writes writes' WriteFault = Rose writes writes'
IsHindered reads reads' writes writes' _ = ⊥

-- a fault of the source or of the sink comes only where its count of faults rose
abbrev pub IsCaused : ℕ → ℕ → ℕ → ℕ → Ended → Type 0
IsCaused reads reads' writes writes' ReadFault = Rose reads reads'
IsCaused reads reads' writes writes' WriteFault = Rose writes writes'
IsCaused reads reads' writes writes' _ = Unit {0}

module _ (s : Setup) (bytes left : Option (List ℕ)) (answered more : List Exchange) (seen : ℕ) (written : List ℕ) where
  -- all requests were answered that the bytes spell, and then the fault, if they end in one
  pub record IsWhole (result : Ended) : Type 0 where
    pub ending : Ending
    pub spelt : SpellIfTold bytes (requests answered) ending
    pub result_is : result ≡ answer_by ending
    pub no_more : more ≡ []
    pub responses : written ≡ responses s 0 answered ++ end_response seen ending

  -- a read failed: the bytes taken have no further whole request, and the responses are whole
  pub record IsUnread : Type 0 where
    pub taken : TookOnlyIfTold bytes left (requests answered)
    pub no_more : more ≡ []
    pub responses : written ≡ responses s 0 answered

  -- a write failed in the response to one request more: a beginning of it stands behind the responses to those before
  pub record IsCutShort : Type 0 where
    pub last : Exchange
    pub one_more : more ≡ last ∷ []
    pub spelt : BeginIfTold bytes (requests (answered ++ more))
    pub has_response : IsSome (said s last.deed)
    pub count : ℕ
    pub responses : written ≡ responses s 0 answered ++ take count (response s (is_last (length answered) last) last)

  -- a write failed in the response to a fault: a beginning of it stands behind the responses to the requests
  pub record IsCutInFault : Type 0 where
    pub fault : NextFault
    pub spelt : SpellIfTold bytes (requests answered) (in_fault fault)
    pub no_more : more ≡ []
    pub count : ℕ
    pub responses : written ≡ responses s 0 answered ++ take count (fault_response seen fault)

  -- memory was wanting: the responses are whole, and at most one request more was asked
  pub record IsStarved : Type 0 where
    pub spelt : BeginIfTold bytes (requests (answered ++ more))
    pub one_at_most : length more ≤ 1
    pub responses : written ≡ responses s 0 answered

  -- what each answer says
  abbrev pub Says : Ended → Type 0
  Says Served = IsWhole Served
  Says Limit = IsWhole Limit
  Says CutOff = IsWhole CutOff
  Says BadHead = IsWhole BadHead
  Says TooLong = IsWhole TooLong
  Says NotSupported = IsWhole NotSupported
  Says ReadFault = IsUnread
  Says WriteFault = IsCutShort ⊎ IsCutInFault
  Says OutOfMemory = IsStarved
