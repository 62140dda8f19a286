-- What is sent of a response.
use Rattle.std.proofs.Common.{rules, ◌≡◌, ◌⊎◌, inl, inr, ℕ, ◌+◌, ◌<◌, Bool, true, List, [], ◌∷◌, ◌++◌, Option, Some, None, Result, Ok, Err, refl, sym, ap, ◌∙◌, subst, arith, length}
use Rattle.std.specs.Prelude.{OnOk, IfOk}
use Rattle.std.specs.Option.{IsSome, option_map_or}
use Rattle.std.proofs.lemmas.List.{append-nil}
use Rattle.std.specs.declared.alloc.AllocError.{AllocError}
use Rattle.http.specs.StatusCode.{IsStatusCode}
use Rattle.conn.specs.Faults.{Rose}
use Rattle.conn.specs.Told.{Gained, GainedPart, followed_by}
use Rattle.entries.specs.declared.setup.Setup.{Setup}
use Rattle.game_room.specs.declared.refusal.ActRefusal.{ActRefusal}
use Rattle.game_room.specs.declared.refusal.ActRefusal.TheVariants as act
use Rattle.arena_rules.specs.declared.refusal.Refusal.{Refusal}
use Rattle.arena_rules.specs.declared.refusal.Refusal.TheVariants as refusal
use Rattle.http_lines.specs.declared.request.NextFault.{NextFault}
use Rattle.http_lines.specs.declared.request.RequestHead.{RequestHead}
use Rattle.http_lines.specs.declared.response.SendFault.{SendFault}
use Rattle.http_lines.specs.declared.response.SendFault.TheVariants as send_fault
use Rattle.api.specs.declared.error.ApiError.{ApiError}
use Rattle.api.specs.declared.error.ApiError.TheVariants as error
use Rattle.api.specs.Errors.{status_of, refusal_status, act_status}
use Rattle.arena_lock.specs.Turns.{Pass}
use Rattle.host.specs.declared.ended.Ended.{Ended}
use Rattle.host.specs.declared.said.Said.{Said}
use Rattle.host.specs.Causes.{answer_to_fault}
use Rattle.host.specs.Exchanges.{Deed, in_error, accepted, refused, told, untold, starved}
use Rattle.host.specs.Responses.{bytes_of, error_of, error_said, fault_response, response, said}
use Rattle.host.specs.Steps.{AnswersFault, Sends, Sent, ended_after, exchange}

-- what `write_response` says of each of its answers
pub sent_is : (held held' : Option (List ℕ)) (writes writes' : ℕ) (bytes : List ℕ) (result : Result (Unit {0}) SendFault)
    → OnOk result (Gained held held' bytes)
    → (result ≡ Err send_fault.WriteFault → Rose writes writes')
    → (result ≡ Err send_fault.WriteFault → GainedPart held held' bytes)
    → (result ≡ Err send_fault.OutOfMemory → held' ≡ held)
    → Sent held held' writes writes' bytes result
sent_is held held' writes writes' bytes (Ok sent) all rose part none = all
sent_is held held' writes writes' bytes (Err send_fault.WriteFault) all rose part none = (rose refl, part refl)
sent_is held held' writes writes' bytes (Err send_fault.OutOfMemory) all rose part none = none refl

-- the response to a request whose answer is said
response_is : (s : Setup) (close : Bool) (r : RequestHead) (d : Deed) (new : Pass) (x : Said) → said s d ≡ Some x
    → bytes_of (length new.seen) close x ≡ response s close (exchange r d new)
response_is s close r d new x is = ap (λ o. option_map_or (bytes_of (length new.seen) close) o []) (sym is)

is_said : (o : Option Said) (x : Said) → o ≡ Some x → IsSome o
is_said (Some y) x is = refl
is_said None x is = absurd (cc)

pub sends_said : (s : Setup) (close : Bool) (r : RequestHead) (d : Deed) (new : Pass) (x : Said) (held held' : Option (List ℕ)) (writes writes' : ℕ) (result : Result (Unit {0}) SendFault)
    → said s d ≡ Some x → Sent held held' writes writes' (bytes_of (length new.seen) close x) result
    → Sends s close (exchange r d new) held held' writes writes' result
sends_said s close r d new x held held' writes writes' (Ok sent) is p =
    (is_said (said s d) x is, subst (Gained held held') (response_is s close r d new x is) p)
sends_said s close r d new x held held' writes writes' (Err send_fault.WriteFault) is p =
    (is_said (said s d) x is, p.0, subst (GainedPart held held') (response_is s close r d new x is) p.1)
sends_said s close r d new x held held' writes writes' (Err send_fault.OutOfMemory) is p = p

-- the status of what is said is one
act_code : (r : ActRefusal) → IsStatusCode (act_status r)
act_code act.Over = search rules
act_code act.NotYourTurn = search rules
act_code act.Illegal = search rules
act_code act.OfferStands = search rules
act_code act.NoOffer = search rules
act_code act.NoClaim = search rules
act_code act.BerserkLate = search rules
act_code act.BerserkTwice = search rules
act_code act.BerserkZero = search rules

refusal_code : (r : Refusal) → IsStatusCode (refusal_status r)
refusal_code refusal.NotEntered = search rules
refusal_code refusal.AlreadyIn = search rules
refusal_code refusal.AlreadyPaused = search rules
refusal_code refusal.Left = search rules
refusal_code refusal.Closed = search rules
refusal_code refusal.NoGame = search rules
refusal_code refusal.NotYours = search rules
refusal_code (refusal.Act r) = act_code r
refusal_code refusal.NothingDue = search rules
refusal_code refusal.Full = search rules

pub error_code : (e : ApiError) → IsStatusCode (status_of e)
error_code error.NoRoute = search rules
error_code (error.BadMethod allow) = search rules
error_code error.NoKey = search rules
error_code error.UnknownKey = search rules
error_code error.BadParam = search rules
error_code error.NoGame = search rules
error_code (error.Refused r) = refusal_code r
error_code error.BadHead = search rules
error_code error.HeadTooLong = search rules
error_code error.BodyTooLong = search rules
error_code error.BadLength = search rules
error_code error.NotSupported = search rules

well_code : IsStatusCode 200
well_code = search rules

abbrev said_or : Said → Option Said → Said
said_or d (Some x) = x
said_or d None = d

same_said : (x y : Said) → ◌≡◌ {A = Option Said} (Some x) (Some y) → IsStatusCode x.status → IsStatusCode y.status
same_said x y is code = subst (λ (z : Said). IsStatusCode z.status) (ap (said_or x) is) code

pub said_code : (s : Setup) (d : Deed) (x : Said) → said s d ≡ Some x → IsStatusCode x.status
said_code s (in_error e) x is = same_said (error_said e) x is (error_code e)
said_code s (accepted t c reply) x is = same_said _ x is well_code
said_code s (refused t c r) x is = same_said (error_said (error.Refused r)) x is (refusal_code r)
said_code s (told t q answer) x is = same_said _ x is well_code
said_code s (untold t q) x is = same_said (error_said error.NoGame) x is (error_code error.NoGame)
said_code s (starved t) x is = absurd (cc)

-- what is said of an error
pub error_is_said : (r : Result Said AllocError) (e : ApiError) → IfOk r (λ x. x ≡ error_said e) → IfOk r (λ x. ◌≡◌ {A = Option Said} (Some (error_said e)) (Some x))
error_is_said (Ok x) e p = ap Some (sym p)
error_is_said (Err f) e p = tt

-- ---- faults

gained_nothing : (held : Option (List ℕ)) → Gained held held []
gained_nothing None = refl
gained_nothing (Some bytes) = ap Some (sym (append-nil bytes))

pub answers_unsaid : (seen : ℕ) (f : NextFault) (held : Option (List ℕ)) (writes writes' : ℕ) (result : Ended) → error_of f ≡ None
    → result ≡ answer_to_fault f → AnswersFault seen f held held writes writes' result
answers_unsaid seen f held writes writes' result none is =
    let nothing : fault_response seen f ≡ [] = ap (λ o. option_map_or (λ e. bytes_of seen true (error_said e)) o []) none in
    inl (is, subst (Gained held held) (sym nothing) (gained_nothing held))

answers_by : (seen : ℕ) (f : NextFault) (e : ApiError) (held held' : Option (List ℕ)) (writes writes' : ℕ) (outcome : Result (Unit {0}) SendFault) → error_of f ≡ Some e
    → fault_response seen f ≡ bytes_of seen true (error_said e)
    → Sent held held' writes writes' (bytes_of seen true (error_said e)) outcome → AnswersFault seen f held held' writes writes' (ended_after f outcome)
answers_by seen f e held held' writes writes' (Ok sent) some is p = inl (refl, subst (Gained held held') (sym is) p)
answers_by seen f e held held' writes writes' (Err send_fault.WriteFault) some is p =
    inr (inl (refl, subst IsSome (sym some) refl, p.0, subst (GainedPart held held') (sym is) p.1))
answers_by seen f e held held' writes writes' (Err send_fault.OutOfMemory) some is p = inr (inr (refl, p))

pub answers_said : (seen : ℕ) (f : NextFault) (e : ApiError) (held held' : Option (List ℕ)) (writes writes' : ℕ) (outcome : Result (Unit {0}) SendFault) → error_of f ≡ Some e
    → Sent held held' writes writes' (bytes_of seen true (error_said e)) outcome → AnswersFault seen f held held' writes writes' (ended_after f outcome)
answers_said seen f e held held' writes writes' outcome some p =
    answers_by seen f e held held' writes writes' outcome some (ap (λ o. option_map_or (λ x. bytes_of seen true (error_said x)) o []) some) p
