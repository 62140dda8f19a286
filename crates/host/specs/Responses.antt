-- The bytes that are written.
use Rattle.std.specs.Prelude.{ℕ, ◌+◌, ◌==◌, ◌||◌, Bool, true, false, List, [], ◌∷◌, ◌++◌, Option, Some, None}
use Rattle.std.specs.Option.{option_map_or}
use Rattle.serde_json.specs.Data.{Data}
use Rattle.entries.specs.declared.setup.Setup.{Setup}
use Rattle.http_lines.specs.declared.request.NextFault.{NextFault}
use Rattle.http_lines.specs.declared.request.NextFault.TheVariants as fault
use Rattle.http_lines.specs.declared.response.Extra.TheVariants.{Plain}
use Rattle.http_lines.specs.Response.{response_bytes}
use Rattle.http_lines.specs.Talk.{Ending, at_end, in_fault, closed, hundred}
use Rattle.api.specs.declared.error.ApiError.{ApiError}
use Rattle.api.specs.declared.error.ApiError.TheVariants as error
use Rattle.api.specs.Bodies.{body_of, error_data, reply_data, answer_data, number_asked}
use Rattle.api.specs.Errors.{status_of, extra_of}
use Rattle.host.specs.declared.said.Said.{Said}
use Rattle.host.specs.Exchanges.{Deed, Exchange, in_error, accepted, refused, told, untold, starved}

-- an error
abbrev pub error_said : ApiError → Said
error_said e = record { status = status_of e; extra = extra_of e; body = body_of (error_data e) }

-- what was asked for
abbrev pub well_said : Data → Said
well_said body = record { status = 200; extra = Plain; body = body_of body }

-- what is said of what a request came to: its error, the reply to its command or the refusal, the answer to its question or that
-- there is no such game; nothing where memory was wanting
abbrev pub said : Setup → Deed → Option Said
said s (in_error e) = Some (error_said e)
said s (accepted t c reply) = Some (well_said (reply_data s reply))
said s (refused t c refusal) = Some (error_said (error.Refused refusal))
said s (told t q answer) = Some (well_said (answer_data s (number_asked q) answer))
said s (untold t q) = Some (error_said error.NoGame)
said s (starved t) = None

-- the bytes of a response that says this, of so many entries seen, behind which nothing is read or something may be
abbrev pub bytes_of : ℕ → Bool → Said → List ℕ
bytes_of seen close x =
    response_bytes (record { status = x.status; extra = x.extra; seen = seen; close = close; body = x.body })

-- the response to a request
abbrev pub response : Setup → Bool → Exchange → List ℕ
response s close x = option_map_or (bytes_of x.seen close) (said s x.deed) []

-- it closes where the request does, and behind 99 others
abbrev pub is_last : ℕ → Exchange → Bool
is_last before x = x.request.closes || (before == 99)

-- the responses to requests, one after another, the first of which comes behind so many others
abbrev pub responses : Setup → ℕ → List Exchange → List ℕ
responses s before [] = []
responses s before (x ∷ xs) = response s (is_last before x) x ++ responses s (before + 1) xs

-- the error that a fault is answered; where the bytes end in a request, or are not to be had, nothing is answered
abbrev pub error_of : NextFault → Option ApiError
error_of fault.CutOff = None
error_of fault.BadHead = Some error.BadHead
error_of fault.HeadTooLong = Some error.HeadTooLong
error_of fault.BodyTooLong = Some error.BodyTooLong
error_of fault.BadLength = Some error.BadLength
error_of fault.NotSupported = Some error.NotSupported
error_of fault.ReadFault = None
error_of fault.OutOfMemory = None

-- the response to a fault, of so many entries seen: it closes
abbrev pub fault_response : ℕ → NextFault → List ℕ
fault_response seen f = option_map_or (λ e. bytes_of seen true (error_said e)) (error_of f) []

-- what is written behind all responses to requests, by how these end
abbrev pub end_response : ℕ → Ending → List ℕ
end_response seen at_end = []
end_response seen (in_fault f) = fault_response seen f
end_response seen closed = []
end_response seen hundred = []
