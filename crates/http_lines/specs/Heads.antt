-- What the bytes of a head say, by the grammar of `httparse`.
use Rattle.std.specs.Prelude.{◌≡◌, ◌⊎◌, ℕ, ◌≤◌, ◌==◌, ◌||◌, List, length, map, Result, Ok, Err, if◌then◌else◌}
use Rattle.std.specs.List.{before_first}
use Rattle.httparse.specs.Grammar.{RequestHead as Head, IsRequestHead, print_request}
use Rattle.httparse.specs.Spans.{name_and_value}
use Rattle.http_lines.specs.Fields.{NameAndValue, body_len, has_coding, bearer_of, closes_by}
use Rattle.http_lines.specs.declared.request.RequestHead.{RequestHead}
use Rattle.http_lines.specs.declared.request.NextFault.{NextFault}
use Rattle.http_lines.specs.declared.request.NextFault.TheVariants.{BadHead, NotSupported}

-- the piece is this head, whole, and the head has at most 64 fields
abbrev pub Spells : List ℕ → Head → Type 0
Spells piece h = IsRequestHead h × (piece ≡ print_request h) × (length h.fields ≤ 64)

-- the target up to its first question mark
abbrev pub path_of : List ℕ → List ℕ
path_of target = before_first (λ b. b == 63) target

-- the request of a method, a target, a minor version and fields
abbrev pub request_of : List ℕ → List ℕ → ℕ → List NameAndValue → RequestHead
request_of method target minor fields = record {
  method = method;
  path = path_of target;
  bearer = bearer_of fields;
  closes = (minor == 0) || closes_by fields;
}

-- a request with so many bytes of body
abbrev pub with_body : RequestHead → Result ℕ NextFault → Result (RequestHead × ℕ) NextFault
with_body request (Ok n) = Ok (request, n)
with_body request (Err fault) = Err fault

-- the request and how many bytes its body has, or the first fault of the fields
abbrev pub request_or_fault : List ℕ → List ℕ → ℕ → List NameAndValue → Result (RequestHead × ℕ) NextFault
request_or_fault method target minor fields =
    if has_coding fields then Err NotSupported
    else with_body (request_of method target minor fields) (body_len fields)

-- what a head says
abbrev pub said_by : Head → Result (RequestHead × ℕ) NextFault
said_by h = request_or_fault h.method h.target h.minor (map name_and_value h.fields)

-- what a piece says: that of the head that it is, and a fault where it is none
abbrev pub Says : List ℕ → Result (RequestHead × ℕ) NextFault → Type 0
Says piece result =
    ((h : Head) × Spells piece h × (result ≡ said_by h))
    ⊎ (((h : Head) → ¬ (Spells piece h)) × (result ≡ Err BadHead))
