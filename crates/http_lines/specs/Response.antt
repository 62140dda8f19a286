-- The bytes of a response.
use Rattle.std.specs.Prelude.{ℕ, List, [], ◌++◌, codes, length, Bool, decimal, unwrap_or, if◌then◌else◌}
use Rattle.http.specs.StatusCode.{reason_phrase}
use Rattle.http_lines.specs.declared.response.Extra.{Extra}
use Rattle.http_lines.specs.declared.response.Extra.TheVariants.{Plain, AllowGet, AllowPost, Challenge}
use Rattle.http_lines.specs.declared.response.Response.{Response}

-- the words of a status
abbrev pub words : ℕ → List ℕ
words status = unwrap_or (reason_phrase status) []

-- the field that stands beside those of every response, or no line
abbrev pub extra_line : Extra → List ℕ
extra_line Plain = []
extra_line AllowGet = codes "Allow: GET\r\n"
extra_line AllowPost = codes "Allow: POST\r\n"
extra_line Challenge = codes "WWW-Authenticate: Bearer\r\n"

-- the field of a response behind which nothing is read, or no line
abbrev pub close_line : Bool → List ℕ
close_line close = if close then codes "Connection: close\r\n" else []

-- a head with these words and lines, for a body of this length
abbrev pub head_text : ℕ → List ℕ → ℕ → ℕ → List ℕ → List ℕ → List ℕ
head_text status words len seen extra close =
    codes "HTTP/1.1 " ++ decimal status ++ codes " " ++ words
    ++ codes "\r\nContent-Type: application/json\r\nContent-Length: " ++ decimal len
    ++ codes "\r\nX-Arena-Seen: " ++ decimal seen ++ codes "\r\n" ++ extra ++ close ++ codes "\r\n"

-- the bytes of a response: its head, and then its body
abbrev pub response_bytes : Response → List ℕ
response_bytes r =
    head_text r.status (words r.status) (length r.body) r.seen (extra_line r.extra) (close_line r.close) ++ r.body
