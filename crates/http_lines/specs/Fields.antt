-- What the fields of a head say, each a name and a value without the blanks around it.
use Rattle.std.specs.Prelude.{ℕ, ◌==◌, nat_lt, nat_le, List, [], ◌∷◌, length, map, take, drop, Bool, ◌&&◌, Option, Some, None, is_some, option_and_then, Result, Ok, Err, codes, if◌then◌else◌}
use Rattle.std.specs.List.{list_any, list_all, slice_split}
use Rattle.std.specs.Str.{bytes_eq}
use Rattle.std.specs.Str.Parse.{digits_value}
use Rattle.std.specs.Char.{is_ascii_digit, to_ascii_lowercase}
use Rattle.httparse.specs.Grammar.{trim_ows}
use Rattle.http_lines.specs.declared.request.TheConstants.{BODY_LIMIT}
use Rattle.http_lines.specs.declared.request.NextFault.{NextFault}
use Rattle.http_lines.specs.declared.request.NextFault.TheVariants.{BadLength, BodyTooLong}

-- a name and a value
abbrev pub NameAndValue : Type 0
NameAndValue = List ℕ × List ℕ

-- the same bytes but for the case of letters
abbrev pub same_letters : List ℕ → List ℕ → Bool
same_letters a b = bytes_eq (map to_ascii_lowercase a) (map to_ascii_lowercase b)

-- the field has this name
abbrev pub is_named : List ℕ → NameAndValue → Bool
is_named name field = same_letters field.0 name

-- the first field of this name, and the fields after it
abbrev pub first_named : List ℕ → List NameAndValue → Option (NameAndValue × List NameAndValue)
first_named name [] = None
first_named name (field ∷ fields) = if is_named name field then Some (field, fields) else first_named name fields

-- the number that one or more digits write
abbrev pub number_in : List ℕ → Option ℕ
number_in text =
    if nat_lt 0 (length text) && list_all is_ascii_digit text then Some (digits_value 10 text) else None

-- how many bytes a body has by the value of a Content-Length
abbrev pub len_by : Option ℕ → Result ℕ NextFault
len_by None = Err BadLength
len_by (Some n) = if nat_le n BODY_LIMIT then Ok n else Err BodyTooLong

-- how many bytes the body has by the first Content-Length and the fields after it: none without one, and there may not be two
abbrev pub len_from : Option (NameAndValue × List NameAndValue) → Result ℕ NextFault
len_from None = Ok 0
len_from (Some (field, rest)) =
    if is_some (first_named (codes "content-length") rest) then Err BadLength else len_by (number_in field.1)

-- how many bytes the body has
abbrev pub body_len : List NameAndValue → Result ℕ NextFault
body_len fields = len_from (first_named (codes "content-length") fields)

-- there is a Transfer-Encoding
abbrev pub has_coding : List NameAndValue → Bool
has_coding fields = is_some (first_named (codes "transfer-encoding") fields)

-- what follows `Bearer ` where a value begins with it
abbrev pub bearer_in : List ℕ → Option (List ℕ)
bearer_in value = if same_letters (take 7 value) (codes "bearer ") then Some (drop 7 value) else None

-- the bearer of the first Authorization
abbrev pub bearer_of : List NameAndValue → Option (List ℕ)
bearer_of fields = option_and_then (λ found. bearer_in found.0.1) (first_named (codes "authorization") fields)

-- the part is the word `close`, blanks at its ends aside
abbrev pub is_close : List ℕ → Bool
is_close part = same_letters (trim_ows part) (codes "close")

-- the parts between commas
abbrev pub parts_of : List ℕ → List (List ℕ)
parts_of value = slice_split (λ b. b == 44) value

-- one of the parts between commas is the word `close`
abbrev pub has_close : List ℕ → Bool
has_close value = list_any is_close (parts_of value)

-- a Connection has the word `close`
abbrev pub closes_by : List NameAndValue → Bool
closes_by fields = list_any (λ field. is_named (codes "connection") field && has_close field.1) fields
