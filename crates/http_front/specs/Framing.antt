-- How long a request's body is by its header fields.
use Rattle.std.specs.Prelude.{ℕ, Bool, not, ◌&&◌, ◌||◌, nat_le, if◌then◌else◌, List, length, codes, bytes_eq, find, Option, None, Some, Result, Ok, Err}
use Rattle.std.specs.List.{list_all, list_any}
use Rattle.std.specs.Str.{str_eq_ignore_ascii_case}
use Rattle.std.specs.Str.Parse.{digits_value}
use Rattle.edge_base.specs.Token.{is_digit}
use Rattle.edge_base.specs.declared.message.Header.{Header}
use Rattle.http_front.specs.declared.causes.HeadFault.{HeadFault}
use Rattle.http_front.specs.declared.causes.HeadFault.TheVariants as fault

-- the most bytes of a body
abbrev pub body_max : ℕ
body_max = 1048576

-- whether a header has a name, ASCII case ignored
abbrev pub is_named : List ℕ → Header → Bool
is_named name header = str_eq_ignore_ascii_case header.name name

-- the body is coded in some way
abbrev pub has_coding : List Header → Bool
has_coding headers = list_any (is_named (codes "transfer-encoding")) headers

-- the header tells a length
abbrev pub tells_length : Header → Bool
tells_length header = is_named (codes "content-length") header

-- 1 to 18 digits
abbrev pub is_length : List ℕ → Bool
is_length value = nat_le 1 (length value) && nat_le (length value) 18 && list_all is_digit value

-- the header tells no length, or it tells it in these bytes
abbrev pub agrees : List ℕ → Header → Bool
agrees value header = not (tells_length header) || bytes_eq header.value value

-- the length that a first header tells, where it is one and no header differs from it
abbrev pub length_by : List Header → Option Header → Option ℕ
length_by headers None = Some 0
length_by headers (Some first) =
    if is_length first.value && list_all (agrees first.value) headers then Some (digits_value 10 first.value) else None

-- the length that headers tell: 0 where none tells one, and none where one tells none or two differ
abbrev pub length_of : List Header → Option ℕ
length_of headers = length_by headers (find tells_length headers)

-- a length that a body may have
abbrev pub lawful : Option ℕ → Result ℕ HeadFault
lawful None = Err fault.BadLength
lawful (Some n) = if nat_le n body_max then Ok n else Err fault.BodyTooLong

-- the length of the body, or the first cause against it
abbrev pub framing_of : List Header → Result ℕ HeadFault
framing_of headers = if has_coding headers then Err fault.Coding else lawful (length_of headers)
