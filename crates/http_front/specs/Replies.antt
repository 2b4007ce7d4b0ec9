-- The bytes of a reply.
use Rattle.std.specs.Prelude.{ℕ, ◌==◌, Bool, not, ◌&&◌, ◌||◌, nat_le, nat_lt, if◌then◌else◌, List, [], ◌∷◌, ◌++◌, length, codes, decimal, unwrap_or}
use Rattle.http.specs.StatusCode.{reason_phrase}
use Rattle.edge_base.specs.Bytes.{newline, carriage_return}
use Rattle.edge_base.specs.declared.message.Header.{Header}
use Rattle.http_front.specs.Framing.{is_named}

-- the end of a line
abbrev pub crlf : List ℕ
crlf = carriage_return ∷ newline ∷ []

-- the phrase that `http` gives to a status, which has three digits, or nothing
abbrev pub phrase_of : ℕ → List ℕ
phrase_of status =
    if nat_le 100 status && nat_lt status 1000 then unwrap_or (reason_phrase status) [] else []

-- the first line; its blank stays where there is no phrase
abbrev pub status_line : ℕ → List ℕ
status_line status = codes "HTTP/1.1 " ++ decimal status ++ codes " " ++ phrase_of status ++ crlf

-- the header says how long the body is or what becomes of the connection, which a reply says by itself
abbrev pub is_framing : Header → Bool
is_framing header =
    is_named (codes "content-length") header || is_named (codes "connection") header
    || is_named (codes "transfer-encoding") header

-- the line of a header, unless the reply says that by itself
abbrev pub header_line : Header → List ℕ
header_line header = if is_framing header then [] else header.name ++ codes ": " ++ header.value ++ crlf

-- the lines of headers, in order
abbrev pub header_lines : List Header → List ℕ
header_lines [] = []
header_lines (header ∷ headers) = header_line header ++ header_lines headers

-- a reply of this status may have a body: not 100 to 199, 204 and 304
abbrev pub may_have_body : ℕ → Bool
may_have_body status = not ((nat_le 100 status && nat_le status 199) || status == 204 || status == 304)

-- the line of the body's length, where there may be a body
abbrev pub length_line : ℕ → List ℕ → List ℕ
length_line status body =
    if may_have_body status then codes "content-length: " ++ decimal (length body) ++ crlf else []

-- the body, where there may be one and the request isn't for the head alone
abbrev pub body_of : ℕ → List ℕ → Bool → List ℕ
body_of status body to_head = if may_have_body status && not to_head then body else []

-- the last header, and the empty line that ends the head
abbrev pub closing : List ℕ
closing = codes "connection: close" ++ crlf ++ crlf

-- the head of a reply
abbrev pub head_text : ℕ → List Header → List ℕ → List ℕ
head_text status headers body = status_line status ++ header_lines headers ++ length_line status body ++ closing

-- the reply
abbrev pub reply_text : ℕ → List Header → List ℕ → Bool → List ℕ
reply_text status headers body to_head = head_text status headers body ++ body_of status body to_head
