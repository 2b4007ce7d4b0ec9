-- The reply that tells a request.
use Rattle.std.specs.Prelude.{ℕ, List, [], ◌∷◌, ◌++◌, codes}
use Rattle.edge_base.specs.Bytes.{newline}
use Rattle.edge_base.specs.Version.{version_text}
use Rattle.edge_base.specs.declared.message.Header.{Header}
use Rattle.edge_base.specs.declared.message.Reply.{Reply}
use Rattle.edge_base.specs.declared.message.Request.{Request}

-- a line of a header, with its name as sent
abbrev pub header_line : Header → List ℕ
header_line header = header.name ++ codes ": " ++ header.value ++ newline ∷ []

-- a line for each header, in order
abbrev pub header_lines : List Header → List ℕ
header_lines [] = []
header_lines (header ∷ headers) = header_line header ++ header_lines headers

-- the first line: the method, the target and the version
abbrev pub request_line : Request → List ℕ
request_line request =
    request.method ++ codes " " ++ request.target ++ codes " " ++ version_text request.minor ++ newline ∷ []

-- a request, told as a text
abbrev pub echo_text : Request → List ℕ
echo_text request = request_line request ++ header_lines request.headers ++ request.body

-- the reply with this text
abbrev pub echo_of : Request → Reply
echo_of request = record {
  status = 200;
  headers = record { name = codes "content-type"; value = codes "text/plain" } ∷ [];
  body = echo_text request;
}
