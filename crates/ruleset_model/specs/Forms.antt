-- The forms of the texts and numbers of a configuration.
use Rattle.std.specs.Prelude.{ℕ, Bool, not, ◌&&◌, ◌||◌, ◌==◌, nat_lt, nat_le, List, [], ◌∷◌, length, codes, bytes_eq}
use Rattle.std.specs.List.{list_all, list_any}
use Rattle.std.specs.Char.{is_ascii_alphanumeric, is_ascii_lowercase, is_ascii_digit}
use Rattle.edge_base.specs.Bytes.{carriage_return, minus, newline, nul, underscore}

-- 1 to 64 bytes that each pass the test
abbrev pub is_short_name : (ℕ → Bool) → List ℕ → Bool
is_short_name is_part text = nat_lt 0 (length text) && nat_le (length text) 64 && list_all is_part text

-- a letter, a digit, `_` or `-`
abbrev pub is_id_byte : ℕ → Bool
is_id_byte b = is_ascii_alphanumeric b || b == underscore || b == minus

-- the id of a ruleset or of a rule
abbrev pub is_id : List ℕ → Bool
is_id text = is_short_name is_id_byte text

-- a lower-case letter, a digit or `_`
abbrev pub is_list_name_byte : ℕ → Bool
is_list_name_byte b = is_ascii_lowercase b || is_ascii_digit b || b == underscore

abbrev pub is_list_name : List ℕ → Bool
is_list_name text = is_short_name is_list_name_byte text

-- a byte of a header's name
abbrev pub is_token_byte : ℕ → Bool
is_token_byte b = is_ascii_alphanumeric b || list_any (λ c. c == b) (codes "!#$%&'*+-.^_`|~")

-- headers that speak of the connection or of where the request goes
abbrev pub fixed_names : List (List ℕ)
fixed_names = codes "host" ∷ codes "content-length" ∷ codes "transfer-encoding" ∷ codes "connection" ∷ []

-- a name of headers that may be rewritten, by its lower case
abbrev pub is_rewritable : List ℕ → Bool
is_rewritable lower = nat_lt 0 (length lower) && list_all is_token_byte lower && not (list_any (bytes_eq lower) fixed_names)

-- a byte that a header's value can't have: NUL, LF or CR
abbrev pub breaks_header : ℕ → Bool
breaks_header b = b == nul || b == newline || b == carriage_return

-- the value of one header
abbrev pub is_header_value : List ℕ → Bool
is_header_value text = list_all (λ b. not (breaks_header b)) text

-- a status with which a rule blocks
abbrev pub is_block_status : ℕ → Bool
is_block_status status = nat_le 400 status && nat_le status 499

-- a status that sends elsewhere
abbrev pub is_redirect_status : ℕ → Bool
is_redirect_status status = list_any (λ known. known == status) (301 ∷ 302 ∷ 303 ∷ 307 ∷ 308 ∷ [])
