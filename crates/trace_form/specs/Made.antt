-- The generator: a large valid input, made from a number.
use Rattle.std.specs.Prelude.{◌≡◌, ◌≤◌, ℕ, zero, suc, ◌+◌, ◌*◌, ◌/◌, ◌%◌, ◌^◌, List, [], ◌∷◌, ◌++◌, codes, decimal}
use Rattle.edge_base.specs.Bytes.{newline}

-- the number that comes after one
abbrev pub next_number : ℕ → ℕ
next_number number = (number * 6364136223846793005 + 1442695040888963407) % 2 ^ 64

-- the number after so many requests
unfoldable pub number_after : ℕ → ℕ → ℕ
number_after seed zero = seed
number_after seed (suc requests) = next_number (number_after seed requests)

-- what a request is drawn from
abbrev pub drawn : ℕ → ℕ
drawn number = number / 2 ^ 33

-- the last number of a request's address, the number in its path, and how much later than the last one it comes
abbrev pub host_of : ℕ → ℕ
host_of drawn = drawn % 16

abbrev pub path_of : ℕ → ℕ
path_of drawn = (drawn / 16) % 8

abbrev pub pause_of : ℕ → ℕ
pause_of drawn = (drawn / 128) % 2000

-- the moment of the request of this index, from 1; at first it is 0
unfoldable pub moment_after : ℕ → ℕ → ℕ
moment_after seed zero = 0
moment_after seed (suc requests) = moment_after seed requests + pause_of (drawn (number_after seed (suc requests)))

-- a request of this moment, from what it is drawn from
unfoldable pub request_line : ℕ → ℕ → List ℕ
request_line moment drawn = codes "{\"at\":" ++ decimal moment ++ codes ",\"ip\":\"10.0.0." ++ decimal (host_of drawn)
    ++ codes "\",\"method\":\"GET\",\"target\":\"/p" ++ decimal (path_of drawn)
    ++ codes "\",\"headers\":[[\"host\",\"a.example\"]]}" ++ newline ∷ []

-- a rule that blocks one path
abbrev pub block_text : List ℕ
block_text = codes "{\"id\":\"fw\",\"kind\":\"zone\",\"phase\":\"http_request_firewall_custom\",\"rules\":["
    ++ codes "{\"id\":\"b1\",\"expression\":\"http.request.uri.path eq \\\"/p7\\\"\",\"action\":\"block\"}]}"

-- a rule that limits each address
abbrev pub limit_text : List ℕ
limit_text = codes "{\"id\":\"rl\",\"kind\":\"zone\",\"phase\":\"http_ratelimit\",\"rules\":["
    ++ codes "{\"id\":\"l1\",\"expression\":\"true\",\"action\":\"block\",\"ratelimit\":"
    ++ codes "{\"characteristics\":[\"ip.src\"],\"period\":10,\"requests_per_period\":5,\"mitigation_timeout\":10}}]}"

-- the deployment of these two
unfoldable pub deployment_line : List ℕ
deployment_line = codes "{\"deploy\":{\"rulesets\":[" ++ block_text ++ codes "," ++ limit_text ++ codes "]}}" ++ newline ∷ []

-- the line of this index: at 0 the deployment, then the requests from 1
abbrev pub made_line : ℕ → ℕ → List ℕ
made_line seed zero = deployment_line
made_line seed (suc requests) = request_line (moment_after seed (suc requests)) (drawn (number_after seed (suc requests)))

-- a generator: the number that it was made from, and the index of its next line
pub record Making : Type 0 where
  pub seed : ℕ
  pub next : ℕ

abbrev pub making : ℕ → ℕ → Making
making seed next = record { seed = seed; next = next }

-- how many requests come before the line of this index
abbrev pub requests_before : ℕ → ℕ
requests_before zero = 0
requests_before (suc requests) = requests

-- a generator before its next line: the number and the moment of the last request
pub record IsAt (seed next number moment : ℕ) : Type 0 where
  pub number_is : number ≡ number_after seed (requests_before next)
  pub moment_is : moment ≡ moment_after seed (requests_before next)
  pub early : moment ≤ 2000 * next
  pub within : next ≤ 10000001
