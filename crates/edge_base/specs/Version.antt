-- How a version of HTTP is written.
use Rattle.std.specs.Prelude.{ℕ, ◌==◌, List, codes, if◌then◌else◌}

-- the version 1 with this minor number
abbrev pub version_text : ℕ → List ℕ
version_text minor = if minor == 0 then codes "HTTP/1.0" else codes "HTTP/1.1"
