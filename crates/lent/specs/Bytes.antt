-- The lowest byte comes first (rule N1): the number in the bytes from a place on. Interface: both definitions.
use Rattle.std.specs.Prelude.{ℕ, ◌+◌, ◌*◌, List, get_or}

-- two bytes
abbrev pub two_bytes : List ℕ → ℕ → ℕ
two_bytes bytes at = get_or bytes at 0 + get_or bytes (at + 1) 0 * 256

-- four bytes
abbrev pub four_bytes : List ℕ → ℕ → ℕ
four_bytes bytes at = two_bytes bytes at + two_bytes bytes (at + 2) * 65536
