-- What the programs print. Interface: Written.
use Rattle.std.specs.Prelude.{ℕ, ◌≤◌, List, length, take, Option, Result, MatchResult}
use Rattle.std.specs.Io.KnownBytes.{Appends}

-- behind the bytes that a writer held stand these now; where it failed, the first of these and no others
abbrev pub Written : {T E : Type 0} → Option (List ℕ) → Option (List ℕ) → Result T E → List ℕ → Type 0
Written old new result bytes =
    MatchResult result (λ _. Appends old new bytes)
    (λ _. (count : ℕ) × (count ≤ length bytes) × Appends old new (take count bytes))
