-- A list that stands at the front of a slice. Interface: Copied.
use Rattle.std.specs.Prelude.{◌≡◌, List, ◌++◌, length, drop}

-- `from` stands at the front of what was `before`; the rest is as it was
pub record Copied {A : Type 0} (from before now : List A) : Type 0 where
  pub is : now ≡ from ++ drop (length from) before
