-- The order of the pairs (rule F5), and lists that rise. Interface: Before, Rising. Above serves Rising.
use Rattle.std.specs.Prelude.{◌≡◌, ◌⊎◌, List, [], ◌∷◌, ℕ, ◌<◌}

-- one pair stands before another: its node is smaller, or the nodes are the same and its time is smaller
abbrev pub Before : ℕ × ℕ → ℕ × ℕ → Type 0
Before x y = (x.0 < y.0) ⊎ ((x.0 ≡ y.0) × (x.1 < y.1))

module _ {A : Type 0} (Less : A → A → Type 0) where
  -- each entry is more than a
  abbrev pub Above : A → List A → Type 0
  Above a [] = Unit {0}
  Above a (x ∷ xs) = Less a x × Above a xs

  -- each entry is less than all after it
  abbrev pub Rising : List A → Type 0
  Rising [] = Unit {0}
  Rising (x ∷ xs) = Above x xs × Rising xs
