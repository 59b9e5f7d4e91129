-- When a gate is late, by its controlling cubes. Interface: all of it. That a gate settles so is a law
-- (proofs/Argument), and so is that a pair's clauses say it (certificate/proofs/Says).
use Rattle.std.specs.Prelude.{Bool, not, ◌&&◌, ◌||◌, cond, List, [], ◌∷◌, ℕ, min, leb}
use Rattle.basics.specs.Lists.{any, all}
use Rattle.settle.specs.Settling.{Cube, literal_holds, cube_holds, cube_ready}

module _ {P : Type 0} (value : P → Bool) (ready : P → ℕ) where
  -- the earliest of `otherwise` and the times at which the cubes that hold are ready
  unfoldable pub earliest : List (Cube P) → ℕ → ℕ
  earliest [] otherwise = otherwise
  earliest (cube ∷ rest) otherwise =
      cond (cube_holds value cube) (min (cube_ready ready cube) (earliest rest otherwise)) (earliest rest otherwise)

  -- a literal is late or false
  abbrev pub literal_late : ℕ → P × Bool → Bool
  literal_late t l = leb t (ready l.0) || not (literal_holds value l)

  -- some pin is late at t, and each cube has a late or a false literal
  abbrev pub gate_late : ℕ → List (Cube P) → List P → Bool
  gate_late t all-cubes ps = any (λ p. leb t (ready p)) ps && all (λ cube. any (literal_late t) cube) all-cubes
