-- Clauses, and a list of clauses as one list of signed numbers, each clause ended by 0. Interface: all of it.
use Rattle.std.specs.Prelude.{
  Bool,
  true,
  false,
  not,
  cond,
  List,
  [],
  ◌∷◌,
  ◌++◌,
  map,
  ℕ,
  zero,
  suc,
  ℤ,
  pos,
  negsuc,
  neg_ℤ,
}
use Rattle.std.specs.Bool.{beq}
use Rattle.basics.specs.Lists.{any, all}

-- a literal: the value that it wants, and its variable
abbrev pub Literal : Type 0
Literal = Bool × ℕ

-- the opposite literal
abbrev pub opposite : Literal → Literal
opposite l = (not l.0, l.1)

-- the number of a literal: its variable, negative where it wants false
abbrev pub literal_number : Literal → ℤ
literal_number l = cond l.0 (pos l.1) (neg_ℤ (pos l.1))

-- clauses one behind the other, a 0 behind each (rule F7)
unfoldable pub flat : List (List Literal) → List ℤ
flat [] = []
flat (c ∷ cs) = map literal_number c ++ (pos 0 ∷ flat cs)

-- the clauses of a list of numbers, where the literals `begun` of a clause were read before it; what stands behind the
-- last 0 belongs to no clause (rule L1)
unfoldable pub clauses_from : List Literal → List ℤ → List (List Literal)
clauses_from begun [] = []
clauses_from begun (pos zero ∷ zs) = begun ∷ clauses_from [] zs
clauses_from begun (pos (suc n) ∷ zs) = clauses_from (begun ++ ((true, suc n) ∷ [])) zs
clauses_from begun (negsuc n ∷ zs) = clauses_from (begun ++ ((false, suc n) ∷ [])) zs

-- the clauses of a list of numbers
abbrev pub clauses_of : List ℤ → List (List Literal)
clauses_of zs = clauses_from [] zs

-- a literal holds under an assignment of the variables
abbrev pub literal_holds : (ℕ → Bool) → Literal → Bool
literal_holds σ l = beq (σ l.1) l.0

-- an assignment is a solution: each clause has a literal that holds
abbrev pub satisfies : (ℕ → Bool) → List (List Literal) → Bool
satisfies σ clauses = all (any (literal_holds σ)) clauses
