-- The examples of rule X3 on refutations, as data: what is checked, and the answer. proofs/Examples has them as one
-- statement over these rows. Interface: all of it.
use Rattle.std.specs.Prelude.{List, [], ◌∷◌, ℕ, ℤ, pos, negsuc}
use Rattle.refusal.specs.declared.Refusal.TheVariants.{Last, Step}
use Rattle.std.specs.Prelude.{Ok, Err}
use Rattle.refusal.specs.Rows.{Checked}

-- one check of a refutation
pub record Case : Type 0 where
  pub variables : ℕ
  pub formula : List ℤ
  pub refutation : List ℤ
  pub room : ℕ
  pub answer : Checked

-- the formula 1 2 0 1 -2 0 -1 2 0 -1 -2 0
abbrev pub four_clauses : List ℤ
four_clauses =
    pos 1 ∷ pos 2 ∷ pos 0 ∷ pos 1 ∷ negsuc 1 ∷ pos 0 ∷ negsuc 0 ∷ pos 2 ∷ pos 0 ∷ negsuc 0 ∷ negsuc 1 ∷ pos 0 ∷ []

-- against it the refutation 0 is STEP 0, the refutation 1 0 0 passes, and 0 0 is LAST 0
unfoldable pub cases : List Case
cases =
    record { variables = 2; formula = four_clauses; refutation = pos 0 ∷ []; room = 3; answer = Err (Step 0) }
    ∷ record {
      variables = 2;
      formula = four_clauses;
      refutation = pos 1 ∷ pos 0 ∷ pos 0 ∷ [];
      room = 3;
      answer = Ok tt;
    }
    ∷ record {
      variables = 2;
      formula = four_clauses;
      refutation = pos 0 ∷ pos 0 ∷ [];
      room = 3;
      answer = Err (Last 0);
    }
    ∷ []

-- one clause that follows
pub record Following : Type 0 where
  pub room : ℕ
  pub formula : List ℤ
  pub clause : List ℤ

-- the clause 1 -1 0 follows from the formula 1 2 0
unfoldable pub followings : List Following
followings =
    record { room = 3; formula = pos 1 ∷ pos 2 ∷ pos 0 ∷ []; clause = pos 1 ∷ negsuc 0 ∷ pos 0 ∷ [] } ∷ []
