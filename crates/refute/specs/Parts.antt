-- The clauses of two lists by number, each with its 0 as a part of the list that holds it. Interface: parts,
-- ClausePart.
use Rattle.std.specs.Prelude.{◌≡◌, cond, List, [], ◌∷◌, ◌++◌, ℕ, zero, suc, ◌+◌, ◌-◌, ◌*◌, ◌≤◌, ltb, ℤ, pos, negsuc}
use Rattle.std.specs.Prelude.{length, get_or, take, drop, Result, Ok, Err}
use Rattle.std.specs.Borrow.{Bor}
use Rattle.basics.specs.Lists.{concat_map}
use Rattle.refute.specs.declared.Stretch.{Stretch}
use Rattle.refute.specs.declared.Span.{Span}
use Rattle.refute.specs.declared.Span.TheVariants.{Formula, Refutation}

-- the parts of a list whose numbers `begun` were read before it
unfoldable pub parts_from : List ℤ → List ℤ → List (List ℤ)
parts_from begun [] = []
parts_from begun (pos zero ∷ zs) = (begun ++ (pos 0 ∷ [])) ∷ parts_from [] zs
parts_from begun (pos (suc n) ∷ zs) = parts_from (begun ++ (pos (suc n) ∷ [])) zs
parts_from begun (negsuc n ∷ zs) = parts_from (begun ++ (negsuc n ∷ [])) zs

-- a list cut behind each 0 (rule L1)
abbrev pub parts : List ℤ → List (List ℤ)
parts zs = parts_from [] zs

-- where part number n starts, and part number n - 1 ends
unfoldable pub start_of : List ℤ → ℕ → ℕ
start_of zs n = length (concat_map (λ (p : List ℤ). p) (take n (parts zs)))

-- from a place up to another
abbrev pub stretch : ℕ → ℕ → Stretch
stretch start end = record { start = start; end = end }

-- a stretch lies in a list
pub record InList (list : List ℤ) (part : Stretch) : Type 0 where
  pub rises : part.start ≤ part.end
  pub upto : part.end ≤ length list

-- part number n of one list: from where to where; or how many the number is beyond the parts
unfoldable pub found_in : List ℤ → ℕ → Result Stretch ℕ
found_in zs n =
    cond (ltb n (length (parts zs))) (Ok (stretch (start_of zs n) (start_of zs (suc n)))) (Err (n - length (parts zs)))

-- what is found in the refutation; beyond its last clause, the stretch of length 0 at its end (rule L4)
abbrev pub span_second : Result Stretch ℕ → ℕ → Span
span_second (Ok part) last = Refutation part
span_second (Err n) last = Refutation (stretch last last)

-- what is found in the formula; what is not is looked for in the refutation
abbrev pub span_first : Result Stretch ℕ → List ℤ → Span
span_first (Ok part) refutation = Formula part
span_first (Err n) refutation = span_second (found_in refutation n) (length refutation)

-- the clause with a number, the formula's first and then the refutation's (rule L2): which list, from where, to where
abbrev pub span_of : List ℤ → List ℤ → ℕ → Span
span_of formula refutation number = span_first (found_in formula number) refutation

-- a span's stretch lies in the list that it names
abbrev pub SpanInList : List ℤ → List ℤ → Span → Type 0
SpanInList formula refutation (Formula part) = InList formula part
SpanInList formula refutation (Refutation part) = InList refutation part

-- what of a list stands from a place up to another
abbrev pub held_by : List ℤ → Stretch → List ℤ
held_by list part = take (part.end - part.start) (drop part.start list)

-- what a span holds
abbrev pub spanned : List ℤ → List ℤ → Span → List ℤ
spanned formula refutation (Formula part) = held_by formula part
spanned formula refutation (Refutation part) = held_by refutation part

-- where the number at a place of a slice lies, by where the slice does: a block, and a byte in it; a number has 4 bytes
abbrev pub point_at : ℕ × ℕ → ℕ → ℕ × ℕ
point_at start at = (start.0, at * 4 + start.1)

-- where a span lies, by where the two lists do
abbrev pub span_lies : ℕ × ℕ → ℕ × ℕ → Span → ℕ × ℕ
span_lies formula refutation (Formula part) = point_at formula part.start
span_lies formula refutation (Refutation part) = point_at refutation part.start

-- what is handed back for a number: the part that its span names, which is the numbered one of both lists' parts; and
-- it lies there, in the list's own memory (rule L3)
pub record ClausePart (formula refutation : Bor (List ℤ)) (number : ℕ) (part : Bor (List ℤ)) : Type 0 where
  pub held : part.now ≡ spanned formula.now refutation.now (span_of formula.now refutation.now number)
  pub named : part.now ≡ get_or (parts formula.now ++ parts refutation.now) number []
  pub lies : part.ref_ptr ≡
      span_lies formula.ref_ptr refutation.ref_ptr (span_of formula.now refutation.now number)
