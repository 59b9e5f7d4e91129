-- The numbers that the programs take from bytes, all of them four bytes, little endian. Interface: words_of,
-- numbers_of, unsigned_of, told_of, count_of, word_of, Came, counted_by.
use Rattle.std.specs.Prelude.{◌≡◌, cond, List, map, ℕ, ◌-◌, ◌*◌, ◌/◌, ◌≤◌, min, eqb, leb, ltb, ℤ, length}
use Rattle.std.specs.Prelude.{Option, Some, None, Result, Ok, Err}
use Rattle.basics.specs.Lists.{up_from}
use Rattle.lent.specs.Bytes.{four_bytes}
use Rattle.clauses.specs.Codes.{signed_of}
use Rattle.console.specs.declared.Word.{Word}
use Rattle.console.specs.declared.Word.TheVariants.{Number, Nothing, Cut}
use Rattle.console.specs.declared.Stop.{Stop}
use Rattle.console.specs.declared.Stop.TheVariants.{Bad}

-- so many numbers from the front of bytes, by the number that a word of four bytes stands for
unfoldable pub words_of : {A : Type 0} → (ℕ → A) → List ℕ → ℕ → List A
words_of number_of bytes count = map (λ k. number_of (four_bytes bytes (k * 4))) (up_from 0 count)

-- so many signed numbers
abbrev pub numbers_of : List ℕ → ℕ → List ℤ
numbers_of = words_of signed_of

-- so many unsigned numbers
abbrev pub unsigned_of : List ℕ → ℕ → List ℕ
unsigned_of = words_of (λ word. word)

-- the length in front of a list, in four bytes
abbrev pub told_of : List ℕ → ℕ
told_of list = cond (ltb (length list) 4) 0 (four_bytes list 0)

-- how many numbers such a list has: as many as are told and are there
abbrev pub count_of : List ℕ → ℕ
count_of list = min (told_of list) ((length list - 4) / 4)

-- what stands where a number should, by how many bytes came and the four in which they lie
abbrev pub word_of : ℕ → List ℕ → Word
word_of got bytes = cond (eqb got 0) Nothing (cond (ltb got 4) Cut (Number (four_bytes bytes 0)))

-- it is what some bytes give that came
pub record Came (word : Word) : Type 0 where
  pub got : ℕ
  pub bytes : List ℕ
  pub few : got ≤ 4
  pub four : length bytes ≡ 4
  pub is : word ≡ word_of got bytes

-- what is made of it where a number of at most so many should stand, or the input end
abbrev pub counted_by : ℕ → Word → Result (Option ℕ) Stop
counted_by most (Number count) = cond (leb count most) (Ok (Some count)) (Err Bad)
counted_by most Nothing = Ok None
counted_by most Cut = Err Bad
