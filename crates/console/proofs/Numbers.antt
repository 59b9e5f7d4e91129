-- A list that has the number of each word at its place is that of the words' numbers. Assumes nothing.
use Rattle.std.proofs.Common.{◌≡◌, ℕ, suc, ◌+◌, ◌*◌, ◌<◌, List, [], ◌∷◌, map, length, get_or, arith, refl, ap, ap₂, ◌∙◌}
use Rattle.basics.specs.Lists.{up_from}
use Rattle.lent.specs.Bytes.{four_bytes}
use Rattle.console.specs.Reading.{words_of}

-- a list is made of its entries
made : {A : Type 0} (d : A) (f : ℕ → A) (l : List A) (a : ℕ) → ((j : ℕ) → j < length l → get_or l j d ≡ f (a + j)) →
    l ≡ map f (up_from a (length l))
made d f [] a is = refl
made d f (x ∷ l) a is =
    ap₂ (λ y m. y ∷ m) (is 0 (omega arith) ∙ ap f (omega arith))
    (made d f l (suc a) (λ j below. is (suc j) (omega arith) ∙ ap f (omega arith)))

pub words_of-entries : {A : Type 0} (d : A) (number_of : ℕ → A) (bytes : List ℕ) (numbers : List A) →
    ((j : ℕ) → j < length numbers → get_or numbers j d ≡ number_of (four_bytes bytes (j * 4))) →
    numbers ≡ words_of number_of bytes (length numbers)
unfolding words_of
words_of-entries d number_of bytes numbers is =
    made d (λ k. number_of (four_bytes bytes (k * 4))) numbers 0
    (λ j below. is j below ∙ ap (λ k. number_of (four_bytes bytes (k * 4))) (omega arith))
