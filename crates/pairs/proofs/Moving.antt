-- The loop of `move_down`: what stands from a place on is moved to the front, of which the first i are there and what
-- is from i on is as it was. Laws: moving-more. Assumes nothing.
use mathlib.Core.Path.{◌≡◌, sym, ap, ap₂, ◌∙◌}
use mathlib.Core.List.{List}
use Prim.Native.Nat.{ℕ, ◌+◌, ◌<◌}
use native.Mathlib.Omega.{arith}
use lib.ListN.{length, get_or, set, take, drop, length-drop}
use lib.Seq.{get_or-drop, get_or-append-add, length-take-le}
use Rattle.lent.proofs.Filling.{Filled, filled_more}

-- an entry that is not yet moved stands where it was
still-there : {t₀ : List ℕ} (from : ℕ) {t : List ℕ} {i : ℕ} → Filled (drop from t₀) t₀ t i →
    get_or t (from + i) 0 ≡ get_or (drop from t₀) i 0
still-there {t₀} from {t} {i} b =
    let p = take i (drop from t₀) in
    let e : length p ≡ i = length-take-le i (drop from t₀) b.upto in
    let f : from + i ≡ length p + from = omega arith in
    ap₂ (λ (x : List ℕ) (n : ℕ). get_or x n 0) b.is f
    ∙ get_or-append-add p (drop i t₀) from 0
    ∙ get_or-drop i t₀ from 0
    ∙ ap (λ (n : ℕ). get_or t₀ n 0) (omega arith)
    ∙ sym (get_or-drop from t₀ i 0)

pub moving-more : {t₀ : List ℕ} (from : ℕ) {t : List ℕ} {i : ℕ} → Filled (drop from t₀) t₀ t i → from + i < length t₀ →
    Filled (drop from t₀) t₀ (set t i (get_or t (from + i) 0)) (i + 1)
moving-more {t₀} from {t} {i} b h =
    filled_more b (get_or t (from + i) 0) 0 (rw length-drop (omega arith)) (still-there from b)
