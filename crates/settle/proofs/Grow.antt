-- A list that grows by an entry a gate: how long it gets, that entries once made stay, and that each gate's entry is
-- what its step makes of the whole list, since a gate reads its drivers' entries alone and these come before it. Laws:
-- grow-length, grow-keeps, grow-begins, grow-fixed, grow-cong. Assumes nothing.
use mathlib.Core.Path.{◌≡◌, refl, sym, ap, ◌∙◌, subst}
use mathlib.Core.List.Memᴰ
use mathlib.Core.List.{List, [], ◌∷◌, ◌++◌, Memᴰ}
use Prim.Native.Nat.{ℕ, suc, ◌+◌, ◌<◌}
use native.Mathlib.Nat.{add-zero}
use native.Mathlib.Omega.{arith}
use lib.Dec.{T}
use lib.ListN.{length, get_or, take, length-append, get_or-append}
use lib.Seq.{get_or-append_seam, get_or-take, length-take-le, ext_get_or}
use Rattle.basics.specs.Lists.{all, numbered}
use Rattle.basics.proofs.Truth.{and_left, and_right}
use Rattle.netlist.specs.Netlist.{Cell, Pin, gate_fits}
use Rattle.netlist.proofs.Valid.{fits_below}
use Rattle.settle.specs.Settling.{grow}

module _ {A : Type 0} (none : A) (step : Cell → (ℕ → A) → A) where
  -- the entries so far, and that of one gate more
  abbrev more : List A → Cell → List A
  more done cell = done ++ (step cell (λ node. get_or done node none) ∷ [])

  -- one entry more for each gate
  pub grow-length : (done : List A) (cells : List Cell) →
      length (grow none step done cells) ≡ length done + length cells
  unfolding grow
  grow-length done [] = sym (add-zero (length done))
  grow-length done (cell ∷ cells) =
      let e = length-append done (step cell (λ node. get_or done node none) ∷ []) in
      let f = grow-length (more done cell) cells in
      omega arith

  -- an entry that is there stays
  pub grow-keeps : (done : List A) (cells : List Cell) (n : ℕ) → n < length done →
      get_or (grow none step done cells) n none ≡ get_or done n none
  unfolding grow
  grow-keeps done [] n h = refl
  grow-keeps done (cell ∷ cells) n h =
      let e = length-append done (step cell (λ node. get_or done node none) ∷ []) in
      grow-keeps (more done cell) cells n (omega arith)
      ∙ get_or-append done (step cell (λ node. get_or done node none) ∷ []) none n h

  -- so the list begins with what was there
  pub grow-begins : (done : List A) (cells : List Cell) → take (length done) (grow none step done cells) ≡ done
  grow-begins done cells =
      let e = grow-length done cells in
      let l : length (take (length done) (grow none step done cells)) ≡ length done =
      length-take-le (length done) (grow none step done cells) (omega arith)
      in
      ext_get_or none (take (length done) (grow none step done cells)) done l
      (λ i h.
      let k : i < length done = omega arith in
      get_or-take (length done) (grow none step done cells) i none k ∙ grow-keeps done cells i k)

  -- a step that reads its cell's drivers alone
  module _ (local : (cell : Cell) (f h : ℕ → A) →
      ((p : Pin) → Memᴰ p cell.pins → f p.driver ≡ h p.driver) → step cell f ≡ step cell h) where
    first-fixed : (done : List A) (cell : Cell) (cells : List Cell) → T (gate_fits (length done, cell)) →
        get_or (grow none step done (cell ∷ cells)) (length done) none
        ≡ step cell (λ node. get_or (grow none step done (cell ∷ cells)) node none)
    unfolding grow
    first-fixed done cell cells fits =
        let a = step cell (λ node. get_or done node none) in
        let e = length-append done (a ∷ []) in
        grow-keeps (more done cell) cells (length done) (omega arith)
        ∙ get_or-append_seam done a [] none
        ∙ local cell (λ node. get_or done node none) (λ node. get_or (grow none step done (cell ∷ cells)) node none)
        (λ p i. sym (grow-keeps done (cell ∷ cells) p.driver (fits_below (length done, cell) fits p i)))

    -- each gate's entry is its step over the whole list
    pub grow-fixed : (done : List A) (cells : List Cell) (k : ℕ) → k ≡ length done →
        T (all gate_fits (numbered k cells)) → (n : ℕ) (cell : Cell) → Memᴰ (n, cell) (numbered k cells) →
        get_or (grow none step done cells) n none ≡ step cell (λ node. get_or (grow none step done cells) node none)
    unfolding grow
    grow-fixed done [] k e fits n cell m = absurd (Memᴰ.not-nil m)
    grow-fixed done (h ∷ cells) k e fits n cell (Memᴰ.head q) =
        rw (ap (λ x. x.0) q, ap (λ x. x.1) q, e)
        (first-fixed done h cells
        (subst (λ x. T (gate_fits (x, h))) e
        (and_left (gate_fits (k, h)) (all gate_fits (numbered (suc k) cells)) fits)))
    grow-fixed done (h ∷ cells) k e fits n cell (Memᴰ.tail m) =
        let f = length-append done (step h (λ node. get_or done node none) ∷ []) in
        grow-fixed (more done h) cells (suc k) (omega arith)
        (and_right (gate_fits (k, h)) (all gate_fits (numbered (suc k) cells)) fits) n cell m

-- two steps that agree on each gate make the same list
pub grow-cong : {A : Type 0} (none : A) (f g : Cell → (ℕ → A) → A) (done : List A) (cells : List Cell) →
    ((cell : Cell) → Memᴰ cell cells → (entry : ℕ → A) → f cell entry ≡ g cell entry) →
    grow none f done cells ≡ grow none g done cells
unfolding grow
grow-cong none f g done [] same = refl
grow-cong none f g done (cell ∷ cells) same =
    ap (λ x. grow none f (done ++ (x ∷ [])) cells) (same cell (Memᴰ.head refl) (λ node. get_or done node none))
    ∙ grow-cong none f g (done ++ (g cell (λ node. get_or done node none) ∷ [])) cells
    (λ c m. same c (Memᴰ.tail m))
