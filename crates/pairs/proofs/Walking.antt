-- The walk along a node's chain of links: what the outputs and the pins walked by ask for is marked, and the rest of
-- the chain holds the others. Laws: walking-starts, walking_here, walking-ends. Assumes nothing.
use mathlib.Core.Path.{◌≡◌, refl, sym, subst}
use mathlib.Core.Logic.{◌⊎◌, inl, inr}
use mathlib.Core.List.Memᴰ
use mathlib.Core.List.{
  List,
  [],
  ◌∷◌,
  Memᴰ,
}
use Prim.Native.Nat.{ℕ, ◌<◌}
use native.Mathlib.Omega.{arith}
use Rattle.netlist.specs.declared.Shape.{Shape}
use Rattle.netlist.specs.Netlist.{Slopes}
use Rattle.pairs.specs.Table.{
  Adds,
  Within,
  askers,
  LinkAsks,
  OutputAsks,
  Asks,
  AsksAll,
  Drives,
  Link,
  Chain,
  Holding,
}
use Rattle.pairs.proofs.Asking.{In, asks-same, asks-starts, asks-more}

pub record Walking (l : List (ℕ × ℕ)) (file : List ℕ) (shape : Shape) (slopes : Slopes) (target f top : ℕ)
    (links marks₀ marks : List ℕ) (at : ℕ) : Type 0 where
  pub done : List (ℕ × ℕ)
  pub rest : List (ℕ × ℕ)
  pub chain : Chain links at rest
  pub adds : (a : List ℕ) → Adds a (Within top (OutputAsks file shape target f)) marks₀ →
      Adds a (Within top (Asks (In done) l file shape slopes target f)) marks
  pub each : (x : ℕ × ℕ) → Memᴰ x done → Drives file shape shape.gates f x
  pub left : (x : ℕ × ℕ) → Memᴰ x rest → Drives file shape shape.gates f x
  pub all : (x : ℕ × ℕ) → Drives file shape shape.gates f x → Memᴰ x done ⊎ Memᴰ x rest

-- a link of the chain, and the walk after its pin is marked
pub record Here (l : List (ℕ × ℕ)) (file : List ℕ) (shape : Shape) (slopes : Slopes) (target f top : ℕ)
    (links marks₀ marks : List ℕ) (at : ℕ) : Type 0 where
  pub pin : ℕ × ℕ
  pub next : ℕ
  pub link : Link links at next pin
  pub drives : Drives file shape shape.gates f pin
  pub walked : (after : List ℕ) → Adds marks (Within top (LinkAsks l (askers file shape slopes pin))) after →
      Walking l file shape slopes target f top links marks₀ after next

module _ {l : List (ℕ × ℕ)} {file : List ℕ} {shape : Shape} {slopes : Slopes} {target f top : ℕ}
    {links marks₀ : List ℕ} where
  pub walking-starts : {n at : ℕ} → Holding (Drives file shape shape.gates f) links n at →
      Walking l file shape slopes target f top links marks₀ marks₀ at
  walking-starts w =
      record {
        done = [];
        rest = w.pins;
        chain = w.chain;
        adds = λ a u. asks-starts u;
        each = λ x m. absurd (Memᴰ.not-nil m);
        left = w.each;
        all = λ x u. inr (w.all x u);
      }

  -- a link is left, of a pin that f drives
  pub walking_here : {marks : List ℕ} {at : ℕ} → Walking l file shape slopes target f top links marks₀ marks at →
      0 < at →
      Here l file shape slopes target f top links marks₀ marks at
  walking_here {marks} {at} w h = go w.rest w.chain w.left w.all
    where
      go : (rest : List (ℕ × ℕ)) → Chain links at rest →
          ((x : ℕ × ℕ) → Memᴰ x rest → Drives file shape shape.gates f x) →
          ((x : ℕ × ℕ) → Drives file shape shape.gates f x → Memᴰ x w.done ⊎ Memᴰ x rest) →
          Here l file shape slopes target f top links marks₀ marks at
      go [] c left all = absurd (omega arith)
      go (y ∷ rest) c left all =
          record {
            pin = y;
            next = c.0;
            link = c.1;
            drives = left y (Memᴰ.head refl);
            walked = λ after u.
                record {
                  done = y ∷ w.done;
                  rest = rest;
                  chain = c.2;
                  adds = λ a v. asks-more y (w.adds a v) u;
                  each = λ x m. first x (Memᴰ.cases_cons m);
                  left = λ x m. left x (Memᴰ.tail m);
                  all = λ x v. find x (all x v);
                };
          }
        where
          first : (x : ℕ × ℕ) → (x ≡ y) ⊎ Memᴰ x w.done → Drives file shape shape.gates f x
          first x (inl e) =
              subst (λ (z : ℕ × ℕ). Drives file shape shape.gates f z) (sym e) (left y (Memᴰ.head refl))
          first x (inr m) = w.each x m

          move : (x : ℕ × ℕ) → (x ≡ y) ⊎ Memᴰ x rest → Memᴰ x (y ∷ w.done) ⊎ Memᴰ x rest
          move x (inl e) = inl (Memᴰ.head e)
          move x (inr m) = inr m

          find : (x : ℕ × ℕ) → Memᴰ x w.done ⊎ Memᴰ x (y ∷ rest) →
              Memᴰ x (y ∷ w.done) ⊎ Memᴰ x rest
          find x (inl m) = inl (Memᴰ.tail m)
          find x (inr m) = move x (Memᴰ.cases_cons m)

  -- none is left
  pub walking-ends : {a marks : List ℕ} {at : ℕ} → Walking l file shape slopes target f top links marks₀ marks at →
      at ≡ 0 → Adds a (Within top (OutputAsks file shape target f)) marks₀ →
      Adds a (Within top (AsksAll l file shape slopes target f)) marks
  walking-ends {a} {marks} {at} w e v =
      asks-same (Drives file shape shape.gates f) w.each (λ x u. pick x w.rest w.chain (w.all x u))
      (w.adds a v)
    where
      pick : (x : ℕ × ℕ) (rest : List (ℕ × ℕ)) → Chain links at rest →
          Memᴰ x w.done ⊎ Memᴰ x rest → Memᴰ x w.done
      pick x rest c (inl m) = m
      pick x [] c (inr m) = absurd (Memᴰ.not-nil m)
      pick x (y ∷ rest) c (inr m) = absurd (omega (arith, c.1.some))
