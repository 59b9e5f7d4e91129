-- What a call is given beside the file: a vector that passes is one of bits, and `evaluation_of` is a refusal or the
-- settled nodes as the checks 8 and 9 say. Assumes nothing.
use mathlib.Core.Path.{◌≡◌, refl, sym, ap, ap₂, ◌∙◌}
use mathlib.Core.Bool.{Bool, true, false, cond}
use mathlib.Core.List.{List, [], ◌∷◌, map}
use mathlib.Core.Logic.{◌⊎◌, inl, inr}
use Prim.Native.Nat.{ℕ, zero, suc, ◌+◌, ◌≤◌, ◌<◌}
use native.Mathlib.Omega.{arith}
use borrow.Author.Tests.{ltb-false, lt-ltb, le-ltb, eq-eqb, ne_eqb}
use lib.Dec.{eqb, ltb}
use lib.ListN.{length, get_or}
use Rattle.refusal.specs.declared.Refusal.{Refusal}
use Rattle.refusal.specs.declared.Refusal.TheVariants.{Vector, Room}
use Rattle.std.specs.Prelude.{Result, Ok, Err}
use Rattle.refusal.specs.Rows.{Checked}
use Rattle.refusal.specs.Rows.{Row, checked, unless_refused, room_row}
use Rattle.refusal.proofs.Rows.{passed-by}
use Rattle.netlist.specs.declared.circuit.Accepted.{Accepted}
use Rattle.netlist.specs.Accepts.{circuit_in, accept_rows, Takes}
use Rattle.netlist.specs.Netlist.{Circuit, node_count, Slopes}
use Rattle.netlist.specs.Kinds.{bit}
use Rattle.netlist.specs.Open.{first_wrong}
use Rattle.netlist.proofs.Entries.{net-inputs, node-count}
use Rattle.netlist.proofs.FirstWrong.{first-here, first-later, first-none}
use Rattle.netlist.proofs.Calls.{list-passes}
use Rattle.netlist.proofs.Accepting.{call-taken, call-refused}
use Rattle.settle.specs.Settling.{circuit_time}
use Rattle.settle.specs.Promise.{
  bits,
  refused,
  settled,
  given_rows,
  evaluation_rows,
  evaluation_of,
  evaluation,
}
use Rattle.settle.specs.Steps.{Usable}

-- ---- the checks 8 and 9

-- the first entry that a test meets, with all before it that it does not
first-is : (wrong : ℕ → Bool) (l : List ℕ) (i : ℕ) → i < length l → wrong (get_or l i 0) ≡ true →
    ((k : ℕ) → k < i → wrong (get_or l k 0) ≡ false) → first_wrong wrong l ≡ i
first-is wrong [] i h t f = absurd (omega arith)
first-is wrong (x ∷ l) zero h t f = first-here wrong x l t
first-is wrong (x ∷ l) (suc i) h t f =
    first-later wrong x l (f 0 (omega arith))
    ∙ ap suc (first-is wrong l i (omega arith) t (λ k b. f (suc k) (omega arith)))

-- where it meets none
none-is : (wrong : ℕ → Bool) (l : List ℕ) → ((k : ℕ) → k < length l → wrong (get_or l k 0) ≡ false) →
    first_wrong wrong l ≡ length l
none-is wrong [] f = first-none wrong
none-is wrong (x ∷ l) f =
    first-later wrong x l (f 0 (omega arith)) ∙ ap suc (none-is wrong l (λ k b. f (suc k) (omega arith)))

-- the rows of an accepted circuit, by its shape
rows-by : (a : Accepted) (vector : List ℕ) (nodes values_room times_room : ℕ) →
    nodes ≡ a.shape.inputs + a.shape.gates →
    checked (given_rows a.shape.inputs nodes vector values_room times_room)
    ≡ checked (evaluation_rows (circuit_in a) vector values_room times_room)
rows-by a vector nodes values_room times_room n =
    ap₂ (λ (inputs count : ℕ). checked (given_rows inputs count vector values_room times_room))
    (sym (net-inputs a.file.now a.shape)) (n ∙ sym (node-count a.file.now a.shape))

-- what the code answers by its tests is what they say
module _ (a : Accepted) (vector : List ℕ) (nodes values_room times_room : ℕ)
    (n : nodes ≡ a.shape.inputs + a.shape.gates) where
  -- another length
  pub length-refused : (length vector ≡ a.shape.inputs → ⊥) →
      Err (Vector a.shape.inputs) ≡ checked (evaluation_rows (circuit_in a) vector values_room times_room)
  unfolding given_rows
  length-refused f = rw (← rows-by a vector nodes values_room times_room n) (simp (ne_eqb _ _ f))

  -- the first byte over 1
  pub byte-refused : (i : ℕ) → length vector ≡ a.shape.inputs → i < length vector → ltb 1 (get_or vector i 0) ≡ true →
      ((k : ℕ) → k < i → ltb 1 (get_or vector k 0) ≡ false) →
      Err (Vector i) ≡ checked (evaluation_rows (circuit_in a) vector values_room times_room)
  unfolding given_rows
  byte-refused i long h bad good =
      rw (← rows-by a vector nodes values_room times_room n)
      (simp (eq-eqb _ _ long, first-is (ltb 1) vector i h bad good, lt-ltb _ _ h))

  -- no byte over 1: the rooms decide
  module _ (long : length vector ≡ a.shape.inputs)
      (good : (k : ℕ) → k < length vector → ltb 1 (get_or vector k 0) ≡ false) where
    rooms-decide : checked (room_row nodes values_room ∷ room_row nodes times_room ∷ [])
        ≡ checked (evaluation_rows (circuit_in a) vector values_room times_room)
    unfolding given_rows
    rooms-decide =
        let all : length vector ≤ length vector = omega arith in
        rw (← rows-by a vector nodes values_room times_room n)
        (simp (eq-eqb _ _ long, none-is (ltb 1) vector good, le-ltb _ _ all))

    pub room-refused : (values_room < nodes) ⊎ ((nodes ≤ values_room) × (times_room < nodes)) →
        Err (Room nodes) ≡ checked (evaluation_rows (circuit_in a) vector values_room times_room)
    room-refused (inl l) = rw (← rooms-decide) (simp (lt-ltb _ _ l))
    room-refused (inr h) = rw (← rooms-decide) (simp (le-ltb _ _ h.0, lt-ltb _ _ h.1))

    pub all-pass : nodes ≤ values_room → nodes ≤ times_room →
        Ok tt ≡ checked (evaluation_rows (circuit_in a) vector values_room times_room)
    all-pass v t = rw (← rooms-decide) (simp (le-ltb _ _ v, le-ltb _ _ t))

-- where no byte is over 1, each is a bit
all-bits : (vector : List ℕ) → length vector ≤ first_wrong (ltb 1) vector → vector ≡ map bit (bits vector)
unfolding first_wrong
all-bits [] h = refl
all-bits (x ∷ xs) h = go (ltb 1 x) refl h (λ l. all-bits xs l)
  where
    small : (x : ℕ) → x ≤ 1 → x ≡ bit (eqb x 1)
    small zero l = refl
    small (suc zero) l = refl
    small (suc (suc x)) l = absurd (omega arith)

    go : (t : Bool) → ltb 1 x ≡ t → suc (length xs) ≤ cond t 0 (suc (first_wrong (ltb 1) xs)) →
        (length xs ≤ first_wrong (ltb 1) xs → xs ≡ map bit (bits xs)) → x ∷ xs ≡ bit (eqb x 1) ∷ map bit (bits xs)
    go true e l r = absurd (omega arith)
    go false e l r = ap₂ (λ (y : ℕ) (ys : List ℕ). y ∷ ys) (small x (ltb-false 1 x e)) (r (omega arith))

-- where they are passed, the vector and the rooms are as they must be
pub usable : (a : Accepted) (vector : List ℕ) (values_room times_room : ℕ) →
    checked (evaluation_rows (circuit_in a) vector values_room times_room) ≡ Ok tt →
    Usable a vector values_room times_room
unfolding given_rows
usable a vector values_room times_room e =
    let nodes : ℕ = a.shape.inputs + a.shape.gates in
    let times : List Row = room_row nodes times_room ∷ [] in
    let values : List Row = room_row nodes values_room ∷ times in
    let given =
    list-passes Vector a.shape.inputs 1 vector values (rows-by a vector nodes values_room times_room refl ∙ e)
    in
    let roomy = passed-by (ltb values_room nodes) (Room nodes) times given.2 in
    record {
      long = given.0;
      small = all-bits vector given.1;
      values-room = ltb-false _ _ roomy.0;
      times-room = ltb-false _ _ (passed-by (ltb times_room nodes) (Room nodes) [] roomy.1).0;
    }

-- the evaluation of a circuit, as they say
pub by-checks : {given : Checked} (circuit : Circuit) (vector : List ℕ) (values_room times_room : ℕ) →
    given ≡ checked (evaluation_rows circuit vector values_room times_room) →
    evaluation_of circuit vector values_room times_room
    ≡ unless_refused given (refused values_room times_room) (settled circuit vector values_room times_room)
unfolding evaluation_of
by-checks circuit vector values_room times_room g =
    ap
    (λ (c : Checked). unless_refused c (refused values_room times_room)
    (settled circuit vector values_room times_room))
    (sym g)

-- ---- the checks of the file, the arrivals and the slopes, 1 to 7, 16 and 19

module _ (file arrivals : List ℕ) (slopes : Slopes) (vector : List ℕ) (values_room times_room : ℕ) where
  pub of-taken : {a : Accepted} → Takes file arrivals slopes a →
      evaluation file arrivals slopes vector values_room times_room
      ≡ evaluation_of (circuit_in a) vector values_room times_room
  unfolding evaluation evaluation_of
  of-taken t =
      call-taken file arrivals slopes (λ circuit. evaluation_rows circuit vector values_room times_room)
      (refused values_room times_room)
      (λ circuit. settled circuit vector values_room times_room) t

  pub of-refused : {refusal : Refusal} → checked (accept_rows file arrivals slopes) ≡ Err refusal →
      evaluation file arrivals slopes vector values_room times_room ≡ refused values_room times_room refusal
  unfolding evaluation
  of-refused e =
      call-refused file arrivals slopes (λ circuit. evaluation_rows circuit vector values_room times_room)
      (refused values_room times_room)
      (λ circuit. settled circuit vector values_room times_room) e

-- ---- what an answer says of the rows 8 and 9

module _ (circuit : Circuit) (vector : List ℕ) (values_room times_room : ℕ) {answer : Result ℕ Refusal}
    (a : answer ≡ (evaluation_of circuit vector values_room times_room).answer) where
  -- a refusal is theirs
  pub answer-refused : {refusal : Refusal} → answer ≡ Err refusal →
      checked (evaluation_rows circuit vector values_room times_room) ≡ Err refusal
  unfolding evaluation_of settled
  answer-refused {refusal} e = go (checked (evaluation_rows circuit vector values_room times_room)) (sym a ∙ e)
    where
      go : (c : Checked) →
          (unless_refused c (refused values_room times_room) (settled circuit vector values_room times_room)).answer
          ≡ Err refusal → c ≡ Err refusal
      go (Ok tt) e = let w : ◌≡◌ {A = ℕ} 0 1 = cc in absurd (omega arith)
      go (Err r) e = cc

  -- with a time they are passed, and it is the circuit's
  pub answer-time : {time : ℕ} → answer ≡ Ok time →
      (checked (evaluation_rows circuit vector values_room times_room) ≡ Ok tt)
      × (circuit_time circuit (bits vector) ≡ time)
  unfolding evaluation_of settled
  answer-time {time} e = go (checked (evaluation_rows circuit vector values_room times_room)) (sym a ∙ e)
    where
      go : (c : Checked) →
          (unless_refused c (refused values_room times_room) (settled circuit vector values_room times_room)).answer
          ≡ Ok time → (c ≡ Ok tt) × (circuit_time circuit (bits vector) ≡ time)
      go (Ok tt) e = (refl, cc)
      go (Err r) e = let w : ◌≡◌ {A = ℕ} 0 1 = cc in absurd (omega arith)

-- a vector that passes has a value for each input
pub vector-passes : (circuit : Circuit) (vector : List ℕ) (values_room times_room : ℕ) →
    checked (evaluation_rows circuit vector values_room times_room) ≡ Ok tt → length vector ≡ circuit.net.inputs
unfolding given_rows
vector-passes circuit vector values_room times_room e =
    (list-passes Vector circuit.net.inputs 1 vector
    (room_row (node_count circuit.net) values_room ∷ room_row (node_count circuit.net) times_room ∷ []) e).0
