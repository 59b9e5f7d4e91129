-- A list cut behind each 0: what a walk from part to part finds, and that the place found holds the numbered part.
-- Assumes nothing.
use Rattle.std.proofs.Common.{◌≡◌, refl, sym, ap, ap₂, subst, ◌∙◌, Bool, true, false, cond, List, [], ◌∷◌}
use Rattle.std.proofs.Common.{◌++◌, append-nil, append_assoc, ℕ, zero, suc, ◌+◌, ◌-◌, ◌<◌, ◌≤◌, arith}
use Rattle.std.proofs.Common.{le_of_suc-le-suc, not-suc-le-zero, ltb, ℤ, pos, negsuc, length, get_or, take}
use Rattle.std.proofs.Common.{drop, length-append, length-take, length-drop, drop-drop, take_at}
use Rattle.std.proofs.Common.{get_or-append-add, get_or-drop, lt-ltb, le-ltb, ltb-true, ltb-false, Bor, Ok}
use Rattle.std.proofs.Common.{Err}
use native.Mathlib.Nat.{sub-zero}
use lib.ListN.{get_or-append, get_or-eq_default}
use lib.Seq.{take-append_seam, drop-append-add}
use Rattle.basics.specs.Lists.{concat_map}
use Rattle.clauses.specs.Codes.{code_of}
use Rattle.refute.specs.Parts.{parts_from, parts, start_of, stretch, found_in, span_second, span_first}
use Rattle.refute.specs.Parts.{span_of, spanned, span_lies, ClausePart}
use Rattle.refute.specs.Reading.{NextZero}
use Rattle.refute.specs.declared.Span.{Span}
use Rattle.refute.proofs.Walking.{NoZero, no_zero}

abbrev joined : List (List ℤ) → List ℤ
joined ps = concat_map (λ (p : List ℤ). p) ps

joined-append : (ps qs : List (List ℤ)) → joined (ps ++ qs) ≡ joined ps ++ joined qs
joined-append [] qs = refl
joined-append (p ∷ ps) qs =
    ap (λ (t : List ℤ). p ++ t) (joined-append ps qs) ∙ sym (append_assoc p (joined ps) (joined qs))

-- ---- one part more

part-grows : (begun : List ℤ) (z : ℤ) (zs : List ℤ) → (code_of z ≡ 0 → ⊥) →
    parts_from begun (z ∷ zs) ≡ parts_from (begun ++ (z ∷ [])) zs
unfolding parts_from code_of
part-grows begun (pos zero) zs n = absurd (n refl)
part-grows begun (pos (suc k)) zs n = refl
part-grows begun (negsuc k) zs n = refl

part-ends : (begun : List ℤ) (z : ℤ) (zs : List ℤ) → code_of z ≡ 0 →
    parts_from begun (z ∷ zs) ≡ (begun ++ (z ∷ [])) ∷ parts zs
unfolding parts_from code_of
part-ends begun (pos zero) zs e = refl
part-ends begun (pos (suc k)) zs e = absurd (omega arith)
part-ends begun (negsuc k) zs e = absurd (omega arith)

cut-part : (zs : List ℤ) (n : ℕ) (begun : List ℤ) → n < length zs → NoZero zs n → code_of (get_or zs n (pos 0)) ≡ 0 →
    parts_from begun zs ≡ (begun ++ take (suc n) zs) ∷ parts (drop (suc n) zs)
cut-part [] n begun h f e = absurd (not-suc-le-zero h)
cut-part (z ∷ zs) zero begun h f e = part-ends begun z zs e
cut-part (z ∷ zs) (suc n) begun h f e =
    part-grows begun z zs (f 0 (omega arith))
    ∙ cut-part zs n (begun ++ (z ∷ [])) (le_of_suc-le-suc h) (λ k l. f (suc k) (omega arith)) e
    ∙ ap (λ (p : List ℤ). p ∷ parts (drop (suc n) zs)) (append_assoc begun (z ∷ []) (take (suc n) zs))

cut-no-part : (zs begun : List ℤ) → NoZero zs (length zs) → parts_from begun zs ≡ []
unfolding parts_from
cut-no-part [] begun f = refl
cut-no-part (z ∷ zs) begun f =
    part-grows begun z zs (f 0 (omega arith))
    ∙ cut-no-part zs (begun ++ (z ∷ [])) (λ k l. f (suc k) (omega arith))

module _ {list : List ℤ} {from to : ℕ} (z : NextZero list from to) where
  no_part : length list ≤ to → parts (drop from list) ≡ []
  no_part h =
      cut-no-part (drop from list) []
      (no_zero z (length (drop from list)) (omega (arith, length-drop from list, z.above, z.upto)))

  next-part : to < length list →
      parts (drop from list) ≡ take (suc (to - from)) (drop from list) ∷ parts (drop (to + 1) list)
  next-part h =
      cut-part (drop from list) (to - from) [] (omega (arith, length-drop from list, z.above))
      (no_zero z (to - from) (omega (arith, z.above)))
      (subst (λ (y : ℤ). code_of y ≡ 0)
      (sym
      (get_or-drop from list (to - from) (pos 0)
      ∙ ap (λ (n : ℕ). get_or list n (pos 0)) (let e : from + (to - from) ≡ to = omega (arith, z.above) in e)))
      (z.there h))
      ∙ ap (λ (t : List ℤ). take (suc (to - from)) (drop from list) ∷ parts t)
      (drop-drop (suc (to - from)) from list
      ∙ ap (λ (n : ℕ). drop n list) (let e : from + suc (to - from) ≡ to + 1 = omega (arith, z.above) in e))

-- ---- the walk

-- the parts passed, and how many are still to pass
pub record Finding (list : List ℤ) (number start left : ℕ) : Type 0 where
  pub upto : start ≤ length list
  pub passed : List (List ℤ)
  pub are : parts list ≡ passed ++ parts (drop start list)
  pub count : length passed + left ≡ number
  pub place : start ≡ length (joined passed)

module _ {list : List ℤ} {number start left : ℕ} (b : Finding list number start left) where
  -- no part is left
  pub found_none : NextZero list start (length list) → Err left ≡ found_in list number
  unfolding found_in
  found_none z =
      let e : parts (drop start list) ≡ [] = no_part z (omega arith) in
      let k : length (parts list) ≡ length b.passed =
      ap length (b.are ∙ ap (λ (ps : List (List ℤ)). b.passed ++ ps) e ∙ append-nil b.passed) in
      let l : left ≡ number - length (parts list) = omega (arith, b.count) in
      rw (le-ltb number (length (parts list)) (omega (arith, b.count))) (ap Err l)

  module _ {to : ℕ} (z : NextZero list start to) where
    module _ (h : to < length list) where
      abbrev part : List ℤ
      part = take (suc (to - start)) (drop start list)

      longer : parts list ≡ (b.passed ++ (part ∷ [])) ++ parts (drop (to + 1) list)
      longer =
          b.are
          ∙ ap (λ (ps : List (List ℤ)). b.passed ++ ps) (next-part z h)
          ∙ sym (append_assoc b.passed (part ∷ []) (parts (drop (to + 1) list)))

      further : to + 1 ≡ length (joined (b.passed ++ (part ∷ [])))
      further =
          let e : length (joined (b.passed ++ (part ∷ []))) ≡ length (joined b.passed) + length part =
          ap length (joined-append b.passed (part ∷ []) ∙ ap (λ (t : List ℤ). joined b.passed ++ t)
          (append-nil part))
          ∙ length-append (joined b.passed) part in
          omega
          (arith, b.place, z.above, length-take (suc (to - start)) (drop start list), length-drop start list)

      -- it is this one
      pub found_here : left ≡ 0 → Ok (stretch start (to + 1)) ≡ found_in list number
      unfolding found_in start_of
      found_here e =
          let n : length b.passed ≡ number = omega (arith, b.count) in
          let m : length (b.passed ++ (part ∷ [])) ≡ suc number =
          length-append b.passed (part ∷ []) ∙ omega arith in
          let c : length (parts list) ≡ length (b.passed ++ (part ∷ [])) + length (parts (drop (to + 1) list)) =
          ap length longer ∙ length-append (b.passed ++ (part ∷ [])) (parts (drop (to + 1) list)) in
          rw (lt-ltb number (length (parts list)) (omega arith))
          (ap₂ (λ (from end : ℕ). Ok (stretch from end))
          (b.place
          ∙ ap (λ (ps : List (List ℤ)). length (joined ps))
          (sym (ap (take number) b.are ∙ take_at b.passed (parts (drop start list)) number n)))
          (further
          ∙ ap (λ (ps : List (List ℤ)). length (joined ps))
          (sym
          (ap (take (suc number)) longer
          ∙ take_at (b.passed ++ (part ∷ [])) (parts (drop (to + 1) list)) (suc number) m))))

      -- it is a later one
      pub finding-more : (left ≡ 0 → ⊥) → Finding list number (to + 1) (left - 1)
      finding-more n =
          record {
            upto = omega arith;
            passed = b.passed ++ (part ∷ []);
            are = longer;
            count = omega (arith, b.count, length-append b.passed (part ∷ []));
            place = further;
          }

-- ---- what the place found holds

-- the parts are the list up to its last 0
parts_join : (zs begun : List ℤ) → (rest : List ℤ) × (begun ++ zs ≡ joined (parts_from begun zs) ++ rest)
unfolding parts_from
parts_join [] begun = (begun, append-nil begun)
parts_join (pos zero ∷ zs) begun =
    let w = parts_join zs [] in (
      w.0,
      sym (append_assoc begun (pos 0 ∷ []) zs)
          ∙ ap (λ (t : List ℤ). (begun ++ (pos 0 ∷ [])) ++ t) w.1
          ∙ sym (append_assoc (begun ++ (pos 0 ∷ [])) (joined (parts zs)) w.0),
    )
parts_join (pos (suc n) ∷ zs) begun =
    let w = parts_join zs (begun ++ (pos (suc n) ∷ [])) in
    (w.0, sym (append_assoc begun (pos (suc n) ∷ []) zs) ∙ w.1)
parts_join (negsuc n ∷ zs) begun =
    let w = parts_join zs (begun ++ (negsuc n ∷ [])) in
    (w.0, sym (append_assoc begun (negsuc n ∷ []) zs) ∙ w.1)

-- entry n of a list of lists, cut out of all of them joined
cut_out : (ps : List (List ℤ)) (n : ℕ) (rest : List ℤ) → n < length ps →
    take (length (joined (take (suc n) ps)) - length (joined (take n ps)))
    (drop (length (joined (take n ps))) (joined ps ++ rest)) ≡ get_or ps n []
cut_out [] n rest h = absurd (not-suc-le-zero h)
cut_out (p ∷ ps) zero rest h =
    ap (λ (k : ℕ). take k (joined (p ∷ ps) ++ rest))
    (let e : length (p ++ []) - 0 ≡ length p = ap (λ (t : List ℤ). length t - 0) (append-nil p) ∙ sub-zero (length p)
    in e)
    ∙ ap (take (length p)) (append_assoc p (joined ps) rest)
    ∙ take-append_seam p (joined ps ++ rest)
cut_out (p ∷ ps) (suc n) rest h =
    let a = length-append p (joined (take (suc n) ps)) in
    let b = length-append p (joined (take n ps)) in
    let e : length (p ++ joined (take (suc n) ps)) - length (p ++ joined (take n ps))
    ≡ length (joined (take (suc n) ps)) - length (joined (take n ps)) = omega arith in
    ap₂ take e
    (ap₂ drop b (append_assoc p (joined ps) rest)
    ∙ drop-append-add p (joined ps ++ rest) (length (joined (take n ps))))
    ∙ cut_out ps n rest (le_of_suc-le-suc h)

-- part n of a list, by its place
part_at : (zs : List ℤ) (n : ℕ) → n < length (parts zs) →
    take (start_of zs (suc n) - start_of zs n) (drop (start_of zs n) zs) ≡ get_or (parts zs) n []
unfolding start_of
part_at zs n h =
    let w = parts_join zs [] in
    ap
    (λ (t : List ℤ).
    take (length (joined (take (suc n) (parts zs))) - length (joined (take n (parts zs))))
    (drop (length (joined (take n (parts zs)))) t))
    w.1
    ∙ cut_out (parts zs) n w.0 h

-- ---- both lists

-- what a span holds is the numbered one of both lists' parts
abbrev Holds : List ℤ → List ℤ → ℕ → Span → Type 0
Holds formula refutation number span =
    spanned formula refutation span ≡ get_or (parts formula ++ parts refutation) number []

second-span : (formula refutation : List ℤ) (number n : ℕ) → number ≡ length (parts formula) + n →
    Holds formula refutation number (span_second (found_in refutation n) (length refutation))
unfolding found_in
second-span formula refutation number n e = go (ltb n (length (parts refutation))) refl
  where
    entry : get_or (parts formula ++ parts refutation) number [] ≡ get_or (parts refutation) n []
    entry =
        ap (λ (k : ℕ). get_or (parts formula ++ parts refutation) k []) e
        ∙ get_or-append-add (parts formula) (parts refutation) n []

    go : (b : Bool) → ltb n (length (parts refutation)) ≡ b →
        Holds formula refutation number
        (span_second
        (cond b (Ok (stretch (start_of refutation n) (start_of refutation (suc n))))
        (Err (n - length (parts refutation))))
        (length refutation))
    go true q = part_at refutation n (ltb-true n (length (parts refutation)) q) ∙ sym entry
    go false q =
        ap (λ (k : ℕ). take k (drop (length refutation) refutation))
        (let z : length refutation - length refutation ≡ 0 = omega arith in z)
        ∙ sym
        (entry ∙ get_or-eq_default (parts refutation) [] {n = n} (ltb-false n (length (parts refutation)) q))

span-holds : (formula refutation : List ℤ) (number : ℕ) →
    Holds formula refutation number (span_of formula refutation number)
unfolding found_in
span-holds formula refutation number = go (ltb number (length (parts formula))) refl
  where
    go : (b : Bool) → ltb number (length (parts formula)) ≡ b →
        Holds formula refutation number
        (span_first
        (cond b (Ok (stretch (start_of formula number) (start_of formula (suc number))))
        (Err (number - length (parts formula))))
        refutation)
    go true q =
        part_at formula number (ltb-true number (length (parts formula)) q)
        ∙ sym
        (get_or-append (parts formula) (parts refutation) [] number (ltb-true number (length (parts formula)) q))
    go false q =
        let h = ltb-false number (length (parts formula)) q in
        let e : number ≡ length (parts formula) + (number - length (parts formula)) = omega arith in
        second-span formula refutation number (number - length (parts formula)) e

-- a part that is what its span names is what the promise says
pub part_of : {formula refutation part : Bor (List ℤ)} {number : ℕ} {span : Span} →
    span ≡ span_of formula.now refutation.now number → part.now ≡ spanned formula.now refutation.now span →
    part.ref_ptr ≡ span_lies formula.ref_ptr refutation.ref_ptr span → ClausePart formula refutation number part
part_of {formula} {refutation} {number = number} e holds lies =
    let held = holds ∙ ap (spanned formula.now refutation.now) e in
    record {
      held = held;
      named = held ∙ span-holds formula.now refutation.now number;
      lies = lies ∙ ap (span_lies formula.ref_ptr refutation.ref_ptr) e;
    }
