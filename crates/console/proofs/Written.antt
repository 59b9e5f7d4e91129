-- What is written part by part. Laws: written_front (a part more of what there was to write), written_more (what is
-- written behind something else), written_cut (a failure after which nothing more is written), text_after (the text
-- that calls of `write_str` leave). Assumes nothing.
use Rattle.std.proofs.Common.{◌≡◌, ℕ, ◌+◌, ◌-◌, ◌≤◌, List, [], ◌∷◌, ◌++◌, length, take, drop, arith}
use Rattle.std.proofs.Common.{sym, ap, ◌∙◌, subst, take_all, append-nil, append_assoc}
use Rattle.std.specs.Prelude.{Option, Result, Ok, Err, IsErr}
use Rattle.std.specs.Io.KnownBytes.{Appends}
use Rattle.std.proofs.KnownBytes.{Appends-trans}
use Rattle.std.proofs.Math.Seq.{take-append-add}
use Rattle.std.specs.declared.fmt.InlineText.{InlineText}
use Rattle.std.specs.Fmt.{WritesInCalls}
use Rattle.std.specs.Fmt.InlineText.{inline_text, IsIntact, AppendsIfIntact}
use Rattle.std.specs.List.{FoldsTo, concat}
use lib.Seq.{take-add, take-append-le}
use lib.ListN.{length-append, length-drop}
use Rattle.console.specs.Writing.{Written}

-- a front of a list and a front of the rest are a longer front
pub written_front : (done more : ℕ) (words : List ℕ) →
    take done words ++ take more (take (length words - done) (drop done words)) ≡ take (done + more) words
written_front done more words =
    ap (λ rest. take done words ++ take more rest)
    (take_all (length words - done) (drop done words) (omega (arith, length-drop done words)))
    ∙ sym (take-add done more words)

-- a front of one list is a front of that list with more behind it
front : (a b : Option (List ℕ)) (count : ℕ) (first more : List ℕ) → count ≤ length first →
    Appends a b (take count first) → Appends a b (take count (first ++ more))
front a b count first more few part = subst (Appends a b) (sym (take-append-le count first more few)) part

pub written_cut : {T E : Type 0} (a b : Option (List ℕ)) (result : Result T E) (first more : List ℕ) → IsErr result →
    ((count : ℕ) × (count ≤ length first) × Appends a b (take count first)) → Written a b result (first ++ more)
written_cut a b (Ok _) first more is part = cc
written_cut a b (Err _) first more is part =
    (part.0, omega (arith, part.1, length-append first more), front a b part.0 first more part.1 part.2)

pub written_more : {T E : Type 0} (a b c : Option (List ℕ)) (result : Result T E) (first more : List ℕ) →
    Appends a b first → Written b c result more → Written a c result (first ++ more)
written_more a b c (Ok _) first more before now = Appends-trans a b c first more before now
written_more a b c (Err _) first more before now = (
  length first + now.0,
  omega (arith, now.1, length-append first more),
  subst (Appends a c) (sym (take-append-add first more now.0))
      (Appends-trans a b c first (take now.0 more) before now.2),
)

-- what each call appends they append together
appended : {n : ℕ} (s t : InlineText n) (parts : List (List ℕ)) → IsIntact s → FoldsTo AppendsIfIntact s parts t →
    inline_text t ≡ inline_text s ++ concat parts
appended s t [] intact same = ap inline_text (sym same) ∙ sym (append-nil (inline_text s))
appended s t (x ∷ parts) intact calls =
    let first = calls.1 intact in
    appended calls.0 t parts first.0 calls.2
    ∙ ap (λ l. l ++ concat parts) first.1
    ∙ append_assoc (inline_text s) x (concat parts)

pub text_after : {n : ℕ} (s t : InlineText n) (words : List ℕ) → IsIntact s → inline_text s ≡ [] →
    WritesInCalls AppendsIfIntact s words t → inline_text t ≡ words
text_after s t words intact empty wrote =
    appended s t wrote.parts intact wrote.calls ∙ ap (λ l. l ++ concat wrote.parts) empty ∙ wrote.whole
