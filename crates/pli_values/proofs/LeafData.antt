-- The data of a leaf as a generation begins.
use Rattle.std.proofs.Common.{◌≡◌, ◌≤◌, ◌<◌, ℕ, ◌+◌, ◌*◌, ◌^◌, List, ◌++◌, length, take, drop, sym, ap, ◌∙◌, arith}
use Rattle.std.proofs.lemmas.List.{nil_from_length, take-append-drop}
use Rattle.std.proofs.Math.Nat.{mul-le-mul_right}
use Rattle.pli_language.specs.Tree.{InitialItem}
use Rattle.pli_typing.specs.Signatures.{LeafKind, Bounds, capped, element_count}
use Rattle.pli_meaning.specs.Contents.{initial_at}
use Rattle.pli_serving.specs.Bytes.{with_bytes}
use Rattle.pli_serving.specs.Values.{element_size}
use Rattle.pli_values.specs.Runs.{fresh_element, fresh_leaf, run_of}
use Rattle.pli_values.specs.Sizes.{written_size}
use Rattle.pli_values.proofs.Fresh.{length_run, written_within}
use Rattle.pli_values.proofs.LeafRuns.{leaf_run}

pub length_leaf : (kind : LeafKind) (bounds : List Bounds) (items : List InitialItem) → length (fresh_leaf kind bounds items) ≡ written_size kind * element_count bounds
length_leaf kind bounds items =
    ap length (sym (leaf_run kind (initial_at items) bounds)) ∙ length_run kind (initial_at items) 0 (element_count bounds)

-- elements of no bytes, however many
zero_times : (w n : ℕ) → w ≡ 0 → w * n ≡ 0
zero_times w n e = ap (λ k. k * n) e ∙ none n
  where
    none : (k : ℕ) → 0 * k ≡ 0
    none k = omega arith

nothing : (kind : LeafKind) → element_size kind ≡ 0 → written_size kind ≡ 0
nothing kind e = let w = written_within kind in omega arith

pub empty_behind : (kind : LeafKind) (bounds : List Bounds) (items : List InitialItem) (at : ℕ) → element_size kind ≡ 0 → at ≡ at + length (fresh_leaf kind bounds items)
empty_behind kind bounds items at e =
    let l = length_leaf kind bounds items ∙ zero_times (written_size kind) (element_count bounds) (nothing kind e) in
    omega (arith, l)

pub empty_leaf : (kind : LeafKind) (bounds : List Bounds) (items : List InitialItem) (at : ℕ) (m : List ℕ) → element_size kind ≡ 0 → m ≡ with_bytes (fresh_leaf kind bounds items) at m
empty_leaf kind bounds items at m e =
    let l = length_leaf kind bounds items ∙ zero_times (written_size kind) (element_count bounds) (nothing kind e) in
    let n : at ≡ at + 0 = omega arith in
    sym (take-append-drop at m) ∙ ap (λ k. take at m ++ drop k m) n ∙ ap (λ xs. with_bytes xs at m) (sym (nil_from_length (fresh_leaf kind bounds items) l))

-- where elements take bytes, a count that fits memory is no cap
four : (kind : LeafKind) (size : ℕ) → size ≡ element_size kind → (size ≡ 0 → ⊥) → 4 ≤ size
four kind size e h = grind (arith, e)

pub whole_count : (kind : LeafKind) (size n count bytes : ℕ) → size ≡ element_size kind → (size ≡ 0 → ⊥) → element_size kind * count ≤ bytes → bytes < 2 ^ 64 → capped n ≡ count → n ≡ count
whole_count kind size n count bytes s h inside b e =
    let f = four kind size s h in
    let w : 4 * count ≤ element_size kind * count = mul-le-mul_right count (at_least (element_size kind) size s f) in
    let c : count < 2 ^ 63 = omega (arith, w, inside) in
    few n count c e
  where
    at_least : (a b : ℕ) → b ≡ a → 4 ≤ b → 4 ≤ a
    at_least a b e h = omega arith

    few : (n count : ℕ) → count < 2 ^ 63 → capped n ≡ count → n ≡ count
    few n count h e = omega arith

pub whole_leaf : (kind : LeafKind) (bounds : List Bounds) (items : List InitialItem) (count at : ℕ) (m o : List ℕ) → element_count bounds ≡ count → o ≡ with_bytes (run_of (fresh_element kind (initial_at items)) 0 count) at m → o ≡ with_bytes (fresh_leaf kind bounds items) at m
whole_leaf kind bounds items count at m o e f =
    f
    ∙ ap (λ k. with_bytes (run_of (fresh_element kind (initial_at items)) 0 k) at m) (sym e)
    ∙ ap (λ xs. with_bytes xs at m) (leaf_run kind (initial_at items) bounds)

pub whole_behind : (kind : LeafKind) (bounds : List Bounds) (items : List InitialItem) (count at result : ℕ) → element_count bounds ≡ count → result ≡ at + written_size kind * count → result ≡ at + length (fresh_leaf kind bounds items)
whole_behind kind bounds items count at result e f =
    f ∙ ap (λ k. at + written_size kind * k) (sym e) ∙ ap (λ k. at + k) (sym (length_leaf kind bounds items))
