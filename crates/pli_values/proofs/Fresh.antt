-- How elements begin.
use Rattle.std.proofs.Common.{zero, suc, ◌≡◌, ◌≤◌, ◌<◌, ℕ, ℤ, ◌+◌, ◌*◌, Bool, List, [], ◌++◌, length, drop, replicate, refl, sym, ap, ◌∙◌, arith, append_assoc, append-nil}
use Rattle.std.proofs.lemmas.List.{length-append, length-replicate, take_all, take_at}
use Rattle.std.proofs.Math.Nat.{mul-le-mul_right}
use Rattle.pli_language.specs.Tree.{InitialValue}
use Rattle.pli_typing.specs.Signatures.{LeafKind, Fixed, Character, Varying, Bit, Pointer, Offset, Area}
use Rattle.pli_meaning.specs.BasicValues.{BasicNumber, BasicBit}
use Rattle.pli_meaning.specs.Texts.{fitted}
use Rattle.pli_serving.specs.Bytes.{with_bytes}
use Rattle.pli_serving.specs.Stored.{kept_value}
use Rattle.pli_serving.specs.Values.{element_size}
use Rattle.pli_values.specs.Runs.{run_of, fresh_element}
use Rattle.pli_values.specs.Sizes.{written_size}
use Rattle.pli_values.proofs.Elements.{length_value, stored_within}
use Rattle.pli_values.proofs.Parts.{behind_part}
use Rattle.pli_values.proofs.Texts.{character_kept}

pub number_kept : (kind : LeafKind) (z : ℤ) → kept_value kind (BasicNumber z) ≡ BasicNumber z
number_kept (Fixed p) z = refl
number_kept (Character n) z = refl
number_kept (Varying n) z = refl
number_kept Bit z = refl
number_kept Pointer z = refl
number_kept Offset z = refl
number_kept (Area n) z = refl

pub bit_kept : (kind : LeafKind) (b : Bool) → kept_value kind (BasicBit b) ≡ BasicBit b
bit_kept (Fixed p) b = refl
bit_kept (Character n) b = refl
bit_kept (Varying n) b = refl
bit_kept Bit b = refl
bit_kept Pointer b = refl
bit_kept Offset b = refl
bit_kept (Area n) b = refl

-- an empty text is padded to blanks
pub default_text : (n : ℕ) → fitted n (fitted n [] ++ drop n []) ≡ fitted n (replicate n 32)
default_text n =
    let l = length-replicate n 32 in
    character_kept n [] ∙ take_all n (replicate n 32) (omega (arith, l)) ∙ sym (take_at (replicate n 32) (replicate n 32) n l)

length_fresh : (kind : LeafKind) (values : ℕ → InitialValue) (n : ℕ) → length (fresh_element kind values n) ≡ written_size kind
length_fresh kind values n = simp (length-append, length-replicate, length_value) refl

times_more : (w n : ℕ) → w + w * n ≡ w * suc n
times_more w n = omega arith

pub length_run : (kind : LeafKind) (values : ℕ → InitialValue) (first n : ℕ) → length (run_of (fresh_element kind values) first n) ≡ written_size kind * n
length_run kind values first zero = omega arith
length_run kind values first (suc n) =
    length-append (fresh_element kind values first) (run_of (fresh_element kind values) (suc first) n)
    ∙ ap (λ k. k + length (run_of (fresh_element kind values) (suc first) n)) (length_fresh kind values first)
    ∙ ap (λ k. written_size kind + k) (length_run kind values (suc first) n)
    ∙ times_more (written_size kind) n

-- one place more
run_more : (piece : ℕ → List ℕ) (first n : ℕ) → run_of piece first n ++ piece (first + n) ≡ run_of piece first (suc n)
run_more piece first zero =
    let e : first + 0 ≡ first = omega arith in
    ap piece e ∙ sym (append-nil (piece first))
run_more piece first (suc n) =
    let e : first + suc n ≡ suc first + n = omega arith in
    append_assoc (piece first) (run_of piece (suc first) n) (piece (first + suc n))
    ∙ ap (λ k. piece first ++ (run_of piece (suc first) n ++ piece k)) e
    ∙ ap (λ xs. piece first ++ xs) (run_more piece (suc first) n)

pub next_written : (kind : LeafKind) (values : ℕ → InitialValue) (at here n : ℕ) (bytes m m1 m2 : List ℕ) → m1 ≡ with_bytes (run_of (fresh_element kind values) 0 n) at m → here ≡ at + written_size kind * n → at + written_size kind * n ≤ length m → bytes ≡ fresh_element kind values n → m2 ≡ with_bytes bytes here m1 → m2 ≡ with_bytes (run_of (fresh_element kind values) 0 (n + 1)) at m
next_written kind values at here n bytes m m1 m2 f e inside b g =
    let l = length_run kind values 0 n in
    let k : 0 + n ≡ n = omega arith in
    let s : suc n ≡ n + 1 = omega arith in
    behind_part (run_of (fresh_element kind values) 0 n) bytes m m1 m2 at here f (e ∙ ap (λ j. at + j) (sym l)) (omega (arith, l)) g
    ∙ ap (λ xs. with_bytes (run_of (fresh_element kind values) 0 n ++ xs) at m) (b ∙ ap (fresh_element kind values) (sym k))
    ∙ ap (λ xs. with_bytes xs at m) (run_more (fresh_element kind values) 0 n)
    ∙ ap (λ j. with_bytes (run_of (fresh_element kind values) 0 j) at m) s

pub written_within : (kind : LeafKind) → written_size kind ≤ element_size kind
written_within kind = let w = stored_within kind in omega arith

-- there is room for one element more
pub room : (kind : LeafKind) (n count : ℕ) → n < count → written_size kind * n + element_size kind ≤ element_size kind * count
room kind n count h =
    let w = mul-le-mul_right n (written_within kind) in
    grind (arith, w)

pub next_place : (w at here result n : ℕ) → here ≡ at + w * n → result ≡ here + w → result ≡ at + w * (n + 1)
next_place w at here result n e f = omega arith
